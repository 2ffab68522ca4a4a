use Rattle.std.proofs.Common.{◌≡◌, ◌++◌, subst}
use Rattle.tape_core.specs.Devices.{Gave}
use Rattle.output_cast.proofs.EventLemmas.{left_line}
use Rattle.output_cast.proofs.events.put_left.Goals as goal

pub returns-then-is_pending : goal.returns-then-is_pending
returns-then-is_pending g c =
    let join = c.gives_join.ensures.both in
    subst (Gave g.W.Write.contents c.args.writer.now c.put_closing.new.writer)
    (left_line c.args.moment c.args.decoder.now (c.is_pending.ensures.some (cc)))
    (join _ _ _ _ _ c.put_closing.ensures (join _ _ _ _ _ c.put_character.ensures c.put_opening.ensures))
