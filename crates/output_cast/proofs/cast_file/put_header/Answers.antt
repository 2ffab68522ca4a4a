use Rattle.std.proofs.Common.{◌≡◌, decimal, subst}
use Rattle.tape_core.specs.Devices.{Gave}
use Rattle.output_cast.specs.Cast.{header_line}
use Rattle.output_cast.proofs.cast_file.put_header.Goals as goal

pub returns : goal.returns
unfolding header_line
returns g c =
    let join = c.gives_join.ensures.both in
    let first : c.as_bytes.result.now ≡ decimal c.args.columns = cc in
    let second : c.as_bytes-2.result.now ≡ decimal c.args.lines = cc in
    let columns = subst (Gave g.W.Write.contents c.give.new.self c.give-2.new.self) first c.give-2.ensures in
    let lines = subst (Gave g.W.Write.contents c.give-3.new.self c.give-4.new.self) second c.give-4.ensures in
    join _ _ _ _ _ c.give-5.ensures (join _ _ _ _ _ lines (join _ _ _ _ _ c.give-3.ensures (join _ _ _ _ _ columns c.give.ensures)))
