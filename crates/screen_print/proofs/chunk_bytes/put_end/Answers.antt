use Rattle.std.proofs.Common.{subst, sym}
use Rattle.tape_core.specs.Devices.{Gave}
use Rattle.screen_print.proofs.ByLineLemmas.{less_are}
use Rattle.screen_print.proofs.chunk_bytes.put_end.Goals as goal

pub returns-then-quiet : goal.returns-then-quiet
returns-then-quiet g c =
    subst (Gave g.W.Write.contents c.args.writer.now c.args.writer.now) (sym (c.requires.quiet c.if-quiet.true))
    (c.gives_join.ensures.nothing c.args.writer.now)

pub returns : goal.returns
returns g c =
    let chunk = c.args.chunk.now in
    let pair = c.args.pair.now in
    subst (Gave g.W.Write.contents c.args.writer.now c.put_less.new.writer)
    (less_are c.args.sought.now.text.now c.args.sign chunk.index chunk.due chunk.len pair.one.now pair.other.now)
    c.put_less.ensures
