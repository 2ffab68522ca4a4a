use Rattle.std.proofs.Common.{subst, sym}
use Rattle.tape_core.specs.Devices.{Gave}
use Rattle.screen_print.proofs.SkimLemmas.{nowhere_lines}
use Rattle.screen_print.proofs.each_byte.put_or_pass.Goals as goal

pub returns-in-Some-passes-clause-gave : goal.returns-in-Some-passes-clause-gave
returns-in-Some-passes-clause-gave g c = λ x shows.
    let chunk = c.args.chunk.now in
    subst (Gave g.W.Write.contents c.args.writer.now c.args.writer.now)
    (sym (nowhere_lines c.args.text.now chunk.index chunk.due x c.args.bytes.now (c.in-Some-passes.ensures.nowhere x shows)))
    (c.gives_join.ensures.nothing c.args.writer.now)
