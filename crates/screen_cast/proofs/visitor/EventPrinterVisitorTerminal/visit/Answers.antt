use Rattle.std.proofs.Common.{subst, sym}
use Rattle.tape_core.specs.Devices.{Gave}
use Rattle.vt_term.specs.Console.{Console}
use Rattle.screen_print.specs.Stills.{Still, still_of}
use Rattle.screen_print.specs.Walk.{still_by}
use Rattle.screen_cast.specs.Cast.{chunk_text}
use Rattle.screen_cast.proofs.CastLemmas.{chunk_is}
use Rattle.screen_cast.proofs.visitor.EventPrinterVisitorTerminal.visit.Goals as goal

pub returns-clause-gave : goal.returns-clause-gave
returns-clause-gave g c = λ profile before after are shows told.
    let index = c.args._index in
    let due = c.args.due in
    let now = still_of c.args.terminal.now.console in
    let gave = subst (Gave g.W.Write.contents c.args.writer.now c.put_chunk.new.writer) (chunk_is index due c.args.kept.now now) c.put_chunk.ensures.gave in
    let behind = subst (λ (still : Still). Gave g.W.Write.contents c.args.writer.now c.put_chunk.new.writer (chunk_text index due still now)) are gave in
    subst (λ (s : Console). Gave g.W.Write.contents c.args.writer.now c.put_chunk.new.writer (chunk_text index due (still_by profile before) (still_of s)))
    (sym shows.console) behind
