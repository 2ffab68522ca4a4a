use Rattle.std.proofs.Common.{take, sym, ◌∙◌, arith}
use Rattle.vt_parser.proofs.LawLemmas.{runs_are_graphic}
use Rattle.tape_check.proofs.TallyLemmas.{idle_stays}
use Rattle.tape_check.proofs.tally.Reader.plain_run.Goals as goal

pub returns-then-is_idle-clause-idle : goal.returns-then-is_idle-clause-idle
returns-then-is_idle-clause-idle c t at =
    let n = c.printable_run.result in
    idle_stays t (take n c.args.bytes.now) (sym (c.is_idle.ensures t at) ∙ c.if-is_idle.true)
    (runs_are_graphic c.args.bytes.now n (omega (arith, c.printable_run.ensures.value)))
