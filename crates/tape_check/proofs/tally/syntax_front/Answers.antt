use Rattle.tape_check.proofs.TallyTokens.{together}
use Rattle.tape_check.proofs.tally.syntax_front.Goals as goal

pub returns-clause-graphic : goal.returns-clause-graphic
returns-clause-graphic c =
    together c.args.bytes.now c.printable_run.result _ c.requires c.printable_run.ensures.value c.printable_run.ensures.within
