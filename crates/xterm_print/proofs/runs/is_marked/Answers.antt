use Rattle.std.proofs.Common.{◌%◌, ◌∙◌}
use Rattle.std.proofs.lemmas.Bool.{eq-eqb}
use Rattle.std.proofs.lemmas.Nat.Bits.{shr_and_one}
use Rattle.xterm_print.proofs.runs.is_marked.Goals as goal

pub returns : goal.returns
returns c = λ is. eq-eqb _ 1 (shr_and_one c.args.marks (c.args.number % 64) ∙ is)
