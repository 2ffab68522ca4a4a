use Rattle.std.proofs.Common.{arith}
use Rattle.std.proofs.lemmas.List.{take_rest}
use Rattle.tape_check.proofs.HeaderLemmas.{label_next}
use Rattle.tape_check.proofs.header.behind_label.Goals as goal

pub returns-in-len1-up : goal.returns-in-len1-up
returns-in-len1-up c = grind (arith, take_rest c.args.text.now 1, label_next c.args.label.now c.args.text.now (omega arith))
