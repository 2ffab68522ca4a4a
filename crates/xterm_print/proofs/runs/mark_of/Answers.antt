use Rattle.std.proofs.Common.{◌%◌, ◌∙◌, ap, arith}
use Rattle.std.specs.Int.{bit_at}
use Rattle.std.proofs.lemmas.Nat.{one_shl}
use Rattle.std.proofs.lemmas.Nat.Bits.{bit_at-pow_same}
use Rattle.xterm_print.proofs.runs.mark_of.Goals as goal

pub returns : goal.returns
returns c = let k = c.args.number % 64 in ap (λ n. bit_at n k) (one_shl k 64 (omega arith)) ∙ bit_at-pow_same k
