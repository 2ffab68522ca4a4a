use Rattle.std.proofs.Common.{◌≡◌, length, nat_eq}
use Rattle.std.specs.Cmp.Lexicographic.{pointwise}
use Rattle.tape_core.specs.Text.{fields}
use Rattle.tape_mend.proofs.logs.have_same_fields.Given as goal

abbrev pub invariant-loop-behind : goal.invariant-loop-behind
invariant-loop-behind l =
    pointwise (pointwise nat_eq) (fields l.one) (fields l.other) ≡ pointwise (pointwise nat_eq) (fields l.left) (fields l.right)

abbrev pub decreases-loop-behind : goal.decreases-loop-behind
decreases-loop-behind l = length (fields l.left)
