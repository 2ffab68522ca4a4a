use Rattle.std.proofs.Common.{◌≡◌, length}
use Rattle.json_bytes.specs.Shown.{added}
use Rattle.json_bytes.specs.Strings.{items, with_front}
use Rattle.json_bytes.proofs.strings.push_items.Given as goal

-- behind the bytes so far stand those of what is left
abbrev pub invariant-loop-rest : goal.invariant-loop-rest
invariant-loop-rest l = with_front (added l.fn.pieces) (items 0 l.text) ≡ with_front (added l.pieces) (items 0 l.at)

abbrev pub decreases-loop-rest : goal.decreases-loop-rest
decreases-loop-rest l = length l.at
