use Rattle.std.proofs.Common.{◌≡◌, drop, length}
use Rattle.json_bytes.specs.Strings.{items}
use Rattle.json_bytes.specs.Values.{behind}
use Rattle.json_bytes.proofs.strings.string_end.Given as goal

-- the string ends where what is left of it ends
abbrev pub invariant-loop-rest : goal.invariant-loop-rest
invariant-loop-rest l = behind (items 0 (drop 1 l.text)) ≡ behind (items 0 l.rest)

abbrev pub decreases-loop-rest : goal.decreases-loop-rest
decreases-loop-rest l = length l.rest
