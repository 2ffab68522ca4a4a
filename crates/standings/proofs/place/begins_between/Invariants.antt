use Rattle.std.proofs.Common.{◌≡◌, ℕ, ◌<◌, ◌≤◌, drop, false}
use Rattle.standings.specs.Standing.{begins, line_text}
use Rattle.standings.proofs.place.begins_between.Given as goal

-- it begins at none of the characters so far
abbrev pub invariant-loop-before : goal.invariant-loop-before
invariant-loop-before l = (k : ℕ) → l.start ≤ k → k < l.before → begins l.text (line_text (drop l.above l.rows)) k ≡ false
