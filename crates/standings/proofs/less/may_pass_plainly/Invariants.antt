use Rattle.std.proofs.Common.{◌≡◌, ℕ, ◌<◌, false}
use Rattle.standings.specs.Less.{may_pass}
use Rattle.standings.proofs.less.may_pass_plainly.Given as goal

-- none of those so far does
abbrev pub invariant-loop-at : goal.invariant-loop-at
invariant-loop-at l =
    (n : ℕ) → n < l.at → may_pass l.first.rows.items l.first.places.items l.one.rows.items l.one.places.items l.other.rows.items l.other.places.items n ≡ false
