use Rattle.std.proofs.Common.{◌≡◌, ◌-◌, length}
use Rattle.standings.specs.Follow.{AreCopies}
use Rattle.standings.proofs.follow.copies_of.Given as goal

-- those so far were copied
abbrev pub invariant-loop-above : goal.invariant-loop-above
invariant-loop-above l = record {
  count : length l.copies.items ≡ l.above - l.fn.from;
  copied : AreCopies l.fn.from l.above l.rows l.others l.copies.items;
}
