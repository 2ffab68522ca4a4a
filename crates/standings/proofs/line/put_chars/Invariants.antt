use Rattle.std.proofs.Common.{◌-◌, ◌≤◌, encode_utf8, length, take}
use Rattle.std.specs.List.{flat_map}
use Rattle.held.specs.Held.{Wrote}
use Rattle.standings.proofs.line.put_chars.Given as goal

-- the characters so far have gone out
abbrev pub invariant-loop-at : goal.invariant-loop-at
invariant-loop-at g l = record {
  high : l.at ≤ length l.chars;
  gave : Wrote g.W.Write.contents l.fn.writer l.fn.held.items l.writer l.held.items (flat_map encode_utf8 (take l.at l.chars));
}

abbrev pub decreases-loop-at : goal.decreases-loop-at
decreases-loop-at g l = length l.chars - l.at
