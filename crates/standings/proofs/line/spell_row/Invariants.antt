use Rattle.std.proofs.Common.{◌≡◌, ◌-◌, ◌≤◌, encode_utf8, length, take}
use Rattle.std.specs.List.{flat_map}
use Rattle.standings.proofs.line.spell_row.Given as goal

-- the characters so far were put
abbrev pub invariant-loop-at : goal.invariant-loop-at
invariant-loop-at l = record {
  high : l.at ≤ length l.chars;
  text : l.text.items ≡ flat_map encode_utf8 (take l.at l.chars);
}

abbrev pub decreases-loop-at : goal.decreases-loop-at
decreases-loop-at l = length l.chars - l.at
