use Rattle.std.proofs.Common.{◌≡◌, length, take}
use Rattle.std.specs.List.{flat_map}
use Rattle.xterm_rows.specs.RowText.{printed}
use Rattle.xterm_transcript.proofs.rows.spell.Given as goal

-- the cells so far are letters, and written down
abbrev pub invariant-loop-at : goal.invariant-loop-at
invariant-loop-at l = record {
  long : length l.letters.items ≡ l.at;
  spelled : l.letters.items ≡ flat_map printed (take l.at l.cells);
}
