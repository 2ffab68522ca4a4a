use Rattle.std.proofs.Common.{◌≡◌, ◌<◌, length}
use Rattle.screen_print.specs.ByLine.{AreKnown, count_above, row_on}
use Rattle.screen_print.specs.FindLines.{left_of}
use Rattle.screen_print.proofs.by_line.count_above.Given as goal

-- those above this line were counted
abbrev pub invariant-loop-line : goal.invariant-loop-line
invariant-loop-line l = record {
  counted : l.count ≡ count_above l.sought.text.now l.still l.line (left_of l.one l.place);
  few : l.count < l.line;
  whole : length l.common ≡ 24;
  common : AreKnown l.still l.end (row_on l.one l.place.line) l.common;
}
