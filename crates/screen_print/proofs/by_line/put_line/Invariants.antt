use Rattle.std.proofs.Common.{◌≡◌, ◌+◌, ◌-◌, ◌≤◌, take, true}
use Rattle.std.specs.List.{flat_map}
use Rattle.tape_core.specs.Devices.{Gave}
use Rattle.screen_print.specs.ByLine.{AreFronts, begins_on, place_line, places_above, places_to, row_on, stands_at_no_end}
use Rattle.screen_print.specs.FindLines.{found_line}
use Rattle.screen_print.proofs.by_line.put_line.Given as goal

-- the lines of the columns so far have gone out, and the text stands at this one, its left part at no end
abbrev pub invariant-loop-column : goal.invariant-loop-column
invariant-loop-column g l = record {
  low : 1 ≤ l.column;
  within : l.column ≤ l.last + 1;
  begins : l.column ≤ l.last → begins_on l.sought.text.now l.pair.one.now l.line l.column ≡ true;
  alone : l.column ≤ l.last → stands_at_no_end l.sought.text.now l.ends (take (l.column - 1) (row_on l.pair.one.now l.line)) ≡ true;
  fronts : AreFronts l.pair.one.now l.line l.pair.other.now l.fronts;
  gave : Gave g.W.Write.contents l.fn.writer l.writer
      (flat_map (place_line l.sought.text.now l.pair.one.now l.pair.other.now (found_line l.sign l.chunk.index l.chunk.due l.chunk.len l.pair.one.now)
      (stands_at_no_end l.sought.text.now l.ends) (places_above l.sought.text.now l.pair.one.now l.line))
      (places_to l.sought.text.now l.pair.one.now l.line (l.column - 1)));
}

abbrev pub decreases-loop-column : goal.decreases-loop-column
decreases-loop-column g l = l.last + 1 - l.column
