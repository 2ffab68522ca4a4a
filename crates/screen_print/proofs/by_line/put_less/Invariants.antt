use Rattle.std.proofs.Common.{◌≤◌, length}
use Rattle.tape_core.specs.Devices.{Gave}
use Rattle.screen_print.specs.ByLine.{AreLost, lines_by, places_above, stands_at_no_end}
use Rattle.screen_print.specs.FindLines.{found_line}
use Rattle.screen_print.proofs.by_line.put_less.Given as goal

-- the lines of the places above this line have gone out
abbrev pub invariant-loop-line : goal.invariant-loop-line
invariant-loop-line g l = record {
  ready : l.line ≤ l.lost.ready;
  few : length l.lost.places.items ≤ l.line;
  lost : AreLost l.sought.text.now l.pair.one.now l.lost.ready l.pair.other.now l.lost.next l.lost.places.items;
  gave : Gave g.W.Write.contents l.fn.writer l.writer
      (lines_by l.sought.text.now l.pair.one.now l.pair.other.now (found_line l.sign l.chunk.index l.chunk.due l.chunk.len l.pair.one.now)
      (stands_at_no_end l.sought.text.now l.ends) (places_above l.sought.text.now l.pair.one.now l.line));
}
