use Rattle.std.proofs.Common.{◌≡◌, take}
use Rattle.std.specs.List.{flat_map}
use Rattle.standings.specs.Lines.{AreReady}
use Rattle.standings.specs.Found.{found_line}
use Rattle.tape_core.specs.Devices.{Gave}
use Rattle.text_find.proofs.lines.put_standing.Given as goal

-- the lines of the places so far have gone out
abbrev pub invariant-loop-at : goal.invariant-loop-at
invariant-loop-at g l = record {
  gave : Gave g.W.Write.contents l.fn.writer l.writer (flat_map (found_line 61 l.fn.moment.index l.fn.moment.due l.fn.moment.len l.still.rows.items) (take l.at l.still.places.items));
  ready : AreReady l.lines l.still.rows.items;
  moment : l.lines.moment ≡ l.fn.moment;
}
