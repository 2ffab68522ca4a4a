use Rattle.std.proofs.Common.{◌≡◌, ◌-◌, ◌≤◌, length}
use Rattle.standings.specs.Lines.{AreReady}
use Rattle.standings.specs.Less.{ArePassed}
use Rattle.tape_core.specs.Devices.{Gave}
use Rattle.chunk_walk.proofs.TextLemmas.{texts_from}
use Rattle.text_find.specs.Lines.{passed_line}
use Rattle.text_find.proofs.lines.put_told_passed.Given as goal

-- the lines of the places so far have gone out
abbrev pub invariant-loop-at : goal.invariant-loop-at
invariant-loop-at g l = record {
  within : l.at ≤ length l.one.places.items;
  gave : ArePassed l.passed l.ends.before.rows.items l.ends.before.places.items l.ends.after.rows.items l.ends.after.places.items l.one.rows.items l.one.places.items l.other.rows.items l.other.places.items → Gave g.W.Write.contents l.fn.writer l.writer
      (texts_from (passed_line l.fn.moment.index l.fn.moment.due l.fn.moment.len l.ends.before.rows.items l.ends.before.places.items l.ends.after.rows.items l.ends.after.places.items
      l.one.rows.items l.one.places.items l.other.rows.items l.other.places.items) 0 l.at);
  ready : AreReady l.lines l.one.rows.items;
  moment : l.lines.moment ≡ l.fn.moment;
}

abbrev pub decreases-loop-at : goal.decreases-loop-at
decreases-loop-at g l = length l.one.places.items - l.at
