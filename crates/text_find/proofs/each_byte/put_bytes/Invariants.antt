use Rattle.std.proofs.Common.{ℕ, ◌-◌, ◌≤◌, List, ◌++◌, length, take}
use Rattle.tape_core.specs.Devices.{Gave}
use Rattle.chunk_walk.proofs.TextLemmas.{texts_from}
use Rattle.text_find.specs.Lines.{AreStill, byte_lines}
use Rattle.text_find.proofs.each_byte.put_bytes.Given as goal

-- the bytes so far were played, and their lines have gone out
abbrev pub invariant-loop-at : goal.invariant-loop-at
invariant-loop-at g l = record {
  within : l.at ≤ length l.bytes;
  shows : (profile : g.row.T-Profile.Denot) (before : List ℕ) → g.T.Plays.shows profile l.fn.behind before → g.T.Plays.shows profile l.behind (before ++ take l.at l.bytes);
  still : (profile : g.row.T-Profile.Denot) (before : List ℕ) → g.T.Plays.shows profile l.fn.behind before → AreStill l.text (g.F.Finder.screens profile before) l.fn.steps
      → AreStill l.text (g.F.Finder.screens profile (before ++ take l.at l.bytes)) l.steps;
  gave : (profile : g.row.T-Profile.Denot) (before : List ℕ) → g.T.Plays.shows profile l.fn.behind before → AreStill l.text (g.F.Finder.screens profile before) l.fn.steps
      → Gave g.W.Write.contents l.fn.writer l.writer
      (texts_from (byte_lines l.text l.moment.index l.moment.due l.ends.before.rows.items l.ends.before.places.items l.ends.after.rows.items l.ends.after.places.items (g.F.Finder.screens profile) before l.bytes) 0 l.at);
}

abbrev pub decreases-loop-at : goal.decreases-loop-at
decreases-loop-at g l = length l.bytes - l.at
