use Rattle.std.proofs.Common.{◌-◌}
use Rattle.tape_core.specs.Devices.{Gave}
use Rattle.chunk_walk.proofs.TextLemmas.{texts_from}
use Rattle.text_find.specs.Lines.{AreFound, chunk_lines_at}
use Rattle.text_find.proofs.finding.put_between.Given as goal

-- the chunks so far were played, and their lines have gone out
abbrev pub invariant-loop-index : goal.invariant-loop-index
invariant-loop-index g l = record {
  found : (profile : g.row.T-Profile.Denot) → AreFound g.T.Plays.shows g.F.Finder.screens profile l.recording.chunks l.start l.text l.fn.ahead l.fn.ends l.fn.behind l.fn.steps
      → AreFound g.T.Plays.shows g.F.Finder.screens profile l.recording.chunks l.index l.text l.ahead l.ends l.behind l.steps;
  gave : (profile : g.row.T-Profile.Denot) → AreFound g.T.Plays.shows g.F.Finder.screens profile l.recording.chunks l.start l.text l.fn.ahead l.fn.ends l.fn.behind l.fn.steps
      → Gave g.W.Write.contents l.fn.writer l.writer (texts_from (chunk_lines_at l.text g.F.Finder.screens profile l.recording) l.start (l.index - l.start));
}
