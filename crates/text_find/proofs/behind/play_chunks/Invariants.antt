use Rattle.std.proofs.Common.{◌≤◌}
use Rattle.tape_core.specs.Due.{first}
use Rattle.text_find.proofs.behind.play_chunks.Given as goal

-- the chunks so far were played
abbrev pub invariant-loop-index : goal.invariant-loop-index
invariant-loop-index g l =
    (profile : g.row.T-Profile.Denot) → l.start ≤ l.end → g.T.Plays.shows profile l.fn.terminal (first l.recording.chunks l.start) → g.T.Plays.shows profile l.terminal (first l.recording.chunks l.index)
