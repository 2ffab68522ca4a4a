use Rattle.std.proofs.Common.{◌≡◌, ℕ, ◌-◌, ◌≤◌, List, length}
use Rattle.text_find.specs.Calm.{IsAhead, IsCalm}
use Rattle.text_find.specs.Lines.{AreStill, IsLagging, IsTrailing}
use Rattle.text_find.proofs.ahead.play_pieces.Given as goal

-- the bytes so far were played, and nothing passes at them
abbrev pub invariant-loop-taken : goal.invariant-loop-taken
invariant-loop-taken g l = record {
  within : l.taken ≤ length l.bytes;
  count : l.steps.count ≡ l.fn.steps.count;
  lags : IsLagging l.fn.ends l.fn.steps → IsLagging l.ends l.steps;
  ahead : (profile : g.row.T-Profile.Denot) (before : List ℕ) → g.T.Plays.shows profile l.fn.ahead before → AreStill l.text (g.F.Finder.screens profile before) l.fn.ends
      → IsAhead g.T.Plays.shows g.F.Finder.screens profile l.text before l.bytes l.taken l.ahead l.ends;
  trails : (profile : g.row.T-Profile.Denot) (before : List ℕ) → g.T.Plays.shows profile l.fn.ahead before → AreStill l.text (g.F.Finder.screens profile before) l.fn.ends
      → IsTrailing l.text l.fn.ends l.fn.steps → IsTrailing l.text l.ends l.steps;
  calm : (profile : g.row.T-Profile.Denot) (before : List ℕ) → g.T.Plays.shows profile l.fn.ahead before → AreStill l.text (g.F.Finder.screens profile before) l.fn.ends
      → IsTrailing l.text l.fn.ends l.fn.steps → IsCalm l.text (g.F.Finder.screens profile) before l.bytes l.taken;
}

abbrev pub decreases-loop-taken : goal.decreases-loop-taken
decreases-loop-taken g l = length l.bytes - l.taken
