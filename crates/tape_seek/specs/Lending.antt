-- What a session is left as by a seek, whose view borrows from it.
use Rattle.std.specs.Prelude.{ℕ, Result, ⊤}
use Rattle.std.specs.Borrow.{MutBor, Fml}
use Rattle.std.specs.declared.fmt.Debug.{Ghosts as Shown}
use Rattle.plays.specs.declared.plays.Plays.{Ghosts}
use denote.Follow.{follows_so}
use denote.RattleType.{RattleType}
use mathlib.Core.Option.{none}
use Rattle.vt_term.specs.contracts.terminal.Terminal.{the_row as terminal_row}
use Rattle.vt_term.specs.contracts.terminal.packed.PackedTerminal.{the_row as packed_row}
use Rattle.vt_term.specs.contracts.profile.Profile.{the_row as profile_row}
use Rattle.vt_term.specs.contracts.playing.TerminalPlays.TheImpl as plays
use Rattle.vt_term.specs.contracts.profile.ProfileDebug.TheImpl as profile_shown
use Rattle.vt_term.specs.contracts.terminal.packed.PackedTerminalDebug.TheImpl as packed_shown
use Rattle.tape_seek.specs.contracts.session.Session.{the_row}
use Rattle.tape_seek.specs.State.{KeepsHistory, Leaves, State, StateOf}

-- Once the view is let go, the session is the one that was sought to the count, or the one whose seek was refused; and
-- it is still what the edits of its log have made of the recording that it was opened with.
abbrev pub LeavesSoughtBy : {A E : Type 0} (T P K : RattleType) (p : Ghosts T.Denot P.Denot K.Denot) → Shown P.Denot
    → Shown K.Denot → MutBor (StateOf P.Denot) → Result A E → ℕ → Fml
LeavesSoughtBy T P K p profiles packed session result count =
    follows_so (the_row T P K p profiles packed) (the_row T P K p profiles packed) session.ghost_name none (λ _ _. ⊤)
    (λ new. Leaves result count session.now new × KeepsHistory session.now new)

-- The same of a VT100's session.
abbrev pub LeavesSought : {A E : Type 0} → MutBor State → Result A E → ℕ → Fml
LeavesSought session result count =
    LeavesSoughtBy terminal_row profile_row packed_row plays.ghosts profile_shown.ghosts packed_shown.ghosts session
    result count
