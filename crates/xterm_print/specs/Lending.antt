-- What a session over a terminal of today is left as by a seek, whose view borrows from it.
use Rattle.std.specs.Prelude.{ℕ, Result}
use Rattle.std.specs.Borrow.{MutBor, Fml}
use Rattle.xterm_term.specs.contracts.terminal.Terminal.{the_row as terminal_row}
use Rattle.xterm_term.specs.contracts.terminal.packed.PackedTerminal.{the_row as packed_row}
use Rattle.xterm_term.specs.contracts.measure.Size.{the_row as size_row}
use Rattle.xterm_term.specs.contracts.playing.TerminalPlays.TheImpl as plays
use Rattle.xterm_term.specs.contracts.measure.SizeDebug.TheImpl as size_shown
use Rattle.xterm_term.specs.contracts.terminal.packed.PackedTerminalDebug.TheImpl as packed_shown
use Rattle.tape_seek.specs.Lending.{LeavesSoughtBy}
use Rattle.xterm_print.specs.Headline.{State}

-- Once the view is let go, the session is the one that was sought to the count, or the one whose seek was refused.
abbrev pub LeavesSought : {A E : Type 0} → MutBor State → Result A E → ℕ → Fml
LeavesSought session result count =
    LeavesSoughtBy terminal_row size_row packed_row plays.ghosts size_shown.ghosts packed_shown.ghosts session
    result count
