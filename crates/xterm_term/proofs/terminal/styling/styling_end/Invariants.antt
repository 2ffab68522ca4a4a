use Rattle.std.proofs.Common.{take}
use Rattle.xterm_term.specs.Ahead.{Letters, Parameters}
use Rattle.xterm_term.proofs.LettersAt.{IsSilent}
use Rattle.xterm_term.proofs.terminal.styling.styling_end.Given as goal

-- the bytes so far begin a sequence, whose parameters go on
abbrev pub invariant-loop-at : goal.invariant-loop-at
invariant-loop-at l = IsSilent Letters Parameters (take l.at l.bytes)
