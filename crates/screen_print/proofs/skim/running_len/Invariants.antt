use Rattle.std.proofs.Common.{All, take}
use Rattle.screen_print.specs.Skim.{IsRunning}
use Rattle.screen_print.proofs.skim.running_len.Given as goal

-- the bytes so far are plain text
abbrev pub invariant-loop-at : goal.invariant-loop-at
invariant-loop-at l = All (IsRunning l.key.chars.now) (take l.at l.bytes)
