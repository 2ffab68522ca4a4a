use Rattle.std.proofs.Common.{All, take}
use Rattle.screen_print.specs.Skim.{IsMute}
use Rattle.screen_print.proofs.skim.mute_len.Given as goal

-- the bytes so far are plain and not replied to
abbrev pub invariant-loop-at : goal.invariant-loop-at
invariant-loop-at l = All (IsMute l.key.chars.now) (take l.at l.bytes)
