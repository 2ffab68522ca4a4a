use Rattle.std.proofs.Common.{◌≡◌, take}
use Rattle.screen_rows.specs.RowText.{characters}
use Rattle.screen_print.proofs.alike.alike_len.Given as goal

-- the cells so far are read alike
abbrev pub invariant-loop-at : goal.invariant-loop-at
invariant-loop-at l = take l.at (characters l.one) ≡ take l.at (characters l.other)
