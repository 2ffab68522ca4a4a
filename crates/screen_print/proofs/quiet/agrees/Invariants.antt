use Rattle.std.proofs.Common.{◌≡◌, take}
use Rattle.screen_rows.specs.RowText.{characters}
use Rattle.screen_print.proofs.quiet.agrees.Given as goal

-- the cells so far agree
abbrev pub invariant-loop-at : goal.invariant-loop-at
invariant-loop-at l = take l.at (characters l.cells) ≡ take l.at l.text
