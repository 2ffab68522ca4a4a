use Rattle.std.proofs.Common.{◌≡◌, take, true}
use Rattle.screen_rows.specs.RowText.{characters}
use Rattle.screen_print.proofs.alike.has_same_glyphs.Given as goal

-- if the glyphs so far are the same, they are read alike
abbrev pub invariant-loop-at : goal.invariant-loop-at
invariant-loop-at l = l.same ≡ true → take l.at (characters l.one) ≡ take l.at (characters l.other)
