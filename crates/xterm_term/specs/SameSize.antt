-- The size of a screen never changes.
use Rattle.std.specs.Prelude.{◌≡◌}
use Rattle.xterm_term.specs.Console.{Console}

-- so many columns and lines as before
pub record SameSize (s t : Console) : Type 0 where
  pub columns : t.picture.columns ≡ s.picture.columns
  pub lines : t.picture.lines ≡ s.picture.lines
