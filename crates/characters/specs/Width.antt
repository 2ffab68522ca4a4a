-- How many columns a character takes.
use Rattle.std.specs.Prelude.{ℕ, Bool, true, false, ◌==◌, ◌||◌, min, unwrap_or, if◌then◌else◌}
use Rattle.ucd_category.specs.declared.GeneralCategory.{GeneralCategory}
use Rattle.ucd_category.specs.declared.GeneralCategory.TheVariants.{SpacingMark}
use Rattle.ucd_category.specs.GeneralCategory.{general_category}
use Rattle.unicode_width.specs.Width.{char_width}

-- the general category Mc
abbrev pub is_mc : GeneralCategory → Bool
is_mc SpacingMark = true
is_mc _ = false

-- U+00AD and spacing marks, which terminals show as a column wide (ours, after glibc, xterm and tmux)
abbrev pub is_shown_narrow : ℕ → Bool
is_shown_narrow c = (c == 0xAD) || is_mc (general_category c)

-- The columns of a character: 0 for a mark that joins another, else 1, or 2 for a wide one. They are those of
-- `unicode_width` outside an East Asian context, at most 2; a control character, which no terminal shows, has none.
unfoldable pub width : ℕ → ℕ
width c = if is_shown_narrow c then 1 else min 2 (unwrap_or (char_width false c) 0)
