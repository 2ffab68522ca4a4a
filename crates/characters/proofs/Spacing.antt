-- No spacing mark comes before U+0903.
use Rattle.std.proofs.Common.{◌≡◌, ℕ, ◌<◌, Bool, true, false, List, [], ◌∷◌, refl, arith}
use Rattle.std.specs.Prelude.{not, ◌||◌, ◌&&◌, nat_le}
use Rattle.std.proofs.lemmas.Bool.Decides.{nat_tests}
use Rattle.ucd_table.specs.Rows.{Row, value_in}
use Rattle.ucd_category.specs.declared.GeneralCategory.{GeneralCategory}
use Rattle.ucd_category.specs.declared.GeneralCategory.TheVariants.{Unassigned}
use Rattle.ucd_category.specs.GeneralCategory.{general_category}
use Rattle.ucd_category.specs.GeneralCategoryRows.{general_category_rows}
use Rattle.characters.specs.Width.{is_mc}

-- a row of other characters, or of ones from U+0903 on
unfoldable is_above : Row GeneralCategory → Bool
is_above r = not (is_mc r.2) || nat_le 0x903 r.0

unfoldable all_above : List (Row GeneralCategory) → Bool
unfolding is_above
all_above [] = true
all_above (r ∷ rs) = is_above r && all_above rs

rows_above : all_above general_category_rows ≡ true
unfolding is_above all_above general_category_rows
rows_above = refl

none_in : (rs : List (Row GeneralCategory)) (c : ℕ) → all_above rs ≡ true → c < 0x903
    → is_mc (value_in Unassigned rs c) ≡ false
unfolding value_in is_above all_above
none_in [] c above low = refl
none_in (r ∷ rs) c above low = grind (arith, nat_tests, none_in rs c)

pub none_is_below : (c : ℕ) → c < 0x903 → is_mc (general_category c) ≡ false
unfolding general_category
none_is_below c low = none_in general_category_rows c rows_above low
