-- Private: where a text stands line by line, and what of it is less on another screen.
use Rattle.std.specs.Prelude.{◌≡◌, ℕ, ◌+◌, ◌-◌, ◌<◌, ◌≤◌, ◌&&◌, ◌==◌, Bool, true, false, List, [], None, Option, Some, drop, if◌then◌else◌, length, nat_eq, nat_le, nat_lt, slice_index, slice_index_or, take}
use Rattle.std.specs.Borrow.{Bor}
use Rattle.std.specs.Cmp.Lexicographic.{pointwise}
use Rattle.std.specs.List.{All, flat_map, list_any, range_with_len}
use Rattle.vt_screen.specs.Cells.{row_at}
use Rattle.vt_screen.specs.Limits.{line_count}
use Rattle.screen_print.specs.declared.by_line.Ends.{Ends}
use Rattle.screen_print.specs.declared.by_line.Fronts.{Fronts}
use Rattle.screen_print.specs.declared.standing.Place.{Place}
use Rattle.screen_print.specs.EachByte.{is_lone}
use Rattle.screen_print.specs.FindLines.{begins, count_left, left_of, line_text_from, place_in, places_in, row_texts, standing}
use Rattle.screen_rows.specs.RowText.{row_text}
use Rattle.screen_print.specs.Stills.{Still}

-- the text of a line's row
abbrev pub row_on : Still → ℕ → List ℕ
row_on still line = row_text still.wide (row_at still.rows line)

-- whether a text begins in a line of a screen at a column
abbrev pub begins_on : List ℕ → Still → ℕ → ℕ → Bool
begins_on text still line column = begins text (line_text_from (drop (line - 1) (row_texts still))) column

-- the places of a line up to a column
abbrev pub places_to : List ℕ → Still → ℕ → ℕ → List Place
places_to text still line column = places_in text line (line_text_from (drop (line - 1) (row_texts still))) column

-- the places above a line
unfoldable pub places_above : List ℕ → Still → ℕ → List Place
places_above text still line =
    flat_map (λ k. places_to text still k (length (row_on still k))) (range_with_len 1 (line - 1))

-- how many of them have the same to the left
unfoldable pub count_above : List ℕ → Still → ℕ → List ℕ → ℕ
count_above text still line left = count_left still (places_above text still line) left

-- whether a line has a place with the same to the left
unfoldable pub stands_so : List ℕ → Still → ℕ → List ℕ → Bool
stands_so text still line left =
    nat_lt (length left) (length (row_on still line))
    && (pointwise nat_eq (take (length left) (row_on still line)) left && begins_on text still line (length left + 1))

-- ---- what is less on another screen

-- what is written of a place behind others, where it is less on the other screen and its left part passes a test
unfoldable pub place_line : List ℕ → Still → Still → (Place → List ℕ) → (List ℕ → Bool) → List Place → Place → List ℕ
place_line text one other write keep before place =
    if nat_le (count_left other (standing text other) (left_of one place)) (count_left one before (left_of one place))
    then (if keep (left_of one place) then write place else []) else []

-- what is written of these places, each behind those that come before it
unfoldable pub lines_by : List ℕ → Still → Still → (Place → List ℕ) → (List ℕ → Bool) → List Place → List ℕ
lines_by text one other write keep places =
    flat_map (λ n. place_line text one other write keep (take n places) (slice_index_or places n (place_in 1 1))) (range_with_len 0 (length places))

-- whether a text stands on neither of two screens with this to the left
abbrev pub stands_on_neither : List ℕ → Still → Still → List ℕ → Bool
stands_on_neither text first last left = is_lone first (standing text first) left && is_lone last (standing text last) left

-- whether a text stands at no end of a chunk with this to the left, where they are given
abbrev pub stands_at_no_end : List ℕ → Option (Bor Ends) → List ℕ → Bool
stands_at_no_end text None left = true
stands_at_no_end text (Some ends) left = stands_on_neither text ends.now.first.now ends.now.last.now left

-- of all that stands in a line of a screen no left part passes a test
abbrev pub NonePasses : List ℕ → Still → (List ℕ → Bool) → ℕ → Type 0
NonePasses text one keep line =
    (column : ℕ) → 1 ≤ column → column ≤ length (row_on one line) → begins_on text one line column ≡ true
    → keep (take (column - 1) (row_on one line)) ≡ false

-- ---- lines from which a text may have gone

-- outside these lines two screens have the same rows
abbrev pub DifferIn : List ℕ → Still → Still → Type 0
DifferIn lines one other =
    (line : ℕ) → 1 ≤ line → line ≤ line_count → list_any (λ k. k == line) lines ≡ false → row_at one.rows line ≡ row_at other.rows line

-- a column of a line at which the text stands in a line of the other screen too, with the same to the left
pub record IsKept (text : List ℕ) (one : Still) (line : ℕ) (other : Still) (there column : ℕ) : Type 0 where
  pub within : column ≤ length (row_on other there)
  pub begins : begins_on text other there column ≡ true
  pub left : take (column - 1) (row_on one line) ≡ take (column - 1) (row_on other there)

-- so it is with all places before a column
abbrev pub AreKept : List ℕ → Still → ℕ → Still → ℕ → ℕ → Type 0
AreKept text one line other there end =
    (column : ℕ) → 1 ≤ column → column < end → column ≤ length (row_on one line) → begins_on text one line column ≡ true
    → IsKept text one line other there column

-- a left part that isn't that of a place's line, from the place on
abbrev pub IsApart : Still → List ℕ → Place → Type 0
IsApart one left place = place.column ≤ length left + 1 → left ≡ take (length left) (row_on one place.line) → ⊥

-- a line and a column from 1 on
abbrev pub IsOnScreen : Place → Type 0
IsOnScreen place = (1 ≤ place.line) × (place.line ≤ line_count) × (1 ≤ place.column)

-- places in the lines above one, each the first of its line that may have gone: above a line of the other screen stands
-- as often what has another left part, or stands before them
pub record AreLost (text : List ℕ) (one : Still) (line : ℕ) (other : Still) (there : ℕ) (lost : List Place) : Type 0 where
  pub few : length lost < line
  pub there_low : 1 ≤ there
  pub there_high : there ≤ line_count + 1
  pub lines : All IsOnScreen lost
  pub counts : (left : List ℕ) → All (IsApart one left) lost → count_above text one line left ≤ count_above text other there left

-- so many characters two rows have in common from the first on: as far as the second goes they have the same front up to
-- this number of characters, and no longer one
abbrev pub IsCommon : List ℕ → List ℕ → ℕ → Type 0
IsCommon row these len = (n : ℕ) → n ≤ length these → pointwise nat_eq (take n row) (take n these) ≡ nat_le n len

-- so many, or more than a row has, where it isn't known how many
abbrev pub IsKnown : List ℕ → List ℕ → ℕ → Type 0
IsKnown row these len = (len ≡ 255 → ⊥) → IsCommon row these len

-- so it is with the lines above one
abbrev pub AreKnown : Still → ℕ → List ℕ → List ℕ → Type 0
AreKnown still end these lens = (line : ℕ) → 1 ≤ line → line < end → IsKnown (row_on still line) these (slice_index lens (line - 1))

-- a line's row against all of another screen, and against those above it
pub record AreFronts (one : Still) (line : ℕ) (other : Still) (fronts : Fronts) : Type 0 where
  pub above : AreKnown one line (row_on one line) fronts.above
  pub there : AreKnown other (line_count + 1) (row_on one line) fronts.there

-- so it is whatever the screens show
abbrev pub AreAnyFronts : Fronts → Type 0
AreAnyFronts fronts = (one : Still) (line : ℕ) (other : Still) → line ≤ line_count → AreFronts one line other fronts
