-- Where a text stands on a screen, and what of it came and went between two screens (ours).
use Rattle.std.specs.Prelude.{ℕ, ◌+◌, ◌-◌, Bool, List, [], ◌∷◌, ◌++◌, encode_utf8, drop, filter, if◌then◌else◌, length, map, nat_eq, nat_le, slice_index_or, take, ◌==◌}
use Rattle.std.specs.Cmp.Lexicographic.{pointwise}
use Rattle.std.specs.Fmt.{decimal}
use Rattle.std.specs.List.{count_by, flat_map, range_with_len, starts_with, suffix_len}
use Rattle.tape_core.specs.Written.{seconds_form}
use Rattle.vt_screen.specs.Cells.{row_at}
use Rattle.screen_print.specs.declared.standing.Place.{Place}
use Rattle.screen_rows.specs.RowText.{row_text}
use Rattle.screen_print.specs.Stills.{Still}

-- ---- lines

-- the texts of a screen's rows
abbrev pub row_texts : Still → List (List ℕ)
row_texts still = map (row_text still.wide) still.rows

-- a row whose character at the right margin is a space ends a line; another runs on into the next one
abbrev pub ends_line : List ℕ → Bool
ends_line row = slice_index_or row (length row - 1) 32 == 32

-- a line's text from the first of these rows on: the rows to the one that ends the line, joined
unfoldable pub line_text_from : List (List ℕ) → List ℕ
line_text_from [] = []
line_text_from (row ∷ rows) = row ++ (if ends_line row then [] else line_text_from rows)

-- the first of these rows that together have so many characters, joined
unfoldable pub rows_reaching : ℕ → List (List ℕ) → List ℕ
rows_reaching n [] = []
rows_reaching n (row ∷ rows) =
    row ++ (if nat_le n (length row) then [] else rows_reaching (n - length row) rows)

-- ---- standing

-- whether a text begins in a line at a column of its first row
abbrev pub begins : List ℕ → List ℕ → ℕ → Bool
begins text line column = starts_with nat_eq (drop (column - 1) line) text

abbrev pub place_in : ℕ → ℕ → Place
place_in line column = record { line = line; column = column }

-- the places of a row at which a text begins in a line, where the row has so many columns
abbrev pub places_in : List ℕ → ℕ → List ℕ → ℕ → List Place
places_in text line line_text columns =
    map (place_in line) (filter (begins text line_text) (range_with_len 1 columns))

-- the places at which a text begins in a line, in reading order, where the first row has this number
unfoldable pub places_from : List ℕ → ℕ → List (List ℕ) → List Place
places_from text line [] = []
places_from text line (row ∷ rows) =
    places_in text line (line_text_from (row ∷ rows)) (length row) ++ places_from text (line + 1) rows

-- where a text stands on a screen
abbrev pub standing : List ℕ → Still → List Place
standing text still = places_from text 1 (row_texts still)

-- ---- what went and what came

-- the row of a place and those behind it
abbrev pub rows_at : Still → Place → List (List ℕ)
rows_at still place = drop (place.line - 1) (row_texts still)

-- what stands left of a place in its row: the left part of a found text, without the text, which ends all
-- of them
abbrev pub left_of : Still → Place → List ℕ
left_of still place = take (place.column - 1) (row_text still.wide (row_at still.rows place.line))

-- how many of these places have the same to the left
abbrev pub count_left : Still → List Place → List ℕ → ℕ
count_left still places left = count_by (λ place. pointwise nat_eq (left_of still place) left) places

-- the rows of a found text, from its first character's to its last one's, joined, without the spaces at
-- the end
abbrev pub found_rows : ℕ → Still → Place → List ℕ
found_rows len still place =
    let rows = rows_reaching (place.column - 1 + len) (rows_at still place) in
    take (length rows - suffix_len (λ c. c == 32) rows) rows

-- a find line: the sign, the chunk's place and when it is due, and the place on the screen ..
abbrev pub heading : ℕ → ℕ → ℕ → Place → List ℕ
heading sign index due place =
    (sign ∷ 32 ∷ [])
    ++ decimal index ++ (32 ∷ [])
    ++ seconds_form due ++ (32 ∷ [])
    ++ decimal place.line ++ (32 ∷ [])
    ++ decimal place.column ++ (32 ∷ [])

-- .. and the rows
abbrev pub found_line : ℕ → ℕ → ℕ → ℕ → Still → Place → List ℕ
found_line sign index due len still place =
    heading sign index due place ++ flat_map encode_utf8 (found_rows len still place) ++ 10 ∷ []

-- whether place n among those of one screen is less on the other: at least as many places before it have
-- the same to the left as there are in all on the other; so the first ones are taken to be the old ones
abbrev pub is_less : Still → List Place → Still → List Place → ℕ → Bool
is_less one places other others n =
    let left = left_of one (slice_index_or places n (place_in 1 1)) in
    nat_le (count_left other others left) (count_left one (take n places) left)

-- its line, where it is
abbrev pub less_line : ℕ → ℕ → ℕ → ℕ → Still → List Place → Still → List Place → ℕ → List ℕ
less_line sign index due len one places other others n =
    if is_less one places other others n
    then found_line sign index due len one (slice_index_or places n (place_in 1 1)) else []

-- the lines of what stands on one screen and is less on the other
abbrev pub less_lines : ℕ → ℕ → ℕ → ℕ → Still → List Place → Still → List Place → List ℕ
less_lines sign index due len one places other others =
    flat_map (less_line sign index due len one places other others) (range_with_len 0 (length places))

-- what is written of two screens: - for what went, then + for what came
unfoldable pub find_text : List ℕ → ℕ → ℕ → Still → Still → List ℕ
find_text text index due before after =
    less_lines 45 index due (length text) before (standing text before) after (standing text after)
    ++ less_lines 43 index due (length text) after (standing text after) before (standing text before)
