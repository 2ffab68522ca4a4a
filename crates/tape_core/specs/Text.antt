-- Lines, the fields of a line, and numbers: what timing files and request lines are made of.
use Rattle.std.specs.Prelude.{◌≡◌, ℕ, ◌<◌, Bool, not, ◌||◌, ◌&&◌, List, [], ◌∷◌, length, filter, Option, Some, None, ◌==◌, nat_lt, if◌then◌else◌}
use Rattle.std.specs.Char.{is_ascii_digit}
use Rattle.std.specs.List.{AllPass, list_all, slice_split}
use Rattle.std.specs.Str.Parse.{digits_value}

-- Blanks are space and tab (ours).
abbrev pub is_blank : ℕ → Bool
is_blank b = b == 32 || b == 9

-- The fields of a line: its pieces between blanks that are not empty.
abbrev pub fields : List ℕ → List (List ℕ)
fields text = filter (λ piece. nat_lt 0 (length piece)) (slice_split is_blank text)

-- The lines of a text: its pieces between LFs, without an empty last one.
abbrev pub without_empty_last : List (List ℕ) → List (List ℕ)
without_empty_last [] = []
without_empty_last (piece ∷ []) = if length piece == 0 then [] else piece ∷ []
without_empty_last (piece ∷ next ∷ more) = piece ∷ without_empty_last (next ∷ more)

abbrev pub lines_of : List ℕ → List (List ℕ)
lines_of text = without_empty_last (slice_split (λ b. b == 10) text)

-- A text that is one field, in a line: one or more bytes, none of them a blank or an LF.
abbrev pub is_plain : ℕ → Bool
is_plain b = not (is_blank b || b == 10)

pub record IsWord (text : List ℕ) : Type 0 where
  pub some : 0 < length text
  pub plain : AllPass is_plain text

-- The text is a number: one or more digits.
pub record NumberText (text : List ℕ) (n : ℕ) : Type 0 where
  pub some : 0 < length text
  pub digits : AllPass is_ascii_digit text
  pub value : n ≡ digits_value 10 text

-- The same as a function.
abbrev pub number_of : List ℕ → Option ℕ
number_of text =
    if nat_lt 0 (length text) && list_all is_ascii_digit text then Some (digits_value 10 text) else None
