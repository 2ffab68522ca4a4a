-- What a recording tells of itself, and the header that tells it. script(1).
use Rattle.std.specs.Prelude.{◌≡◌, ℕ, Bool, ◌&&◌, ◌||◌, List, [], ◌∷◌, ◌++◌, codes, drop, length, nat_eq, nat_le, nat_lt, ◌==◌, Option, Some, None, if◌then◌else◌}
use Rattle.std.specs.Fmt.{decimal}
use Rattle.std.specs.List.{after_first, before_first, position_or_len, starts_with}
use Rattle.tape_core.specs.Text.{number_of}
use Rattle.tape_import.specs.Dates.{TellsDate}
use Rattle.tape_import.specs.declared.facts.Facts.{Facts}
use Rattle.tape_import.specs.declared.facts.Size.{Size}

-- A size has from 1 to 9,999 columns and lines (ours).
abbrev pub side : Option ℕ → Option ℕ
side None = None
side (Some n) = if nat_le 1 n && nat_le n 9999 then Some n else None

abbrev pub size_of : Option ℕ → Option ℕ → Option Size
size_of None lines = None
size_of (Some columns) None = None
size_of (Some columns) (Some lines) = Some (record { columns = columns; lines = lines })

-- What stands before and behind the first such byte, where there is one.
abbrev pub parted : ℕ → List ℕ → Option (List ℕ × List ℕ)
parted byte text =
    if nat_lt (position_or_len (λ b. b == byte) text) (length text)
    then Some (before_first (λ b. b == byte) text, after_first (λ b. b == byte) text)
    else None

-- ESC [ 8 ; LINES ; COLUMNS t asks a terminal to take that size: the front of the text is read behind ESC [ 8 ;.
-- xterm.
abbrev pub columns_then : Option ℕ → Option (List ℕ × List ℕ) → Option Size
columns_then lines None = None
columns_then lines (Some cut) = size_of (side (number_of (cut.0))) lines

abbrev pub lines_then : Option (List ℕ × List ℕ) → Option Size
lines_then None = None
lines_then (Some cut) = columns_then (side (number_of (cut.0))) (parted 116 (cut.1))

abbrev pub asked_size : List ℕ → Option Size
asked_size text =
    if starts_with nat_eq text (27 ∷ codes "[8;") then lines_then (parted 59 (drop 4 text)) else None

-- A text without the choice of UTF-8, or of no UTF-8, at its front: ESC % G, ESC % @. ECMA-35.
abbrev pub without_choice : List ℕ → List ℕ
without_choice text =
    if starts_with nat_eq text (27 ∷ codes "%G") || starts_with nat_eq text (27 ∷ codes "%@") then drop 3 text
    else text

-- The size that the front of a text asks for, as a recorder that knows it writes first. ttyrec(1), termrec(1).
abbrev pub reported_size : List ℕ → Option Size
reported_size text = asked_size (without_choice text)

-- What the header says behind the date: `TERM="T"`, `COLUMNS="C" LINES="L"`. script(1).
abbrev pub term_text : List ℕ → List ℕ
term_text term = codes "TERM=" ++ 34 ∷ term ++ 34 ∷ []

abbrev pub size_text : Size → List ℕ
size_text size =
    codes "COLUMNS=" ++ 34 ∷ decimal size.columns ++ 34 ∷ codes " LINES=" ++ 34 ∷ decimal size.lines ++ 34 ∷ []

abbrev pub told_text : Option (List ℕ) → Option Size → List ℕ
told_text None None = []
told_text (Some term) None = codes " [" ++ term_text term ++ codes "]"
told_text None (Some size) = codes " [" ++ size_text size ++ codes "]"
told_text (Some term) (Some size) = codes " [" ++ term_text term ++ 32 ∷ size_text size ++ codes "]"

-- The header tells these facts: `Script started on DATE [TERM="T" COLUMNS="C" LINES="L"]`, without what isn't told.
-- script(1).
pub record IsHeaderOf (facts : Facts) (header : List ℕ) : Type 0 where
  pub date : List ℕ
  pub dated : TellsDate facts.date date
  pub spelled : header ≡ codes "Script started on " ++ date ++ told_text facts.term facts.size ++ 10 ∷ []

-- A byte that may stand in a terminal's name, which no header's other words hold (ours).
abbrev pub is_term_byte : ℕ → Bool
is_term_byte b =
    (nat_le 48 b && nat_le b 57) || (nat_le 65 b && nat_le b 90) || (nat_le 97 b && nat_le b 122)
    || (b == 46) || (b == 95) || (b == 43) || (b == 45)
