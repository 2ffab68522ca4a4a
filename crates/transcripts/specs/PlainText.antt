-- Plain text, as a law of each terminal speaks of it: what went in as lines comes out as lines.
use Rattle.std.specs.Prelude.{◌≡◌, ℕ, ◌-◌, ◌≤◌, ◌==◌, true, List, [], ◌∷◌, ◌++◌, length, take}
use Rattle.std.specs.List.{list_all, suffix_len}
use Rattle.vt_parser.specs.Syntax.{is_graphic}

-- printable ASCII, no longer than the columns
pub record IsPlainLine (columns : ℕ) (line : List ℕ) : Type 0 where
  pub graphic : list_all is_graphic line ≡ true
  pub short : length line ≤ columns

-- lines with CR LF between them
abbrev pub with_line_ends : List ℕ → List (List ℕ) → List ℕ
with_line_ends line [] = line
with_line_ends line (next ∷ rest) = line ++ 13 ∷ 10 ∷ with_line_ends next rest

-- a line without the spaces at its end
abbrev pub without_spaces : List ℕ → List ℕ
without_spaces line = take (length line - suffix_len (λ byte. byte == 32) line) line
