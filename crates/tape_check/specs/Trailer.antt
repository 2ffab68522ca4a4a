-- What stands behind the last chunk of a recording. script(1): an LF, `Script done on ` and the rest of a line.
use Rattle.std.specs.Prelude.{ℕ, ◌+◌, Bool, true, ◌==◌, ◌&&◌, nat_eq, List, [], ◌∷◌, length, drop, count_by, position}
use Rattle.std.specs.List.{starts_with}
use Rattle.std.specs.Option.{option_map_or}
use Rattle.tape_core.specs.Text.{lines_of}
use Rattle.tape_check.specs.declared.words.Word.TheVariants as word
use Rattle.tape_check.specs.Words.{text_of}
use Rattle.tape_check.specs.Header.{is_scripts}

-- no LF but at its end
abbrev pub is_last_line : List ℕ → Bool
is_last_line text = option_map_or (λ at. at + 1 == length text) (position (λ byte. byte == 10) text) true

-- nothing, or the closing line of script(1)
abbrev pub is_usual : List ℕ → Bool
is_usual [] = true
is_usual (byte ∷ rest) =
    starts_with nat_eq (byte ∷ rest) (text_of word.Closing)
    && is_last_line (drop (length (text_of word.Closing)) (byte ∷ rest))

-- how many further sessions begin in it: its lines that begin as a header of script(1) does
unfoldable pub sessions_in : List ℕ → ℕ
sessions_in trailer = count_by is_scripts (lines_of trailer)
