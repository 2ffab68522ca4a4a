-- Where a text came to stand in a recording, where it went, and where it stood between two bytes of a chunk alone (ours).
use Rattle.std.specs.Prelude.{◌≡◌, ℕ, Bool, List, Option, [], true}
use Rattle.tape_core.specs.Tape.{Tape}
use Rattle.text_find.specs.FindLines.{NowhereOn, has_ink as is_inked, lines_found}
use Rattle.xterm_term.specs.declared.measure.Size.{Size}
use Rattle.xterm_print.specs.FindRows.{rows_shown}

-- the find lines
unfoldable pub find_lines : Size → Tape → Option ℕ → ℕ → List ℕ → List ℕ
find_lines size tape from to text = lines_found rows_shown size tape from to text

-- a text with a character that isn't a space
abbrev pub has_ink : List ℕ → Bool
has_ink text = is_inked text

-- a text stands nowhere: not at the moment `from`, and not after any byte of a chunk that is asked for
abbrev pub StandsNowhere : Size → Tape → Option ℕ → ℕ → List ℕ → Type 0
StandsNowhere size tape from to text = NowhereOn rows_shown size tape from to text

-- where no line is written, it stands nowhere
abbrev pub NowhereMeansNowhere : Type 0
NowhereMeansNowhere =
    (size : Size) (tape : Tape) (from : Option ℕ) (to : ℕ) (text : List ℕ) → has_ink text ≡ true
    → find_lines size tape from to text ≡ [] → StandsNowhere size tape from to text
