-- A line of each chunk that a strip plays (ours).
use Rattle.std.specs.Prelude.{ℕ, List, [], ◌∷◌, ◌++◌}
use Rattle.std.specs.Fmt.{decimal}
use Rattle.tape_core.specs.Written.{seconds_form}
use Rattle.seek_tests.specs.declared.strip.Setup.{Setup}
use Rattle.seek_tests.specs.Strip.{blank, play}

-- the cells of a strip that was played these bytes
abbrev pub cells_by : Setup → List ℕ → List ℕ
cells_by setup bytes = (play (blank setup.size) bytes).cells

-- the line of a chunk: its place, when it is due, the cells before it and after it
abbrev pub chunk_line : ℕ → ℕ → List ℕ → List ℕ → List ℕ
chunk_line index due before after =
    (decimal index ++ 32 ∷ seconds_form due) ++ (32 ∷ [] ++ before ++ 32 ∷ []) ++ (after ++ 10 ∷ [])

-- the same by the bytes that were played before it and by its end
abbrev pub line_by : Setup → ℕ → ℕ → List ℕ → List ℕ → List ℕ
line_by setup index due before after = chunk_line index due (cells_by setup before) (cells_by setup after)
