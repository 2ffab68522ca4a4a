-- The session as text: the rows that left the screen at its top, in order, and then those that stand (ours). A row is told
-- by its text, as the plain print has it, without LF.
use Rattle.std.specs.Prelude.{ℕ, List, [], ◌∷◌, ◌++◌, Option, None, Some, drop, length, min}
use Rattle.std.specs.List.{flat_map}
use Rattle.tape_core.specs.Due.{due_count, first}
use Rattle.tape_core.specs.Tape.{Tape}

-- ---- its text

-- a row before others: a blank one behind which nothing stands is left out
abbrev pub led_by : List ℕ → List (List ℕ) → List (List ℕ)
led_by [] [] = []
led_by [] (row ∷ rows) = [] ∷ row ∷ rows
led_by (byte ∷ text) rows = (byte ∷ text) ∷ rows

-- rows without the blank ones at their end
abbrev pub without_blank_end : List (List ℕ) → List (List ℕ)
without_blank_end [] = []
without_blank_end (row ∷ rows) = led_by row (without_blank_end rows)

-- a row as it is written
abbrev pub line : List ℕ → List ℕ
line row = row ++ 10 ∷ []

-- the text of rows
unfoldable pub text_of : List (List ℕ) → List ℕ
text_of rows = flat_map line (without_blank_end rows)

-- ---- its rows

-- the rows that leave at the latter bytes, by the terminal's profile and all bytes that were played before them
abbrev pub Leaving : Type 0 → Type 0
Leaving P = P → List ℕ → List ℕ → List (List ℕ)

-- the rows that stand on the main sheet, by the terminal's profile and all bytes that were played
abbrev pub Standing : Type 0 → Type 0
Standing P = P → List ℕ → List (List ℕ)

-- the rows that left by the first chunks
abbrev pub left_by : {P : Type 0} → Leaving P → P → Tape → ℕ → List (List ℕ)
left_by leaving profile tape count = leaving profile [] (first tape.chunks count)

-- of these, those that had not left by a smaller count
unfoldable pub left_between : {P : Type 0} → Leaving P → P → Tape → ℕ → ℕ → List (List ℕ)
left_between leaving profile tape start end = drop (length (left_by leaving profile tape start)) (left_by leaving profile tape end)

-- how many chunks are played: those that are due by the moment, or all
abbrev pub end_of : Tape → Option ℕ → ℕ
end_of tape None = length tape.chunks
end_of tape (Some to) = due_count tape.chunks to

-- how many of these are left out: those that are due by the earlier of both moments, or none
abbrev pub start_of : Tape → Option ℕ → ℕ → ℕ
start_of tape None end = 0
start_of tape (Some from) end = min (due_count tape.chunks from) end

-- the rows that left since then, and those that stand
abbrev pub rows_told : {P : Type 0} → Leaving P → Standing P → P → Tape → ℕ → ℕ → List (List ℕ)
rows_told leaving standing profile tape start end =
    left_between leaving profile tape start end ++ standing profile (first tape.chunks end)

-- the transcript
unfoldable pub transcript : {P : Type 0} → Leaving P → Standing P → P → Tape → Option ℕ → Option ℕ → List ℕ
transcript leaving standing profile tape from to =
    let end = end_of tape to in
    text_of (rows_told leaving standing profile tape (start_of tape from end) end)
