-- Where a text came to stand in a recording, where it went, and where it stood between two bytes of a chunk alone: on any
-- terminal, by the rows of characters that it shows (ours).
use Rattle.std.specs.Prelude.{◌≡◌, ℕ, ◌+◌, ◌==◌, ◌≤◌, Bool, true, List, [], ◌++◌, Option, Some, None, length, map, not, take}
use Rattle.std.specs.List.{All, Contains, flat_map, list_any, range_with_len}
use Rattle.tape_core.specs.Due.{bytes_at, due_count, due_time, first}
use Rattle.tape_core.specs.Tape.{Tape}
use Rattle.chunk_walk.specs.Walk.{asked_places}
use Rattle.standings.specs.Found.{Found, found, found_text}
use Rattle.standings.specs.Rows.{Row}
use Rattle.standings.specs.Standing.{gone, passed, standing}

-- the rows that a terminal shows, by its profile and all bytes that were played
abbrev pub Screens : Type 0 → Type 0
Screens P = P → List ℕ → List Row

-- those behind so many of these bytes, where others were played before
abbrev pub rows_within : (List ℕ → List Row) → List ℕ → List ℕ → ℕ → List Row
rows_within screen before bytes count = screen (before ++ take count bytes)

-- ---- what is found

-- ~ for what went at a byte, by the screens before and after it, that stood at neither end of the chunk
abbrev pub passed_at : List ℕ → ℕ → ℕ → (List ℕ → List Row) → List ℕ → List ℕ → ℕ → List Found
passed_at text index due screen before bytes count =
    let one = rows_within screen before bytes count in
    map (found 126 index due one)
    (passed text (rows_within screen before bytes 0) (rows_within screen before bytes (length bytes)) one (rows_within screen before bytes (count + 1)))

abbrev pub all_passed : List ℕ → ℕ → ℕ → (List ℕ → List Row) → List ℕ → List ℕ → List Found
all_passed text index due screen before bytes = flat_map (passed_at text index due screen before bytes) (range_with_len 0 (length bytes))

-- what is found in a chunk: - for what went in it, ~ for what came and went inside it, + for what came
unfoldable pub found_in : List ℕ → ℕ → ℕ → (List ℕ → List Row) → List ℕ → List ℕ → List Found
found_in text index due screen before bytes =
    let one = rows_within screen before bytes 0 in
    let other = rows_within screen before bytes (length bytes) in
    map (found 45 index due one) (gone text one other)
    ++ all_passed text index due screen before bytes
    ++ map (found 43 index due other) (gone text other one)

-- that in the chunk at a place of a recording
abbrev pub found_of : {P : Type 0} → Screens P → P → Tape → List ℕ → ℕ → List Found
found_of screens profile tape text index =
    found_in text index (due_time tape.chunks index) (screens profile) (first tape.chunks index) (bytes_at tape.chunks index)

-- the rows at a moment
abbrev pub rows_from : {P : Type 0} → Screens P → P → Tape → ℕ → List Row
rows_from screens profile tape moment = screens profile (first tape.chunks (due_count tape.chunks moment))

-- = for what stands at a moment
unfoldable pub found_from : {P : Type 0} → Screens P → P → Tape → List ℕ → Option ℕ → List Found
found_from screens profile tape text None = []
found_from screens profile tape text (Some moment) =
    let rows = rows_from screens profile tape moment in
    map (found 61 (due_count tape.chunks moment) moment rows) (standing text rows)

-- all that is found: what stands at the moment `from`, and what is found in the chunks that are asked for
unfoldable pub all_found : {P : Type 0} → Screens P → P → Tape → Option ℕ → ℕ → List ℕ → List Found
all_found screens profile tape from to text =
    found_from screens profile tape text from ++ flat_map (found_of screens profile tape text) (asked_places tape from to)

-- its lines
unfoldable pub lines_found : {P : Type 0} → Screens P → P → Tape → Option ℕ → ℕ → List ℕ → List ℕ
lines_found screens profile tape from to text = flat_map (found_text (length text)) (all_found screens profile tape from to text)

-- ---- laws

-- a text with a character that isn't a space
abbrev pub has_ink : List ℕ → Bool
has_ink text = list_any (λ c. not (c == 32)) text

-- where nothing was played a text with ink stands nowhere
abbrev pub BeginsBlank : {P : Type 0} → Screens P → Type 0
BeginsBlank {P} screens = (profile : P) (text : List ℕ) → has_ink text ≡ true → standing text (screens profile []) ≡ []

-- a text stands nowhere: not at the moment `from`, and not after any byte of a chunk that is asked for
pub record NowhereOn {P : Type 0} (screens : Screens P) (profile : P) (tape : Tape) (from : Option ℕ) (to : ℕ) (text : List ℕ)
    : Type 0 where
  pub start : (moment : ℕ) → from ≡ Some moment → standing text (rows_from screens profile tape moment) ≡ []
  pub within : (index count : ℕ) → Contains (asked_places tape from to) index → count ≤ length (bytes_at tape.chunks index)
      → standing text (rows_within (screens profile) (first tape.chunks index) (bytes_at tape.chunks index) count) ≡ []

-- where no line is written, it stands nowhere
abbrev pub NowhereMeansNowhere : {P : Type 0} → Screens P → Type 0
NowhereMeansNowhere {P} screens =
    (profile : P) (tape : Tape) (from : Option ℕ) (to : ℕ) (text : List ℕ) → has_ink text ≡ true
    → lines_found screens profile tape from to text ≡ [] → NowhereOn screens profile tape from to text

-- what is found stood at its place after some byte of its chunk, or before the first
pub record StoodOn {P : Type 0} (screens : Screens P) (profile : P) (tape : Tape) (text : List ℕ) (f : Found) : Type 0 where
  pub stands : Contains (standing text f.rows) f.place
  pub seen : (count : ℕ) × (f.rows ≡ rows_within (screens profile) (first tape.chunks f.index) (bytes_at tape.chunks f.index) count)

abbrev pub WhatIsFoundStood : {P : Type 0} → Screens P → Type 0
WhatIsFoundStood {P} screens =
    (profile : P) (tape : Tape) (from : Option ℕ) (to : ℕ) (text : List ℕ)
    → All (StoodOn screens profile tape text) (all_found screens profile tape from to text)
