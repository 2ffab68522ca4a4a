-- Where a text came to stand in a recording, where it went, and where it stood between two bytes of a chunk alone (ours).
use Rattle.std.specs.Prelude.{◌≡◌, ℕ, ◌+◌, ◌&&◌, ◌==◌, ◌≤◌, Bool, true, List, [], ◌++◌, Option, Some, None, filter, length, map, not, slice_index_or, take, if◌then◌else◌}
use Rattle.std.specs.List.{All, Contains, flat_map, list_any, range_with_len}
use Rattle.tape_core.specs.Due.{bytes_at, due_count, due_time}
use Rattle.tape_core.specs.Tape.{Tape}
use Rattle.chunk_walk.specs.Walk.{asked_places}
use Rattle.tape_seek.specs.Moments.{up_to}
use Rattle.vt_term.specs.declared.profile.Profile.{Profile}
use Rattle.vt_term.specs.Term.{Term, play}
use Rattle.screen_print.specs.declared.standing.Place.{Place}
use Rattle.screen_print.specs.FindLines.{count_left, found_line, is_less, left_of, less_lines, place_in, standing}
use Rattle.screen_print.specs.Stills.{Still, still_of}

-- what stands on the screen of a term after the first so many of these bytes
abbrev pub still_within : Term → List ℕ → ℕ → Still
still_within x bytes count = still_of (play x (take count bytes)).console

-- the places of one screen that are less on the other
abbrev pub less : Still → List Place → Still → List Place → List Place
less one places other others =
    map (λ n. slice_index_or places n (place_in 1 1))
    (filter (is_less one places other others) (range_with_len 0 (length places)))

-- the places of a text on one screen that are less on the other
unfoldable pub gone : List ℕ → Still → Still → List Place
gone text one other = less one (standing text one) other (standing text other)

-- whether nothing among these places has the same to the left
abbrev pub is_lone : Still → List Place → List ℕ → Bool
is_lone still places left = count_left still places left == 0

-- those that have a left part which none has on two further screens
unfoldable pub passed : List ℕ → Still → Still → Still → Still → List Place
passed text first last one other =
    filter (λ place. is_lone first (standing text first) (left_of one place) && is_lone last (standing text last) (left_of one place))
    (gone text one other)

-- ---- what is found

-- a sign, the chunk's place and when it is due, and a place on a screen
pub record Found : Type 0 where
  pub sign : ℕ
  pub index : ℕ
  pub due : ℕ
  pub still : Still
  pub place : Place

abbrev pub found : ℕ → ℕ → ℕ → Still → Place → Found
found sign index due still place = record { sign = sign; index = index; due = due; still = still; place = place }

-- ~ for what went at a byte, by the screens before and after it, that stood at neither end of the chunk
abbrev pub passed_at : List ℕ → ℕ → ℕ → Term → List ℕ → ℕ → List Found
passed_at text index due x bytes count =
    let one = still_within x bytes count in
    map (found 126 index due one)
    (passed text (still_within x bytes 0) (still_within x bytes (length bytes)) one (still_within x bytes (count + 1)))

abbrev pub all_passed : List ℕ → ℕ → ℕ → Term → List ℕ → List Found
all_passed text index due x bytes = flat_map (passed_at text index due x bytes) (range_with_len 0 (length bytes))

-- what is found in a chunk: - for what went in it, ~ for what came and went inside it, + for what came
unfoldable pub found_in : List ℕ → ℕ → ℕ → Term → List ℕ → List Found
found_in text index due x bytes =
    let before = still_within x bytes 0 in
    let after = still_within x bytes (length bytes) in
    map (found 45 index due before) (gone text before after)
    ++ all_passed text index due x bytes
    ++ map (found 43 index due after) (gone text after before)

-- that in the chunk at a place of a recording
abbrev pub found_of : List ℕ → Profile → Tape → ℕ → List Found
found_of text profile tape index =
    found_in text index (due_time tape.chunks index) (up_to profile tape.chunks index) (bytes_at tape.chunks index)

-- = for what stands at a moment
abbrev pub still_from : Profile → Tape → ℕ → Still
still_from profile tape moment = still_of (up_to profile tape.chunks (due_count tape.chunks moment)).console

unfoldable pub found_from : List ℕ → Profile → Tape → Option ℕ → List Found
found_from text profile tape None = []
found_from text profile tape (Some moment) =
    let still = still_from profile tape moment in
    map (found 61 (due_count tape.chunks moment) moment still) (standing text still)

-- all that is found: what stands at the moment `from`, and what is found in the chunks that are asked for
unfoldable pub all_found : Profile → Tape → Option ℕ → ℕ → List ℕ → List Found
all_found profile tape from to text =
    found_from text profile tape from ++ flat_map (found_of text profile tape) (asked_places tape from to)

-- its lines
abbrev pub found_text : ℕ → Found → List ℕ
found_text len f = found_line f.sign f.index f.due len f.still f.place

unfoldable pub find_lines : Profile → Tape → Option ℕ → ℕ → List ℕ → List ℕ
find_lines profile tape from to text = flat_map (found_text (length text)) (all_found profile tape from to text)

-- ---- laws

-- a text with a character that isn't a space
abbrev pub has_ink : List ℕ → Bool
has_ink text = list_any (λ c. not (c == 32)) text

-- a text stands nowhere: not at the moment `from`, and not after any byte of a chunk that is asked for
pub record StandsNowhere (profile : Profile) (tape : Tape) (from : Option ℕ) (to : ℕ) (text : List ℕ) : Type 0 where
  pub start : (moment : ℕ) → from ≡ Some moment → standing text (still_from profile tape moment) ≡ []
  pub within : (index count : ℕ) → Contains (asked_places tape from to) index → count ≤ length (bytes_at tape.chunks index)
      → standing text (still_within (up_to profile tape.chunks index) (bytes_at tape.chunks index) count) ≡ []

-- where no line is written, it stands nowhere
abbrev pub NowhereMeansNowhere : Type 0
NowhereMeansNowhere =
    (profile : Profile) (tape : Tape) (from : Option ℕ) (to : ℕ) (text : List ℕ) → has_ink text ≡ true
    → find_lines profile tape from to text ≡ [] → StandsNowhere profile tape from to text

-- what is found stood at its place after some byte of its chunk, or before the first
pub record Stood (profile : Profile) (tape : Tape) (text : List ℕ) (f : Found) : Type 0 where
  pub stands : Contains (standing text f.still) f.place
  pub seen : (count : ℕ) × (f.still ≡ still_within (up_to profile tape.chunks f.index) (bytes_at tape.chunks f.index) count)

abbrev pub WhatIsFoundStood : Type 0
WhatIsFoundStood =
    (profile : Profile) (tape : Tape) (from : Option ℕ) (to : ℕ) (text : List ℕ)
    → All (Stood profile tape text) (all_found profile tape from to text)

-- ---- the lines, as they are written

-- the line of place n, where it went at a byte and has a left part that none has at the chunk's ends
abbrev pub passed_line : ℕ → ℕ → ℕ → Still → List Place → Still → List Place → Still → List Place → Still → List Place → ℕ → List ℕ
passed_line index due len first firsts last lasts one places other others n =
    let place = slice_index_or places n (place_in 1 1) in
    if is_less one places other others n
    then (if is_lone first firsts (left_of one place) && is_lone last lasts (left_of one place) then found_line 126 index due len one place else [])
    else []

abbrev pub passed_lines : ℕ → ℕ → ℕ → Still → List Place → Still → List Place → Still → List Place → Still → List Place → List ℕ
passed_lines index due len first firsts last lasts one places other others =
    flat_map (passed_line index due len first firsts last lasts one places other others) (range_with_len 0 (length places))

-- those of the byte behind so many
abbrev pub byte_lines : List ℕ → ℕ → ℕ → Still → List Place → Still → List Place → Term → List ℕ → ℕ → List ℕ
byte_lines text index due first firsts last lasts x bytes count =
    let one = still_within x bytes count in
    let other = still_within x bytes (count + 1) in
    passed_lines index due (length text) first firsts last lasts one (standing text one) other (standing text other)

-- those of a chunk
abbrev pub chunk_lines : List ℕ → ℕ → ℕ → Term → List ℕ → List ℕ
chunk_lines text index due x bytes =
    let first = still_within x bytes 0 in
    let last = still_within x bytes (length bytes) in
    let firsts = standing text first in
    let lasts = standing text last in
    less_lines 45 index due (length text) first firsts last lasts
    ++ flat_map (byte_lines text index due first firsts last lasts x bytes) (range_with_len 0 (length bytes))
    ++ less_lines 43 index due (length text) last lasts first firsts

-- that of a chunk of a recording
abbrev pub chunk_lines_at : List ℕ → Profile → Tape → ℕ → List ℕ
chunk_lines_at text profile tape index =
    chunk_lines text index (due_time tape.chunks index) (up_to profile tape.chunks index) (bytes_at tape.chunks index)

-- those of what stands at a moment
abbrev pub standing_lines : List ℕ → ℕ → ℕ → Still → List ℕ
standing_lines text index moment still = flat_map (found_line 61 index moment (length text) still) (standing text still)

abbrev pub from_lines : List ℕ → Still → ℕ → Option ℕ → List ℕ
from_lines text still index None = []
from_lines text still index (Some moment) = standing_lines text index moment still
