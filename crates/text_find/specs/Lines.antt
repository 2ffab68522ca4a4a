-- Private: the find lines, as they are written.
use Rattle.std.specs.Prelude.{◌≡◌, ◌⊎◌, ℕ, ◌+◌, ◌≤◌, ◌&&◌, List, [], ◌++◌, Option, Some, None, if◌then◌else◌, length}
use Rattle.std.specs.List.{flat_map, range_with_len}
use Rattle.tape_core.specs.Devices.{Gave}
use Rattle.tape_core.specs.Due.{bytes_at, due_time, first}
use Rattle.tape_core.specs.Tape.{Tape}
use Rattle.tape_core.specs.declared.chunk.Chunk.{Chunk}
use Rattle.tape_core.specs.declared.devices.Watched.{Watched}
use Rattle.standings.specs.Found.{found_line}
use Rattle.standings.specs.Lag.{Lags}
use Rattle.standings.specs.Rows.{Row}
use Rattle.standings.specs.Standing.{is_less, is_lone, left_of, place_at, standing}
use Rattle.standings.specs.declared.left.Standing.{Standing}
use Rattle.standings.specs.declared.place.Place.{Place}
use Rattle.text_find.specs.declared.behind.Steps.{Steps}
use Rattle.text_find.specs.declared.sides.Sides.{Sides}
use Rattle.text_find.specs.FindLines.{Screens, rows_within}

-- a beginning of a text was given
pub record Began {T : Type 0} (contents : T → Option (List ℕ)) (old new : Watched T) (text : List ℕ) : Type 0 where
  pub front : List ℕ
  pub rest : List ℕ
  pub cut : text ≡ front ++ rest
  pub gave : Gave contents old new front

-- this tells the rows of a screen, and where a text stands on it
pub record IsStill (text : List ℕ) (screen : List Row) (still : Standing) : Type 0 where
  pub rows : still.rows.items ≡ screen
  pub places : still.places.items ≡ standing text screen

-- and this where a text stands on it, but where that is nowhere the rows may be those of another screen on which it stands nowhere
pub record IsHeld (text : List ℕ) (screen : List Row) (still : Standing) : Type 0 where
  pub places : still.places.items ≡ standing text screen
  pub stood : still.places.items ≡ standing text still.rows.items
  pub rows : (still.places.items ≡ []) ⊎ (still.rows.items ≡ screen)

-- these tell two screens, and how the rows before lag behind those after
pub record AreBetween (text : List ℕ) (one other : List Row) (sides : Sides) : Type 0 where
  pub before : IsHeld text one sides.before
  pub after : IsStill text other sides.after
  pub lag : Lags sides.lag sides.before.rows.items sides.after.rows.items

-- and these one
abbrev pub AreStill : List ℕ → List Row → Sides → Type 0
AreStill text screen sides = AreBetween text screen screen sides

-- what stood before a piece lags so behind what is played ahead, and behind what stood after it
pub record IsLagging (ends : Sides) (steps : Steps) : Type 0 where
  pub before : Lags steps.lag steps.sides.before.rows.items ends.after.rows.items
  pub after : Lags steps.sides.lag steps.sides.before.rows.items steps.sides.after.rows.items

-- and it tells where a text stands on its rows
pub record IsTrailing (text : List ℕ) (ends : Sides) (steps : Steps) : Type 0 where
  pub lags : IsLagging ends steps
  pub stood : steps.sides.before.places.items ≡ standing text steps.sides.before.rows.items

-- so many chunks were played ahead, and no more behind
pub record AreFound {P T : Type 0} (shows : P → T → List ℕ → Type 0) (screens : Screens P) (profile : P) (chunks : List Chunk) (index : ℕ)
    (text : List ℕ) (ahead : T) (ends : Sides) (behind : T) (steps : Steps) : Type 0 where
  pub played : shows profile ahead (first chunks index)
  pub still : AreStill text (screens profile (first chunks index)) ends
  pub count : steps.count ≤ index
  pub lagging : shows profile behind (first chunks steps.count)
  pub trails : IsTrailing text ends steps

-- a terminal has had as many chunks as its count says, and no more than so many
pub record IsLate {P T : Type 0} (shows : P → T → List ℕ → Type 0) (profile : P) (chunks : List Chunk) (index : ℕ)
    (behind : T) (steps : Steps) : Type 0 where
  pub count : steps.count ≤ index
  pub played : shows profile behind (first chunks steps.count)

-- a terminal has had so many chunks, and what stands on it is told
pub record IsReached {P T : Type 0} (shows : P → T → List ℕ → Type 0) (screens : Screens P) (profile : P) (chunks : List Chunk) (index : ℕ)
    (text : List ℕ) (behind : T) (steps : Steps) : Type 0 where
  pub played : shows profile behind (first chunks index)
  pub still : AreStill text (screens profile (first chunks index)) steps.sides
  pub count : steps.count ≡ index
  pub lag : steps.lag ≡ steps.sides.lag

-- the line of place n, where it is less on the other screen
abbrev pub less_line : ℕ → ℕ → ℕ → ℕ → List Row → List Place → List Row → List Place → ℕ → List ℕ
less_line sign index due len one places other others n =
    if is_less one places other others n then found_line sign index due len one (place_at places n) else []

abbrev pub less_lines : ℕ → ℕ → ℕ → ℕ → List Row → List Place → List Row → List Place → List ℕ
less_lines sign index due len one places other others =
    flat_map (less_line sign index due len one places other others) (range_with_len 0 (length places))

-- the line of place n, where it went at a byte and has a left part that none has at the chunk's ends
abbrev pub passed_line : ℕ → ℕ → ℕ → List Row → List Place → List Row → List Place → List Row → List Place → List Row → List Place → ℕ → List ℕ
passed_line index due len first firsts last lasts one places other others n =
    let place = place_at places n in
    if is_less one places other others n
    then (if is_lone first firsts (left_of one place) && is_lone last lasts (left_of one place) then found_line 126 index due len one place else [])
    else []

abbrev pub passed_lines : ℕ → ℕ → ℕ → List Row → List Place → List Row → List Place → List Row → List Place → List Row → List Place → List ℕ
passed_lines index due len first firsts last lasts one places other others =
    flat_map (passed_line index due len first firsts last lasts one places other others) (range_with_len 0 (length places))

-- those of the byte behind so many
abbrev pub byte_lines : List ℕ → ℕ → ℕ → List Row → List Place → List Row → List Place → (List ℕ → List Row) → List ℕ → List ℕ → ℕ → List ℕ
byte_lines text index due first firsts last lasts screen before bytes count =
    let one = rows_within screen before bytes count in
    let other = rows_within screen before bytes (count + 1) in
    passed_lines index due (length text) first firsts last lasts one (standing text one) other (standing text other)

-- those of a chunk's ends
abbrev pub end_lines : ℕ → ℕ → ℕ → List Row → List Place → List Row → List Place → List ℕ
end_lines index due len first firsts last lasts = less_lines 45 index due len first firsts last lasts ++ less_lines 43 index due len last lasts first firsts

-- those of a chunk
abbrev pub chunk_lines : List ℕ → ℕ → ℕ → (List ℕ → List Row) → List ℕ → List ℕ → List ℕ
chunk_lines text index due screen before bytes =
    let first = rows_within screen before bytes 0 in
    let last = rows_within screen before bytes (length bytes) in
    let firsts = standing text first in
    let lasts = standing text last in
    less_lines 45 index due (length text) first firsts last lasts
    ++ flat_map (byte_lines text index due first firsts last lasts screen before bytes) (range_with_len 0 (length bytes))
    ++ less_lines 43 index due (length text) last lasts first firsts

-- that of a chunk of a recording
abbrev pub chunk_lines_at : {P : Type 0} → List ℕ → Screens P → P → Tape → ℕ → List ℕ
chunk_lines_at text screens profile tape index =
    chunk_lines text index (due_time tape.chunks index) (screens profile) (first tape.chunks index) (bytes_at tape.chunks index)

-- those of what stands at a moment
abbrev pub standing_lines : ℕ → ℕ → ℕ → List Row → List Place → List ℕ
standing_lines len index moment rows places = flat_map (found_line 61 index moment len rows) places

abbrev pub from_lines : ℕ → List Row → List Place → ℕ → Option ℕ → List ℕ
from_lines len rows places index None = []
from_lines len rows places index (Some moment) = standing_lines len index moment rows places
