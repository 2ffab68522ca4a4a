-- Private: bytes at which nothing of a text passes inside a chunk.
use Rattle.std.specs.Prelude.{◌≡◌, ◌≢◌, ℕ, ◌<◌, ◌≤◌, Bool, false, true, List, [], ◌++◌, length, take}
use Rattle.std.specs.List.{flat_map, range_with_len}
use Rattle.standings.specs.Rows.{Row}
use Rattle.standings.specs.Standing.{standing}
use Rattle.standings.specs.declared.left.Standing.{Standing}
use Rattle.standings.specs.declared.place.Place.{Place}
use Rattle.tape_core.specs.Due.{bytes_at, first}
use Rattle.tape_core.specs.declared.chunk.Chunk.{Chunk}
use Rattle.text_find.specs.declared.behind.Steps.{Steps}
use Rattle.text_find.specs.declared.sides.Sides.{Sides}
use Rattle.text_find.specs.FindLines.{Screens}
use Rattle.text_find.specs.Lines.{AreBetween, AreStill, IsLagging, IsStill, IsTrailing, byte_lines}

-- no line tells of what went at each of so many bytes, inside a chunk that begins with such a screen, whatever its end is
abbrev pub NonePass : List ℕ → List Row → (List ℕ → List Row) → List ℕ → List ℕ → ℕ → Type 0
NonePass text first screen before bytes taken = (index due : ℕ) (last : List Row) (lasts : List Place) (count : ℕ) → count < taken
    → byte_lines text index due first (standing text first) last lasts screen before bytes count ≡ []

-- no line tells of what went at so many bytes of a chunk, whatever its end is
abbrev pub IsCalm : List ℕ → (List ℕ → List Row) → List ℕ → List ℕ → ℕ → Type 0
IsCalm text screen before bytes taken = (index due : ℕ) (last : List Row) (lasts : List Place)
    → flat_map (byte_lines text index due (screen before) (standing text (screen before)) last lasts screen before bytes) (range_with_len 0 taken) ≡ []

-- so at so many bytes of a chunk, and behind them, where they are some, it stands so
pub record HasStood (text : List ℕ) (screen : List ℕ → List Row) (before bytes : List ℕ) (start : ℕ) (stood : Standing) : Type 0 where
  pub calm : IsCalm text screen before bytes start
  pub still : 0 < start → IsStill text (screen (before ++ take start bytes)) stood

-- so at so many bytes of a chunk that a terminal has had behind the chunks before it, and what stands on it is told
pub record IsInside {P T : Type 0} (shows : P → T → List ℕ → Type 0) (screens : Screens P) (profile : P) (chunks : List Chunk) (index start : ℕ)
    (text : List ℕ) (behind : T) (steps : Steps) : Type 0 where
  pub played : shows profile behind (first chunks index ++ take start (bytes_at chunks index))
  pub still : AreStill text (screens profile (first chunks index ++ take start (bytes_at chunks index))) steps.sides
  pub calm : IsCalm text (screens profile) (first chunks index) (bytes_at chunks index) start
  pub count : steps.count ≡ index

-- so many bytes of a chunk were played ahead
pub record IsAhead {P T : Type 0} (shows : P → T → List ℕ → Type 0) (screens : Screens P) (profile : P) (text before bytes : List ℕ)
    (taken : ℕ) (ahead : T) (ends : Sides) : Type 0 where
  pub played : shows profile ahead (before ++ take taken bytes)
  pub between : AreBetween text (screens profile before) (screens profile (before ++ take taken bytes)) ends

-- a piece of a chunk was played ahead, so many of the bytes, and where that is said surely no line tells of them, else what
-- stood before it is told, where the text stood
pub record IsPiece {P T : Type 0} (shows : P → T → List ℕ → Type 0) (screens : Screens P) (text bytes : List ℕ) (ends ends' : Sides) (steps steps' : Steps)
    (ahead ahead' : T) (taken : ℕ) (surely : Bool) : Type 0 where
  pub some : 0 < taken
  pub within : taken ≤ length bytes
  pub lags : IsLagging ends steps → IsLagging ends' steps'
  pub played : (profile : P) (before : List ℕ) → shows profile ahead before → shows profile ahead' (before ++ take taken bytes)
  pub between : (profile : P) (first before : List ℕ) → shows profile ahead before → AreBetween text (screens profile first) (screens profile before) ends
      → AreBetween text (screens profile first) (screens profile (before ++ take taken bytes)) ends'
  pub trails : (profile : P) (first before : List ℕ) → shows profile ahead before → AreBetween text (screens profile first) (screens profile before) ends
      → IsTrailing text ends steps → IsTrailing text ends' steps'
  pub calm : (profile : P) (first before : List ℕ) → shows profile ahead before → AreBetween text (screens profile first) (screens profile before) ends
      → IsTrailing text ends steps → surely ≡ true → NonePass text (screens profile first) (screens profile) before bytes taken
  pub stood : (profile : P) (first before : List ℕ) → shows profile ahead before → AreBetween text (screens profile first) (screens profile before) ends
      → IsTrailing text ends steps → surely ≡ false → ends.after.places.items ≢ [] → IsStill text (screens profile before) steps'.sides.before
