-- Private: screens that lack some characters side by side, a key, and bytes after each of which they still do.
use Rattle.std.specs.Prelude.{◌≡◌, ◌≢◌, ℕ, ◌+◌, ◌-◌, ◌/◌, ◌<◌, ◌≤◌, Bool, false, List, [], ◌∷◌, ◌++◌, ◌||◌, ◌&&◌, ◌==◌, IfSome, Option, drop, length, nat_eq, slice_index_or, take, true}
use Rattle.std.specs.List.{list_all, list_any, starts_with}
use Rattle.vt_parser.specs.Syntax.{is_graphic, is_within}
use Rattle.vt_screen.specs.declared.cell.Row.{Row}
use Rattle.vt_screen.specs.Cells.{row_at}
use Rattle.vt_screen.specs.Limits.{wide_columns}
use Rattle.vt_screen.specs.Picture.{Picture, cell, right_margin}
use Rattle.vt_term.specs.declared.profile.Profile.TheVariants.{Vt100}
use Rattle.vt_term.specs.Term.{Term, play}
use Rattle.screen_print.specs.declared.key.Ending.{Ending}
use Rattle.screen_print.specs.declared.key.Key.{Key}
use Rattle.screen_print.specs.declared.key.Keys.{Keys}
use Rattle.screen_print.specs.EachByte.{still_within}
use Rattle.screen_print.specs.FindLines.{begins, standing}
use Rattle.screen_print.specs.Start.{IsStart}
use Rattle.screen_rows.specs.Glyphs.{character}
use Rattle.screen_rows.specs.RowText.{row_text}

-- whether a character is one of these
abbrev pub is_in : List ℕ → ℕ → Bool
is_in chars c = list_any (λ x. nat_eq x c) chars

-- half of a key, the greater one
abbrev pub half : List ℕ → ℕ
half key = (length key + 1) / 2

-- a row in which half of a key stands nowhere with the rest behind it, as far as the row goes, and that doesn't begin with
-- what is behind less than half of it: whatever row stands beside it, the key doesn't stand in both
pub record Misses (key row : List ℕ) : Type 0 where
  pub inside : (rest : List ℕ) (column : ℕ) → 0 < column → column - 1 + half key ≤ length row → begins key (row ++ rest) column ≡ false
  pub start : (n : ℕ) → 1 ≤ n → n < half key → starts_with nat_eq row (drop n key) ≡ false

-- a row in which a key doesn't stand, nor in two such side by side
pub record RowLacks (key : List ℕ) (wide : Bool) (row : Row) : Type 0 where
  pub whole : length row.cells ≡ wide_columns
  pub misses : Misses key (row_text wide row)

-- so it is with all rows of a screen
pub record ScreenLacks (key : List ℕ) (p : Picture) : Type 0 where
  pub row : (line : ℕ) → RowLacks key p.wide (row_at p.rows line)

-- a key: it has a character, and none is a space or the error character; it stands in two rows at most
pub record IsKey (key : List ℕ) : Type 0 where
  pub some : 1 ≤ length key
  pub short : length key ≤ 40
  pub inked : is_in key 32 ≡ false
  pub sound : is_in key 9618 ≡ false

-- some characters side by side of a text
abbrev pub IsPart : List ℕ → List ℕ → Type 0
IsPart part text = (before : ℕ) × (before + length part ≤ length text) × (take (length part) (drop before text) ≡ part)

-- a byte that begins no escape sequence of line sizes, and that no character set shows as a character of a key
pub record IsPlain (key : List ℕ) (byte : ℕ) : Type 0 where
  pub unmarked : byte ≢ 35
  pub ascii : is_in key (character byte) ≡ false
  pub drawn : 95 ≤ byte → is_in key (character (byte - 95)) ≡ false

-- a VT100 with nothing pending that a byte makes change all of a screen's rows
pub record IsCalm (x : Term) : Type 0 where
  pub profile : x.console.profile ≡ Vt100
  pub over : x.console.modes.insert ≡ false
  pub pending : drop 1 x.pending ≢ 35 ∷ []

-- a graphic character, or a control from BS to SI: on ground none begins a sequence
abbrev pub is_text : ℕ → Bool
is_text byte = is_graphic byte || is_within 8 15 byte

-- such a byte that is plain
pub record IsRunning (key : List ℕ) (byte : ℕ) : Type 0 where
  pub plain : IsPlain key byte
  pub text : is_text byte ≡ true

-- the final bytes of the sequences to which there is a reply: Z, c, n and x
abbrev pub is_asking : ℕ → Bool
is_asking byte = (byte == 90) || (byte == 99) || (byte == 110) || (byte == 120)

-- another byte that is plain
pub record IsMute (key : List ℕ) (byte : ℕ) : Type 0 where
  pub plain : IsPlain key byte
  pub unasked : is_asking byte ≡ false

-- the last two characters of a key, which ASCII has behind the space
pub record IsEnding (key : List ℕ) (ending : Ending) : Type 0 where
  pub long : 2 ≤ length key
  pub near : slice_index_or key (length key - 2) 0 ≡ ending.near
  pub last : slice_index_or key (length key - 1) 0 ≡ ending.last
  pub near_low : 33 ≤ ending.near
  pub near_high : ending.near < 127
  pub last_low : 33 ≤ ending.last
  pub last_high : ending.last < 127

-- whether two bytes show an ending
abbrev pub is_pair : Ending → ℕ → ℕ → Bool
is_pair ending one two = (one == ending.near) && (two == ending.last)

-- graphic characters that go over blank cells, before the right margin, and show no ending
pub record IsFree (ending : Ending) (p : Picture) (bytes : List ℕ) : Type 0 where
  pub wrap : p.wrap ≡ false
  pub room : p.column + length bytes ≤ right_margin p p.line
  pub blank : (column : ℕ) → p.column < column → column ≤ p.column + length bytes → (cell p p.line column).glyph ≡ 32
  pub first : 1 < p.column → is_pair ending (cell p p.line (p.column - 1)).glyph (slice_index_or bytes 0 0) ≡ false
  pub pairs : (k : ℕ) → k + 1 < length bytes → is_pair ending (slice_index_or bytes k 0) (slice_index_or bytes (k + 1) 0) ≡ false
  pub graphic : list_all is_graphic bytes ≡ true

-- a key, how it begins, which bytes aren't plain, and which aren't plain text, or aren't mute
pub record IsKeyed (key : Key) : Type 0 where
  pub proper : IsKey key.chars.now
  pub start : IsStart key.chars.now key.start
  pub ending : IfSome key.ending (IsEnding key.chars.now)
  pub marks : (byte : ℕ) → byte < 256 → slice_index_or key.marks byte false ≡ false → IsPlain key.chars.now byte
  pub stops : (byte : ℕ) → byte < 256 → slice_index_or key.stops byte false ≡ false → IsRunning key.chars.now byte
  pub pauses : (byte : ℕ) → byte < 256 → slice_index_or key.pauses byte false ≡ false → IsMute key.chars.now byte

-- a key of a text, if there is one
pub record IsKeyOfText (text : List ℕ) (key : Key) : Type 0 where
  pub keyed : IsKeyed key
  pub part : IsPart key.chars.now text

abbrev pub IsKeyOf : List ℕ → Option Key → Type 0
IsKeyOf text key = IfSome key (IsKeyOfText text)

-- the keys of a text, as far as it has them
pub record AreKeysOf (text : List ℕ) (keys : Keys) : Type 0 where
  pub word : IsKeyOf text keys.word
  pub front : IsKeyOf text keys.front
  pub other : IsKeyOf text keys.other
  pub pair : IsKeyOf text keys.pair

-- a key of a text that a screen lacks
pub record IsLacked (text : List ℕ) (key : Key) (p : Picture) : Type 0 where
  pub keyed : IsKeyed key
  pub part : IsPart key.chars.now text
  pub lacks : ScreenLacks key.chars.now p

-- a text stands nowhere, however many of these bytes were played
abbrev pub NowhereIn : List ℕ → Term → List ℕ → Type 0
NowhereIn text x bytes = (count : ℕ) → standing text (still_within x bytes count) ≡ []

-- the same up to so many bytes
abbrev pub NowhereUpTo : List ℕ → Term → List ℕ → ℕ → Type 0
NowhereUpTo text x bytes n = (count : ℕ) → count ≤ n → standing text (still_within x bytes count) ≡ []

-- the screen lacks a key, however many of these bytes were played, up to so many
abbrev pub LacksUpTo : List ℕ → Term → List ℕ → ℕ → Type 0
LacksUpTo key x bytes n = (count : ℕ) → count ≤ n → ScreenLacks key (play x (take count bytes)).console.picture
