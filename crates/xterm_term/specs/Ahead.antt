-- What bytes will show, told before they are played.
use Rattle.std.specs.Prelude.{◌≡◌, ◌⊎◌, ℕ, ◌+◌, ◌<◌, ◌≤◌, ◌==◌, ◌&&◌, Bool, true, false, not, if◌then◌else◌, List, [], ◌∷◌, ◌++◌, length, take, Option, Some, None}
use Rattle.std.specs.List.{list_all}
use Rattle.std.specs.Option.{option_and_then, option_map_or}
use Rattle.characters.specs.declared.utf8.Reading.{Reading}
use Rattle.characters.specs.declared.utf8.Reading.TheVariants as read
use Rattle.characters.specs.Utf8.{begins, code_point, reading}
use Rattle.characters.specs.Width.{width}
use Rattle.vt_parser.specs.declared.states.ParserState.TheVariants.{Ground}
use Rattle.vt_parser.specs.Syntax.{escape, is_graphic, is_within}
use Rattle.vt_parser.specs.Forms.{bracket}
use Rattle.sheet.specs.declared.rendition.Rendition.{Rendition}
use Rattle.sheet.specs.Edits.{run_put}
use Rattle.sheet.specs.Grid.{blank_row, row_at, scrolled_down, scrolled_up, with_row}
use Rattle.xterm_screen.specs.Erasures.{columns_erased}
use Rattle.xterm_screen.specs.Picture.{Picture}
use Rattle.xterm_term.specs.declared.sets.CharacterSet.{CharacterSet}
use Rattle.xterm_term.specs.Puts.{is_c1}
use Rattle.xterm_term.specs.Seen.{Seen}
use Rattle.xterm_term.specs.Sets.{character_of}
use Rattle.xterm_term.specs.Term.{Term, play}

-- the picture with these characters of width 1, one behind the other from the cursor on, and the cursor behind them
abbrev pub run_at_cursor : List ℕ → Rendition → Picture → Picture
run_at_cursor characters rendition p = record p {
  rows = with_row p.line (run_put p.column characters rendition (row_at p.rows p.line)) p.rows;
  column = p.column + length characters;
}

-- graphic characters of ASCII that leave the cursor on its line come to stand there as they are
abbrev pub WritesOn : Term → Type 0
WritesOn x =
    (bytes : List ℕ) → list_all is_graphic bytes ≡ true
    → x.console.picture.column + length bytes ≤ x.console.picture.columns
    → (play x bytes).console.picture ≡ run_at_cursor bytes x.console.rendition x.console.picture

-- at this byte all lines move up by one, and one comes in that is blank in the paper of the current rendition (ours)
abbrev pub MovesUp : Term → ℕ → Type 0
MovesUp x byte =
    (play x (byte ∷ [])).console.picture.rows
    ≡ scrolled_up 1 1 x.console.picture.lines (blank_row x.console.picture.columns x.console.rendition.paper) x.console.picture.rows

-- these bytes erase the cursor's row from the cursor on, and show nothing before the last of them (ECMA-48 8.3.41)
pub record ErasesRight (x : Term) (bytes : List ℕ) : Type 0 where
  pub before : (count : ℕ) → count < length bytes → (play x (take count bytes)).console.picture ≡ x.console.picture
  pub rows :
      (play x bytes).console.picture.rows
      ≡ (columns_erased x.console.picture.column x.console.picture.columns x.console.rendition.paper x.console.picture).rows

-- Private: EL without a parameter, or with 0
abbrev pub IsErasing : List ℕ → Type 0
IsErasing bytes = (bytes ≡ escape ∷ bracket ∷ 75 ∷ []) ⊎ (bytes ≡ escape ∷ bracket ∷ 48 ∷ 75 ∷ [])

-- ---- characters of one column, with sequences between them

-- Where bytes stand among characters and sequences that select renditions: between them, behind ESC, in the parameters, or
-- inside a character of several bytes, of which these came.
pub data Styling : Type 0 where
  Letters : Styling
  Escape : Styling
  Parameters : Styling
  Begun : List ℕ → Styling

-- a character that is shown in one column
abbrev pub is_narrow : ℕ → Bool
is_narrow character = not (is_c1 character) && (width character == 1)

-- behind a whole character, where it is shown in one column
abbrev pub behind_character : ℕ → Option Styling
behind_character character = if is_narrow character then Some Letters else None

-- where the next byte leads inside a character of several bytes (Unicode core specification 3.9)
abbrev pub begun_after : Reading → List ℕ → ℕ → Option Styling
begun_after (read.Character character) front byte = behind_character character
begun_after read.More front byte = Some (Begun (front ++ byte ∷ []))
begun_after read.Broken front byte = None

-- Where a byte leads, by the set in use (ECMA-48 8.3.117): none where it ends no character of one column, and is of no
-- sequence of digits, semicolons and colons that ends in m.
unfoldable pub styling_after : CharacterSet → Styling → ℕ → Option Styling
styling_after set Letters byte =
    if byte == escape then Some Escape
    else (if is_graphic byte then behind_character (character_of set byte)
    else (if begins byte then Some (Begun (byte ∷ [])) else None))
styling_after set Escape byte = if byte == bracket then Some Parameters else None
styling_after set Parameters byte = if byte == 109 then Some Letters else (if is_within 48 59 byte then Some Parameters else None)
styling_after set (Begun front) byte = begun_after (reading front byte) front byte

-- where bytes lead from one place on, if all of them are such ones
abbrev pub styling_behind : CharacterSet → Styling → List ℕ → Option Styling
styling_behind set styling [] = Some styling
styling_behind set styling (byte ∷ rest) =
    option_and_then (λ next. styling_behind set next rest) (styling_after set styling byte)

-- the character that a byte ends, if it leads to letters from letters, or from inside a character
abbrev pub letter_of : CharacterSet → Styling → Styling → ℕ → List ℕ
letter_of set Letters Letters byte = character_of set byte ∷ []
letter_of set (Begun front) Letters byte = code_point (front ++ byte ∷ []) ∷ []
letter_of set _ _ byte = []

-- the characters among them
abbrev pub letters_from : CharacterSet → Styling → List ℕ → List ℕ
letters_from set styling [] = []
letters_from set styling (byte ∷ rest) =
    option_map_or (λ next. letter_of set styling next byte ++ letters_from set next rest) (styling_after set styling byte) []

-- each of these characters comes to stand at the cursor, one behind the other, in a rendition of its own
abbrev pub spelled : List Rendition → List ℕ → Picture → Picture
spelled (rendition ∷ renditions) (letter ∷ letters) p =
    spelled renditions letters (run_at_cursor (letter ∷ []) rendition p)
spelled _ _ p = p

-- so these characters stand on a picture, whatever their renditions
pub record IsSpelled (letters : List ℕ) (p q : Picture) : Type 0 where
  pub renditions : List Rendition
  pub long : length renditions ≡ length letters
  pub is : q ≡ spelled renditions letters p

-- Characters of one column that leave the cursor on its line come to stand there as they are, also with sequences between
-- them that select renditions.
abbrev pub WritesStyled : CharacterSet → Term → Type 0
WritesStyled set x =
    (bytes : List ℕ) (styling : Styling) → styling_behind set Letters bytes ≡ Some styling
    → x.console.picture.column + length (letters_from set Letters bytes) ≤ x.console.picture.columns
    → IsSpelled (letters_from set Letters bytes) x.console.picture (play x bytes).console.picture

-- Private: bytes that begin with ESC [
abbrev pub OpensStyling : List ℕ → Type 0
OpensStyling (first ∷ second ∷ rest) = (first ≡ escape) × (second ≡ bracket)
OpensStyling _ = ⊥

-- ---- lines that move between margins

-- At the last of these bytes the lines from one to another move up or down by one, and one comes in that is blank in the
-- paper of the current rendition; nothing shows before it (ECMA-48 8.3.32, 8.3.67; EK-VT100-UG chapter 3; xterm).
pub record MovesWithin (x : Term) (bytes : List ℕ) (top bottom : ℕ) (down : Bool) : Type 0 where
  pub low : 1 ≤ top
  pub order : top ≤ bottom
  pub high : bottom ≤ x.console.picture.lines
  pub before : (count : ℕ) → count < length bytes → (play x (take count bytes)).console.picture ≡ x.console.picture
  pub rows : (play x bytes).console.picture.rows ≡ (
      if down
      then scrolled_down 1 top bottom (blank_row x.console.picture.columns x.console.rendition.paper) x.console.picture.rows
      else scrolled_up 1 top bottom (blank_row x.console.picture.columns x.console.rendition.paper) x.console.picture.rows)

-- Private: nothing is pending and no title is read, the cursor is on this line, and these are the margins
pub record IsPlace (seen : Seen) (line top bottom : ℕ) : Type 0 where
  pub title : seen.console.title ≡ false
  pub state : seen.state ≡ Ground
  pub character : seen.character ≡ []
  pub line_is : seen.console.picture.line ≡ line
  pub top_is : seen.console.picture.top ≡ top
  pub bottom_is : seen.console.picture.bottom ≡ bottom
  pub low : 1 ≤ top
  pub order : top ≤ bottom
  pub high : bottom ≤ seen.console.picture.lines
