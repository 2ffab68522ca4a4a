-- What the header of a recording says of it. script(1): `Script started on DATE [TERM="T" COLUMNS="C" LINES="L"]`.
use Rattle.std.specs.Prelude.{ℕ, ◌-◌, Bool, true, false, not, ◌==◌, ◌&&◌, ◌||◌, nat_eq, nat_lt, nat_le, if◌then◌else◌, List, [], ◌∷◌, length, min, take, drop, position, Option, Some, None}
use Rattle.std.specs.List.{list_all, list_any, starts_with, ends_with}
use Rattle.std.specs.Option.{option_or, option_map, option_and_then, option_map_or}
use Rattle.std.specs.Cmp.Lexicographic.{pointwise}
use Rattle.std.specs.Char.{is_ascii_digit}
use Rattle.tape_core.specs.Seconds.{last_moment}
use Rattle.tape_core.specs.Tape.{Tape}
use Rattle.tape_core.specs.Text.{number_of}
use Rattle.vt_term.specs.declared.profile.Profile.{Profile}
use Rattle.vt_term.specs.declared.profile.Profile.TheVariants.{Vt100, Vt102}
use Rattle.tape_check.specs.declared.played.PlayedAs.{PlayedAs}
use Rattle.tape_check.specs.declared.played.PlayedAs.TheVariants.{Vt, Today}
use Rattle.tape_check.specs.declared.words.Word.{Word}
use Rattle.tape_check.specs.declared.words.Word.TheVariants as word
use Rattle.tape_check.specs.Words.{text_of}

-- the header without its LF
abbrev pub header_line : List ℕ → List ℕ
header_line header = take (length header - 1) header

-- it is script's (script(1))
unfoldable pub is_scripts : List ℕ → Bool
is_scripts line = starts_with nat_eq line (text_of word.Opening)

-- ---- values

-- a byte before a name: a space or `[`
abbrev pub is_before_name : ℕ → Bool
is_before_name byte = (byte == 32) || (byte == 91)

-- what stands behind a prefix of a text
abbrev pub behind_prefix : List ℕ → List ℕ → Option (List ℕ)
behind_prefix prefix text = if starts_with nat_eq text prefix then Some (drop (length prefix) text) else None

-- what stands behind a label NAME=" that comes next, behind a byte before a name
abbrev pub behind_label : List ℕ → List ℕ → Option (List ℕ)
behind_label label [] = None
behind_label label (byte ∷ rest) = if is_before_name byte then behind_prefix label rest else None

-- what stands behind the last such label of a text
unfoldable pub behind_last : List ℕ → List ℕ → Option (List ℕ)
behind_last label [] = None
behind_last label (byte ∷ rest) = option_or (behind_last label rest) (behind_label label (byte ∷ rest))

-- what stands before the first `"`, if there is one
abbrev pub before_quote : List ℕ → Option (List ℕ)
before_quote text = option_map (λ n. take n text) (position (λ byte. byte == 34) text)

-- the value of a label; a header of a run without a terminal has none (script(1))
abbrev pub value_of : List ℕ → List ℕ → Option (List ℕ)
value_of label line =
    if ends_with nat_eq line (text_of word.NotExecuted) then None
    else option_and_then before_quote (behind_last label line)

-- ---- facts

-- bytes up to the first ` [`
unfoldable pub before_bracket : List ℕ → List ℕ
before_bracket [] = []
before_bracket (byte ∷ []) = byte ∷ []
before_bracket (byte ∷ next ∷ rest) =
    if (byte == 32) && (next == 91) then [] else byte ∷ before_bracket (next ∷ rest)

-- when the recording was started, if the header is script's
abbrev pub date_of : List ℕ → Option (List ℕ)
date_of line = option_map before_bracket (behind_prefix (text_of word.Opening) line)

-- under which terminal it was recorded
abbrev pub term_of : List ℕ → Option (List ℕ)
term_of line = value_of (text_of word.TermLabel) line

-- columns and lines, as they are told
pub record Size : Type 0 where
  pub columns : List ℕ
  pub lines : List ℕ

-- digits with a value above 0
abbrev pub is_count : List ℕ → Bool
is_count text = list_all is_ascii_digit text && list_any (λ byte. not (byte == 48)) text

-- both, where both are told and are counts
abbrev pub size_from : Option (List ℕ) → Option (List ℕ) → Option Size
size_from (Some columns) (Some lines) =
    if is_count columns && is_count lines then Some (record { columns = columns; lines = lines }) else None
size_from _ _ = None

-- at which size it was recorded
abbrev pub size_of : List ℕ → Option Size
size_of line = size_from (value_of (text_of word.ColumnsLabel) line) (value_of (text_of word.LinesLabel) line)

-- a number in digits, where one above 10^18 counts as 10^18 (ours)
abbrev pub number_told : List ℕ → Option ℕ
number_told text = option_map (λ n. min n last_moment) (number_of text)

-- columns and lines as numbers
abbrev pub numbers_told : Size → Option (ℕ × ℕ)
numbers_told size = option_and_then (λ columns. option_map (λ lines. (columns, lines)) (number_told size.lines))
    (number_told size.columns)

-- the columns and lines that a recording's header tells
unfoldable pub told_size : Tape → Option (ℕ × ℕ)
told_size tape = option_and_then numbers_told (size_of (header_line tape.header))

-- ---- against what is played

-- a text tells this number
abbrev pub tells : ℕ → List ℕ → Bool
tells n text = option_map_or (λ told. told == n) (number_told text) false

-- The size is the one that is played: under a VT100 or a VT102 the text 80x24, under a terminal of today its columns and
-- lines as numbers (ours).
abbrev pub is_played_size : PlayedAs → Size → Bool
is_played_size (Vt profile) size =
    pointwise nat_eq size.columns (text_of word.EightyColumns)
    && pointwise nat_eq size.lines (text_of word.TwentyFourLines)
is_played_size (Today columns lines) size = tells columns size.columns && tells lines size.lines

-- nothing, or `-` and anything
abbrev pub is_variant : List ℕ → Bool
is_variant [] = true
is_variant (byte ∷ rest) = byte == 45

-- a terminal's name is this one, alone or with `-` and anything behind it
abbrev pub is_called : List ℕ → List ℕ → Bool
is_called name term = starts_with nat_eq term name && is_variant (drop (length name) term)

-- `-` and `.`
abbrev pub parts_kind : ℕ → Bool
parts_kind byte = (byte == 45) || (byte == 46)

-- which VT100 a terminal of this name is: a VT102 by its own name, a VT100 by its own and by that of a VT52, which it
-- plays too, and none by any other (ours)
abbrev pub profile_of : List ℕ → Option Profile
profile_of term =
    if is_called (text_of word.Vt102) term then Some Vt102
    else (if is_called (text_of word.Vt100) term || is_called (text_of word.Vt52) term then Some Vt100 else None)

-- which one a recording's header tells, if it does (ours)
unfoldable pub told_profile : Tape → Option Profile
told_profile tape = option_and_then profile_of (term_of (header_line tape.header))

-- the kind of a terminal: its name up to the first of these
abbrev pub kind_of : List ℕ → List ℕ
kind_of term = option_map_or (λ end. take end term) (position parts_kind term) term

-- the kinds that a terminal of today plays (ours)
abbrev pub kinds_of_today : List Word
kinds_of_today =
    word.Xterm ∷ word.Screen ∷ word.Tmux ∷ word.Linux ∷ word.Vt100 ∷ word.Vt102 ∷ word.Vt220 ∷ word.Rxvt
    ∷ word.Alacritty ∷ word.Kitty ∷ word.Foot ∷ word.St ∷ word.Gnome ∷ word.Konsole ∷ word.Putty ∷ word.Ansi ∷ []

-- a text is one of these words
abbrev pub is_among : List Word → List ℕ → Bool
is_among words text = list_any (λ known. pointwise nat_eq text (text_of known)) words

-- What was recorded under such a terminal is played: under its own, a VT52, and a VT100 on a VT102; the kinds of today
-- by one of today (ours).
abbrev pub passes : PlayedAs → List ℕ → Bool
passes (Vt Vt100) term = is_called (text_of word.Vt100) term || is_called (text_of word.Vt52) term
passes (Vt Vt102) term =
    is_called (text_of word.Vt102) term || is_called (text_of word.Vt100) term || is_called (text_of word.Vt52) term
passes (Today columns lines) term = is_among kinds_of_today (kind_of term)

-- a byte as it is written: below 32 and from 127 on as `?` (ours)
abbrev pub visible : ℕ → ℕ
visible byte = if nat_lt byte 32 || nat_le 127 byte then 63 else byte
