-- The lines of a check: facts, notes and unplayed sequences, and which of them make the recording a noted one (ours).
use Rattle.std.specs.Prelude.{◌≡◌, ℕ, Bool, true, false, ◌&&◌, ◌||◌, nat_le, fold, if◌then◌else◌, ◌==◌, List, [], ◌∷◌, ◌++◌, length, map, count_by, Option, Some, None, is_some, decimal}
use Rattle.std.specs.List.{flat_map}
use Rattle.tape_core.specs.Devices.{TookPart}
use Rattle.tape_core.specs.declared.devices.Watched.{Watched}
use Rattle.tape_core.specs.Tape.{Tape, body}
use Rattle.vt_term.specs.declared.profile.Profile.TheVariants.{Vt100, Vt102}
use Rattle.tape_check.specs.declared.played.PlayedAs.{PlayedAs}
use Rattle.tape_check.specs.declared.played.PlayedAs.TheVariants.{Vt, Today}
use Rattle.tape_check.specs.declared.words.Word.TheVariants as word
use Rattle.tape_check.specs.declared.check.CheckFault.{CheckFault}
use Rattle.tape_check.specs.declared.check.CheckFault.TheVariants.{Write, Memory}
use Rattle.tape_check.specs.Words.{text_of}
use Rattle.tape_check.specs.Header.{header_line, is_scripts, date_of, term_of, Size, size_of, is_played_size, passes, visible}
use Rattle.tape_check.specs.Trailer.{is_usual, sessions_in}
use Rattle.tape_check.specs.Scan.{unplayed_in}
use Rattle.tape_check.specs.Tally.{tallied, tally_start, parts_of}

-- ---- facts

-- a line, where there is something to tell
abbrev pub line_if : List ℕ → Option (List ℕ) → List ℕ
line_if head None = []
line_if head (Some text) = head ++ text ++ 10 ∷ []

-- a text of the header as it is written
abbrev pub shown : List ℕ → List ℕ
shown text = map visible text

-- the same, if it is told
abbrev pub shown_if : Option (List ℕ) → Option (List ℕ)
shown_if None = None
shown_if (Some text) = Some (shown text)

-- columns, `x` and lines
abbrev pub size_text : Size → List ℕ
size_text size = size.columns ++ (120 ∷ []) ++ size.lines

abbrev pub size_text_if : Option Size → Option (List ℕ)
size_text_if None = None
size_text_if (Some size) = Some (size_text size)

-- what the header tells
unfoldable pub facts_text : List ℕ → List ℕ
facts_text line =
    line_if (text_of word.Started) (shown_if (date_of line))
    ++ line_if (text_of word.Term) (shown_if (term_of line))
    ++ line_if (text_of word.Size) (size_text_if (size_of line))

-- ---- notes, each without `note ` and LF

-- the header isn't script's
abbrev pub header_note : List ℕ → Option (List ℕ)
header_note line = if is_scripts line then None else Some (text_of word.NoHeader)

-- columns, `x` and lines that are played
abbrev pub played_size_text : PlayedAs → List ℕ
played_size_text (Vt profile) = decimal 80 ++ (120 ∷ []) ++ decimal 24
played_size_text (Today columns lines) = decimal columns ++ (120 ∷ []) ++ decimal lines

-- another size
abbrev pub size_note : PlayedAs → Option Size → Option (List ℕ)
size_note played None = None
size_note played (Some size) =
    if is_played_size played size then None
    else Some (text_of word.OtherSize ++ size_text size ++ (text_of word.PlayedSize ++ played_size_text played))

-- the name of a profile
abbrev pub profile_name : PlayedAs → List ℕ
profile_name (Vt Vt100) = text_of word.Vt100
profile_name (Vt Vt102) = text_of word.Vt102
profile_name (Today columns lines) = text_of word.Xterm

-- another terminal
abbrev pub term_note : PlayedAs → Option (List ℕ) → Option (List ℕ)
term_note played None = None
term_note played (Some term) =
    if passes played term then None
    else Some (text_of word.OtherTerm ++ shown term ++ (text_of word.PlayedTerm ++ profile_name played))

-- a number between two words, where it is above 0
abbrev pub number_note : List ℕ → ℕ → List ℕ → Option (List ℕ)
number_note head n tail = if n == 0 then None else Some (head ++ decimal n ++ tail)

-- how many bytes stand from 128 on
unfoldable pub high_bytes : List ℕ → ℕ
high_bytes body = count_by (λ byte. nat_le 128 byte) body

-- what of a recording the terminal leaves out: unplayed sequences, and bytes that it doesn't show as they were meant
pub record Left : Type 0 where
  pub unplayed : List (List ℕ × ℕ)
  pub bytes : ℕ

-- under a VT100 or a VT102 the bytes from 128 on, under a terminal of today the parts that are no UTF-8
unfoldable pub left_of : PlayedAs → List ℕ → Left
left_of (Vt profile) body = record { unplayed = unplayed_in profile body; bytes = high_bytes body }
left_of (Today columns lines) body =
    let t = fold tallied tally_start body in record { unplayed = t.entries; bytes = parts_of t }

-- what is said of such bytes
abbrev pub bytes_word : PlayedAs → List ℕ
bytes_word (Vt profile) = text_of word.NoUtf8
bytes_word (Today columns lines) = text_of word.NotUtf8

abbrev pub bytes_note : PlayedAs → ℕ → Option (List ℕ)
bytes_note played n = number_note (text_of word.HighBytes) n (bytes_word played)

-- bytes behind the last chunk that aren't the usual ones
abbrev pub trailer_note : List ℕ → Option (List ℕ)
trailer_note trailer =
    if is_usual trailer then None
    else number_note (text_of word.Trailing) (length trailer) (text_of word.NeverShown)

-- changes of size that importing left out
abbrev pub resizes_note : ℕ → Option (List ℕ)
resizes_note n = number_note (text_of word.Resizes) n (text_of word.LeftOut)

-- further sessions in the trailer
abbrev pub sessions_note : ℕ → Option (List ℕ)
sessions_note n = number_note (text_of word.Sessions) n (text_of word.MoreSessions)

-- the notes of a recording, of which so many changes of size were left out
pub record Notes : Type 0 where
  pub header : Option (List ℕ)
  pub size : Option (List ℕ)
  pub term : Option (List ℕ)
  pub resizes : Option (List ℕ)
  pub bytes : Option (List ℕ)
  pub trailer : Option (List ℕ)
  pub sessions : Option (List ℕ)

abbrev pub notes_of : PlayedAs → ℕ → Tape → Notes
notes_of played resizes tape = let line = header_line tape.header in record {
  header = header_note line;
  size = size_note played (size_of line);
  term = term_note played (term_of line);
  resizes = resizes_note resizes;
  bytes = bytes_note played (left_of played (body tape.chunks)).bytes;
  trailer = trailer_note tape.trailer;
  sessions = sessions_note (sessions_in tape.trailer);
}

-- the lines of those on the header, and of the others
unfoldable pub header_note_lines : Notes → List ℕ
header_note_lines notes =
    line_if (text_of word.Note) notes.header
    ++ line_if (text_of word.Note) notes.size
    ++ line_if (text_of word.Note) notes.term
    ++ line_if (text_of word.Note) notes.resizes

unfoldable pub body_note_lines : Notes → List ℕ
body_note_lines notes =
    line_if (text_of word.Note) notes.bytes
    ++ line_if (text_of word.Note) notes.trailer
    ++ line_if (text_of word.Note) notes.sessions

-- the lines of all of them
unfoldable pub note_lines : Notes → List ℕ
note_lines notes = header_note_lines notes ++ body_note_lines notes

-- one of them is there
abbrev pub has_note : Notes → Bool
has_note notes =
    is_some notes.header || is_some notes.size || is_some notes.term || is_some notes.resizes || is_some notes.bytes
    || is_some notes.trailer || is_some notes.sessions

-- ---- the whole text

-- how often an unplayed sequence comes, and its name
abbrev pub unplayed_line : List ℕ × ℕ → List ℕ
unplayed_line entry = text_of word.Unplayed ++ decimal entry.1 ++ (32 ∷ []) ++ entry.0 ++ 10 ∷ []

-- there is an entry
abbrev pub has_any : List (List ℕ × ℕ) → Bool
has_any [] = false
has_any (entry ∷ rest) = true

-- another terminal than one of today plays
abbrev pub is_older : PlayedAs → Bool
is_older (Vt profile) = true
is_older (Today columns lines) = false

-- a note speaks against the picture: on the size, the terminal or the bytes
abbrev pub has_picture_note : Notes → Bool
has_picture_note notes = is_some notes.size || is_some notes.term || is_some notes.bytes

-- the advice to play it as a terminal of today, where another one plays and the picture isn't to be trusted (ours)
abbrev pub advice : PlayedAs → Notes → List (List ℕ × ℕ) → List ℕ
advice played notes unplayed =
    if is_older played && (has_picture_note notes || has_any unplayed) then text_of word.Try else []

-- all lines of a check
unfoldable pub check_text : PlayedAs → ℕ → Tape → List ℕ
check_text played resizes tape =
    let notes = notes_of played resizes tape in
    let unplayed = (left_of played (body tape.chunks)).unplayed in
    facts_text (header_line tape.header) ++ note_lines notes ++ flat_map unplayed_line unplayed
    ++ advice played notes unplayed

-- a note or an unplayed sequence is among them
unfoldable pub is_noted : PlayedAs → ℕ → Tape → Bool
is_noted played resizes tape =
    has_note (notes_of played resizes tape) || has_any (left_of played (body tape.chunks)).unplayed

-- A check stops: a beginning of its text has gone out and the writer failed in it, or nothing yet where memory was
-- refused.
abbrev pub StopsCheck : {T : Type 0} → (T → Option (List ℕ)) → Watched T → Watched T → List ℕ → CheckFault → Type 0
StopsCheck contents old new text Write = TookPart contents old new text true
StopsCheck contents old new text Memory = new ≡ old

-- ---- what is told to whoever plays the recording

-- a part as a list, if it is there
abbrev pub part_if : Option (List ℕ) → List (List ℕ)
part_if None = []
part_if (Some part) = part ∷ []

-- its size, its terminal, what was left out of it and its further sessions, those of the notes that hold
unfoldable pub parts : PlayedAs → ℕ → Tape → List (List ℕ)
parts played resizes tape =
    part_if (size_note played (size_of (header_line tape.header)))
    ++ part_if (term_note played (term_of (header_line tape.header)))
    ++ part_if (resizes_note resizes)
    ++ part_if (sessions_note (sessions_in tape.trailer))

-- there is one
abbrev pub has_part : List (List ℕ) → Bool
has_part [] = false
has_part (part ∷ rest) = true

-- joined by `; `
abbrev pub parts_text : List (List ℕ) → List ℕ
parts_text [] = []
parts_text (part ∷ rest) = part ++ flat_map (λ next. text_of word.Separator ++ next) rest

-- whether a part is there
abbrev pub has_parts : PlayedAs → ℕ → Tape → Bool
has_parts played resizes tape = has_part (parts played resizes tape)

-- one on the size or the terminal is there
abbrev pub has_header_part : PlayedAs → Tape → Bool
has_header_part played tape =
    is_some (size_note played (size_of (header_line tape.header)))
    || is_some (term_note played (term_of (header_line tape.header)))

-- what the line ends with: where to read more, and the advice where it may help
abbrev pub ending_by : Bool → List ℕ
ending_by advised = text_of (if advised then word.EndingTry else word.Ending)

-- the line on standard error, where one is there
abbrev pub note_line : PlayedAs → ℕ → Tape → List ℕ
note_line played resizes tape =
    if has_parts played resizes tape
    then text_of word.Beginning ++ parts_text (parts played resizes tape)
    ++ ending_by (is_older played && has_header_part played tape)
    else []
