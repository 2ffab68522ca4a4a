-- Private: what the code's notes stand for, and how parts are written one after another.
use Rattle.std.specs.Prelude.{ℕ, Bool, false, ◌||◌, is_some, if◌then◌else◌, List, [], ◌++◌, Option, Some, None, decimal}
use Rattle.tape_check.specs.declared.notes.Note.{Note as NoteLent}
use Rattle.tape_check.specs.declared.notes.Note.TheVariants.{Header, Size, Term, Resizes, Bytes, Trailer, Sessions}
use Rattle.tape_check.specs.declared.notes.Notes.{Notes as NotesLent}
use Rattle.tape_check.specs.declared.check.Parts.{Parts}
use Rattle.tape_check.specs.declared.words.Word.TheVariants as word
use Rattle.tape_check.specs.Words.{text_of}
use Rattle.tape_check.specs.Sizes.{size_seen}
use Rattle.tape_check.specs.Lines.{Notes, part_if, shown, size_text, played_size_text, profile_name, bytes_word}

abbrev pub note_seen : NoteLent → List ℕ
note_seen Header = text_of word.NoHeader
note_seen (Size size played) =
    text_of word.OtherSize ++ size_text (size_seen size) ++ (text_of word.PlayedSize ++ played_size_text played)
note_seen (Term term played) =
    text_of word.OtherTerm ++ shown term.now ++ (text_of word.PlayedTerm ++ profile_name played)
note_seen (Resizes n) = text_of word.Resizes ++ decimal n ++ text_of word.LeftOut
note_seen (Bytes n played) = text_of word.HighBytes ++ decimal n ++ bytes_word played
note_seen (Trailer n) = text_of word.Trailing ++ decimal n ++ text_of word.NeverShown
note_seen (Sessions n) = text_of word.Sessions ++ decimal n ++ text_of word.MoreSessions

abbrev pub seen_if : Option NoteLent → Option (List ℕ)
seen_if None = None
seen_if (Some note) = Some (note_seen note)

abbrev pub notes_seen : NotesLent → Notes
notes_seen notes = record {
  header = seen_if notes.header;
  size = seen_if notes.size;
  term = seen_if notes.term;
  resizes = seen_if notes.resizes;
  bytes = seen_if notes.bytes;
  trailer = seen_if notes.trailer;
  sessions = seen_if notes.sessions;
}

-- `; ` where another part stands before
unfoldable pub separator : Bool → List ℕ
separator before = if before then text_of word.Separator else []

-- a part, with that before it
abbrev pub further : Bool → Option (List ℕ) → List ℕ
further before None = []
further before (Some part) = separator before ++ part

-- the parts of the line on standard error
abbrev pub parts_seen : Parts → List (List ℕ)
parts_seen parts =
    part_if (seen_if parts.size) ++ part_if (seen_if parts.term) ++ part_if (seen_if parts.resizes)
    ++ part_if (seen_if parts.sessions)

-- the same, one after another
unfoldable pub parts_in_turn : Parts → List ℕ
parts_in_turn parts =
    further false (seen_if parts.size)
    ++ further (is_some parts.size) (seen_if parts.term)
    ++ further (is_some parts.size || is_some parts.term) (seen_if parts.resizes)
    ++ further (is_some parts.size || is_some parts.term || is_some parts.resizes) (seen_if parts.sessions)
