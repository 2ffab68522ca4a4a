-- Private: what the code's reader stands for.
use Rattle.std.specs.Prelude.{◌≡◌, ℕ, Bool, true, false, not, ◌==◌, ◌&&◌, ◌||◌, nat_le, List, [], ◌∷◌, drop, fold, if◌then◌else◌, Option, Some, None}
use Rattle.std.specs.List.{list_all}
use Rattle.vt_parser.specs.declared.commands.Mode.TheVariants.{Ansi}
use Rattle.vt_parser.specs.declared.states.Formless.{Formless}
use Rattle.vt_parser.specs.declared.states.Formless.TheVariants.{Escape, ControlSequence}
use Rattle.vt_parser.specs.Syntax.{is_graphic, is_within}
use Rattle.vt_parser.specs.Forms.{is_control_sequence_begun}
use Rattle.vt_parser.specs.View.{parser_view}
use Rattle.xterm_term.specs.Term.{is_ground}
use Rattle.tape_check.specs.declared.quiet.Marks.{Marks}
use Rattle.tape_check.specs.declared.tally.Reader.{Reader}
use Rattle.tape_check.specs.Counting.{entries_of}
use Rattle.tape_check.specs.Tally.{Tally}

-- ---- the text of a control sequence

-- of the empty text
abbrev pub first_marks : Marks
first_marks = record { is_empty = true; is_bang = false; has_colon = false }

-- of a text with one byte more
abbrev pub marked : Marks → ℕ → Marks
marked m byte = record {
  is_empty = false;
  is_bang = m.is_empty && (byte == 33);
  has_colon = m.has_colon || (byte == 58);
}

-- of a text
abbrev pub marks_of : List ℕ → Marks
marks_of text = fold marked first_marks text

-- behind any byte: `[` begins a text, a byte 32 to 63 goes on with it
abbrev pub marks_after : Marks → ℕ → Marks
marks_after m byte = if byte == 91 then first_marks else (if is_within 32 63 byte then marked m byte else m)

-- they are those of the text that is pending, where one is
abbrev pub Knows : Marks → List ℕ → Type 0
Knows m pending = is_control_sequence_begun pending ≡ true → m ≡ marks_of (drop 2 pending)

-- whether a text of these marks is quiet
abbrev pub is_quiet_by : Marks → ℕ → Bool
is_quiet_by m last =
    ((last == 112) && not m.is_bang) || ((last == 109) && not m.has_colon)
    || (last == 99) || (last == 110) || (last == 113) || (last == 116) || (last == 117)

abbrev pub loud_by : Marks → Option Formless → Option Formless
loud_by m None = None
loud_by m (Some (Escape last)) = Some (Escape last)
loud_by m (Some (ControlSequence last)) = if is_quiet_by m last then None else Some (ControlSequence last)

-- ---- bytes together

-- where nothing is pending the first is below 128, and those behind it are graphic characters
abbrev pub AreSyntax : List ℕ → List ℕ → Type 0
AreSyntax sequence [] = Unit {0}
AreSyntax sequence (byte ∷ rest) =
    ((is_ground sequence && nat_le 128 byte) ≡ false) × (list_all is_graphic rest ≡ true)

-- ---- the reader

-- no title is read, and no sequence and no character is pending
abbrev pub is_idle : Tally → Bool
is_idle t = not t.title && is_ground t.sequence && is_ground t.character

-- it stands where the tally does
pub record IsAt (reader : Reader) (t : Tally) : Type 0 where
  pub title : t.title ≡ reader.title
  pub state : parser_view Ansi t.sequence ≡ Some reader.parser
  pub character : t.character ≡ reader.decoder
  pub marks : Knows reader.marks t.sequence
  pub entries : t.entries ≡ entries_of reader.counts
  pub parts : t.parts ≡ reader.parts
