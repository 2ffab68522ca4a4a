-- What a terminal of today leaves out of a recording: bytes read as it reads them, with the unplayed sequences and the
-- malformed parts counted.
use Rattle.std.specs.Prelude.{◌≡◌, ℕ, ◌+◌, Bool, false, ◌==◌, ◌&&◌, nat_le, List, [], ◌∷◌, ◌++◌, drop, fold, if◌then◌else◌, Option, Some, None}
use Rattle.characters.specs.declared.utf8.Reading.{Reading}
use Rattle.characters.specs.declared.utf8.Reading.TheVariants.{Character, More, Broken}
use Rattle.characters.specs.Utf8.{begins, reading}
use Rattle.vt_parser.specs.declared.commands.Mode.TheVariants.{Ansi}
use Rattle.vt_parser.specs.declared.commands.Command.{Command}
use Rattle.vt_parser.specs.Syntax.{escape}
use Rattle.vt_parser.specs.Step.{command_of, pending_after}
use Rattle.vt_parser.specs.Formless.{formless_of}
use Rattle.xterm_term.specs.Term.{Term, play, is_ground, ends_title}
use Rattle.xterm_term.specs.Played.{title_left}
use Rattle.tape_check.specs.declared.played.PlayedAs.{PlayedAs}
use Rattle.tape_check.specs.declared.played.PlayedAs.TheVariants.{Today}
use Rattle.tape_check.specs.Quiet.{loud_form}
use Rattle.tape_check.specs.Unplayed.{command_names, formless_names}
use Rattle.tape_check.specs.Scan.{counted}

-- Whether a title is read, the bytes of the sequence and of the character that aren't finished; the unplayed sequences so
-- far, with how often each came, and how many U+FFFD malformed bytes have given.
pub record Tally : Type 0 where
  pub title : Bool
  pub sequence : List ℕ
  pub character : List ℕ
  pub entries : List (List ℕ × ℕ)
  pub parts : ℕ

-- nothing pending, nothing counted
abbrev pub tally_start : Tally
tally_start = record { title = false; sequence = []; character = []; entries = []; parts = 0 }

-- one U+FFFD more, and no character is pending
abbrev pub one_part : Tally → Tally
one_part t = record t { character = []; parts = t.parts + 1 }

-- a terminal of today, of any size: which one says nothing of its sequences
abbrev pub any_today : PlayedAs
any_today = Today 80 24

-- ---- a byte of the control syntax

-- the unplayed sequences without a command that a byte ends ..
abbrev pub forms_at : List ℕ → ℕ → List (List ℕ)
forms_at sequence byte = formless_names (loud_form (drop 2 sequence) (formless_of Ansi sequence byte))

-- .. and all that it ends
abbrev pub names_at : List ℕ → ℕ → List (List ℕ)
names_at sequence byte = forms_at sequence byte ++ command_names any_today (command_of Ansi sequence byte)

-- whether a title is read behind it
abbrev pub title_by : Option Command → Bool → Bool
title_by None title = title
title_by (Some command) title = title_left command title

abbrev pub syntax_read : Tally → ℕ → Tally
syntax_read t byte = record t {
  title = title_by (command_of Ansi t.sequence byte) t.title;
  sequence = pending_after Ansi t.sequence byte;
  entries = fold counted t.entries (names_at t.sequence byte);
}

-- ---- a byte of a title: BEL, CAN and SUB end it, ESC ends it and is read, all others are nothing (screen, tmux)

abbrev pub title_read : Tally → ℕ → Tally
title_read t byte =
    if byte == escape then record t { title = false; sequence = pending_after Ansi t.sequence byte }
    else (if ends_title byte then record t { title = false } else t)

-- ---- a byte of a character (Unicode core specification 3.9)

-- a byte from 128 on ground begins one, or is no part of one
abbrev pub upper_read : Tally → ℕ → Tally
upper_read t byte = if begins byte then record t { character = byte ∷ [] } else one_part t

-- a byte where no character is pending
unfoldable pub read : Tally → ℕ → Tally
read t byte =
    if t.title then title_read t byte
    else (if is_ground t.sequence && nat_le 128 byte then upper_read t byte else syntax_read t byte)

-- a byte behind those of a character: where it can't go on they give one U+FFFD, and the byte is read anew
abbrev pub gone_on : Reading → Tally → ℕ → Tally
gone_on (Character c) t byte = record t { character = [] }
gone_on More t byte = record t { character = t.character ++ byte ∷ [] }
gone_on Broken t byte = read (one_part t) byte

-- ---- any byte

unfoldable pub tallied : Tally → ℕ → Tally
tallied t byte = if is_ground t.character then read t byte else gone_on (reading t.character byte) t byte

-- what the end leaves unfinished is one part more
abbrev pub parts_of : Tally → ℕ
parts_of t = if is_ground t.character then t.parts else t.parts + 1

-- ---- the law

-- a tally stands where a terminal does
pub record GoesWith (t : Tally) (x : Term) : Type 0 where
  pub title : t.title ≡ x.console.title
  pub sequence : t.sequence ≡ x.sequence
  pub character : t.character ≡ x.character

-- Whatever bytes a terminal of today plays, a tally that stands where it does goes with it.
abbrev pub TallyFollowsPlay : Type 0
TallyFollowsPlay =
    (x : Term) (t : Tally) (bytes : List ℕ) → GoesWith t x → GoesWith (fold tallied t bytes) (play x bytes)
