-- A tally stands where a terminal does that plays the same bytes.
use Rattle.std.proofs.Common.{◌≡◌, ℕ, zero, suc, ◌+◌, ◌==◌, ◌&&◌, Bool, true, false, nat_le, List, [], ◌∷◌, refl, sym, ◌∙◌, subst}
use Rattle.std.specs.Prelude.{Option, Some, None, if◌then◌else◌}
use Rattle.characters.specs.declared.utf8.Reading.{Reading}
use Rattle.characters.specs.declared.utf8.Reading.TheVariants.{Character, More, Broken}
use Rattle.characters.specs.Utf8.{begins, reading, replacement}
use Rattle.characters.specs.Width.{width}
use Rattle.vt_parser.specs.declared.commands.Command.{Command}
use Rattle.vt_parser.specs.declared.commands.Mode.TheVariants.{Ansi}
use Rattle.vt_parser.specs.Syntax.{escape}
use Rattle.vt_parser.specs.Step.{command_of, pending_after}
use Rattle.xterm_term.specs.Console.{Console, forgotten}
use Rattle.xterm_term.specs.Effect.{effect}
use Rattle.xterm_term.specs.Puts.{put, put_by_width, is_c1}
use Rattle.xterm_term.specs.Rows.{effect_of}
use Rattle.xterm_term.specs.Term as term
use Rattle.xterm_term.specs.Term.{Term, Outcome, play, step, is_ground, ends_last, ends_title, forgotten_if, outcome_of}
use Rattle.xterm_term.proofs.Rowless.{title_goes_alone}
use Rattle.tape_check.specs.Tally.{Tally, GoesWith, TallyFollowsPlay, gone_on, one_part, read, syntax_read, tallied, title_by, title_read, upper_read}

-- ---- whether a title is read

put_untitled : (c : ℕ) (s : Console) → (put c s).title ≡ s.title
unfolding put
put_untitled c s = by (is_c1 c) (width c)
  where
    by_width : (n : ℕ) → (put_by_width n c s).title ≡ s.title
    by_width zero = refl
    by_width (suc n) = refl

    by : (b : Bool) (n : ℕ) → (if b then forgotten s else put_by_width n c s).title ≡ s.title
    by true n = refl
    by false n = by_width n

forgotten_untitled : (b : Bool) (s : Console) → (forgotten_if b s).title ≡ s.title
forgotten_untitled true s = refl
forgotten_untitled false s = refl

titled_by : (command : Option Command) (s : Console)
    → title_by command s.title ≡ (effect_of effect command s).title
titled_by None s = refl
titled_by (Some command) s = sym (title_goes_alone command s)

-- ---- a byte

-- a tally stands where a byte leaves a terminal
record Agrees (t : Tally) (o : Outcome) : Type 0 where
  title : t.title ≡ o.console.title
  sequence : t.sequence ≡ o.sequence
  character : t.character ≡ o.character

abbrev tally : Bool → List ℕ → List ℕ → List (List ℕ × ℕ) → ℕ → Tally
tally title sequence character entries parts =
    record { title = title; sequence = sequence; character = character; entries = entries; parts = parts }

module _ (entries : List (List ℕ × ℕ)) where
  syntax_agrees : (s : Console) (sequence : List ℕ) (parts byte : ℕ)
      → Agrees (syntax_read (tally s.title sequence [] entries parts) byte) (term.syntax_read s sequence byte)
  syntax_agrees s sequence parts byte = record {
    title = titled_by (command_of Ansi sequence byte) s
        ∙ sym (forgotten_untitled (ends_last sequence byte) (effect_of effect (command_of Ansi sequence byte) s));
    sequence = refl;
    character = refl;
  }

  upper_agrees : (s : Console) (parts byte : ℕ)
      → Agrees (upper_read (tally s.title [] [] entries parts) byte) (term.upper_read s byte)
  upper_agrees s parts byte = by (begins byte)
    where
      by : (b : Bool) → Agrees (if b then record (tally s.title [] [] entries parts) { character = byte ∷ [] }
          else one_part (tally s.title [] [] entries parts))
          (if b then term.outcome s [] (byte ∷ []) [] else term.outcome (put replacement s) [] [] [])
      by true = record { title = refl; sequence = refl; character = refl }
      by false = record { title = sym (put_untitled replacement s); sequence = refl; character = refl }

  title_agrees : (s : Console) (sequence : List ℕ) (parts byte : ℕ)
      → Agrees (title_read (tally s.title sequence [] entries parts) byte) (term.title_read s sequence byte)
  title_agrees s sequence parts byte = by (byte == escape) (ends_title byte)
    where
      t : Tally
      t = tally s.title sequence [] entries parts

      by : (b c : Bool)
          → Agrees (if b then record t { title = false; sequence = pending_after Ansi sequence byte }
          else (if c then record t { title = false } else t))
          (if b then term.outcome (term.title_set false s) (pending_after Ansi sequence byte) [] []
          else (if c then term.outcome (term.title_set false s) sequence [] [] else term.outcome s sequence [] []))
      by true c = record { title = refl; sequence = refl; character = refl }
      by false true = record { title = refl; sequence = refl; character = refl }
      by false false = record { title = refl; sequence = refl; character = refl }

  untitled_agrees : (s : Console) (sequence : List ℕ) (parts byte : ℕ)
      → Agrees (if is_ground sequence && nat_le 128 byte then upper_read (tally s.title sequence [] entries parts) byte
      else syntax_read (tally s.title sequence [] entries parts) byte)
      (if is_ground sequence && nat_le 128 byte then term.upper_read s byte else term.syntax_read s sequence byte)
  untitled_agrees s [] parts byte = by (nat_le 128 byte)
    where
      by : (b : Bool) → Agrees (if b then upper_read (tally s.title [] [] entries parts) byte
          else syntax_read (tally s.title [] [] entries parts) byte)
          (if b then term.upper_read s byte else term.syntax_read s [] byte)
      by true = upper_agrees s parts byte
      by false = syntax_agrees s [] parts byte
  untitled_agrees s (begun ∷ rest) parts byte = syntax_agrees s (begun ∷ rest) parts byte

  read_agrees : (s : Console) (sequence : List ℕ) (parts byte : ℕ)
      → Agrees (read (tally s.title sequence [] entries parts) byte) (term.read s sequence byte)
  unfolding read term.read
  read_agrees s sequence parts byte = by s.title
    where
      t : Tally
      t = tally s.title sequence [] entries parts

      by : (b : Bool) → Agrees (if b then title_read t byte
          else (if is_ground sequence && nat_le 128 byte then upper_read t byte else syntax_read t byte))
          (if b then term.title_read s sequence byte
          else (if is_ground sequence && nat_le 128 byte then term.upper_read s byte else term.syntax_read s sequence byte))
      by true = title_agrees s sequence parts byte
      by false = untitled_agrees s sequence parts byte

  going_agrees : (r : Reading) (s : Console) (sequence character : List ℕ) (parts byte : ℕ)
      → Agrees (gone_on r (tally s.title sequence character entries parts) byte) (term.gone_on r s sequence character byte)
  going_agrees (Character c) s sequence character parts byte =
      record { title = sym (put_untitled c s); sequence = refl; character = refl }
  going_agrees More s sequence character parts byte = record { title = refl; sequence = refl; character = refl }
  going_agrees Broken s sequence character parts byte =
      subst (λ (title : Bool). Agrees (read (tally title sequence [] entries (parts + 1)) byte)
      (term.read (put replacement s) sequence byte)) (put_untitled replacement s)
      (read_agrees (put replacement s) sequence (parts + 1) byte)

  byte_agrees : (s : Console) (sequence character : List ℕ) (parts byte : ℕ)
      → Agrees (tallied (tally s.title sequence character entries parts) byte) (outcome_of s sequence character byte)
  unfolding tallied outcome_of
  byte_agrees s sequence [] parts byte = read_agrees s sequence parts byte
  byte_agrees s sequence (begun ∷ rest) parts byte =
      going_agrees (reading (begun ∷ rest) byte) s sequence (begun ∷ rest) parts byte

-- ---- the law

goes_on : (x : Term) (t : Tally) (byte : ℕ) → GoesWith t x → GoesWith (tallied t byte) (step x byte)
goes_on x t byte goes =
    let same : Agrees (tallied t byte) (outcome_of x.console x.sequence x.character byte)
    = subst (λ (title : Bool). Agrees (tallied (tally title t.sequence t.character t.entries t.parts) byte)
    (outcome_of x.console x.sequence x.character byte)) (sym goes.title)
    (subst (λ (sequence : List ℕ). Agrees (tallied (tally x.console.title sequence t.character t.entries t.parts) byte)
    (outcome_of x.console x.sequence x.character byte)) (sym goes.sequence)
    (subst (λ (character : List ℕ). Agrees (tallied (tally x.console.title x.sequence character t.entries t.parts) byte)
    (outcome_of x.console x.sequence x.character byte)) (sym goes.character)
    (byte_agrees t.entries x.console x.sequence x.character t.parts byte))) in
    record { title = same.title; sequence = same.sequence; character = same.character }

pub tally_follows : TallyFollowsPlay
unfolding play
tally_follows x t [] goes = goes
tally_follows x t (byte ∷ rest) goes =
    tally_follows (step x byte) (tallied t byte) rest (goes_on x t byte goes)
