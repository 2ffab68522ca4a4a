-- Whatever bytes a terminal takes, it stays safe, and of its size.
use Rattle.std.proofs.Common.{ℕ, Bool, true, false, List, [], ◌∷◌, refl, ◌==◌, ◌&&◌, nat_le}
use Rattle.std.specs.Prelude.{Option, Some, None, IfSome, if◌then◌else◌}
use Rattle.characters.specs.declared.utf8.Reading.{Reading}
use Rattle.characters.specs.declared.utf8.Reading.TheVariants.{Character, More, Broken}
use Rattle.characters.specs.Utf8.{begins, reading, replacement}
use Rattle.vt_parser.specs.declared.commands.Mode.TheVariants.{Ansi}
use Rattle.vt_parser.specs.declared.commands.Command.{Command}
use Rattle.vt_parser.specs.Syntax.{escape}
use Rattle.vt_parser.specs.Step.{command_of}
use Rattle.vt_parser.specs.Law.{IsProper}
use Rattle.xterm_term.specs.Rows.{effect_of}
use Rattle.xterm_term.specs.Console.{Console, IsSafe, forgotten}
use Rattle.xterm_term.specs.Puts.{put}
use Rattle.xterm_term.specs.Effect.{effect}
use Rattle.xterm_term.specs.Term.{Term, Outcome, step, play, read, gone_on, outcome_of, is_ground, ends_title, ends_last, forgotten_if, title_set}
use Rattle.xterm_term.specs.SameSize.{SameSize}
use Rattle.xterm_term.specs.Law.{LawsBelow, StaysSafe, SizeStays}
use Rattle.xterm_term.proofs.Sizes.{both, put_keeps_size, effect_keeps_size}

-- ---- safe

pub safe_forgotten : (s : Console) → IsSafe s → IsSafe (forgotten s)
safe_forgotten s safe = record { sound = safe.sound; inside = safe.inside; main_saved = safe.main_saved; alternate_saved = safe.alternate_saved }

pub safe_title : (value : Bool) (s : Console) → IsSafe s → IsSafe (title_set value s)
safe_title value s safe = record { sound = safe.sound; inside = safe.inside; main_saved = safe.main_saved; alternate_saved = safe.alternate_saved }

pub safe_if_forgotten : (ends : Bool) (s : Console) → IsSafe s → IsSafe (forgotten_if ends s)
safe_if_forgotten true s safe = safe_forgotten s safe
safe_if_forgotten false s safe = safe

record SafeOutcome (o : Outcome) : Type 0 where
  is : IsSafe o.console

safe_either : (b : Bool) (o q : Outcome) → SafeOutcome o → SafeOutcome q → SafeOutcome (if b then o else q)
safe_either true o q safe other = safe
safe_either false o q safe other = other

module _ (laws : LawsBelow) where
  pub safe_command : (command : Option Command) (s : Console) → IfSome command IsProper → IsSafe s → IsSafe (effect_of effect command s)
  safe_command None s proper safe = safe
  safe_command (Some command) s proper safe = laws.commands_keep_safe command s proper safe

  safe_read : (s : Console) (sequence : List ℕ) (byte : ℕ) → IsSafe s → SafeOutcome (read s sequence byte)
  unfolding read
  safe_read s sequence byte safe =
      let titled = safe_title false s safe in
      safe_either s.title _ _
      (safe_either (byte == escape) _ _ (record { is = titled }) (safe_either (ends_title byte) _ _ (record { is = titled }) (record { is = safe })))
      (safe_either (is_ground sequence && nat_le 128 byte) _ _
      (safe_either (begins byte) _ _ (record { is = safe }) (record { is = laws.puts_keep_safe replacement s safe }))
      (record {
        is = safe_if_forgotten (ends_last sequence byte) _
            (safe_command (command_of Ansi sequence byte) s (laws.commands_are_proper Ansi sequence byte) safe);
      }))

  safe_gone : (r : Reading) (s : Console) (sequence character : List ℕ) (byte : ℕ) → IsSafe s → SafeOutcome (gone_on r s sequence character byte)
  safe_gone (Character c) s sequence character byte safe = record { is = laws.puts_keep_safe c s safe }
  safe_gone More s sequence character byte safe = record { is = safe }
  safe_gone Broken s sequence character byte safe = safe_read (put replacement s) sequence byte (laws.puts_keep_safe replacement s safe)

  safe_outcome : (s : Console) (sequence character : List ℕ) (byte : ℕ) → IsSafe s → SafeOutcome (outcome_of s sequence character byte)
  unfolding outcome_of
  safe_outcome s sequence character byte safe =
      safe_either (is_ground character) _ _ (safe_read s sequence byte safe) (safe_gone (reading character byte) s sequence character byte safe)

  pub safe_step : (x : Term) (byte : ℕ) → IsSafe x.console → IsSafe (step x byte).console
  safe_step x byte safe = (safe_outcome x.console x.sequence x.character byte safe).is

  pub safe_play : StaysSafe
  unfolding play
  safe_play x [] safe = safe
  safe_play x (byte ∷ bytes) safe = safe_play (step x byte) bytes (safe_step x byte safe)

-- ---- of the same size

pub record SizedOutcome (s : Console) (o : Outcome) : Type 0 where
  pub is : SameSize s o.console

sized_either : (b : Bool) (s : Console) (o q : Outcome) → SizedOutcome s o → SizedOutcome s q → SizedOutcome s (if b then o else q)
sized_either true s o q same other = same
sized_either false s o q same other = other

pub size_forgotten : (ends : Bool) (s : Console) → SameSize s (forgotten_if ends s)
size_forgotten true s = record { columns = refl; lines = refl }
size_forgotten false s = record { columns = refl; lines = refl }

pub size_command : (command : Option Command) (s : Console) → SameSize s (effect_of effect command s)
size_command None s = record { columns = refl; lines = refl }
size_command (Some command) s = effect_keeps_size command s

size_read : (s : Console) (sequence : List ℕ) (byte : ℕ) → SizedOutcome s (read s sequence byte)
unfolding read
size_read s sequence byte =
    let same : SameSize s s = record { columns = refl; lines = refl } in
    let titled : SameSize s (title_set false s) = record { columns = refl; lines = refl } in
    let done : Console = effect_of effect (command_of Ansi sequence byte) s in
    sized_either s.title s _ _
    (sized_either (byte == escape) s _ _ (record { is = titled }) (sized_either (ends_title byte) s _ _ (record { is = titled }) (record { is = same })))
    (sized_either (is_ground sequence && nat_le 128 byte) s _ _
    (sized_either (begins byte) s _ _ (record { is = same }) (record { is = put_keeps_size replacement s }))
    (record { is = both s done _ (size_command (command_of Ansi sequence byte) s) (size_forgotten (ends_last sequence byte) done) }))

size_gone : (r : Reading) (s : Console) (sequence character : List ℕ) (byte : ℕ) → SizedOutcome s (gone_on r s sequence character byte)
size_gone (Character c) s sequence character byte = record { is = put_keeps_size c s }
size_gone More s sequence character byte = record { is = record { columns = refl; lines = refl } }
size_gone Broken s sequence character byte =
    record { is = both s (put replacement s) _ (put_keeps_size replacement s) (size_read (put replacement s) sequence byte).is }

pub size_outcome : (s : Console) (sequence character : List ℕ) (byte : ℕ) → SizedOutcome s (outcome_of s sequence character byte)
unfolding outcome_of
size_outcome s sequence character byte =
    sized_either (is_ground character) s _ _ (size_read s sequence byte) (size_gone (reading character byte) s sequence character byte)

pub size_stays : SizeStays
unfolding play
size_stays x [] = record { columns = refl; lines = refl }
size_stays x (byte ∷ bytes) =
    both x.console (step x byte).console (play (step x byte) bytes).console
    (size_outcome x.console x.sequence x.character byte).is (size_stays (step x byte) bytes)
