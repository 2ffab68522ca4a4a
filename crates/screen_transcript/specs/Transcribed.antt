-- A VT100 of which the rows that leave are told.
use Rattle.std.specs.Prelude.{ℕ, Bool, false, List, [], ◌∷◌, ◌++◌, Option, None, Some, fold, if◌then◌else◌}
use Rattle.screen_transcript.specs.declared.leaving.Leaving.{Leaving}
use Rattle.screen_transcript.specs.declared.leaving.Leaving.TheVariants.{NoRow}
use Rattle.screen_transcript.specs.Home.{acts, went_home}
use Rattle.screen_transcript.specs.Leaving.{leaving, rows_of}
use Rattle.screen_transcript.specs.Rows.{all_rows}
use Rattle.vt_parser.specs.declared.commands.Command.{Command}
use Rattle.vt_parser.specs.Step.{command_of, context_of, pending_after}
use Rattle.vt_parser.specs.Syntax.{action_of}
use Rattle.vt_screen.specs.Picture.{Picture}
use Rattle.vt_term.specs.declared.profile.Profile.{Profile}
use Rattle.vt_term.specs.Term.{Term, mode_of, reset_term_as, step}

-- a term, and whether what comes next comes directly behind home
pub record Transcribed : Type 0 where
  pub term : Term
  pub home : Bool

-- the reset term of a profile, which nothing has brought home
abbrev pub reset_as : Profile → Transcribed
reset_as profile = record { term = reset_term_as profile; home = false }

-- the command that a byte gives
abbrev pub command_at : Term → ℕ → Option Command
command_at x byte = command_of (mode_of x) x.pending byte

-- a byte acts
abbrev pub acts_at : Term → ℕ → Bool
acts_at x byte = acts (action_of (context_of (mode_of x) x.pending) byte) (pending_after (mode_of x) x.pending byte)

-- the step of a byte
abbrev pub step_on : Transcribed → ℕ → Transcribed
step_on x byte =
    let term = step x.term byte in
    record {
      term = term;
      home = (if acts_at x.term byte then went_home (command_at x.term byte) term.console.picture else x.home);
    }

-- bytes are played: a fold of the step of one byte
unfoldable pub play_on : Transcribed → List ℕ → Transcribed
play_on x bytes = fold step_on x bytes

-- which rows leave at a byte
abbrev pub leaving_by : Option Command → Bool → Picture → Leaving
leaving_by None home p = NoRow
leaving_by (Some command) home p = leaving command home p

abbrev pub leaving_at : Transcribed → ℕ → Leaving
leaving_at x byte = leaving_by (command_at x.term byte) x.home x.term.console.picture

-- the rows that leave at it
abbrev pub left_at : Transcribed → ℕ → List (List ℕ)
left_at x byte = rows_of (leaving_at x byte) x.term.console.picture

-- the rows that leave at bytes, one after another
unfoldable pub left : Transcribed → List ℕ → List (List ℕ)
left x [] = []
left x (byte ∷ bytes) = left_at x byte ++ left (step_on x byte) bytes

-- those that leave at the latter bytes, where the former were played before
abbrev pub leaving_rows : Profile → List ℕ → List ℕ → List (List ℕ)
leaving_rows profile before bytes = left (play_on (reset_as profile) before) bytes

-- those that stand behind bytes
unfoldable pub standing_rows : Profile → List ℕ → List (List ℕ)
standing_rows profile bytes = all_rows (play_on (reset_as profile) bytes).term.console.picture
