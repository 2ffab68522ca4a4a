-- What holds of every term: the statements of the crate's laws.
use Rattle.std.specs.Prelude.{◌≡◌, ℕ, ◌*◌, ◌≤◌, Bool, List, ◌++◌, length}
use Rattle.vt_parser.specs.declared.commands.Command.{Command}
use Rattle.vt_parser.specs.Law.{IsProper, StateDecides, StaysShown, GroundIsEmpty, FinishedLeavesNothing, PendingPays, GraphicIsShown, CommandsAreProper}
use Rattle.xterm_term.specs.Size.{IsSize}
use Rattle.xterm_term.specs.Console.{Console, IsSafe, reset_console}
use Rattle.xterm_term.specs.Puts.{put}
use Rattle.xterm_term.specs.PrivateModes.{mode_set, sheet_shown}
use Rattle.xterm_term.specs.Effect.{effect}
use Rattle.xterm_term.specs.Term.{Term, reset_term, play, sent}
use Rattle.xterm_term.specs.SameSize.{SameSize}
use Rattle.xterm_term.specs.Seen.{Seen, Shows}

-- Joined texts are played as their parts in turn, also where the cut is inside a character or a sequence or at a pending
-- wrap.
abbrev pub PlaysInParts : Type 0
PlaysInParts = (x : Term) (first second : List ℕ) → play x (first ++ second) ≡ play (play x first) second

-- What joined texts send is what their parts send in turn.
abbrev pub SendsInParts : Type 0
SendsInParts =
    (x : Term) (first second : List ℕ) → sent x (first ++ second) ≡ sent x first ++ sent (play x first) second

-- What is sent is what playing appends to the reports.
abbrev pub SentIsAppended : Type 0
SentIsAppended = (x : Term) (bytes : List ℕ) → (play x bytes).reports ≡ x.reports ++ sent x bytes

-- Terms of which the same is seen play to terms of which the same is seen, and send the same.
abbrev pub SeenDecides : Type 0
SeenDecides =
    (seen : Seen) (x y : Term) (bytes : List ℕ) → Shows seen x → Shows seen y
    → ((after : Seen) × Shows after (play x bytes) × Shows after (play y bytes)) × (sent x bytes ≡ sent y bytes)

-- Three times what is sent from a reset term is at most twenty times the bytes: the longest reply is 20 bytes, to a
-- sequence of 3.
abbrev pub SendsLittle : Type 0
SendsLittle =
    (columns lines : ℕ) (bytes : List ℕ) → IsSize columns lines
    → 3 * length (sent (reset_term columns lines) bytes) ≤ 20 * length bytes

-- Whatever bytes a safe term takes, it stays safe.
abbrev pub StaysSafe : Type 0
StaysSafe = (x : Term) (bytes : List ℕ) → IsSafe x.console → IsSafe (play x bytes).console

-- Whatever bytes a term takes, its size stays.
abbrev pub SizeStays : Type 0
SizeStays = (x : Term) (bytes : List ℕ) → SameSize x.console (play x bytes).console

-- ---- what these laws stand on

-- Private: a command whose numbers are in their ranges keeps a terminal safe.
abbrev pub CommandsKeepSafe : Type 0
CommandsKeepSafe = (command : Command) (s : Console) → IsProper command → IsSafe s → IsSafe (effect command s)

-- Private: so does a character.
abbrev pub PutsKeepSafe : Type 0
PutsKeepSafe = (character : ℕ) (s : Console) → IsSafe s → IsSafe (put character s)

-- Private: so does what sets or resets a mode, and what shows a sheet.
abbrev pub ModesKeepSafe : Type 0
ModesKeepSafe = (value : Bool) (s : Console) (param : ℕ) → IsSafe s → IsSafe (mode_set value s param)

abbrev pub SheetsKeepSafe : Type 0
SheetsKeepSafe = (value : Bool) (s : Console) → IsSafe s → IsSafe (sheet_shown value s)

-- Private: the laws of the parser, and what those of the screen come to
pub record LawsBelow : Type 0 where
  pub state_decides : StateDecides
  pub stays_shown : StaysShown
  pub ground_is_empty : GroundIsEmpty
  pub finished_leaves_nothing : FinishedLeavesNothing
  pub pending_pays : PendingPays
  pub graphic_is_shown : GraphicIsShown
  pub commands_are_proper : CommandsAreProper
  pub reset_is_safe : (columns lines : ℕ) → IsSize columns lines → IsSafe (reset_console columns lines)
  pub puts_keep_safe : PutsKeepSafe
  pub commands_keep_safe : CommandsKeepSafe
