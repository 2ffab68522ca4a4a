-- A terminal as a plain value, and what bytes do to it.
use Rattle.std.specs.Prelude.{ℕ, List, [], ◌∷◌, ◌++◌, fold}
use Rattle.vt_parser.specs.declared.commands.Mode.{Mode}
use Rattle.vt_parser.specs.Step.{command_of, pending_after}
use Rattle.vt_term.specs.declared.profile.Profile.{Profile}
use Rattle.vt_term.specs.declared.profile.Profile.TheVariants.{Vt100}
use Rattle.vt_term.specs.Console.{Console, reset_console, effect_of}
use Rattle.vt_term.specs.Replies.{reply_of}
use Rattle.vt_term.specs.Effect.{effect, reply}

-- what it shows, the bytes of the sequence that isn't finished from its ESC on, and all bytes sent so far
pub record Term : Type 0 where
  pub console : Console
  pub pending : List ℕ
  pub reports : List ℕ

-- the reset term of a profile: its initial state, nothing pending, nothing sent
abbrev pub reset_term_as : Profile → Term
reset_term_as profile = record { console = reset_console profile; pending = []; reports = [] }

-- that of a VT100
abbrev pub reset_term : Term
reset_term = reset_term_as Vt100

-- the mode in which the pending bytes are read: it changes only as a sequence finishes
abbrev pub mode_of : Term → Mode
mode_of x = x.console.modes.mode

-- the reply to one byte
abbrev pub reply_to : Term → ℕ → List ℕ
reply_to x byte = reply_of reply (command_of (mode_of x) x.pending byte) x.console

-- the step of a byte
abbrev pub step : Term → ℕ → Term
step x byte = record {
  console = effect_of effect (command_of (mode_of x) x.pending byte) x.console;
  pending = pending_after (mode_of x) x.pending byte;
  reports = x.reports ++ reply_to x byte;
}

-- bytes are played: a fold of the step of one byte
unfoldable pub play : Term → List ℕ → Term
play x bytes = fold step x bytes

-- what they send: the replies to them, which playing them appends to the reports
unfoldable pub sent : Term → List ℕ → List ℕ
sent x [] = []
sent x (byte ∷ bytes) = reply_to x byte ++ sent (step x byte) bytes
