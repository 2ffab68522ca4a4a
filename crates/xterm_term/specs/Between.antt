-- What is done to a terminal between bytes.
use Rattle.std.specs.Prelude.{ℕ, []}
use Rattle.characters.specs.Utf8.{replacement}
use Rattle.vt_parser.specs.declared.commands.Command.{Command}
use Rattle.xterm_term.specs.Console.{forgotten}
use Rattle.xterm_term.specs.Effect.{effect}
use Rattle.xterm_term.specs.Puts.{put}
use Rattle.xterm_term.specs.Term.{Term}

-- a character is put (ours)
abbrev pub character_put : ℕ → Term → Term
character_put character x = record x { console = put character x.console }

-- there is no last character any more (ours)
abbrev pub last_forgotten : Term → Term
last_forgotten x = record x { console = forgotten x.console }

-- the bytes of the character that isn't finished are broken off: they are one U+FFFD (Unicode core specification 3.9)
abbrev pub broken_off : Term → Term
broken_off x = record x { console = put replacement x.console; character = [] }

-- a control or a sequence has its effect, and there is no last character any more (xterm)
abbrev pub obeyed : Command → Term → Term
obeyed command x = record x { console = forgotten (effect command x.console) }
