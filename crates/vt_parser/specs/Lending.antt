-- What a parser is left as by a call whose token borrows from it.
use Rattle.std.specs.Prelude.{ℕ, List, ⊤}
use Rattle.std.specs.Borrow.{MutBor, Fml}
use denote.Follow.{follows_so}
use mathlib.Core.Option.{none}
use Rattle.vt_parser.specs.declared.commands.Mode.{Mode}
use Rattle.vt_parser.specs.declared.states.ParserState.{ParserState}
use Rattle.vt_parser.specs.contracts.Parser.{the_row}
use Rattle.vt_parser.specs.Token.{Leads}

-- Once the token is let go, the parser's state shows what is pending after the bytes, whatever its state showed before.
abbrev pub LeavesLed : MutBor ParserState → Mode → List ℕ → Fml
LeavesLed parser given bytes =
    follows_so the_row the_row parser.ghost_name none (λ _ _. ⊤) (Leads parser.now given bytes)
