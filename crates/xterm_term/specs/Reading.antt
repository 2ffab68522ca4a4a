-- Private: what the parts of a terminal come to by a byte.
use Rattle.std.specs.Prelude.{◌≡◌, ◌⊎◌, ℕ, Bool, true, false, List, [], ◌∷◌, ◌++◌, Some}
use Rattle.std.specs.List.{list_all}
use Rattle.characters.specs.Utf8.{Spells}
use Rattle.vt_parser.specs.declared.commands.Mode.TheVariants.{Ansi}
use Rattle.vt_parser.specs.declared.states.ParserState.{ParserState}
use Rattle.vt_parser.specs.declared.states.ParserState.TheVariants.{Ground, Text}
use Rattle.vt_parser.specs.Syntax.{escape, is_graphic}
use Rattle.vt_parser.specs.View.{parser_view}
use Rattle.xterm_term.specs.Console.{Console, IsSafe}
use Rattle.xterm_term.specs.Term.{Outcome}

-- which states are those of nothing and of a string
abbrev pub is_ground_state : ParserState → Bool
is_ground_state Ground = true
is_ground_state _ = false

abbrev pub is_text_state : ParserState → Bool
is_text_state Text = true
is_text_state _ = false

-- bytes by which a sequence begins or goes on at once: ESC, or a graphic character where one is pending, and graphic
-- characters behind
abbrev pub GoesOn : ParserState → List ℕ → Type 0
GoesOn state [] = ⊥
GoesOn state (byte ∷ rest) =
    (list_all is_graphic rest ≡ true)
    × ((byte ≡ escape) ⊎ ((is_graphic byte ≡ true) × (is_ground_state state ≡ false)))

-- bytes that are these characters, each of several bytes, one behind the other
abbrev pub SpellsEach : List ℕ → List ℕ → Type 0
SpellsEach bytes [] = bytes ≡ []
SpellsEach bytes (character ∷ characters) =
    (front : List ℕ) × (rest : List ℕ) × (bytes ≡ front ++ rest) × Spells front character × SpellsEach rest characters

-- the state shows this sequence
abbrev pub Stands : List ℕ → ParserState → Type 0
Stands sequence state = parser_view Ansi sequence ≡ Some state

-- console, parser and decoder are what the outcome says
pub record ComesTo (o : Outcome) (s : Console) (left : ParserState) (bytes : List ℕ) : Type 0 where
  pub console : s ≡ o.console
  pub state : Stands o.sequence left
  pub character : bytes ≡ o.character

-- a console that is safe, and a state of some sequence
pub record IsSound (s : Console) (left : ParserState) : Type 0 where
  pub safe : IsSafe s
  pub sequence : (bytes : List ℕ) × Stands bytes left
