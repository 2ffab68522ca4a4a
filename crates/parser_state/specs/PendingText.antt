-- Bytes that leave a parser as it is seen, never those that came (ours).
use Rattle.std.specs.Prelude.{ℕ, Bool, List, [], ◌∷◌, ◌++◌, codes, if◌then◌else◌}
use Rattle.vt_parser.specs.declared.states.ParserState.{ParserState}
use Rattle.vt_parser.specs.declared.states.ParserState.TheVariants.{Ground, Escape, EscapeOne, EscapeMany, CsiStart, Csi, CsiIgnored, Text, Vt52Escape, Vt52Line, Vt52Column}
use Rattle.vt_parser.specs.Decimals.{params_text}
use Rattle.vt_parser.specs.Syntax.{escape}

-- a text, or none
abbrev pub text_where : Bool → List ℕ → List ℕ
text_where holds text = if holds then text else []

-- of a control sequence: its mark, its parameters, and a 17th where there are more than 16
abbrev pub begun_text : Bool → List ℕ → Bool → List ℕ
begun_text private params over =
    escape ∷ codes "[" ++ text_where private (codes "?") ++ params_text params ++ text_where over (codes ";")

-- of any state
abbrev pub pending_text : ParserState → List ℕ
pending_text Ground = []
pending_text Escape = escape ∷ []
pending_text (EscapeOne inter) = escape ∷ inter ∷ []
pending_text EscapeMany = escape ∷ codes "  "
pending_text CsiStart = escape ∷ codes "["
pending_text (Csi private params over) = begun_text private params.items over
pending_text CsiIgnored = escape ∷ codes "[<"
pending_text Text = escape ∷ codes "P"
pending_text Vt52Escape = escape ∷ []
pending_text Vt52Line = escape ∷ codes "Y"
pending_text (Vt52Column line) = escape ∷ codes "Y" ++ line ∷ []
