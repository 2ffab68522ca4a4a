-- Texts that are put together.
use Rattle.std.specs.Prelude.{ℕ, Bool, true, false, List, []}

-- a text, or none
abbrev pub text_where : Bool → List ℕ → List ℕ
text_where true text = text
text_where false text = []
