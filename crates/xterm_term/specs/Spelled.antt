-- Private: characters of several bytes that are put one behind the other.
use Rattle.std.specs.Prelude.{◌≡◌, ℕ, List}
use Rattle.xterm_term.specs.Console.{Console}
use Rattle.xterm_term.specs.Puts.{all_put}
use Rattle.xterm_term.specs.Reading.{SpellsEach}

-- from a console to another by the characters that these bytes are
abbrev pub PutsSpelled : List ℕ → Console → Console → Type 0
PutsSpelled bytes s t = (characters : List ℕ) × SpellsEach bytes characters × (t ≡ all_put characters s)
