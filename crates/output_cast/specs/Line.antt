-- Private: the line of an event while its characters come.
use Rattle.std.specs.Prelude.{◌≡◌, ℕ, Option, Bool, true, false, List, [], ◌∷◌, ◌++◌}
use Rattle.tape_core.specs.Devices.{Gave}
use Rattle.tape_core.specs.declared.devices.Watched.{Watched}
use Rattle.output_cast.specs.declared.events.Line.{Line}
use Rattle.output_cast.specs.Cast.{event_opening}
use Rattle.output_cast.specs.Json.{json_text}

-- some characters have come
abbrev pub is_some : List ℕ → Bool
is_some [] = false
is_some (c ∷ rest) = true

-- what of the line has gone out, by whether it is begun
abbrev pub begun_if : Bool → ℕ → List ℕ → List ℕ
begun_if false moment text = []
begun_if true moment text = event_opening moment ++ json_text text

abbrev pub begun_line : ℕ → List ℕ → List ℕ
begun_line moment text = begun_if (is_some text) moment text

-- of a line of this moment, whose characters so far are these, that has gone out, and the code knows whether it is begun
pub record Goes {W : Type 0} (contents : W → Option (List ℕ)) (a b : Watched W) (line : Line) (at : ℕ)
    (text : List ℕ) : Type 0 where
  pub moment : line.moment ≡ at
  pub begun : line.is_begun ≡ is_some text
  pub gave : Gave contents a b (begun_line at text)
