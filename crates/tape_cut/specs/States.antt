-- A text that makes any terminal one that is like another, for any terminal that plays (ours).
use Rattle.std.specs.Prelude.{◌≡◌, ◌↔◌, ℕ, List, [], ◌++◌}
use Rattle.plays.specs.declared.plays.Plays.{Ghosts}

-- The same is seen of what the reset terminal comes to by these bytes and by those: what shows the one shows the other.
abbrev pub SeenAlike : {T P K : Type 0} → Ghosts T P K → P → List ℕ → List ℕ → Type 0
SeenAlike {T = T} p profile one other =
    (terminal : T) → (p.shows profile terminal one) ↔ (p.shows profile terminal other)

-- Behind whatever bytes, the text of the terminal that comes of some bytes leaves one of which the same is seen, and so
-- it stays whatever more is played; it sends nothing, and what comes then is answered as there.
pub record MakesAnyThis {T P K : Type 0} (p : Ghosts T P K) (text : P → List ℕ → List ℕ) : Type 0 where
  pub seen : (profile : P) (before bytes more : List ℕ)
      → SeenAlike p profile (before ++ text profile bytes ++ more) (bytes ++ more)
  pub silent : (profile : P) (before bytes : List ℕ) → p.replies profile before (text profile bytes) ≡ []
  pub answers : (profile : P) (before bytes more : List ℕ)
      → p.replies profile (before ++ text profile bytes) more ≡ p.replies profile bytes more

-- what joined texts send is what their parts send in turn
abbrev pub SendsInParts : {T P K : Type 0} → Ghosts T P K → Type 0
SendsInParts {P = P} p = (profile : P) (before more : List ℕ)
    → p.sent profile (before ++ more) ≡ p.sent profile before ++ p.replies profile before more
