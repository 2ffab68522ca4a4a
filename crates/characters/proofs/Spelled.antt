-- Bytes that are a character.
use Rattle.std.proofs.Common.{◌≡◌, ℕ, List, [], ◌∷◌, ◌++◌, subst}
use Rattle.characters.specs.declared.utf8.Reading.{Reading}
use Rattle.characters.specs.declared.utf8.Reading.TheVariants.{More}
use Rattle.characters.specs.Utf8.{reading, left_by, IsFront}
use Rattle.characters.proofs.Fronts.{front_left}

-- where more is pending, all of it is a front
pub front_on : (pending : List ℕ) (byte : ℕ) → IsFront pending → reading pending byte ≡ More → IsFront (pending ++ byte ∷ [])
front_on pending byte front more = subst (λ (r : Reading). IsFront (left_by r pending byte)) more (front_left pending byte front)
