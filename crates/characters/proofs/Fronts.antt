-- What is pending after a byte: a front of a character again.
use Rattle.std.proofs.Common.{◌≡◌, ℕ, ◌<◌, true, ◌==◌, List, [], ◌∷◌, ◌++◌, refl, sym, subst, arith, inl, inr}
use Rattle.std.proofs.lemmas.Bool.{cases_Bool}
use Rattle.std.proofs.lemmas.Bool.Decides.{nat_tests}
use Rattle.characters.specs.declared.utf8.Reading.{Reading}
use Rattle.characters.specs.declared.utf8.Reading.TheVariants.{Character, More, Broken}
use Rattle.characters.specs.declared.utf8.Begun.{Begun}
use Rattle.characters.specs.declared.utf8.Begun.TheVariants.{Two, Three}
use Rattle.characters.specs.Utf8.{row_of, begins, may_follow, is_trailing, reading, left_by, left_of, bytes_of, IsFront}
use Rattle.characters.proofs.Bytes.{lead}

-- a fourth byte is the last one
pub four_long : (a : ℕ) → begins a ≡ true → 3 < (row_of a).length → (row_of a).length ≡ 4
four_long a is more = let l = lead a is in let most = l.most in omega arith

left_with : (r : Reading) (more : Begun) (pending : List ℕ) (byte : ℕ) → bytes_of more ≡ pending ++ byte ∷ []
    → bytes_of (left_of r more) ≡ left_by r pending byte
left_with (Character c) more pending byte same = refl
left_with More more pending byte same = same
left_with Broken more pending byte same = refl

pub left_two : (r : Reading) (a byte : ℕ) → bytes_of (left_of r (Two a byte)) ≡ left_by r (a ∷ []) byte
left_two r a byte = left_with r (Two a byte) (a ∷ []) byte refl

pub left_three : (r : Reading) (a b byte : ℕ) → bytes_of (left_of r (Three a b byte)) ≡ left_by r (a ∷ b ∷ []) byte
left_three r a b byte = left_with r (Three a b byte) (a ∷ b ∷ []) byte refl

pub left_none : (a b c byte : ℕ) → begins a ≡ true → 3 < (row_of a).length
    → left_by (reading (a ∷ b ∷ c ∷ []) byte) (a ∷ b ∷ c ∷ []) byte ≡ []
left_none a b c byte is more =
    let four = four_long a is more in
    elim (cases_Bool (is_trailing byte)) [
      | inl goes ↦ grind (arith, nat_tests)
      | inr other ↦ grind (arith, nat_tests)
    ]

-- ---- the front goes on

front_two : (a byte : ℕ) → begins a ≡ true → IsFront (left_by (reading (a ∷ []) byte) (a ∷ []) byte)
front_two a byte is =
    let least = (lead a is).least in
    elim (cases_Bool (may_follow (a ∷ []) byte)) [
      | inl goes ↦ elim (cases_Bool ((row_of a).length == 2)) [
        | inl whole ↦ simp (goes, whole) tt
        | inr longer ↦ simp (goes, longer) (is, refl, grind (arith, nat_tests))
      ]
      | inr other ↦ simp other tt
    ]

front_three : (a b byte : ℕ) → IsFront (a ∷ b ∷ []) → IsFront (left_by (reading (a ∷ b ∷ []) byte) (a ∷ b ∷ []) byte)
front_three a b byte front =
    let more = front.2 in
    elim (cases_Bool (is_trailing byte)) [
      | inl goes ↦ elim (cases_Bool ((row_of a).length == 3)) [
        | inl whole ↦ simp (goes, whole) tt
        | inr longer ↦ simp (goes, longer) (front.0, front.1, refl, grind (arith, nat_tests))
      ]
      | inr other ↦ simp other tt
    ]

pub front_left : (pending : List ℕ) (byte : ℕ) → IsFront pending → IsFront (left_by (reading pending byte) pending byte)
front_left [] byte front = tt
front_left (a ∷ []) byte front = front_two a byte front
front_left (a ∷ b ∷ []) byte front = front_three a b byte front
front_left (a ∷ b ∷ c ∷ []) byte front = subst IsFront (sym (left_none a b c byte front.0 front.3)) tt
front_left (a ∷ b ∷ c ∷ d ∷ rest) byte front = absurd front
