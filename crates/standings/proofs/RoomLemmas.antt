-- Places that are put behind others, as far as there is room.
use Rattle.std.proofs.Common.{◌≡◌, ℕ, ◌+◌, ◌-◌, ◌<◌, ◌≤◌, List, [], ◌++◌, append_assoc, append-nil, drop, length, take, refl, ap, ap₂, sym, ◌∙◌, arith, inl, inr}
use Rattle.std.proofs.Math.Seq.{take-append-add}
use Rattle.std.proofs.lemmas.Bool.{cases_lt}
use Rattle.std.proofs.lemmas.List.{drop-append-le, length-append, length-take-le, take-append-le, take_all, take_at}
use Rattle.standings.specs.Room.{fitting}
use Rattle.standings.specs.declared.place.Place.{Place}

-- all of them
pub fitting_all : (room : ℕ) (old more : List Place) → length old + length more ≤ room → fitting room old more ≡ old ++ more
fitting_all room old more fits = ap (λ l. old ++ l) (take_all (room - length old) more (omega arith))

pub fitting_none : (room : ℕ) (old : List Place) → fitting room old [] ≡ old
fitting_none room old = ap (λ l. old ++ l) (take_all (room - length old) [] (omega arith)) ∙ append-nil old

-- some of them
fitting_some : (room : ℕ) (old more : List Place) → room - length old < length more → length (fitting room old more) ≡ length old + (room - length old)
fitting_some room old more short = omega (arith, length-append old (take (room - length old) more), length-take-le (room - length old) more (omega arith))

-- those before them stay
pub fitting_front : (room : ℕ) (old more : List Place) → take (length old) (fitting room old more) ≡ old
fitting_front room old more = take_at old (take (room - length old) more) (length old) refl

-- as many as they are behind the others, they are all
pub fitting_fit : (room : ℕ) (old more : List Place) → length old + length more ≤ length (fitting room old more) → fitting room old more ≡ old ++ more
fitting_fit room old more many = elim (cases_lt (room - length old) (length more)) [
  | inr fits ↦ ap (λ l. old ++ l) (take_all (room - length old) more fits)
  | inl short ↦ absurd (omega (arith, many, fitting_some room old more short, short))
]

-- one part after another
pub fitting_parts : (room : ℕ) (old one other : List Place) → fitting room (fitting room old one) other ≡ fitting room old (one ++ other)
fitting_parts room old one other =
    let r = room - length old in
    elim (cases_lt r (length one)) [
      | inl short ↦
          let full : room - length (fitting room old one) ≡ 0 = omega (arith, fitting_some room old one short) in
          ap (λ n. fitting room old one ++ take n other) full ∙ append-nil (fitting room old one)
          ∙ ap (λ l. old ++ l) (sym (take-append-le r one other (omega arith)))
      | inr fits ↦
          let whole : fitting room old one ≡ old ++ one = ap (λ l. old ++ l) (take_all r one fits) in
          let left : room - length (old ++ one) ≡ r - length one = omega (arith, length-append old one) in
          let parts : length one + (r - length one) ≡ r = omega arith in
          ap (λ l. fitting room l other) whole ∙ ap (λ n. (old ++ one) ++ take n other) left
          ∙ append_assoc old one (take (r - length one) other)
          ∙ ap (λ l. old ++ l) (sym (take-append-add one other (r - length one)) ∙ ap (λ n. take n (one ++ other)) parts)
    ]

-- what is taken out among the others
pub cut_among : (old new : List Place) (kept behind : ℕ) → kept ≤ behind → behind ≤ length old
    → take kept (old ++ new) ++ drop behind (old ++ new) ≡ (take kept old ++ drop behind old) ++ new
cut_among old new kept behind order within =
    ap₂ (λ a b. a ++ b) (take-append-le kept old new (omega arith)) (drop-append-le behind old new within)
    ∙ sym (append_assoc (take kept old) (drop behind old) new)

pub fitting_more : (room : ℕ) (old so_far new one other : List Place) → so_far ≡ fitting room old one → new ≡ fitting room so_far other → new ≡ fitting room old (one ++ other)
fitting_more room old so_far new one other first second =
    second ∙ ap (λ l. fitting room l other) first ∙ fitting_parts room old one other
