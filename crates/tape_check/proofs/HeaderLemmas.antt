-- Walks over the header line.
use Rattle.std.proofs.Common.{◌≡◌, ℕ, zero, suc, ◌+◌, ◌<◌, ◌≤◌, true, false, List, [], ◌∷◌, ◌++◌, take, drop, length, get_or, nat_eq, cond, ◌-◌, refl, sym, ap, ◌∙◌, subst, arith}
use Rattle.std.specs.Prelude.{Option, Some, None, is_some}
use Rattle.std.specs.Borrow.{Bor}
use Rattle.std.specs.List.{starts_with}
use Rattle.std.specs.Option.{option_or, option_copied}
use Rattle.std.proofs.lemmas.Bool.{false≢true}
use Rattle.std.proofs.lemmas.Bool.Decides.{nat_tests}
use Rattle.std.proofs.lemmas.List.{append-nil, drop_all}
use Rattle.tape_check.specs.Header.{is_before_name, behind_prefix, before_bracket, behind_label, behind_last}

-- ` [` at the head of a text ends what stands before it
bracket_ends : (text : List ℕ) → starts_with nat_eq text (32 ∷ 91 ∷ []) ≡ true → before_bracket text ≡ []
unfolding before_bracket
bracket_ends [] is = refl
bracket_ends (byte ∷ []) is = absurd (grind (arith, nat_tests))
bracket_ends (byte ∷ next ∷ rest) is = grind (arith, nat_tests)

other_stays : (byte : ℕ) (rest : List ℕ) → starts_with nat_eq (byte ∷ rest) (32 ∷ 91 ∷ []) ≡ false
    → before_bracket (byte ∷ rest) ≡ byte ∷ before_bracket rest
unfolding before_bracket
other_stays byte [] is = refl
other_stays byte (next ∷ rest) is = grind (arith, nat_tests)

-- what was passed, and what is left
onward : (text : List ℕ) (at : ℕ) → at < length text → starts_with nat_eq (drop at text) (32 ∷ 91 ∷ []) ≡ false
    → take at text ++ before_bracket (drop at text) ≡ take (suc at) text ++ before_bracket (drop (suc at) text)
onward [] at within is = absurd (omega arith)
onward (byte ∷ rest) zero within is = other_stays byte rest is
onward (byte ∷ rest) (suc at) within is = ap (λ (l : List ℕ). byte ∷ l) (onward rest at (omega arith) is)

pub bracket_passed : (text : List ℕ) (at : ℕ) → at < length text → starts_with nat_eq (drop at text) (32 ∷ 91 ∷ []) ≡ false
    → before_bracket text ≡ take at text ++ before_bracket (drop at text)
    → before_bracket text ≡ take (at + 1) text ++ before_bracket (drop (at + 1) text)
bracket_passed text at within is led =
    let next : suc at ≡ at + 1 = omega arith in
    subst (λ (k : ℕ). before_bracket text ≡ take k text ++ before_bracket (drop k text)) next (led ∙ onward text at within is)

-- where the walk stops, nothing more stands before a ` [`
pub bracket_found : (text : List ℕ) (at : ℕ) → before_bracket (drop at text) ≡ []
    → before_bracket text ≡ take at text ++ before_bracket (drop at text) → take at text ≡ before_bracket text
bracket_found text at none led =
    sym (led ∙ ap (λ (l : List ℕ). take at text ++ l) none ∙ append-nil (take at text))

pub bracket_here : (text : List ℕ) (at : ℕ) → starts_with nat_eq (drop at text) (32 ∷ 91 ∷ []) ≡ true → before_bracket (drop at text) ≡ []
bracket_here text at is = bracket_ends (drop at text) is

pub bracket_nowhere : (text : List ℕ) (at : ℕ) → length text ≤ at → before_bracket (drop at text) ≡ []
unfolding before_bracket
bracket_nowhere text at past = ap before_bracket (drop_all at text past)

-- a step back over the line
behind_suc : (label text : List ℕ) (at : ℕ) → at < length text → behind_last label (drop (suc at) text) ≡ None
    → behind_last label (drop at text) ≡ behind_label label (drop at text)
unfolding behind_last
behind_suc label [] at within none = absurd (omega arith)
behind_suc label (byte ∷ rest) zero within none = ap (λ (o : Option (List ℕ)). option_or o (behind_label label (byte ∷ rest))) none
behind_suc label (byte ∷ rest) (suc at) within none = behind_suc label rest at (omega arith) none

pub label_behind : (label text : List ℕ) (at : ℕ) → 0 < at → at ≤ length text → behind_last label (drop at text) ≡ None
    → behind_last label (drop (at - 1) text) ≡ behind_label label (drop (at - 1) text)
label_behind label text at some within none =
    let here : at ≡ suc (at - 1) = omega arith in
    behind_suc label text (at - 1) (omega arith) (subst (λ (k : ℕ). behind_last label (drop k text) ≡ None) here none)

pub none_at_end : (label text : List ℕ) (at : ℕ) → length text ≤ at → behind_last label (drop at text) ≡ None
unfolding behind_last
none_at_end label text at past = ap (behind_last label) (drop_all at text past)

-- a label that comes next, by the text's first byte
pub label_next : (label text : List ℕ) → 0 < length text
    → behind_label label text ≡ cond (is_before_name (get_or text 0 0)) (behind_prefix label (drop 1 text)) None
label_next label [] some = absurd (omega arith)
label_next label (byte ∷ rest) some = refl

-- where a later one is found, it stays
pub label_found : (label text : List ℕ) (at : ℕ) (found : Option (List ℕ)) → is_some found ≡ true
    → behind_last label (drop at text) ≡ found → found ≡ behind_last label text
unfolding behind_last
label_found label text at None some is = absurd (false≢true some)
label_found label text zero (Some value) some is = sym is
label_found label [] (suc at) (Some value) some is = sym is
label_found label (byte ∷ rest) (suc at) (Some value) some is =
    ap (λ (o : Option (List ℕ)). option_or o (behind_label label (byte ∷ rest))) (label_found label rest at (Some value) refl is)

-- what is lent, and what it is
pub copied_some : (found : Option (Bor (List ℕ))) → is_some found ≡ true → is_some (option_copied found) ≡ true
copied_some None some = some
copied_some (Some text) some = refl

pub copied_none : (found : Option (Bor (List ℕ))) → is_some found ≡ false → option_copied found ≡ None
copied_none None none = refl
copied_none (Some text) none = absurd (false≢true (sym none))
