-- Bytes that are played at once where a text stands: what is written of them.
use Rattle.std.proofs.Common.{◌≡◌, ℕ, zero, suc, ◌+◌, ◌-◌, ◌<◌, ◌≤◌, List, [], ◌++◌, append-nil, drop, length, take, refl, ap, ap₂, subst, sym, ◌∙◌, arith, inl, inr}
use Rattle.std.proofs.lemmas.Bool.{cases_lt}
use Rattle.chunk_walk.proofs.TextLemmas.{texts_from}
use Rattle.standings.specs.Kept.{Keeps}
use Rattle.standings.specs.Rows.{Row}
use Rattle.standings.specs.Standing.{standing}
use Rattle.standings.specs.declared.place.Place.{Place}
use Rattle.standings.proofs.KeptLemmas.{keeps_on, keeps_same}
use Rattle.text_find.specs.FindLines.{rows_within}
use Rattle.text_find.specs.Foretold.{KeepsIn, taken_by}
use Rattle.text_find.specs.declared.foretold.Foretold.{Foretold}
use Rattle.text_find.specs.declared.foretold.Foretold.TheVariants.{MovesUp, MovesWithin, Types, Writes}
use Rattle.text_find.specs.Lines.{byte_lines, passed_lines}
use Rattle.text_find.specs.Pieces.{AreQuiet}
use Rattle.text_find.proofs.BeganLemmas.{first_more}
use Rattle.text_find.proofs.LineLemmas.{none_passed}
use Rattle.text_find.proofs.PieceLemmas.{pieces}

-- a byte alone
pub one_quiet : (text : List ℕ) (screen : List ℕ → List Row) (before bytes : List ℕ) → AreQuiet text screen before bytes 1
one_quiet text screen before bytes = record {
  inside = λ count lt. absurd (omega (arith, lt));
  last = inl refl;
}

-- and bytes of which none but the last changes a row
pub still_quiet : (text : List ℕ) (screen : List ℕ → List Row) (before bytes : List ℕ) (taken : ℕ)
    → ((count : ℕ) → count < taken → rows_within screen before bytes count ≡ rows_within screen before bytes 0) → AreQuiet text screen before bytes taken
still_quiet text screen before bytes taken same = record {
  inside = λ count lt.
      keeps_same text (rows_within screen before bytes count) (rows_within screen before bytes (count + 1)) (same count (omega (arith, lt)) ∙ sym (same (count + 1) lt));
  last = elim (cases_lt (taken - 1) taken) [
    | inl lt ↦ inl (same (taken - 1) lt)
    | inr ge ↦ inl (let none : taken - 1 ≡ 0 = omega (arith, ge) in ap (rows_within screen before bytes) none)
  ];
}

-- and bytes of which it is foretold what they do
pub foretold_quiet : (text : List ℕ) (screen : List ℕ → List Row) (before bytes : List ℕ) (foretold : Foretold) → 0 < taken_by foretold
    → KeepsIn text screen before bytes foretold → AreQuiet text screen before bytes (taken_by foretold)
foretold_quiet text screen before bytes (MovesUp columns) some keeps = one_quiet text screen before bytes
foretold_quiet text screen before bytes (MovesWithin region) some keeps = still_quiet text screen before bytes region.taken keeps
foretold_quiet text screen before bytes (Writes written) some keeps = record {
  inside = λ count lt. keeps count (omega (arith, lt));
  last =
      let next : written.taken - 1 + 1 ≡ written.taken = omega (arith, some) in
      inr (subst (λ n. Keeps text (rows_within screen before bytes (written.taken - 1)) (rows_within screen before bytes n)) next (keeps (written.taken - 1) (omega (arith, some))));
}
foretold_quiet text screen before bytes (Types written) some keeps = one_quiet text screen before bytes

pub texts_none : (f : ℕ → List ℕ) (start n : ℕ) → ((k : ℕ) → start ≤ k → k < start + n → f k ≡ []) → texts_from f 0 (start + n) ≡ texts_from f 0 start
texts_none f start zero none = let all : start + 0 ≡ start = omega arith in ap (texts_from f 0) all
texts_none f start (suc n) none =
    let next : start + suc n ≡ start + n + 1 = omega arith in
    ap (texts_from f 0) next ∙ first_more f (start + n) ∙ ap (λ l. texts_from f 0 (start + n) ++ l) (none (start + n) (omega arith) (omega arith))
    ∙ append-nil (texts_from f 0 (start + n)) ∙ texts_none f start n (λ k low high. none k low (omega arith))

-- no lines before those of the last byte, and these by the screens around all of them
module _ (text : List ℕ) (index due : ℕ) (first : List Row) (firsts : List Place) (last : List Row) (lasts : List Place)
    (screen : List ℕ → List Row) (before bytes : List ℕ) (at taken : ℕ) (some : 0 < taken) (quiet : AreQuiet text screen (before ++ take at bytes) (drop at bytes) taken) where
  abbrev lines : ℕ → List ℕ
  lines = byte_lines text index due first firsts last lasts screen before bytes

  abbrev passing : List Row → List Row → List ℕ
  passing one other = passed_lines index due (length text) first firsts last lasts one (standing text one) other (standing text other)

  -- the screens behind more of the bytes
  there : (n : ℕ) → rows_within screen (before ++ take at bytes) (drop at bytes) n ≡ rows_within screen before bytes (at + n)
  there n = ap screen (pieces before bytes at n)

  none_kept : (one other : List Row) → Keeps text one other → passing one other ≡ []
  none_kept one other kept = none_passed index due (length text) first firsts last lasts one (standing text one) other (standing text other) kept

  pub none_inside : texts_from lines 0 (at + (taken - 1)) ≡ texts_from lines 0 at
  none_inside = texts_none lines at (taken - 1) (λ k low high.
      let n = k - at in
      let here : at + n ≡ k = omega arith in
      let next : at + (n + 1) ≡ k + 1 = omega arith in
      ap₂ passing (ap (rows_within screen before bytes) (sym here) ∙ sym (there n)) (ap (rows_within screen before bytes) (sym next) ∙ sym (there (n + 1)))
      ∙ none_kept (rows_within screen (before ++ take at bytes) (drop at bytes) n) (rows_within screen (before ++ take at bytes) (drop at bytes) (n + 1)) (quiet.inside n (omega (arith, high, low))))

  abbrev rows : ℕ → List Row
  rows n = rows_within screen (before ++ take at bytes) (drop at bytes) n

  kept_up_to : (n : ℕ) → n < taken → Keeps text (rows 0) (rows n)
  kept_up_to zero lt = keeps_same text (rows 0) (rows 0) refl
  kept_up_to (suc n) lt =
      let next : n + 1 ≡ suc n = omega arith in
      subst (λ m. Keeps text (rows 0) (rows m)) next
      (keeps_on text (rows 0) (rows n) (rows (n + 1)) (kept_up_to n (omega (arith, lt))) (quiet.inside n (omega (arith, lt))))

  last_lines : passing (rows (taken - 1)) (rows taken) ≡ passing (rows 0) (rows taken)
  last_lines = elim quiet.last [
    | inl same ↦ ap (λ r. passing r (rows taken)) same
    | inr kept ↦
        none_kept (rows (taken - 1)) (rows taken) kept
        ∙ sym (none_kept (rows 0) (rows taken) (keeps_on text (rows 0) (rows (taken - 1)) (rows taken) (kept_up_to (taken - 1) (omega (arith, some))) kept))
  ]

  pub lines_at_last : lines (at + (taken - 1)) ≡ passing (screen (before ++ take at bytes)) (screen (before ++ take (at + taken) bytes))
  lines_at_last =
      let none : at + 0 ≡ at = omega arith in
      let next : at + (taken - 1) + 1 ≡ at + taken = omega arith in
      ap₂ passing (sym (there (taken - 1))) (ap (rows_within screen before bytes) next ∙ sym (there taken)) ∙ last_lines
      ∙ ap₂ passing (there 0 ∙ ap (rows_within screen before bytes) none) (there taken)

  -- so with the last one's all have gone out
  pub lines_more : texts_from lines 0 (at + taken) ≡ texts_from lines 0 at ++ passing (screen (before ++ take at bytes)) (screen (before ++ take (at + taken) bytes))
  lines_more =
      let next : at + taken ≡ at + (taken - 1) + 1 = omega arith in
      ap (texts_from lines 0) next ∙ first_more lines (at + (taken - 1)) ∙ ap₂ (λ a b. a ++ b) none_inside lines_at_last
