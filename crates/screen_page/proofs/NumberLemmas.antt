-- Numbers of rows, and the first lines that have them.
use Rattle.std.proofs.Common.{◌≡◌, ◌≢◌, ℕ, ◌+◌, ◌-◌, ◌*◌, ◌%◌, ◌<◌, ◌≤◌, false, true, List, length, get_or, set, get_or-set_same, get_or-set_other, refl, ap, sym, subst, ◌∙◌, arith, add-one, inl, inr, nat_eq}
use Rattle.std.proofs.lemmas.Bool.{cases_Bool, cases_eq}
use Rattle.std.proofs.lemmas.Bool.Decides.{nat_tests}
use Rattle.vt_screen.specs.declared.cell.Cell.{Cell}
use Rattle.vt_screen.specs.declared.cell.Row.{Row}
use Rattle.vt_screen.specs.Cells.{row_at}
use Rattle.vt_screen.specs.Slots.{ScreenState}
use Rattle.vt_screen.proofs.Tables.{nth_is}
use Rattle.screen_rows.specs.KeptRows.{AreSources, IsFrom, Kept}
use Rattle.screen_rows.specs.SameRows.{same_row}
use Rattle.screen_rows.proofs.SameLemmas.{same_row_decides}
use Rattle.screen_page.specs.Numbered.{AreCarried, AreFirsts, AreNumbers, IsCarried, IsFirst, bucket_of, mixed, number_at, number_at_line, row_number}

-- no cell
pub mixed_none : (cells : List Cell) → 0 ≡ mixed cells 0
unfolding mixed
mixed_none cells = refl

-- one cell more
pub mixed_more : (cells : List Cell) (n : ℕ) → mixed cells (n + 1) ≡ (mixed cells n + number_at cells n * (2 * n + 1) % 65536) % 65536
unfolding mixed
mixed_more cells n = ap (mixed cells) (add-one n)

-- what the numbers of lines tell of the lines of a screen that had their rows
pub carried_one : (kept : Kept) (s : ScreenState) (line source : ℕ) (numbers : List ℕ) → AreNumbers kept.rows numbers
    → IsFrom kept s line source → IsCarried numbers source (row_at s.picture.rows line)
carried_one kept s line source numbers are from = record {
  high = from.high;
  same = λ some. are source some from.high ∙ ap row_number (from.row some);
}

pub carried : (kept : Kept) (s : ScreenState) (sources numbers : List ℕ) → AreNumbers kept.rows numbers
    → AreSources kept s sources → AreCarried numbers sources s.picture.rows
carried kept s sources numbers are from = λ line low high. carried_one kept s line _ numbers are (from line low high)

-- a line that was a row is the first one of its bucket, or behind it
pub first_high : (rows : List Row) (numbers firsts : List ℕ) (row : Row) (k : ℕ) → AreNumbers rows numbers → AreFirsts numbers firsts
    → 1 ≤ k → k ≤ 24 → same_row (row_at rows k) row ≡ true → IsFirst (get_or firsts (bucket_of (row_number row)) 0) k
first_high rows numbers firsts row k are first low high same =
    let is = are k low high ∙ ap row_number ((same_row_decides (row_at rows k) row).0 same) in
    subst (λ (n : ℕ). IsFirst (get_or firsts (bucket_of n) 0) k) is (first k low high)

-- so none before it was
pub none_before : (rows : List Row) (numbers firsts : List ℕ) (row : Row) (first k : ℕ) → AreNumbers rows numbers → AreFirsts numbers firsts
    → first ≡ get_or firsts (bucket_of (row_number row)) 0 → 1 ≤ k → k ≤ 24 → k < first → same_row (row_at rows k) row ≡ false
none_before rows numbers firsts row first k are firsts_are is low high before = elim (cases_Bool (same_row (row_at rows k) row)) [
  | inl t ↦
      let here = first_high rows numbers firsts row k are firsts_are low high t in
      absurd (omega (arith, is, before, here.high))
  | inr f ↦ f
]

-- and where its bucket has none, none was
pub none_at_all : (rows : List Row) (numbers firsts : List ℕ) (row : Row) → AreNumbers rows numbers → AreFirsts numbers firsts
    → get_or firsts (bucket_of (row_number row)) 0 ≡ 0 → (k : ℕ) → 1 ≤ k → k ≤ 24 → same_row (row_at rows k) row ≡ false
none_at_all rows numbers firsts row are firsts_are none k low high = elim (cases_Bool (same_row (row_at rows k) row)) [
  | inl t ↦
      let here = first_high rows numbers firsts row k are firsts_are low high t in
      absurd (omega (arith, none, here.low))
  | inr f ↦ f
]

-- rows with other numbers are others
pub others_by_number : (one other : Row) (these those : ℕ) → these ≡ row_number one → those ≡ row_number other → these ≢ those
    → nat_eq these those ≡ same_row one other
others_by_number one other these those is are apart = elim (cases_Bool (same_row one other)) [
  | inl t ↦ absurd (apart (is ∙ ap row_number ((same_row_decides one other).0 t) ∙ sym are))
  | inr f ↦ grind (arith, nat_tests, apart) ∙ sym f
]

-- a line more has its number
pub numbered_more : (numbers : List ℕ) (line number : ℕ) (f : ℕ → ℕ) → length numbers ≡ 24 → 1 ≤ line → line ≤ 24 → number ≡ f line
    → ((k : ℕ) → 1 ≤ k → k < line → number_at_line numbers k ≡ f k)
    → (k : ℕ) → 1 ≤ k → k < line + 1 → number_at_line (set numbers (line - 1) number) k ≡ f k
numbered_more numbers line number f long low high is each k above below = elim (cases_eq k line) [
  | inl e ↦
      let within : line - 1 < length numbers = omega arith in
      rw e (nth_is 0 (set numbers (line - 1) number) line ∙ get_or-set_same numbers (line - 1) number 0 within ∙ is)
  | inr ne ↦
      let apart : k - 1 ≢ line - 1 = omega arith in
      nth_is 0 (set numbers (line - 1) number) k ∙ get_or-set_other numbers (line - 1) (k - 1) number 0 apart ∙ sym (nth_is 0 numbers k)
      ∙ each k above (omega arith)
]

-- a line more stands in its bucket
pub first_more : (numbers firsts : List ℕ) (passed bucket k : ℕ) → passed < 24 → bucket ≡ bucket_of (number_at_line numbers (24 - passed)) → bucket < length firsts
    → (24 < k + passed → IsFirst (get_or firsts (bucket_of (number_at_line numbers k)) 0) k) → 24 < k + (passed + 1) → k ≤ 24
    → IsFirst (get_or (set firsts bucket (24 - passed)) (bucket_of (number_at_line numbers k)) 0) k
first_more numbers firsts passed bucket k some is within each low high =
    let line = 24 - passed in
    let there = bucket_of (number_at_line numbers k) in
    elim (cases_eq there bucket) [
      | inl e ↦
          subst (λ (n : ℕ). IsFirst n k) (sym (ap (λ (b : ℕ). get_or (set firsts bucket line) b 0) e ∙ get_or-set_same firsts bucket line 0 within))
          (record { low = omega arith; high = omega arith })
      | inr ne ↦
          let apart : k ≢ line = λ same. ne (ap (λ (l : ℕ). bucket_of (number_at_line numbers l)) same ∙ sym is) in
          subst (λ (n : ℕ). IsFirst n k) (sym (get_or-set_other firsts bucket there line 0 ne)) (each (omega arith))
    ]

-- of lines of which nothing is known
pub carried_none : (numbers : List ℕ) (row : Row) (source : ℕ) → source ≡ 0 → IsCarried numbers source row
carried_none numbers row source none = record { high = omega arith; same = λ some. absurd (omega arith) }
