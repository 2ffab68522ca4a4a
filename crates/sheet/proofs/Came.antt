-- What is known of a line by its origin.
use Rattle.std.proofs.Common.{◌≡◌, ℕ, ◌+◌, ◌≤◌, false, List, [], refl, sym, ap, inl, inr, ◌∙◌, arith}
use Rattle.std.proofs.lemmas.Bool.{cases_lt}
use Rattle.std.proofs.lemmas.Bool.Decides.{nat_tests}
use Rattle.sheet.specs.Cells.{Cell}
use Rattle.std.specs.Prelude.{if◌then◌else◌, ◌&&◌, nat_le}
use Rattle.sheet.specs.Grid.{AreMarked, AreTold, is_touched, no_origins, origin_of, row_at}
use Rattle.sheet.proofs.Tables.{nth-table_any, nth_none}

-- a line that wasn't touched has its own row
pub own_origin : (origins : List ℕ) (line : ℕ) → is_touched origins line ≡ false → origin_of origins line ≡ line
own_origin origins line untouched = grind (arith, nat_tests)

-- a line that wasn't touched has the row of before
pub stays : (before : List (List Cell)) (origins : List ℕ) (rows : List (List Cell)) (line : ℕ) → AreTold before origins rows
    → is_touched origins line ≡ false → row_at rows line ≡ row_at before line
stays before origins rows line told untouched =
    let own = own_origin origins line untouched in
    elim (cases_lt 0 line) [
      | inl low ↦ told line (omega (arith, own)) ∙ ap (row_at before) own
      | inr zero ↦
          let none : line ≡ 0 = omega arith in
          ap (row_at rows) none ∙ nth_none [] rows ∙ sym (nth_none [] before) ∙ ap (row_at before) (sym none)
    ]

-- what is told holds whichever row is another
pub are_marked : (before : List (List Cell)) (origins : List ℕ) (rows : List (List Cell)) → AreTold before origins rows → AreMarked before origins rows
are_marked before origins rows told = record { stay = λ line untouched. stays before origins rows line told untouched; move = λ _. told }

-- against the rows themselves any marks tell of nothing
pub marked_itself : (rows : List (List Cell)) (origins : List ℕ) → AreMarked rows origins rows
marked_itself rows origins = record { stay = λ line untouched. refl; move = λ apart. absurd (apart refl) }

-- where no line's origin is known nothing is told
pub none_known : (lines line : ℕ) → 1 ≤ origin_of (no_origins lines) line → ⊥
none_known lines line known =
    let none : origin_of (no_origins lines) line ≡ (if nat_le 1 line && nat_le line lines then 0 else 0) = nth-table_any 0 lines (λ (k : ℕ). 0) line in
    grind (arith, nat_tests)

pub all_told : (lines : ℕ) (rows before : List (List Cell)) (origins : List ℕ) → origins ≡ no_origins lines → AreTold before origins rows
all_told lines rows before origins is line known =
    absurd (none_known lines line (omega (arith, known, ap (λ (os : List ℕ). origin_of os line) is)))
