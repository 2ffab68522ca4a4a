-- Marks of the numbers of rows.
use Rattle.std.proofs.Common.{◌≡◌, ◌≢◌, ℕ, ◌+◌, ◌%◌, ◌<◌, ◌≤◌, Bool, true, false, List, Some, length, get_or, set, ap, sym, ◌∙◌, arith, inl, inr, get_or-set_same, get_or-set_other}
use Rattle.std.proofs.lemmas.Bool.{cases_Bool, cases_eq, false≢true}
use Rattle.sheet.specs.Cells.{Cell}
use Rattle.sheet.specs.Grid.{row_at}
use Rattle.screen_page.proofs.PageLemmas.{first_found}
use Rattle.xterm_page.specs.Entries.{line_of}
use Rattle.xterm_page.specs.Parts.{AreMarked}
use Rattle.xterm_page.specs.Same.{row_number, same_row}
use Rattle.xterm_page.proofs.EqualLemmas.{rows_equal}

-- the number of one row more is marked
pub marked_more : (rows : List (List Cell)) (at number : ℕ) (marks : List Bool) → number ≡ row_number (row_at rows (at + 1)) → length marks ≡ 2048
    → AreMarked rows at marks → AreMarked rows (at + 1) (set marks (number % 2048) true)
marked_more rows at number marks is long told line low high =
    let n = row_number (row_at rows line) % 2048 in
    let within : number % 2048 < length marks = omega (arith, long) in
    elim (cases_eq n (number % 2048)) [
      | inl e ↦ ap (λ k. get_or (set marks (number % 2048) true) k false) e ∙ get_or-set_same marks (number % 2048) true false within
      | inr apart ↦
          let other : line ≢ at + 1 = λ e. apart (ap (λ k. row_number (row_at rows k) % 2048) e ∙ ap (λ k. k % 2048) (sym is)) in
          get_or-set_other marks (number % 2048) n true false apart ∙ told line low (omega arith)
    ]

-- where a number has no mark, none of the first rows is the same
pub first_by_mark : (rows : List (List Cell)) (cells : List Cell) (place marked number : ℕ) (marks : List Bool) → place < length rows
    → same_row (row_at rows (place + 1)) cells ≡ true → number ≡ row_number cells → AreMarked rows marked marks → place ≤ marked
    → get_or marks (number % 2048) false ≡ false → line_of (length rows) rows cells ≡ Some (place + 1)
first_by_mark rows cells place marked number marks within same is told few none =
    let p : ℕ → Bool = λ line. same_row (row_at rows line) cells in
    first_found p 1 (length rows) (place + 1) (λ line low below. elim (cases_Bool (p line)) [
      | inl t ↦
          let n : row_number (row_at rows line) ≡ number = ap row_number (rows_equal (row_at rows line) cells t) ∙ sym is in
          absurd (false≢true (sym none ∙ ap (λ k. get_or marks (k % 2048) false) (sym n) ∙ told line low (omega arith)))
      | inr f ↦ f
    ]) (omega arith) (omega arith) same
