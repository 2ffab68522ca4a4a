-- Rows that are kept, and which of them another sheet changes.
use Rattle.std.proofs.Common.{◌≡◌, ◌≢◌, ℕ, zero, suc, ◌+◌, ◌-◌, ◌<◌, ◌≤◌, Bool, true, false, not, List, [], ◌∷◌, ◌++◌, length, get_or, set, filter, cond, refl, ap, sym, ◌∙◌, subst, arith, add-zero, add-one, append-nil, length-append, inl, inr, get_or-set_same, get_or-set_other}
use Rattle.std.specs.Prelude.{◌&&◌}
use Rattle.std.proofs.lemmas.Bool.{cases_eq}
use Rattle.std.proofs.lemmas.List.{append_assoc, get_or_append_left, get_or_default}
use Rattle.std.proofs.lemmas.List.Elements.{filter-append}
use Rattle.std.proofs.Math.Seq.{get_or-append_seam}
use Rattle.std.specs.Cmp.{IsEquivalence, and_equiv, on_equiv, nat_eq_equiv}
use Rattle.std.specs.Cmp.Lexicographic.{lists_equiv}
use Rattle.std.specs.List.{range_with_len}
use Rattle.sheet.specs.Cells.{Cell}
use Rattle.sheet.specs.Grid.{row_at}
use Rattle.sheet.specs.Table.{nth}
use Rattle.xterm_print.specs.ChangeLines.{is_changed, same_cell, same_row, style_of, text_of}
use Rattle.xterm_print.specs.Kept.{FollowAll, Follows}

-- ---- rows that are the same

same_cells : IsEquivalence same_cell
same_cells = and_equiv (on_equiv text_of nat_eq_equiv) (on_equiv style_of nat_eq_equiv)

pub same_rows : IsEquivalence same_row
same_rows = lists_equiv same_cells

-- a row is the same as itself
pub same_itself : (row : List Cell) → same_row row row ≡ true
same_itself row = same_rows.refl row

-- of two rows that are the same, each is the same as a third, or neither
pub same_as : (one other third : List Cell) → same_row one other ≡ true → same_row one third ≡ same_row other third
same_as one other third h = same_rows.congr one other third h

-- a row that is another follows it
pub follows_itself : (row other : List Cell) → row ≡ other → Follows (length other) row other
follows_itself row other is = record {
  columns = ap length is;
  same = ap (λ r. same_row r other) is ∙ same_itself other;
}

-- a row that is the same as another follows it
pub follows_same : (row other : List Cell) → length row ≡ length other → true ≡ same_row row other → Follows (length other) row other
follows_same row other long same = record { columns = long; same = sym same }

-- a row that is as before isn't changed
pub not_changed : (before after : List (List Cell)) (line : ℕ) → row_at after line ≡ row_at before line → false ≡ is_changed before after line
not_changed before after line same =
    sym (ap (λ r. not (same_row (row_at before line) r)) same ∙ ap not (same_itself (row_at before line)))

-- ---- rows by line

pub row_is : (rows : List (List Cell)) (line : ℕ) → 1 ≤ line → row_at rows line ≡ get_or rows (line - 1) []
unfolding nth
row_is rows zero low = absurd (omega (arith, low))
row_is rows (suc k) low = let same : suc k - 1 ≡ k = omega arith in ap (λ n. get_or rows n []) (sym same)

-- a row that is read
pub row_read : (rows : List (List Cell)) (line : ℕ) (d : List Cell) → 1 ≤ line → line ≤ length rows → row_at rows line ≡ get_or rows (line - 1) d
row_read rows line d low high =
    let within : line - 1 < length rows = omega arith in
    row_is rows line low ∙ get_or_default rows (line - 1) [] d within

-- a row that is written
pub row_set_same : (rows : List (List Cell)) (line : ℕ) (row : List Cell) → 1 ≤ line → line ≤ length rows → row_at (set rows (line - 1) row) line ≡ row
row_set_same rows line row low high =
    let within : line - 1 < length rows = omega arith in
    row_is (set rows (line - 1) row) line low ∙ get_or-set_same rows (line - 1) row [] within

pub row_set_other : (rows : List (List Cell)) (line k : ℕ) (row : List Cell) → 1 ≤ line → 1 ≤ k → k ≢ line → row_at (set rows (line - 1) row) k ≡ row_at rows k
row_set_other rows line k row low here other =
    let apart : k - 1 ≢ line - 1 = omega arith in
    row_is (set rows (line - 1) row) k here ∙ get_or-set_other rows (line - 1) (k - 1) row [] apart ∙ sym (row_is rows k here)

-- one row more is kept
pub follow_more : (n width : ℕ) (rows others : List (List Cell)) (row : List Cell) → FollowAll n width rows others
    → Follows width row (row_at others (n + 1)) → FollowAll (n + 1) width (rows ++ row ∷ []) others
follow_more n width rows others row kept more = record {
  lines = length-append rows (row ∷ []) ∙ ap (λ m. m + 1) kept.lines;
  row = λ k low high. elim (cases_eq k (n + 1)) [
    | inl e ↦
        let at : k - 1 ≡ length rows = omega (arith, kept.lines) in
        subst (λ r. Follows width r (row_at others k))
        (sym (row_is (rows ++ row ∷ []) k low ∙ ap (λ i. get_or (rows ++ row ∷ []) i []) at ∙ get_or-append_seam rows row [] []))
        (subst (λ m. Follows width row (row_at others m)) (sym e) more)
    | inr ne ↦
        let below : k - 1 < length rows = omega (arith, kept.lines) in
        subst (λ r. Follows width r (row_at others k))
        (row_is rows k low ∙ sym (row_is (rows ++ row ∷ []) k low ∙ get_or_append_left rows (row ∷ []) [] (k - 1) below))
        (kept.row k low (omega arith))
  ];
}

-- none are kept
pub follow_none : (width : ℕ) (rows others : List (List Cell)) → rows ≡ [] → FollowAll 0 width rows others
follow_none width rows others none = record { lines = ap length none; row = λ k low high. absurd (omega (arith, low, high)) }

-- ---- the lines that differ

pub range_more : (a n : ℕ) → range_with_len a (n + 1) ≡ range_with_len a n ++ (a + n) ∷ []
range_more a zero = ap (λ m. m ∷ []) (sym (add-zero a))
range_more a (suc n) =
    let next : a + 1 + n ≡ a + suc n = omega arith in
    ap (range_with_len a) (add-one (suc n))
    ∙ ap (λ l. a ∷ l) (ap (range_with_len (a + 1)) (sym (add-one n)) ∙ range_more (a + 1) n ∙ ap (λ m. range_with_len (a + 1) n ++ m ∷ []) next)

-- the numbers so far that pass, and one more
pub passing_more : (p : ℕ → Bool) (line : ℕ) (here : Bool) (old new : List ℕ) → 1 ≤ line → here ≡ p line
    → old ≡ filter p (range_with_len 1 (line - 1)) → new ≡ old ++ cond here (line ∷ []) [] → new ≡ filter p (range_with_len 1 (line + 1 - 1))
passing_more p line here old new low is so_far more =
    let n = line - 1 in
    let at : n + 1 ≡ line + 1 - 1 = omega arith in
    let next : line ≡ 1 + n = omega arith in
    more ∙ ap (λ b. old ++ cond b (line ∷ []) []) is ∙ ap (λ l. l ++ cond (p line) (line ∷ []) []) so_far
    ∙ ap (λ m. filter p (range_with_len 1 n) ++ filter p (m ∷ [])) next
    ∙ sym (filter-append p (range_with_len 1 n) ((1 + n) ∷ []))
    ∙ ap (filter p) (sym (range_more 1 n)) ∙ ap (λ m. filter p (range_with_len 1 m)) at

-- the numbers so far that pass, and so many more, which all do
pub passing_all : (p : ℕ → Bool) (line n : ℕ) (old new : List ℕ) → 1 ≤ line → ((k : ℕ) → line ≤ k → k < line + n → p k ≡ true)
    → old ≡ filter p (range_with_len 1 (line - 1)) → new ≡ old ++ range_with_len line n → new ≡ filter p (range_with_len 1 (line + n - 1))
passing_all p line zero old new low each so_far more =
    let here : line + 0 - 1 ≡ line - 1 = omega arith in
    more ∙ append-nil old ∙ so_far ∙ ap (λ m. filter p (range_with_len 1 m)) (sym here)
passing_all p line (suc n) old new low each so_far more =
    let next : suc n ≡ n + 1 = omega arith in
    let last : line + n + 1 - 1 ≡ line + suc n - 1 = omega arith in
    passing_more p (line + n) true (old ++ range_with_len line n) new (omega (arith, low)) (sym (each (line + n) (omega arith) (omega arith)))
    (passing_all p line n old (old ++ range_with_len line n) low (λ k from below. each k from (omega (arith, below))) so_far refl)
    (more ∙ ap (λ m. old ++ range_with_len line m) next ∙ ap (λ l. old ++ l) (range_more line n) ∙ sym (append_assoc old (range_with_len line n) ((line + n) ∷ [])))
    ∙ ap (λ m. filter p (range_with_len 1 m)) last

-- none of the next so many passes
pub passing_none : (p : ℕ → Bool) (n more : ℕ) → ((k : ℕ) → n < k → k ≤ n + more → p k ≡ false) → filter p (range_with_len 1 (n + more)) ≡ filter p (range_with_len 1 n)
passing_none p n zero none = let all : n + 0 ≡ n = omega arith in ap (λ m. filter p (range_with_len 1 m)) all
passing_none p n (suc more) none =
    let last = 1 + (n + more) in
    let next : n + suc more ≡ n + more + 1 = omega arith in
    ap (λ m. filter p (range_with_len 1 m)) next ∙ ap (filter p) (range_more 1 (n + more)) ∙ filter-append p (range_with_len 1 (n + more)) (last ∷ [])
    ∙ ap (λ b. filter p (range_with_len 1 (n + more)) ++ cond b (last ∷ []) []) (none last (omega arith) (omega arith)) ∙ append-nil (filter p (range_with_len 1 (n + more)))
    ∙ passing_none p n more (λ k low high. none k low (omega (arith, high)))

and_false : (b : Bool) → (b && false) ≡ false
and_false true = refl
and_false false = refl

-- rows of different lengths aren't the same
pub other_lengths : (one other : List Cell) → (length one ≡ length other → ⊥) → false ≡ same_row one other
other_lengths [] [] apart = absurd (apart refl)
other_lengths [] (b ∷ other) apart = refl
other_lengths (a ∷ one) [] apart = refl
other_lengths (a ∷ one) (b ∷ other) apart =
    sym (and_false (same_cell a b)) ∙ ap (λ t. same_cell a b && t) (other_lengths one other (λ same. apart (ap suc same)))

-- where some lines differ, so do the rows
pub filter_none : (p : ℕ → Bool) → ((k : ℕ) → p k ≡ false) → (xs : List ℕ) → filter p xs ≡ []
filter_none p none [] = refl
filter_none p none (x ∷ xs) = rw (none x) (filter_none p none xs)

pub some_differ : (before after : List (List Cell)) (line : ℕ) (changed : List ℕ) → changed ≡ filter (is_changed before after) (range_with_len 1 (line - 1))
    → 0 < length changed → after ≡ before → ⊥
some_differ before after line changed is some same =
    let none = filter_none (is_changed before after) (λ k. sym (not_changed before after k (ap (λ rows. row_at rows k) same))) (range_with_len 1 (line - 1)) in
    omega (arith, some, ap length is, ap length none)
