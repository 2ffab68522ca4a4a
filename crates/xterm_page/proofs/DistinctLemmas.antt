-- Rows of which no two are the same.
use Rattle.std.proofs.Common.{◌≡◌, ◌≢◌, ℕ, zero, suc, ◌+◌, ◌-◌, ◌<◌, ◌≤◌, Bool, true, false, not, cond, List, [], ◌∷◌, ◌++◌, None, Option, Some, filter, length, get_or, take, refl, ap, ap₂, subst, sym, ◌∙◌, arith, inl, inr}
use Rattle.std.specs.Prelude.{◌&&◌, ◌||◌}
use Rattle.std.specs.List.{flat_map, range_with_len}
use Rattle.std.proofs.lemmas.Bool.{cases_Bool, cases_eq, cases_lt, false≢true}
use Rattle.std.proofs.lemmas.List.{get_or-map, length-map}
use Rattle.std.proofs.lemmas.List.Concat.{get_or-flat_map}
use Rattle.std.proofs.lemmas.List.Elements.{All-get_or}
use Rattle.std.proofs.lemmas.List.Folds.{length-flat_map-take}
use Rattle.sheet.specs.Cells.{Cell}
use Rattle.sheet.specs.Grid.{AreMarked as MarksTell, AreTold, origin_of, row_at}
use Rattle.screen_page.specs.Entries.{first_of}
use Rattle.screen_page.proofs.PageLemmas.{first_found}
use Rattle.xterm_page.specs.Entries.{line_of}
use Rattle.xterm_page.specs.Parts.{AreDistinct, AreLines, CameUp, InSheet, IsWithin, holds, is_renewed, renewed, renewed_lines, told, told_lines}
use Rattle.xterm_page.specs.declared.kept.Block.{Block}
use Rattle.xterm_page.specs.declared.kept.Renewal.{Renewal}
use Rattle.xterm_page.specs.declared.kept.Renewal.TheVariants.{Moved}
use Rattle.xterm_page.specs.Same.{same_row}
use Rattle.xterm_page.proofs.CaughtLemmas.{was_row}
use Rattle.xterm_page.proofs.EqualLemmas.{rows_equal}
use Rattle.xterm_page.proofs.KeptLemmas.{told_or_stays}
use Rattle.xterm_page.proofs.RenewedLemmas.{came_told, holds_filtered, line_told, other_is, renewed_named}
use Rattle.xterm_page.proofs.SameLemmas.{row_itself}

-- ---- the first of numbers that pass

-- none before it does ..
none_before : (p : ℕ → Bool) (a n k : ℕ) → first_of (filter p (range_with_len a n)) ≡ Some k → (j : ℕ) → a ≤ j → j < k → p j ≡ false
none_before p a zero k is j low below = absurd (grind arith)
none_before p a (suc n) k is j low below = elim (cases_Bool (p a)) [
  | inl t ↦
      let here : a ≡ k = (let one : Some a ≡ Some k = (rw t at is) in grind arith) in
      absurd (omega (arith, low, below, here))
  | inr f ↦ elim (cases_eq a j) [
    | inl e ↦ ap p (sym e) ∙ f
    | inr apart ↦ none_before p (a + 1) n k (rw f at is) j (omega (arith, low, apart)) below
  ]
]

-- .. and where there is none, none at all does
none_of_all : (p : ℕ → Bool) (a n : ℕ) → first_of (filter p (range_with_len a n)) ≡ None → (j : ℕ) → a ≤ j → j < a + n → p j ≡ false
none_of_all p a zero is j low below = absurd (omega (arith, low, below))
none_of_all p a (suc n) is j low below = elim (cases_Bool (p a)) [
  | inl t ↦
      let one : Some a ≡ None = (rw t at is) in
      absurd (grind arith)
  | inr f ↦ elim (cases_eq a j) [
    | inl e ↦ ap p (sym e) ∙ f
    | inr apart ↦ none_of_all p (a + 1) n (rw f at is) j (omega (arith, low, apart)) (omega (arith, below))
  ]
]

-- ---- rows that are the same

apart_rows : (one other : List Cell) → one ≢ other → same_row one other ≡ false
apart_rows one other apart = elim (cases_Bool (same_row one other)) [
  | inl t ↦ absurd (apart (rows_equal one other t))
  | inr f ↦ f
]

rows_apart : (one other : List Cell) → same_row one other ≡ false → one ≢ other
rows_apart one other none e = false≢true (sym none ∙ ap (same_row one) (sym e) ∙ row_itself one)

-- ---- lines that came up from among distinct rows

pub distinct_come : (origins : List ℕ) (rows after : List (List Cell)) (lines from end shift distinct : ℕ) → 1 ≤ from → 1 ≤ shift → length rows ≡ lines
    → ((k : ℕ) → from ≤ k → k < end → (origin_of origins k ≡ k + shift) × (k + shift ≤ distinct))
    → AreTold rows origins after → AreDistinct rows distinct → CameUp origins lines rows after from end shift
distinct_come origins rows after lines from end shift distinct low some long come tells apart line above below =
    let here = come line above below in
    let now = row_at after line in
    let same : now ≡ row_at rows (line + shift) = tells line (omega (arith, here.0, some)) ∙ ap (row_at rows) here.0 in
    let unlike : (k : ℕ) → 1 ≤ k → k < line + shift → same_row (row_at rows k) now ≡ false = λ k first before.
    apart_rows (row_at rows k) now (λ e. apart.apart k (line + shift) first before here.1 (e ∙ same)) in
    let touched = ap not (other_is (origin_of origins line) line (omega (arith, here.0, some))) in (
      ap₂ (λ (a b : Bool). a && not b) touched (unlike line (omega (arith, low, above)) (omega (arith, some))),
      first_found (λ k. same_row (row_at rows k) now) 1 lines (line + shift) unlike (omega (arith, low, above)) (omega (arith, here.1, apart.within, long))
          (ap (λ r. same_row r now) (sym same) ∙ row_itself now),
    )

-- lines that came up, and those behind them
pub come_on : (origins : List ℕ) (lines : ℕ) (before after : List (List Cell)) (from mid end shift : ℕ)
    → CameUp origins lines before after from mid shift → CameUp origins lines before after mid end shift
    → CameUp origins lines before after from end shift
come_on origins lines before after from mid end shift one other line above below = elim (cases_lt line mid) [
  | inl first ↦ one line above first
  | inr rest ↦ other line rest below
]

-- ---- lines that are told

nothing_told : (changed : List Renewal) → length changed ≡ 0 → (k : ℕ) → holds k (flat_map told_lines changed) ≡ false
nothing_told [] none k = refl
nothing_told (one ∷ rest) none k = absurd (omega (arith, none))

other_told : (changed : List Renewal) (d : Renewal) (line k : ℕ) → length changed ≡ 1 → told_lines (get_or changed 0 d) ≡ line ∷ [] → line ≢ k
    → holds k (flat_map told_lines changed) ≡ false
other_told [] d line k single names apart = absurd (omega (arith, single))
other_told (one ∷ []) d line k single names apart =
    ap (λ l. holds k (l ++ [])) names ∙ ap (λ b. b || false) (other_is line k apart)
other_told (one ∷ (other ∷ rest)) d line k single names apart = absurd (omega (arith, single))

-- ---- rows behind a chunk

module _ (origins : List ℕ) (lines : ℕ) (before after : List (List Cell)) (changed : List Renewal) (d : Renewal) (long : length before ≡ lines)
    (are : AreLines lines changed) (is : flat_map told changed ≡ renewed origins lines before after) where
  -- no line was the row that one is which is told so
  new_row : (at line : ℕ) → at < length changed → told (get_or changed at d) ≡ (line, None) ∷ [] → (k : ℕ) → 1 ≤ k → k ≤ lines
      → same_row (row_at before k) (row_at after line) ≡ false
  new_row at line within one k low high =
      let f = line_told lines before after in
      let names = renewed_lines lines origins before after in
      let nothing : ℕ × Option ℕ = (0, None) in
      let i = length (flat_map told (take at changed)) + 0 in
      let inside : 0 < length (told (get_or changed at d)) = omega (arith, ap length one) in
      let count : length (flat_map told changed) ≡ length names = ap length is ∙ length-map names f in
      let below : i < length names = omega (arith, inside, length-flat_map-take told changed at d within, count) in
      let same : (line, None) ≡ f (get_or names i 0) =
      sym (ap (λ l. get_or l 0 nothing) one) ∙ sym (get_or-flat_map told changed at 0 d nothing within inside)
      ∙ ap (λ l. get_or l i nothing) is ∙ get_or-map f names i 0 nothing below in
      let was : line_of lines before (row_at after line) ≡ None =
      ap (λ m. line_of lines before (row_at after m)) (ap (λ (o : ℕ × Option ℕ). o.0) same) ∙ sym (ap (λ (o : ℕ × Option ℕ). o.1) same) in
      none_of_all (λ line'. same_row (row_at before line') (row_at after line)) 1 lines was k low (omega (arith, high))

  module _ (block : Block) (some : 0 < length changed) (first : get_or changed 0 d ≡ Moved block) (top : block.from ≡ 1) (wide : length after ≡ lines) where
    inside : InSheet lines block
    inside = subst (IsWithin lines) first (All-get_or (IsWithin lines) changed 0 d some are)

    came : (k : ℕ) → 1 ≤ k → k < block.end → line_of lines before (row_at after k) ≡ Some (k + block.shift)
    came k low below = came_told origins lines before after changed 0 d block k is some first (omega (arith, top, low)) below

    source : (k : ℕ) → 1 ≤ k → k < block.end → row_at before (k + block.shift) ≡ row_at after k
    source k low below = was_row lines before (row_at after k) (k + block.shift) (came k low below)

    apart_in : (one other : ℕ) → 1 ≤ one → one < other → other < block.end → row_at after one ≢ row_at after other
    apart_in one other low apart below =
        let there = row_at after other in
        let none = none_before (λ line. same_row (row_at before line) there) 1 lines (other + block.shift) (came other (omega (arith, low, apart)) below)
        (one + block.shift) (omega (arith, low)) (omega (arith, apart)) in
        subst (λ r. r ≢ there) (source one low (omega (arith, apart, below))) (rows_apart (row_at before (one + block.shift)) there none)

    -- those that came up together from the first line on are distinct ..
    pub block_distinct : AreDistinct after (block.end - 1)
    block_distinct = record {
      within = omega (arith, inside.high, inside.up, wide);
      apart = λ one other low apart high. apart_in one other low apart (omega (arith, high, inside.some));
    }

    -- .. with the next one, if no line was its row
    pub more_distinct : 1 < length changed → told (get_or changed 1 d) ≡ (block.end, None) ∷ [] → AreDistinct after block.end
    more_distinct within new = record {
      within = omega (arith, inside.high, inside.up, wide);
      apart = λ one other low apart high. elim (cases_lt other block.end) [
        | inl below ↦ apart_in one other low apart below
        | inr past ↦
            let here : block.end ≡ other = omega (arith, past, high) in
            let fits : one < block.end = omega (arith, apart, high) in
            let none = new_row 1 block.end within new (one + block.shift) (omega (arith, low)) (omega (arith, fits, inside.high)) in
            subst (λ k. row_at after one ≢ row_at after k) here
            (subst (λ r. r ≢ row_at after block.end) (source one low fits) (rows_apart (row_at before (one + block.shift)) (row_at after block.end) none))
      ];
    }

  module _ (tells : MarksTell before origins after) (wide : length after ≡ lines) (distinct : ℕ) (were : AreDistinct before distinct) where
    -- a line that isn't told is as it was
    stays : (k : ℕ) → 1 ≤ k → k ≤ lines → holds k (flat_map told_lines changed) ≡ false → row_at before k ≡ row_at after k
    stays k low high none =
        let p : ℕ → Bool = λ line. is_renewed origins (row_at before line) (row_at after line) line in
        let here : p k ≡ false = sym (holds_filtered p k 1 lines low (omega (arith, high))) ∙ sym (ap (holds k) (renewed_named origins lines before after changed is)) ∙ none in
        ap (λ b. cond b (row_at after k) (row_at before k)) (sym here) ∙ told_or_stays origins k before after tells

    -- where none is told all are
    pub all_distinct : length changed ≡ 0 → AreDistinct after distinct
    all_distinct none = record {
      within = omega (arith, were.within, long, wide);
      apart = λ one other low apart high e.
          let silent : (k : ℕ) → holds k (flat_map told_lines changed) ≡ false = nothing_told changed none in
          were.apart one other low apart high
          (stays one low (omega (arith, apart, high, were.within, long)) (silent one) ∙ e ∙ sym (stays other (omega (arith, low, apart)) (omega (arith, high, were.within, long)) (silent other)));
    }

    -- where one line is told that no line was, all stay distinct
    pub one_distinct : (line : ℕ) → length changed ≡ 1 → told_lines (get_or changed 0 d) ≡ line ∷ [] → told (get_or changed 0 d) ≡ (line, None) ∷ []
        → AreDistinct after distinct
    one_distinct line single names new =
        let within : 0 < length changed = omega (arith, single) in
        let others : (k : ℕ) → line ≢ k → holds k (flat_map told_lines changed) ≡ false = λ k apart. other_told changed d line k single names apart in
        let new_to : (k : ℕ) → 1 ≤ k → k ≤ lines → row_at before k ≢ row_at after line = λ k low high.
        rows_apart (row_at before k) (row_at after line) (new_row 0 line within new k low high) in
        record {
          within = omega (arith, were.within, long, wide);
          apart = λ one other low apart high e.
              let below : other ≤ lines = omega (arith, high, were.within, long) in
              let up : 1 ≤ other = omega (arith, low, apart) in
              let fits : one ≤ lines = omega (arith, apart, below) in
              elim (cases_eq line one) [
                | inl here ↦
                    let there = stays other up below (others other (omega (arith, here, apart))) in
                    new_to other up below (there ∙ sym e ∙ ap (row_at after) (sym here))
                | inr ne ↦
                    let first = stays one low fits (others one ne) in
                    elim (cases_eq line other) [
                      | inl here ↦ new_to one low fits (first ∙ e ∙ ap (row_at after) (sym here))
                      | inr ne' ↦ were.apart one other low apart high (first ∙ e ∙ sym (stays other up below (others other ne')))
                    ]
              ];
        }
