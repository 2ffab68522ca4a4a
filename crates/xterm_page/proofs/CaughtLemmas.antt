-- Rows that become those of the sheet, one line or block after another.
use Rattle.std.proofs.Common.{◌≡◌, ◌≢◌, ℕ, zero, suc, ◌+◌, ◌-◌, ◌<◌, ◌≤◌, Bool, true, false, List, [], ◌∷◌, ◌++◌, Some, cond, drop, filter, length, get_or, take, ap, subst, sym, ◌∙◌, arith, inl, inr, rules}
use Rattle.std.specs.Prelude.{◌||◌}
use Rattle.std.specs.List.{RotatedLeft, flat_map, range_with_len}
use Rattle.std.proofs.lemmas.Bool.{cases_Bool, cases_eq, cases_lt}
use Rattle.std.proofs.lemmas.List.{drop_more, places, take-append-drop}
use Rattle.std.proofs.lemmas.List.Concat.{flat_map-append}
use borrow.Rule.Slice.PartMut.{mid_of}
use Rattle.sheet.specs.Cells.{Cell}
use Rattle.sheet.specs.Grid.{row_at}
use Rattle.screen_page.specs.Entries.{first_of}
use Rattle.xterm_rows.proofs.RangeLemmas.{range_first}
use Rattle.xterm_page.specs.Entries.{line_of}
use Rattle.xterm_page.specs.Parts.{InSheet, holds, is_renewed, renewed, told, told_lines}
use Rattle.xterm_page.specs.declared.kept.Block.{Block}
use Rattle.xterm_page.specs.declared.kept.Renewal.{Renewal}
use Rattle.xterm_page.specs.declared.kept.Renewal.TheVariants.{Line, Moved}
use Rattle.xterm_page.specs.declared.kept.Renewed.{Renewed}
use Rattle.xterm_page.specs.Same.{same_row}
use Rattle.xterm_page.proofs.EqualLemmas.{rows_equal}
use Rattle.xterm_page.proofs.RenewedLemmas.{before_one, before_range, behind_range, came_told, holds_append, holds_first, holds_rest, in_range, or_false, or_true, renewed_named, texts_taken}

-- ---- the row that a line was

found : (p : ℕ → Bool) (a n k : ℕ) → first_of (filter p (range_with_len a n)) ≡ Some k → (p k ≡ true) × ((a ≤ k) × (k < a + n))
found p a zero k is = absurd (grind arith)
found p a (suc n) k is = elim (cases_Bool (p a)) [
  | inl t ↦
      let here : a ≡ k = (let one : Some a ≡ Some k = (rw t at is) in grind arith) in
      (ap p (sym here) ∙ t, (omega (arith, here), omega (arith, here)))
  | inr f ↦
      let rest = found p (a + 1) n k (rw f at is) in
      (rest.0, (omega (arith, rest.1.0), omega (arith, rest.1.1)))
]

pub was_row : (lines : ℕ) (rows : List (List Cell)) (row : List Cell) (from : ℕ) → line_of lines rows row ≡ Some from → row_at rows from ≡ row
was_row lines rows row from is =
    rows_equal (row_at rows from) row (found (λ line. same_row (row_at rows line) row) 1 lines from is).0

-- ---- a line while rows become those of the sheet

-- a line is among those that the first renewals tell
abbrev pub so_far : List Renewal → ℕ → ℕ → Bool
so_far changed at k = holds k (flat_map told_lines (take at changed))

-- a line that was gone over has its row of after, and each other one that of before
pub record Caught (gone : Bool) (columns : ℕ) (before after rows : List (List Cell)) (k : ℕ) : Type 0 where
  pub row : row_at rows k ≡ cond gone (row_at after k) (row_at before k)
  pub wide : length (row_at rows k) ≡ columns

module _ (changed : List Renewal) (at columns lines : ℕ) (d : Renewal) (origins : List ℕ) (before after rows others : List (List Cell)) (within : at < length changed)
    (kept : (k : ℕ) → 1 ≤ k → k ≤ lines → Caught (so_far changed at k) columns before after rows k) where
  abbrev one : Renewal
  one = get_or changed at d

  abbrev Next : ℕ → Type 0
  Next k = Caught (so_far changed (at + 1) k) columns before after others k

  next_far : (k : ℕ) → so_far changed (at + 1) k ≡ (so_far changed at k || holds k (told_lines one))
  next_far k = ap (holds k) (texts_taken told_lines changed at d within) ∙ holds_append k (flat_map told_lines (take at changed)) (told_lines one)

  itself : (k : ℕ) → holds k (told_lines one) ≡ true → row_at others k ≡ row_at after k → length (row_at others k) ≡ columns → Next k
  itself k here is long =
      let hit = next_far k ∙ ap (λ b. so_far changed at k || b) here ∙ or_true (so_far changed at k) in
      record { row = is ∙ sym (ap (λ b. cond b (row_at after k) (row_at before k)) hit); wide = long }

  other : (k : ℕ) → 1 ≤ k → k ≤ lines → holds k (told_lines one) ≡ false → row_at others k ≡ row_at rows k → Next k
  other k low high none same =
      let was = kept k low high in
      let miss = next_far k ∙ ap (λ b. so_far changed at k || b) none ∙ or_false (so_far changed at k) in
      record { row = same ∙ was.row ∙ sym (ap (λ b. cond b (row_at after k) (row_at before k)) miss); wide = ap length same ∙ was.wide }

  -- the row of a line was copied
  pub line_caught : (line : ℕ) (renewed : Renewed) → one ≡ Line line renewed → row_at others line ≡ row_at after line → length (row_at others line) ≡ columns
      → ((k : ℕ) → 1 ≤ k → k ≢ line → row_at others k ≡ row_at rows k) → (k : ℕ) → 1 ≤ k → k ≤ lines → Next k
  line_caught line renewed is copied long stay k low high = elim (cases_eq line k) [
    | inl e ↦ itself k (ap (λ x. holds k (told_lines x)) is ∙ holds_first line k [] e)
        (ap (row_at others) (sym e) ∙ copied ∙ ap (row_at after) e) (ap (λ m. length (row_at others m)) (sym e) ∙ long)
    | inr ne ↦ other k low high (ap (λ x. holds k (told_lines x)) is ∙ holds_rest line k [] ne) (stay k low (λ e. ne (sym e)))
  ]

  module _ (block : Block) (is : one ≡ Moved block) (inside : InSheet lines block) (tells : flat_map told changed ≡ renewed origins lines before after) where
    abbrev count : ℕ
    count = block.end - block.from

    -- no line from its first one on was gone over
    not_yet : (k : ℕ) → block.from ≤ k → so_far changed at k ≡ false
    not_yet k low = elim (cases_Bool (so_far changed at k)) [
      | inl t ↦
          let p : ℕ → Bool = λ line. is_renewed origins (row_at before line) (row_at after line) line in
          let first = flat_map told_lines (take at changed) in
          let rest = flat_map told_lines (drop (at + 1) changed) in
          let more = range_with_len (block.from + 1) (count - 1) in
          let all : filter p (range_with_len 1 lines) ≡ first ++ block.from ∷ (more ++ rest) =
          sym (renewed_named origins lines before after changed tells) ∙ ap (flat_map told_lines) (sym (take-append-drop at changed))
          ∙ flat_map-append told_lines (take at changed) (drop at changed)
          ∙ ap (λ l. first ++ flat_map told_lines l) (drop_more changed at d within)
          ∙ ap (λ x. first ++ (told_lines x ++ rest)) is
          ∙ ap (λ l. first ++ (l ++ rest)) (range_first block.from count (count - 1) (omega (arith, inside.some))) in
          absurd (omega (arith, low, before_one p lines 1 block.from k first (more ++ rest) all t))
      | inr f ↦ f
    ]

    -- the rows of a block moved up
    pub block_caught : ((k : ℕ) → 1 ≤ k → k < block.from → row_at others k ≡ row_at rows k) → ((k : ℕ) → block.end ≤ k → row_at others k ≡ row_at rows k)
        → ((k : ℕ) → block.from ≤ k → k < block.end → row_at others k ≡ row_at rows (k + block.shift)) → (k : ℕ) → 1 ≤ k → k ≤ lines → Next k
    block_caught above behind moved k low high = elim (cases_lt k block.from) [
      | inl first ↦ other k low high (ap (λ x. holds k (told_lines x)) is ∙ before_range k block.from count first) (above k low first)
      | inr from ↦ elim (cases_lt k block.end) [
        | inl below ↦
            let source = k + block.shift in
            let was = kept source (omega (arith, low)) (omega (arith, below, inside.high)) in
            let there = moved k from below in
            let same = was_row lines before (row_at after k) source (came_told origins lines before after changed at d block k tells within is from below) in
            itself k (ap (λ x. holds k (told_lines x)) is ∙ in_range k block.from count from (omega (arith, from, below)))
            (there ∙ was.row ∙ ap (λ b. cond b (row_at after source) (row_at before source)) (not_yet source (omega (arith, from))) ∙ same)
            (ap length there ∙ was.wide)
        | inr past ↦ other k low high (ap (λ x. holds k (told_lines x)) is ∙ behind_range k block.from count (omega (arith, past, inside.some))) (behind k past)
      ]
    ]

-- ---- rows of which the first come last

module _ (rows part : List (List Cell)) (count : ℕ) (is : part ≡ drop count rows ++ take count rows) where
  pub about_whole : length part ≡ length rows
  about_whole =
      let all : length (drop count rows ++ take count rows) ≡ length rows = search (rules, places) in
      ap length is ∙ all

  pub about_by_index : count ≤ length rows → RotatedLeft rows part (length rows) count
  about_by_index within =
      let turned : List (List Cell) = drop count rows ++ take count rows in
      let up : (k : ℕ) (d : List Cell) → k + count < length rows → get_or turned k d ≡ get_or rows (k + count) d = λ k d low. grind (arith, places) in
      let over : (k : ℕ) (d : List Cell) → length rows ≤ k + count → k < length rows → get_or turned k d ≡ get_or rows (k + count - length rows) d =
      λ k d past low. grind (arith, places) in
      subst (λ l. RotatedLeft rows l (length rows) count) (sym is) (up, over)

-- how many rows turn
pub turning : (rows : List (List Cell)) (from to shift : ℕ) → 1 ≤ from → from ≤ to → to + shift ≤ length rows + 1
    → length (mid_of (from - 1) (to - 1 + shift - (from - 1)) rows) ≡ to - 1 + shift - (from - 1)
turning rows from to shift low apart high = search (rules, places)
