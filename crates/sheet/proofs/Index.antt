-- Rows behind an order: what a write to one slot does to the rows by line.
use Rattle.std.proofs.Common.{◌≡◌, ◌≢◌, ℕ, ◌+◌, ◌-◌, ◌<◌, ◌≤◌, List, [], length, get_or, set, sym, ap, ap₂, inl, inr, ◌∙◌, subst, arith}
use Rattle.std.specs.Prelude.{if◌then◌else◌, ◌==◌}
use Rattle.std.proofs.lemmas.Bool.{cases_eq, cases_lt}
use Rattle.std.proofs.lemmas.Bool.Decides.{nat_tests}
use Rattle.std.proofs.lemmas.List.{length-set, get_or_default, get_or-set_same, get_or-set_other}
use Rattle.sheet.specs.Cells.{Cell}
use Rattle.sheet.specs.declared.rendition.Rendition.{Rendition}
use Rattle.sheet.specs.Table.{table}
use Rattle.sheet.specs.Edits.{run_put}
use Rattle.sheet.specs.Halves.{Whole}
use Rattle.sheet.specs.Grid.{Grid, Told, origin_of, row_at, with_row}
use Rattle.sheet.specs.Held.{Held, Sound, slot_at, row_in, rows_of, grid_of}
use Rattle.sheet.proofs.Wholes.{whole_run, length_run}
use Rattle.sheet.proofs.Tables.{length-table, nth-table, nth_is, nth_none, nth_past, table_ext, get_or-set, nth-set}

-- the row of a line lies in the line's slot
pub row_there : (h : Held) (line : ℕ) → 1 ≤ line → line ≤ length h.order → row_at (rows_of h) line ≡ row_in h.slots (slot_at h.order line)
row_there h line low high = nth-table [] (length h.order) (λ k. row_in h.slots (slot_at h.order k)) line low high

-- a line whose origin is known is one of the sheet
pub known_low : (origins : List ℕ) (line : ℕ) → 1 ≤ origin_of origins line → 1 ≤ line
known_low origins line known = elim (cases_lt 0 line) [
  | inl low ↦ low
  | inr zero ↦ (let e : line ≡ 0 = omega arith in let f = ap (origin_of origins) e in let n = nth_none 0 origins in absurd (omega (arith, f, n)))
]

pub known_high : (origins : List ℕ) (line : ℕ) → 1 ≤ origin_of origins line → line ≤ length origins
known_high origins line known = elim (cases_lt (length origins) line) [
  | inl past ↦ absurd (omega (arith, nth_past 0 origins line past))
  | inr high ↦ high
]

-- What a body leaves that opened a line's slot: the fields held, as the value old that contracts see.
module _ (held : Held) (old : Grid) (sound : Sound held) (seen : grid_of held ≡ old) (line : ℕ) (low : 1 ≤ line) (high : line ≤ old.lines) where
  pub inside : line ≤ length held.order
  inside = omega (arith, ap (λ (g : Grid). g.lines) seen)

  module _ (slot : ℕ) (is_slot : slot ≡ get_or held.order (line - 1) slot) where
    pub slot_is : slot ≡ slot_at held.order line
    slot_is = is_slot ∙ get_or_default held.order (line - 1) slot 0 (let i = inside in omega arith) ∙ sym (nth_is 0 held.order line low)

    pub slot_below : slot < length held.slots
    slot_below = omega (arith, slot_is, sound.once.named line, sound.slots)

    module _ (row : List Cell) (is_row : row ≡ get_or held.slots slot row) where
      row_slot : row ≡ row_in held.slots slot
      row_slot = is_row ∙ get_or_default held.slots slot row [] slot_below

      pub row_read : row ≡ row_at old.rows line
      row_read = row_slot ∙ ap (row_in held.slots) slot_is ∙ sym (row_there held line low inside) ∙ ap (λ (g : Grid). row_at g.rows line) seen

      pub row_whole : Whole row
      row_whole = subst Whole (sym row_slot) (sound.whole slot (omega (arith, slot_below, sound.slots)))

      pub row_length : length row ≡ held.columns
      row_length = ap length row_slot ∙ sound.cells slot (omega (arith, slot_below, sound.slots))

      pub row_columns : length row ≡ old.columns
      row_columns = row_length ∙ ap (λ (g : Grid). g.columns) seen

    module _ (new : List Cell) where
      abbrev pub replaced : Held
      replaced = record { columns = held.columns; order = held.order; slots = set held.slots slot new; origins = set held.origins (line - 1) 0 }

      -- what lies in the slot of line k then
      one_row_at : (k : ℕ) → 1 ≤ k → k ≤ length held.order → row_in replaced.slots (slot_at held.order k) ≡ (if k == line then new else row_at (rows_of held) k)
      one_row_at k klow khigh =
          let there = row_there held k klow khigh in
          let put = get_or-set [] held.slots slot new (slot_at held.order k) slot_below in
          let is = slot_is in
          elim (cases_eq k line) [
            | inl same ↦
                let e : slot_at held.order k ≡ slot = ap (slot_at held.order) same ∙ sym is in
                grind (arith, nat_tests)
            | inr other ↦
                let e : slot_at held.order k ≢ slot = λ f. other (sound.once.apart k line klow khigh low inside (f ∙ is)) in
                grind (arith, nat_tests)
          ]

      held_changed : rows_of replaced ≡ with_row line new (rows_of held)
      held_changed =
          table_ext (length held.order) _ _ one_row_at
          ∙ sym (ap (λ (n : ℕ). table n (λ k. if k == line then new else row_at (rows_of held) k)) (length-table (length held.order) (λ k. row_in held.slots (slot_at held.order k))))

      pub rows_changed : (after : List Cell) → new ≡ after → rows_of replaced ≡ with_row line after old.rows
      rows_changed after is_new = held_changed ∙ ap₂ (λ (r : List Cell) (g : Grid). with_row line r g.rows) is_new seen

      pub sound_changed : Whole new → length new ≡ held.columns → Sound replaced
      sound_changed whole len = record {
        columns_low = sound.columns_low;
        columns_high = sound.columns_high;
        lines_low = sound.lines_low;
        lines_high = sound.lines_high;
        slots = length-set held.slots slot new ∙ sound.slots;
        origins = length-set held.origins (line - 1) 0 ∙ sound.origins;
        once = sound.once;
        cells = λ at below. lies (λ r. length r ≡ held.columns) at len (sound.cells at below);
        whole = λ at below. lies Whole at whole (sound.whole at below);
      }
        where
          lies : (P : List Cell → Type 0) (at : ℕ) → P new → P (row_in held.slots at) → P (row_in replaced.slots at)
          lies P at here there =
              elim (cases_eq at slot) [
                | inl same ↦ subst P (sym (ap (row_in replaced.slots) same ∙ get_or-set_same held.slots slot new [] slot_below)) here
                | inr other ↦ subst P (sym (get_or-set_other held.slots slot at new [] other)) there
              ]

      -- a line whose origin is known then isn't this one
      pub told_changed : (before : List (List Cell)) → Told before old → Told before (grid_of replaced)
      told_changed before told k known =
          let klow : 1 ≤ k = known_low replaced.origins k known in
          let khigh : k ≤ length held.order = omega (arith, known_high replaced.origins k known, length-set held.origins (line - 1) 0, sound.origins) in
          let written : origin_of replaced.origins k ≡ (if k == line - 1 + 1 then 0 else origin_of held.origins k) = nth-set 0 held.origins (line - 1) 0 k (omega (arith, inside, sound.origins)) klow in
          let other : k ≢ line = λ e. this k known written e in
          let was : origin_of replaced.origins k ≡ origin_of held.origins k = grind (arith, nat_tests) in
          let seen_was : origin_of held.origins k ≡ origin_of old.origins k = ap (λ (g : Grid). origin_of g.origins k) seen in
          let same : row_at (rows_of replaced) k ≡ row_at (rows_of held) k = row_there replaced k klow khigh ∙ one_row_at k klow khigh ∙ unmoved k other in
          same ∙ ap (λ (g : Grid). row_at g.rows k) seen ∙ told k (omega (arith, was, seen_was)) ∙ ap (row_at before) (sym (was ∙ seen_was))
        where
          this : (k : ℕ) → 1 ≤ origin_of replaced.origins k → origin_of replaced.origins k ≡ (if k == line - 1 + 1 then 0 else origin_of held.origins k) → k ≡ line → ⊥
          this k known written e = grind (arith, nat_tests)

          unmoved : (k : ℕ) → k ≢ line → (if k == line then new else row_at (rows_of held) k) ≡ row_at (rows_of held) k
          unmoved k other = grind (arith, nat_tests)

    -- characters that are put one after another in that row
    module _ (row : List Cell) (is_row : row ≡ get_or held.slots slot row) (rendition : Rendition) (cs : List ℕ) (column : ℕ) (new : List Cell) (is_new : new ≡ run_put column cs rendition row) where
      pub sound_run : Sound (replaced new)
      sound_run =
          sound_changed new (subst Whole (sym is_new) (whole_run rendition cs column row (row_whole row is_row)))
          (ap length is_new ∙ length_run rendition cs column row ∙ row_length row is_row)

      pub rows_run : rows_of (replaced new) ≡ with_row line (run_put column cs rendition (row_at old.rows line)) old.rows
      rows_run = rows_changed new _ (is_new ∙ ap (run_put column cs rendition) (row_read row is_row))
