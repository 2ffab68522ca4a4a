-- Rows that are kept up to their last cell that isn't blank.
use Rattle.std.proofs.Common.{◌≡◌, ℕ, ◌+◌, ◌-◌, ◌<◌, ◌≤◌, Bool, true, List, [], ◌∷◌, ◌++◌, length, take, refl, sym, ap, ap₂, inl, inr, ◌∙◌, subst, arith}
use Rattle.std.specs.Prelude.{if◌then◌else◌, ◌&&◌, nat_le}
use Rattle.std.proofs.lemmas.Bool.{cases_eq, cases_lt}
use Rattle.std.proofs.lemmas.Bool.Decides.{nat_tests}
use Rattle.std.proofs.lemmas.List.{get_or-take, get_or_push, get_or_append_left, get_or_past, length-append, length-take}
use Rattle.sheet.specs.declared.rendition.Colour.TheVariants.{Default}
use Rattle.sheet.specs.Table.{table}
use Rattle.sheet.specs.Cells.{Cell, blank, cell_at}
use Rattle.sheet.specs.Edits.{filled}
use Rattle.sheet.specs.Halves.{Whole}
use Rattle.sheet.specs.Grid.{Grid, IsUsed, all_touched, blank_row, no_origins, row_at, row_of}
use Rattle.sheet.specs.Held.{Held, Sound, grid_of, row_in}
use Rattle.sheet.specs.Packed.{IsPacked, packed_grid, unpacked}
use Rattle.sheet.proofs.Tables.{is_table, length-table, nth-table, nth_is, nth_past, table_ext, table_is}
use Rattle.sheet.proofs.Rows.{blank_narrow, blank_open}
use Rattle.sheet.proofs.Turns.{row_of_whole}
use Rattle.sheet.proofs.First.{first_is, first_sound}

-- a row is laid out again from the cells up to its last one that isn't blank
pub kept_row : (row : List Cell) (used : ℕ) → IsUsed row used → unpacked (length row) (take used row) ≡ row
kept_row row used is =
    table_ext (length row) _ (cell_at row) (λ k low high.
    elim (cases_lt used k) [
      | inl past ↦ nth_past (blank Default) (take used row) k (omega (arith, length-take used row)) ∙ sym (is.tail k past)
      | inr within ↦ nth_is (blank Default) (take used row) k low ∙ get_or-take used row (k - 1) (blank Default) (omega arith) ∙ sym (nth_is (blank Default) row k low)
    ])
    ∙ sym (table_is (blank Default) (length row) row refl)

-- the cells in front, and blank ones behind them, where behind a place all were blank
pub restored : (kept after : List Cell) (columns end : ℕ) (cell : Cell) → length after ≡ columns → cell ≡ blank Default
    → ((k : ℕ) → 1 ≤ k → k ≤ length kept → cell_at after k ≡ cell_at kept k)
    → ((k : ℕ) → length kept < k → end < k → cell_at after k ≡ blank Default)
    → filled (length kept + 1) end cell after ≡ unpacked columns kept
restored kept after columns end cell len is_blank front tail =
    ap (λ (n : ℕ). table n (λ (k : ℕ). if nat_le (length kept + 1) k && nat_le k end then cell else cell_at after k)) len
    ∙ table_ext columns _ (cell_at kept) (λ k low high.
    elim (cases_lt (length kept) k) [
      | inl past ↦
          let e = nth_past (blank Default) kept k past in
          elim (cases_lt end k) [ inl beyond ↦ (let was = tail k past beyond in grind (arith, nat_tests)) | inr within ↦ grind (arith, nat_tests) ]
      | inr within ↦ (let e = front k low within in grind (arith, nat_tests))
    ])

-- no cells are a blank row
pub unpacked_none : (columns : ℕ) → unpacked columns [] ≡ blank_row columns Default
unpacked_none columns = table_ext columns _ _ (λ k low high. nth_past (blank Default) [] k (omega arith))

-- The rows that were kept so far, of a sheet's rows.
pub record AreKept (columns : ℕ) (rows : List (List Cell)) (kept : List (List Cell)) (n : ℕ) : Type 0 where
  pub count : length kept ≡ n
  pub short : (slot : ℕ) → slot < n → length (row_in kept slot) ≤ columns
  pub row : (slot : ℕ) → slot < n → unpacked columns (row_in kept slot) ≡ row_at rows (slot + 1)
  pub whole : (slot : ℕ) → slot < n → Whole (row_at rows (slot + 1))

pub kept_none : (columns : ℕ) (rows kept : List (List Cell)) → kept ≡ [] → AreKept columns rows kept 0
kept_none columns rows kept none = record {
  count = ap length none;
  short = λ slot below. absurd (omega arith);
  row = λ slot below. absurd (omega arith);
  whole = λ slot below. absurd (omega arith);
}

pub kept_more : (columns : ℕ) (rows kept : List (List Cell)) (n : ℕ) (row part : List Cell) → row ≡ row_at rows (n + 1) → length row ≡ columns → Whole row
    → unpacked (length row) part ≡ row → length part ≤ length row → AreKept columns rows kept n → AreKept columns rows (kept ++ part ∷ []) (n + 1)
kept_more columns rows kept n row part is_row len whole unpacks short k = record {
  count = length-append kept (part ∷ []) ∙ ap (λ (m : ℕ). m + 1) k.count;
  short = λ slot below. elim (cases_eq slot n) [
    | inl e ↦ subst (λ (r : List Cell). length r ≤ columns) (sym (last slot e)) (omega (arith, len, short))
    | inr ne ↦ subst (λ (r : List Cell). length r ≤ columns) (sym (before slot (omega arith))) (k.short slot (omega arith))
  ];
  row = λ slot below. elim (cases_eq slot n) [
    | inl e ↦ ap (unpacked columns) (last slot e) ∙ ap (λ (m : ℕ). unpacked m part) (sym len) ∙ unpacks ∙ is_row ∙ ap (λ (m : ℕ). row_at rows (m + 1)) (sym e)
    | inr ne ↦ ap (unpacked columns) (before slot (omega arith)) ∙ k.row slot (omega arith)
  ];
  whole = λ slot below. elim (cases_eq slot n) [
    | inl e ↦ subst Whole (is_row ∙ ap (λ (m : ℕ). row_at rows (m + 1)) (sym e)) whole
    | inr ne ↦ k.whole slot (omega arith)
  ];
}
  where
    last : (slot : ℕ) → slot ≡ n → row_in (kept ++ part ∷ []) slot ≡ part
    last slot e = get_or_push kept part [] slot (k.count ∙ sym e)

    before : (slot : ℕ) → slot < n → row_in (kept ++ part ∷ []) slot ≡ row_in kept slot
    before slot below = get_or_append_left kept (part ∷ []) [] slot (omega (arith, k.count))

-- They are the sheet.
module _ (columns : ℕ) (g : Grid) (kept : List (List Cell)) (same : columns ≡ g.columns) (count : length g.rows ≡ g.lines) (k : AreKept columns g.rows kept g.lines) where
  pub packed_is : packed_grid columns kept ≡ all_touched g
  packed_is = λ i. record { columns = same i; lines = k.count i; rows = rows_are i; origins = no_origins (k.count i) }
    where
      rows_are : table (length kept) (λ line. unpacked columns (row_in kept (line - 1))) ≡ g.rows
      rows_are =
          ap (λ (n : ℕ). table n (λ line. unpacked columns (row_in kept (line - 1)))) k.count
          ∙ table_ext g.lines _ (row_at g.rows) (λ line low high. k.row (line - 1) (omega arith) ∙ ap (row_at g.rows) (omega arith))
          ∙ sym (table_is [] g.lines g.rows count)

  pub is_packed : 2 ≤ columns → columns ≤ 1000 → 1 ≤ g.lines → g.lines ≤ 500 → IsPacked columns kept
  is_packed clow chigh llow lhigh = record {
    columns_low = clow;
    columns_high = chigh;
    lines_low = omega (arith, k.count);
    lines_high = omega (arith, k.count);
    short = λ slot. elim (cases_lt slot g.lines) [
      | inl below ↦ k.short slot below
      | inr past ↦ subst (λ (r : List Cell). length r ≤ columns) (sym (outside slot past)) (omega arith)
    ];
    whole = λ slot. elim (cases_lt slot g.lines) [
      | inl below ↦ subst Whole (sym (k.row slot below)) (k.whole slot below)
      | inr past ↦ subst Whole (sym (ap (unpacked columns) (outside slot past) ∙ unpacked_none columns)) (row_of_whole columns (blank Default) (blank_narrow Default) (blank_open Default))
    ];
  }
    where
      outside : (slot : ℕ) → g.lines ≤ slot → row_in kept slot ≡ []
      outside slot past = get_or_past kept slot [] (omega (arith, k.count))

-- A sheet that is laid out from rows that were kept.
module _ (held : Held) (old : Grid) (sound : Sound held) (seen : grid_of held ≡ old) (columns : ℕ) (kept : List (List Cell)) (packed : Grid) (is : IsPacked columns kept) (read : packed_grid columns kept ≡ packed)
    (same : packed.columns ≡ old.columns) (count : packed.lines ≡ old.lines)
    (order : List ℕ) (is_order : order ≡ table (length held.order) (λ line. line - 1))
    (slots : List (List Cell)) (len : length slots ≡ length held.slots)
    (each : (slot : ℕ) → slot < length held.slots → row_in slots slot ≡ unpacked (length (row_in held.slots slot)) (row_in kept slot))
    (origins : List ℕ) (is_origins : origins ≡ no_origins (length held.origins)) where
  lines : length kept ≡ length held.order
  lines = ap (λ (g : Grid). g.lines) read ∙ count ∙ ap (λ (g : Grid). g.lines) (sym seen)

  width : columns ≡ held.columns
  width = ap (λ (g : Grid). g.columns) read ∙ same ∙ ap (λ (g : Grid). g.columns) (sym seen)

  is_slots : slots ≡ table (length held.order) (λ line. unpacked held.columns (row_in kept (line - 1)))
  is_slots = is_table [] (length held.order) slots _ (len ∙ sound.slots) (λ k low high.
      let below : k - 1 < length held.order = omega arith in
      nth_is [] slots k low ∙ each (k - 1) (omega (arith, sound.slots)) ∙ ap (λ (m : ℕ). unpacked m (row_in kept (k - 1))) (sound.cells (k - 1) below))

  all : origins ≡ no_origins (length held.order)
  all = is_origins ∙ ap no_origins sound.origins

  pub unpacked_sound : Sound (record { columns = held.columns; order = order; slots = slots; origins = origins })
  unpacked_sound =
      first_sound held.columns (length held.order) order slots origins is_order (λ line. unpacked held.columns (row_in kept (line - 1))) is_slots all
      sound.columns_low sound.columns_high sound.lines_low sound.lines_high
      (λ line. length-table held.columns _) (λ line. subst (λ (n : ℕ). Whole (unpacked n (row_in kept (line - 1)))) width (is.whole (line - 1)))

  pub unpacked_is : grid_of (record { columns = held.columns; order = order; slots = slots; origins = origins }) ≡ packed
  unpacked_is =
      first_is held.columns (length held.order) order slots origins is_order (λ line. unpacked held.columns (row_in kept (line - 1))) is_slots all
      ∙ sym again ∙ read
    where
      again : packed_grid columns kept ≡ record { columns = held.columns; lines = length held.order; rows = table (length held.order) (λ line. unpacked held.columns (row_in kept (line - 1))); origins = no_origins (length held.order) }
      again = ap₂ (λ (m n : ℕ). let g : Grid = record { columns = m; lines = n; rows = table n (λ line. unpacked m (row_in kept (line - 1))); origins = no_origins n } in g) width lines

-- ---- cells that needn't be blanked anew

pub all_used : (row : List Cell) (used : ℕ) → used ≡ length row → IsUsed row used
all_used row used is = record {
  within = omega arith;
  tail = λ column past. nth_past (blank Default) row column (omega arith);
}

-- a row whose cells in use are filled is filled
pub filled_used : (row : List Cell) (used : ℕ) (cell : Cell) → IsUsed row used → cell ≡ blank Default → filled 1 used cell row ≡ row_of (length row) cell
filled_used row used cell is is_blank =
    table_ext (length row) _ _ (λ k low high.
    elim (cases_lt used k) [
      | inl past ↦ (let e = is.tail k past in grind (arith, nat_tests))
      | inr within ↦ grind (arith, nat_tests)
    ])

pub none_used : (n : ℕ) (cell : Cell) → cell ≡ blank Default → IsUsed (row_of n cell) 0
none_used n cell is_blank = record {
  within = omega arith;
  tail = λ column past.
      elim (cases_lt n column) [
        | inl out ↦ nth_past (blank Default) (row_of n cell) column (omega (arith, length-table n (λ (k : ℕ). cell)))
        | inr within ↦ nth-table (blank Default) n (λ (k : ℕ). cell) column past within ∙ is_blank
      ];
}
