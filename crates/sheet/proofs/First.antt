-- The first rows of a sheet.
use Rattle.std.proofs.Common.{◌≡◌, ℕ, ◌+◌, ◌-◌, ◌<◌, ◌≤◌, ◌++◌, ◌∷◌, List, [], length, sym, ap, ◌∙◌, subst, arith}
use Rattle.std.specs.Prelude.{if◌then◌else◌, ◌&&◌, nat_le, replicate}
use Rattle.std.proofs.lemmas.Bool.Decides.{nat_tests}
use Rattle.std.proofs.lemmas.List.{length-replicate, get_or-replicate}
use Rattle.std.proofs.lemmas.List.FromFn.{map-range_with_len_more}
use Rattle.sheet.specs.Cells.{Cell}
use Rattle.sheet.specs.Table.{table}
use Rattle.sheet.specs.Halves.{Whole}
use Rattle.sheet.specs.Grid.{no_origins}
use Rattle.sheet.specs.Held.{Held, Sound, grid_of, row_in, rows_of, slot_at}
use Rattle.sheet.proofs.Tables.{length-table, get_or-table, nth-table_any, nth_is, table_ext, is_table}

pub table_none : {X : Type 0} (xs : List X) (f : ℕ → X) → xs ≡ [] → xs ≡ table 0 f
unfolding table
table_none xs f none = none

pub table_more : {X : Type 0} (n : ℕ) (f : ℕ → X) → table (n + 1) f ≡ table n f ++ f (n + 1) ∷ []
unfolding table
table_more n f = map-range_with_len_more f 1 n (n + 1) (omega arith)

pub all_unknown : (origins : List ℕ) (n : ℕ) → origins ≡ replicate n 0 → origins ≡ no_origins n
all_unknown origins n copies =
    copies ∙ is_table 0 n (replicate n 0) (λ _. 0) (length-replicate n 0) (λ k low high.
    nth_is 0 (replicate n 0) k low ∙ get_or-replicate n (k - 1) 0 0 (omega arith))

module _ (columns lines : ℕ) (order : List ℕ) (slots : List (List Cell)) (origins : List ℕ)
    (is_order : order ≡ table lines (λ line. line - 1)) (row : ℕ → List Cell) (is_slots : slots ≡ table lines row) (is_origins : origins ≡ no_origins lines) where
  abbrev pub first : Held
  first = record { columns = columns; order = order; slots = slots; origins = origins }

  len_order : length order ≡ lines
  len_order = ap length is_order ∙ length-table lines _

  name : (k : ℕ) → slot_at order k ≡ (if nat_le 1 k && nat_le k lines then k - 1 else 0)
  name k = ap (λ (names : List ℕ). slot_at names k) is_order ∙ nth-table_any 0 lines (λ line. line - 1) k

  row_there : (slot : ℕ) → slot < lines → row_in slots slot ≡ row (slot + 1)
  row_there slot below = ap (λ (rows : List (List Cell)). row_in rows slot) is_slots ∙ get_or-table lines row slot [] below

  pub first_sound : 2 ≤ columns → columns ≤ 1000 → 1 ≤ lines → lines ≤ 500
      → ((line : ℕ) → length (row line) ≡ columns) → ((line : ℕ) → Whole (row line)) → Sound first
  first_sound clow chigh llow lhigh lengths wholes = record {
    columns_low = clow;
    columns_high = chigh;
    lines_low = omega (arith, len_order);
    lines_high = omega (arith, len_order);
    slots = ap length is_slots ∙ length-table lines _ ∙ sym len_order;
    origins = ap length is_origins ∙ length-table lines _ ∙ sym len_order;
    once = record {
      named = λ k. (let n = name k in let l = len_order in grind (arith, nat_tests));
      apart = λ j k jlow jhigh klow khigh same. (let a = name j in let b = name k in let l = len_order in grind (arith, nat_tests));
    };
    cells = λ slot below. ap length (row_there slot (omega (arith, len_order))) ∙ lengths (slot + 1);
    whole = λ slot below. subst Whole (sym (row_there slot (omega (arith, len_order)))) (wholes (slot + 1));
  }

  pub first_is : grid_of first ≡ record { columns = columns; lines = lines; rows = table lines row; origins = no_origins lines }
  first_is = λ i. record { columns = columns; lines = len_order i; rows = rows_are i; origins = is_origins i }
    where
      rows_are : rows_of first ≡ table lines row
      rows_are =
          ap (λ (n : ℕ). table n (λ line. row_in slots (slot_at order line))) len_order
          ∙ table_ext lines _ _ (λ k low high.
          let named : slot_at order k ≡ k - 1 = (let n = name k in grind (arith, nat_tests)) in
          ap (row_in slots) named ∙ row_there (k - 1) (omega arith) ∙ ap row (omega arith))
