-- What the text of the tab stops brings.
use Rattle.std.proofs.Common.{◌≡◌, ℕ, zero, suc, ◌≤◌, Bool, true, false, List, [], ◌∷◌, length, refl, sym, ap, inl, inr, ◌∙◌, lit<, arith}
use Rattle.std.proofs.Math.Dec.{lit≤}
use Rattle.std.specs.Prelude.{codes, None, nat_le, ◌==◌, ◌&&◌, if◌then◌else◌}
use Rattle.std.proofs.lemmas.Bool.{cases_eq}
use Rattle.std.proofs.lemmas.Bool.Decides.{nat_tests}
use Rattle.vt_parser.specs.Syntax.{escape}
use Rattle.sheet.specs.declared.rendition.Colour.TheVariants.{Default}
use Rattle.sheet.specs.Grid.{blank_rows}
use Rattle.sheet.specs.Table.{table}
use Rattle.xterm_screen.specs.Tabs.{stop_at}
use Rattle.xterm_term.specs.Console.{Console, reset_console}
use Rattle.xterm_term.specs.Size.{IsSize}
use Rattle.xterm_escaped.specs.EscapedText.{no_rendition, placed_text, text_where}
use Rattle.xterm_escaped.proofs.Cells.{LawsBelow}
use Rattle.xterm_escaped.proofs.DrawsAgain.{digit_alone}
use Rattle.xterm_escaped.proofs.Lines.{place_leads}
use Rattle.xterm_escaped.proofs.Shown.{drawing}
use Rattle.xterm_escaped.proofs.Tables.{nth-table, table_ext, table_is}
use Rattle.xterm_state.specs.StateText.{stop_text, stops_text, stops_to}
use Rattle.xterm_state.proofs.Brings.{Brings, brings_as, joined, nothing_brings, sequence_brings}
use Rattle.xterm_state.proofs.Ways.{hts_brings, way}

module _ (laws : LawsBelow) (columns lines : ℕ) (size : IsSize columns lines) (tabs : List Bool) where
  -- the stops of the first columns
  abbrev first_stops : ℕ → List Bool
  first_stops n = table columns (λ column. nat_le column n && stop_at tabs column)

  no_stops : table columns (λ _. false) ≡ first_stops 0
  no_stops = table_ext columns _ _ (λ k low high. grind (arith, nat_tests))

  all_stops : length tabs ≡ columns → first_stops columns ≡ tabs
  all_stops whole =
      table_ext columns _ (stop_at tabs) (λ k low high. grind (arith, nat_tests)) ∙ ap (λ n. table n (stop_at tabs)) (sym whole) ∙ sym (table_is false tabs)

  no_stop_more : (n : ℕ) → stop_at tabs (suc n) ≡ false → first_stops n ≡ first_stops (suc n)
  no_stop_more n none = table_ext columns _ _ (λ k low high.
      elim (cases_eq k (suc n)) [ inl e ↦ (let same = ap (stop_at tabs) e in grind (arith, nat_tests)) | inr ne ↦ grind (arith, nat_tests) ])

  one_stop_more : (n : ℕ) → stop_at tabs (suc n) ≡ true
      → table columns (λ column. if column == suc n then true else stop_at (first_stops n) column) ≡ first_stops (suc n)
  one_stop_more n is = table_ext columns _ _ (λ k low high.
      let was = nth-table false columns (λ column. nat_le column n && stop_at tabs column) k low high in
      elim (cases_eq k (suc n)) [ inl e ↦ (let same = ap (stop_at tabs) e in grind (arith, nat_tests)) | inr ne ↦ grind (arith, nat_tests) ])

  -- a blank screen with these stops
  abbrev pub stopping : ℕ → List Bool → Console
  stopping column stops =
      drawing (way columns lines stops (blank_rows columns lines Default) false 1 lines None None) (blank_rows columns lines Default) 1 column false no_rendition

  abbrev StopsBring : ℕ → Type 0
  StopsBring n = (column : ℕ) × Brings (stopping 1 (first_stops 0)) (stops_to tabs n) (stopping column (first_stops n))

  one_more : (n : ℕ) → suc n ≤ columns → (b : Bool) → stop_at tabs (suc n) ≡ b → (column : ℕ)
      → (after : ℕ) × Brings (stopping column (first_stops n)) (text_where b (stop_text (suc n))) (stopping after (first_stops (suc n)))
  one_more n within true is column =
      let wide = size.columns_high in let long = size.lines_high in let some = size.lines_low in
      let c : Console = way columns lines (first_stops n) (blank_rows columns lines Default) false 1 lines None None in
      let place : Brings (stopping column (first_stops n)) (placed_text 1 (suc n)) (stopping (suc n) (first_stops n)) = record {
        leads = place_leads laws c (blank_rows columns lines Default) 1 column false no_rendition 1 (suc n) refl refl
            (omega arith) (omega arith) (lit≤ tt) some (omega arith) within;
      } in (
        suc n,
        joined place (brings_as (hts_brings (stopping (suc n) (first_stops n)) refl) refl (ap (stopping (suc n)) (one_stop_more n is))),
      )
  one_more n within false is column =
      (column, brings_as (nothing_brings (stopping column (first_stops n))) refl (ap (stopping column) (no_stop_more n is)))

  stops_to_bring : (n : ℕ) → n ≤ columns → StopsBring n
  unfolding stops_to
  stops_to_bring zero within = (1, nothing_brings (stopping 1 (first_stops 0)))
  stops_to_bring (suc n) within =
      let before = stops_to_bring n (omega arith) in
      let more = one_more n within (stop_at tabs (suc n)) refl before.0 in (more.0, joined before.1 more.1)

  -- all stops, on a reset screen
  pub stops_bring : length tabs ≡ columns → (column : ℕ) × Brings (reset_console columns lines) (stops_text columns tabs) (stopping column tabs)
  stops_bring whole =
      let none = stopping 1 (first_stops 0) in
      let clears : Brings (reset_console columns lines) (escape ∷ codes "[3g") none =
      brings_as
      (sequence_brings laws (reset_console columns lines) (stopping 1 (table columns (λ _. false))) 3 103 (51 ∷ []) (digit_alone 3 (lit< tt)) (lit≤ tt) refl refl (λ l. refl) (λ l. refl))
      refl (ap (stopping 1) no_stops) in
      let all = stops_to_bring columns (omega arith) in
      (all.0, joined clears (brings_as all.1 refl (ap (stopping all.0) (all_stops whole))))
