-- What the text of the tab stops brings.
use Rattle.std.proofs.Common.{◌≡◌, ℕ, zero, suc, ◌≤◌, Bool, true, false, List, [], ◌∷◌, length, refl, sym, ap, inl, inr, ◌∙◌, arith}
use Rattle.std.proofs.Math.Dec.{lit≤}
use Rattle.std.specs.Prelude.{codes, nat_le, ◌==◌, ◌&&◌, if◌then◌else◌}
use Rattle.std.proofs.lemmas.Bool.{cases_eq}
use Rattle.std.proofs.lemmas.Bool.Decides.{nat_tests}
use Rattle.vt_parser.specs.Syntax.{escape}
use Rattle.vt_screen.specs.declared.cell.Row.{Row}
use Rattle.vt_screen.specs.Cells.{blank_row, row_at}
use Rattle.vt_screen.specs.Picture.{Picture, reset, margin_of, right_margin}
use Rattle.vt_screen.specs.Table.{table}
use Rattle.vt_screen.specs.Tabs.{stop_at}
use Rattle.vt_screen.proofs.Tables.{nth-table, table_ext, table_is}
use Rattle.vt_term.specs.declared.profile.Profile.{Profile}
use Rattle.vt_term.specs.Console.{Console, reset_console}
use Rattle.vt_term.specs.Printing.{Brings}
use Rattle.vt_term.proofs.Printed.{nothing_brings, escapes_bring, control_sequences_bring, private_sequences_bring}
use Rattle.screen_rows.specs.Texts.{text_where}
use Rattle.screen_print.proofs.Redrawn.{digit_texts, one_param, brings_as, place_brings}
use Rattle.screen_state.specs.StateText.{stop_text, stops_to, stops_text}
use Rattle.screen_state.proofs.Below.{below, joined}

-- a blank screen, with the cursor in line 1
abbrev pub empty : Bool → ℕ → List Bool → Picture
empty wide column tabs = record reset { wide = wide; column = column; tabs = tabs }

-- a line of it is a blank one
pub empty_row : (line : ℕ) → 1 ≤ line → line ≤ 24 → row_at reset.rows line ≡ blank_row
empty_row line low high = nth-table blank_row 24 (λ _. blank_row) line low high

pub empty_margin : (wide : Bool) (line : ℕ) → 1 ≤ line → line ≤ 24 → margin_of wide (row_at reset.rows line).size ≡ (if wide then 132 else 80)
empty_margin wide line low high = ap (λ (r : Row). margin_of wide r.size) (empty_row line low high)

-- the stops of the first columns
abbrev first_stops : List Bool → ℕ → List Bool
first_stops tabs n = table 132 (λ column. nat_le column n && stop_at tabs column)

no_stops : (tabs : List Bool) → table 132 (λ _. false) ≡ first_stops tabs 0
no_stops tabs = table_ext 132 _ _ (λ k low high. grind (arith, nat_tests))

all_stops : (tabs : List Bool) → length tabs ≡ 132 → first_stops tabs 132 ≡ tabs
all_stops tabs whole = table_ext 132 _ _ (λ k low high. grind (arith, nat_tests)) ∙ sym (table_is false 132 tabs whole)

no_stop_more : (tabs : List Bool) (n : ℕ) → stop_at tabs (suc n) ≡ false → first_stops tabs n ≡ first_stops tabs (suc n)
no_stop_more tabs n none = table_ext 132 _ _ (λ k low high.
    elim (cases_eq k (suc n)) [ inl e ↦ (let same = ap (stop_at tabs) e in grind (arith, nat_tests)) | inr ne ↦ grind (arith, nat_tests) ])

one_stop_more : (tabs : List Bool) (n : ℕ) → stop_at tabs (suc n) ≡ true
    → table 132 (λ column. if column == suc n then true else stop_at (first_stops tabs n) column) ≡ first_stops tabs (suc n)
one_stop_more tabs n is = table_ext 132 _ _ (λ k low high.
    let was = nth-table false 132 (λ column. nat_le column n && stop_at tabs column) k low high in
    elim (cases_eq k (suc n)) [ inl e ↦ (let same = ap (stop_at tabs) e in grind (arith, nat_tests)) | inr ne ↦ grind (arith, nat_tests) ])

module _ (profile : Profile) (tabs : List Bool) where
  -- a blank wide screen with these stops
  abbrev stopping : ℕ → List Bool → Console
  stopping column stops = record (reset_console profile) { picture = empty true column stops }

  abbrev StopsBring : ℕ → Type 0
  StopsBring n = (column : ℕ) × Brings (stopping 1 (first_stops tabs 0)) (stops_to tabs n) (stopping column (first_stops tabs n))

  one_more : (n : ℕ) → suc n ≤ 132 → (b : Bool) → stop_at tabs (suc n) ≡ b → (column : ℕ)
      → (after : ℕ) × Brings (stopping column (first_stops tabs n)) (text_where b (stop_text (suc n))) (stopping after (first_stops tabs (suc n)))
  one_more n within true is column =
      let stops = first_stops tabs n in
      let fits : suc n ≤ right_margin (empty true column stops) 1 = omega (arith, empty_margin true 1 (lit≤ tt) (lit≤ tt)) in
      let place = place_brings below (stopping column stops) 1 (suc n) refl refl (lit≤ tt) (lit≤ tt) (omega arith) fits in
      let set = escapes_bring (stopping (suc n) stops) 72 refl refl refl refl refl in (
        suc n,
        joined place (brings_as _ set refl (ap (stopping (suc n)) (one_stop_more tabs n is))),
      )
  one_more n within false is column =
      (column, brings_as _ (nothing_brings (stopping column (first_stops tabs n))) refl (ap (stopping column) (no_stop_more tabs n is)))

  stops_to_bring : (n : ℕ) → n ≤ 132 → StopsBring n
  unfolding stops_to
  stops_to_bring zero within = (1, nothing_brings (stopping 1 (first_stops tabs 0)))
  stops_to_bring (suc n) within =
      let before = stops_to_bring n (omega arith) in
      let more = one_more n within (stop_at tabs (suc n)) refl before.0 in (more.0, joined before.1 more.1)

  -- all stops, on a blank wide screen
  pub stops_bring : length tabs ≡ 132 → (column : ℕ) × Brings (reset_console profile) (stops_text tabs) (stopping column tabs)
  stops_bring whole =
      let start = reset_console profile in
      let wide = stopping 1 reset.tabs in
      let none = stopping 1 (first_stops tabs 0) in
      let widens : Brings start (escape ∷ codes "[?3h") wide =
      brings_as start (private_sequences_bring start (3 ∷ []) 104 refl (one_param 3 (lit≤ tt)) refl) (simp digit_texts refl) refl in
      let clears : Brings wide (escape ∷ codes "[3g") none =
      brings_as wide (control_sequences_bring wide (3 ∷ []) 103 refl (one_param 3 (lit≤ tt)) refl refl) (simp digit_texts refl) (ap (stopping 1) (no_stops tabs)) in
      let all = stops_to_bring 132 (lit≤ tt) in
      let full : Brings none (stops_to tabs 132) (stopping all.0 tabs) = brings_as none all.1 refl (ap (stopping all.0) (all_stops tabs whole)) in
      (all.0, joined (joined widens clears) full)
