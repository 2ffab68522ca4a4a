use Rattle.std.proofs.Common.{◌≡◌, ℕ, List, ◌≤◌, ◌-◌, ◌++◌, ◌∷◌, length, ap, sym, ◌∙◌, append_assoc, append-nil, true, false, arith}
use Rattle.std.specs.Prelude.{codes}
use Rattle.std.proofs.lemmas.List.{length-append}
use Rattle.vt_parser.specs.Syntax.{escape}
use Rattle.screen_state.specs.StateText.{stop_text, stops_to}
use Rattle.screen_state.proofs.TextLemmas.{stop_more}
use Rattle.screen_state.proofs.opening.push_stops.Goals as goal
use Rattle.screen_state.proofs.opening.push_stops.Goals.{then-tab, else-tab}

pub loop-column-init : goal.loop-column-init
unfolding stops_to
loop-column-init c = record {
  text = c.push_bytes.ensures;
  short = omega (arith, simp length-append at (ap length c.push_bytes.ensures));
}

pub loop-column-preserved : goal.loop-column-preserved
loop-column-preserved c =
    let tabs = c.args.screen.now.picture.tabs in
    let column = c.loop-column.column in
    let before = c.args.text.now.items in
    let so_far = escape ∷ codes "[?3h" ++ escape ∷ codes "[3g" ++ stops_to tabs (column - 1) in
    let low : 1 ≤ column = c.loop-column.auto.column in
    let there = λ (t : List ℕ). before ++ (escape ∷ codes "[?3h" ++ escape ∷ codes "[3g" ++ t) in
    elim c.if-tab.branch [
      | then-tab w ↦
          let same : c.if-tab.text.items ≡ w.push_stop.new.text.items = cc in record {
            text =
                same ∙ w.push_stop.ensures.text ∙ ap (λ (t : List ℕ). t ++ stop_text column) c.loop-column.invariant.text
                ∙ append_assoc before so_far (stop_text column)
                ∙ ap there (sym (stop_more tabs column true low (sym c.tab.ensures ∙ w.if-tab.true)));
            short = omega (arith, ap length same, w.push_stop.ensures.short, c.loop-column.invariant.short);
          }
      | else-tab w ↦
          let same : c.if-tab.text.items ≡ c.loop-column.text.items = cc in record {
            text =
                same ∙ c.loop-column.invariant.text
                ∙ ap there (sym (stop_more tabs column false low (sym c.tab.ensures ∙ w.if-tab.false) ∙ append-nil (stops_to tabs (column - 1))));
            short = omega (arith, ap length same, c.loop-column.invariant.short);
          }
    ]
