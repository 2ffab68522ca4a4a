use Rattle.std.proofs.Common.{◌≡◌, ℕ, List, ◌≤◌, ◌+◌, ◌-◌, ◌++◌, ◌∷◌, ap, sym, ◌∙◌, subst, append-nil, true, false, arith}
use Rattle.std.specs.Prelude.{codes}
use Rattle.tape_core.specs.Devices.{Gave}
use Rattle.vt_parser.specs.Syntax.{escape}
use Rattle.xterm_state.specs.StateText.{stops_to}
use Rattle.xterm_state.proofs.TextLemmas.{stop_more}
use Rattle.xterm_state.proofs.opening.put_stops.Goals as goal
use Rattle.xterm_state.proofs.opening.put_stops.Goals.{then-tab, else-tab}

pub loop-column-init : goal.loop-column-init
unfolding stops_to
loop-column-init g c = c.give.ensures

pub loop-column-preserved : goal.loop-column-preserved
loop-column-preserved g c =
    let tabs = c.args.screen.now.picture.tabs in
    let column = c.loop-column.column in
    let low : 1 ≤ column = c.loop-column.auto.column in
    let there = λ (t : List ℕ). escape ∷ codes "[3g" ++ t in
    elim c.if-tab.branch [
      | then-tab w ↦
          let same : w.put_stop.new.writer ≡ c.if-tab.writer = cc in
          subst (λ after. Gave g.W.Write.contents c.args.writer.now after (there (stops_to tabs (column + 1 - 1)))) same
          (subst (Gave g.W.Write.contents c.args.writer.now w.put_stop.new.writer)
          (ap there (sym (stop_more tabs column true low (sym c.tab.ensures ∙ w.if-tab.true))))
          (c.gives_join.ensures.both _ _ _ _ _ w.put_stop.ensures c.loop-column.invariant))
      | else-tab w ↦
          let same : c.loop-column.writer ≡ c.if-tab.writer = cc in
          subst (λ after. Gave g.W.Write.contents c.args.writer.now after (there (stops_to tabs (column + 1 - 1)))) same
          (subst (Gave g.W.Write.contents c.args.writer.now c.loop-column.writer)
          (ap there (sym (stop_more tabs column false low (sym c.tab.ensures ∙ w.if-tab.false) ∙ append-nil (stops_to tabs (column - 1)))))
          c.loop-column.invariant)
    ]

pub returns : goal.returns
returns g c =
    let all : c.loop-column.column - 1 ≡ c.args.screen.now.picture.columns =
    omega (arith, c.columns-column-end.ensures.value, c.columns-column-end.ensures.low, c.loop-column-test.false, c.loop-column.auto.column-end) in
    subst (Gave g.W.Write.contents c.args.writer.now c.loop-column.writer)
    (ap (λ n. escape ∷ codes "[3g" ++ stops_to c.args.screen.now.picture.tabs n) all)
    c.loop-column.invariant
