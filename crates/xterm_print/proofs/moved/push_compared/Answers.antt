use Rattle.std.proofs.Common.{◌≡◌, ◌+◌, ◌-◌, ◌≤◌, ◌∙◌, ap, ap₂, append-nil, arith, false, inl, inr, length, not, refl, subst, sym}
use Rattle.std.proofs.lemmas.Bool.{cases_eq, not-true}
use Rattle.sheet.specs.Grid.{row_at}
use Rattle.xterm_print.specs.ChangeLines.{same_row}
use Rattle.xterm_print.proofs.KeptLemmas.{passing_more}
use Rattle.xterm_print.proofs.moved.push_compared.Goals as goal
use Rattle.xterm_print.proofs.moved.push_compared.Goals.{then-differ, else-differ}

pub loop-line-init : goal.loop-line-init
loop-line-init c = record {
  stay = refl;
  few = c.requires.few;
  changed = λ p each so_far. so_far;
  differ = c.requires.before;
}

pub differ-requires : goal.differ-requires
differ-requires c = record {
  place = omega (arith, ap length c.loop-line.invariant.stay, c.requires.high);
  other = omega (arith, ap length c.loop-line.invariant.stay, c.requires.high);
}

pub loop-line-preserved : goal.loop-line-preserved
loop-line-preserved c =
    let line = c.loop-line.line in
    let rows = c.args.rows.now in
    let shift = c.args.shift in
    let kept = c.loop-line.invariant in
    let low : 1 ≤ line = omega arith in
    let one : line - 1 + 1 ≡ line = omega arith in
    let other : line - 1 + shift + 1 ≡ line + shift = omega arith in
    let here : c.differ.result ≡ not (same_row (row_at rows line) (row_at rows (line + shift))) =
    c.differ.ensures.differ ∙ ap₂ (λ n m. not (same_row (row_at c.loop-line.rows n) (row_at c.loop-line.rows m))) one other
    ∙ ap (λ l. not (same_row (row_at l line) (row_at l (line + shift)))) kept.stay in
    record {
      stay = c.differ.ensures.stay ∙ kept.stay;
      few = elim c.if-differ.branch [
        | then-differ w ↦ rw w.changed-is (omega (arith, w.push.ensures.len, kept.few))
        | else-differ w ↦ rw w.changed-is (omega (arith, kept.few))
      ];
      changed = λ p each so_far.
          passing_more p line c.differ.result c.loop-line.changed.items c.if-differ.changed.items low (here ∙ sym (each line (omega arith) (omega arith)))
          (kept.changed p (λ k from below. each k from (omega arith)) so_far)
          (elim c.if-differ.branch [
            | then-differ w ↦ rw (w.changed-is, w.if-differ.true) w.push.ensures.items
            | else-differ w ↦ rw (w.changed-is, w.if-differ.false) (sym (append-nil c.loop-line.changed.items))
          ]);
      differ = λ k from below. elim c.if-differ.branch [
        | then-differ w ↦
            let at_line : same_row (row_at c.args.rows.now line) (row_at c.args.rows.now (line + shift)) ≡ false = not-true _ (sym here ∙ w.if-differ.true) in
            elim (cases_eq k line) [
              | inl e ↦ subst (λ m. same_row (row_at c.args.rows.now m) (row_at c.args.rows.now (m + shift)) ≡ false) (sym e) at_line
              | inr ne ↦ kept.differ k (omega (arith, w.first-is, from)) (omega arith)
            ]
        | else-differ w ↦ absurd (omega (arith, w.first-is, from, below))
      ];
    }
