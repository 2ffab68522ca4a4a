use Rattle.std.proofs.Common.{◌≡◌, ◌-◌, sym, subst, arith, append-nil, ◌∙◌, inl, inr}
use Rattle.std.proofs.lemmas.Bool.{cases_eq}
use Rattle.std.proofs.lemmas.List.{length-set}
use Rattle.screen_rows.specs.KeptRows.{IsFrom}
use Rattle.screen_rows.proofs.ChangedLemmas.{all_changed, changed_step}
use Rattle.screen_rows.proofs.KeptLemmas.{number_here, number_there}
use Rattle.screen_rows.proofs.kept.KeptRows.compare.Goals as goal
use Rattle.screen_rows.proofs.kept.KeptRows.compare.Goals.{then-differs, else-differs}

pub loop-line-preserved : goal.loop-line-preserved
loop-line-preserved c =
    let line = c.loop-line.line in
    let before = c.args.self.now.rows in
    let after = c.args.screen.now.picture.rows in
    let sources = c.loop-line.sources in
    let kept = c.loop-line.invariant in
    let compared = c.compare_line-differs in
    record {
      changed = changed_step before after line compared.result.0 c.loop-line.lines.items c.if-differs.lines.items (omega arith) compared.ensures.differs kept.changed
          (elim c.if-differs.branch [
            | then-differs w ↦ rw (w.lines-is, w.if-differs.true) w.push.ensures.items
            | else-differs w ↦ rw (w.lines-is, w.if-differs.false) (sym (append-nil c.loop-line.lines.items))
          ]);
      few = elim c.if-differs.branch [
        | then-differs w ↦ rw w.lines-is (omega (arith, w.push.ensures.len))
        | else-differs w ↦ rw w.lines-is (omega arith)
      ];
      long = length-set sources (line - 1) compared.result.1 ∙ kept.long;
      from = λ k low below. elim (cases_eq k line) [
        | inl e ↦ rw e (subst (IsFrom c.args.self.now c.args.screen.now line) (sym (number_here sources line compared.result.1 (omega arith) (omega (arith, kept.long)))) compared.ensures.source)
        | inr ne ↦ subst (IsFrom c.args.self.now c.args.screen.now k) (sym (number_there sources line k compared.result.1 (omega arith) low ne)) (kept.from k low (omega arith))
      ];
    }

pub returns-clause-lines : goal.returns-clause-lines
returns-clause-lines c =
    let last : c.loop-line.line - 1 ≡ 24 = omega arith in
    rw last at c.loop-line.invariant.changed ∙ all_changed c.args.self.now.rows c.args.screen.now.picture.rows
