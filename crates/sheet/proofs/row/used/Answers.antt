use Rattle.std.proofs.Common.{ℕ, ◌+◌, ◌∙◌, get_or, length, sym, ap, inl, inr, arith}
use Rattle.std.proofs.lemmas.Bool.{cases_eq, cases_lt}
use Rattle.sheet.specs.Cells.{cell_at}
use Rattle.sheet.proofs.Rows.{cell_outside, cell_read}
use Rattle.sheet.proofs.row.used.Goals.{then-not-is_blank, else-not-is_blank}
use Rattle.sheet.proofs.row.used.Goals as goal

pub loop-i-preserved : goal.loop-i-preserved
loop-i-preserved c =
    elim c.if-not-is_blank.branch [
      | then-not-is_blank w ↦ record {
        within = omega (arith, w.used-is);
        tail = λ column low high. absurd (omega (arith, w.used-is));
      }
      | else-not-is_blank w ↦ record {
        within = omega (arith, w.used-is, c.loop-i.invariant.within);
        tail = λ column low high. elim (cases_eq column (c.loop-i.i + 1)) [
          | inl e ↦ ap (cell_at c.args.cells.now) e ∙ sym (cell_read c.args.cells.now c.index-cells-i.result (c.loop-i.i + 1) (omega arith) (omega arith))
              ∙ ap (λ (k : ℕ). get_or c.args.cells.now k c.index-cells-i.result) (omega arith) ∙ sym c.index-cells-i.is ∙ c.is_blank.ensures w.if-not-is_blank.false
          | inr ne ↦ c.loop-i.invariant.tail column (omega (arith, w.used-is)) (omega arith)
        ];
      }
    ]

pub returns : goal.returns
returns c = record {
  within = omega (arith, c.loop-i.invariant.within);
  tail = λ column past. elim (cases_lt (length c.args.cells.now) column) [
    | inl out ↦ cell_outside c.args.cells.now column (λ low. out)
    | inr within ↦ c.loop-i.invariant.tail column past (omega arith)
  ];
}
