use Rattle.std.proofs.Common.{ap, not, sym, ◌∙◌, arith}
use Rattle.vt_screen.specs.Cells.{row_at}
use Rattle.screen_rows.proofs.SameLemmas.{same_row_decides}
use Rattle.screen_rows.proofs.kept.KeptRows.compare_in_place.Goals as goal

pub returns-then-has_row-clause-differs : goal.returns-then-has_row-clause-differs
returns-then-has_row-clause-differs c = sym (ap not (sym c.has_row.ensures ∙ c.if-has_row.true))

pub returns-then-has_row-clause-source : goal.returns-then-has_row-clause-source
returns-then-has_row-clause-source c =
    let line = c.args.line in
    let before = row_at c.args.self.now.rows line in
    let after = row_at c.args.screen.now.picture.rows line in
    record {
      high = omega arith;
      slot = λ some. c.requires.slot;
      row = λ some. (same_row_decides before after).0 (sym c.has_row.ensures ∙ c.if-has_row.true);
    }
