use Rattle.std.proofs.Common.{ap, refl, sym, ◌∙◌}
use Rattle.vt_screen.specs.Cells.{row_at}
use Rattle.screen_rows.specs.SameRows.{same_row}
use Rattle.screen_rows.proofs.SameLemmas.{same_row_decides}
use Rattle.screen_rows.proofs.kept.KeptRows.has_row.Goals as goal

pub returns-else-is_touched : goal.returns-else-is_touched
returns-else-is_touched c =
    let before = row_at c.args.self.now.rows c.args.line in
    let same = c.requires.told c.args.line (sym c.is_touched.ensures ∙ c.if-is_touched.false) in
    sym (ap (same_row before) same ∙ (same_row_decides before before).1 refl)
