use Rattle.std.proofs.Common.{sym, ◌∙◌}
use Rattle.screen_rows.proofs.SameLemmas.{same_row_decides}
use Rattle.screen_rows.proofs.kept.KeptRows.source_of.Goals as goal

pub returns-then-same_row : goal.returns-then-same_row
returns-then-same_row c =
    let same = (same_row_decides c.row.result.now c.row-then-has_slot.result.now).0 (sym c.same_row.ensures ∙ c.if-same_row.true) in
    record {
      high = c.has_slot.ensures.high c.if-has_slot.true;
      slot = λ some. c.has_slot.ensures.slot c.if-has_slot.true ∙ c.requires.slot;
      row = λ some. sym c.row.ensures.value ∙ same ∙ c.row-then-has_slot.ensures.value;
    }
