use Rattle.sheet.specs.declared.rendition.Colour.TheVariants.{Default}
use Rattle.sheet.specs.Cells.{blank}
use Rattle.sheet.specs.Grid.{blank_row}
use Rattle.sheet.proofs.First.{first_sound, first_is, all_unknown}
use Rattle.sheet.proofs.Rows.{blank_narrow, blank_open}
use Rattle.sheet.proofs.Tables.{length-table}
use Rattle.sheet.proofs.Turns.{row_of_whole}
use Rattle.sheet.proofs.sheet.Sheet.new.Goals as goal

pub invariant_of-result : goal.invariant_of-result
invariant_of-result c =
    first_sound c.args.columns c.args.lines _ _ _ c.in_ok-order.ensures (λ _. blank_row c.args.columns Default) c.in_ok-slots.ensures (all_unknown _ c.args.lines (c.in_ok-origins.ensures.items_if_clones_equal (λ y h. h)))
    c.requires.columns_low c.requires.columns_high c.requires.lines_low c.requires.lines_high
    (λ line. length-table c.args.columns _) (λ line. row_of_whole c.args.columns (blank Default) (blank_narrow Default) (blank_open Default))

pub returns : goal.returns
returns c =
    first_is c.args.columns c.args.lines _ _ _ c.in_ok-order.ensures (λ _. blank_row c.args.columns Default) c.in_ok-slots.ensures (all_unknown _ c.args.lines (c.in_ok-origins.ensures.items_if_clones_equal (λ y h. h)))
