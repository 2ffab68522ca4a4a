use Rattle.std.proofs.Common.{ap, subst, sym, ◌∙◌}
use Rattle.vt_screen.specs.Slots.{row_in}
use Rattle.vt_screen.specs.Table.{nth}
use Rattle.screen_rows.specs.KeptRows.{AreSources, Kept}
use Rattle.screen_rows.specs.View.{kept_in}
use Rattle.screen_rows.proofs.KeptLemmas.{kept_row, rows_caught}
use Rattle.screen_rows.proofs.kept.KeptRows.catch_up.Goals as goal

pub copy_rows-requires : goal.copy_rows-requires
copy_rows-requires c = λ line low high some.
    let slots = c.self.inside.slots in
    let order = c.self.inside.order in
    let source = nth 0 c.args.sources.now line in
    let are : AreSources (kept_in c.self.inside) c.args.screen.now c.args.sources.now =
    subst (λ (k : Kept). AreSources k c.args.screen.now c.args.sources.now) (sym c.self.view_is) c.requires in
    let from = are line low high in
    ap (row_in slots) (sym (from.slot some)) ∙ sym (kept_row slots order source some from.high) ∙ from.row some

pub invariant_of-self : goal.invariant_of-self
invariant_of-self c =
    let screen = c.args.screen.now in
    let caught = rows_caught c.copy_rows.new.slots c.take_order.new.order screen.order screen.picture.rows c.screens_are_sound.ensures.rows
    c.take_order.ensures.named c.copy_rows.ensures.copied in
    record {
      slots = c.copy_rows.ensures.whole;
      named = c.take_order.ensures.within;
      row = λ line. rw (c.is_wide-self-inside.ensures, caught) (c.screens_are_sound.ensures.row line);
    }

pub returns-clause-rows : goal.returns-clause-rows
returns-clause-rows c =
    rows_caught c.copy_rows.new.slots c.take_order.new.order c.args.screen.now.order c.args.screen.now.picture.rows c.screens_are_sound.ensures.rows
    c.take_order.ensures.named c.copy_rows.ensures.copied
