use Rattle.std.proofs.Common.{◌≡◌, ◌-◌, ◌<◌, ap, get_or, subst, sym, ◌∙◌, arith}
use Rattle.std.proofs.lemmas.List.{get_or_default}
use Rattle.vt_screen.specs.Cells.{blank_row, row_at}
use Rattle.vt_screen.specs.Picture.{SoundRow}
use Rattle.vt_screen.specs.Slots.{row_in}
use Rattle.vt_screen.proofs.Tables.{nth_is}
use Rattle.screen_rows.specs.KeptRows.{Kept}
use Rattle.screen_rows.specs.View.{kept_in}
use Rattle.screen_rows.proofs.KeptLemmas.{kept_row}
use Rattle.screen_rows.proofs.kept.KeptRows.row.Goals as goal

pub listed : goal.listed
listed c = omega (arith, nth_is 0 c.self.inside.order c.args.line, c.self.invariant.named c.args.line (omega arith) (omega arith), c.self.invariant.slots)

pub bounds-self-inside-self-inside : goal.bounds-self-inside-self-inside
bounds-self-inside-self-inside c = omega (arith, nth_is 0 c.self.inside.order c.args.line, c.self.invariant.named c.args.line (omega arith) (omega arith))

pub returns-clause-value : goal.returns-clause-value
returns-clause-value c =
    let slots = c.self.inside.slots in
    let order = c.self.inside.order in
    let line = c.args.line in
    let slot = get_or order (line - 1) 0 in
    let below : slot < 24 = omega (arith, nth_is 0 order line, c.self.invariant.named line (omega arith) (omega arith)) in
    get_or_default slots slot c.index-self-self.result blank_row (omega (arith, below, c.self.invariant.slots))
    ∙ ap (row_in slots) (sym (nth_is 0 order line)) ∙ sym (kept_row slots order line (omega arith) (omega arith))
    ∙ ap (λ (k : Kept). row_at k.rows line) c.self.view_is

pub returns-clause-sound : goal.returns-clause-sound
returns-clause-sound c =
    let slots = c.self.inside.slots in
    let order = c.self.inside.order in
    let line = c.args.line in
    let slot = get_or order (line - 1) 0 in
    let row = get_or slots slot c.index-self-self.result in
    let below : slot < 24 = omega (arith, nth_is 0 order line, c.self.invariant.named line (omega arith) (omega arith)) in
    let is : row ≡ row_at (kept_in c.self.inside).rows line =
    get_or_default slots slot c.index-self-self.result blank_row (omega (arith, below, c.self.invariant.slots))
    ∙ ap (row_in slots) (sym (nth_is 0 order line)) ∙ sym (kept_row slots order line (omega arith) (omega arith)) in
    subst (λ (k : Kept). SoundRow k.wide row) c.self.view_is (subst (SoundRow c.self.inside.wide) (sym is) (c.self.invariant.row line))
