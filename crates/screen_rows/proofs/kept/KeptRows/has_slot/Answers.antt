use Rattle.std.proofs.Common.{ap, sym, ◌∙◌}
use Rattle.std.proofs.lemmas.Bool.{eqb-true}
use Rattle.vt_screen.specs.Slots.{slot_at}
use Rattle.vt_screen.proofs.Tables.{nth_is}
use Rattle.screen_rows.specs.KeptRows.{Kept}
use Rattle.screen_rows.proofs.kept.KeptRows.has_slot.Goals as goal

pub returns-then-line-le-LINES-clause-slot : goal.returns-then-line-le-LINES-clause-slot
returns-then-line-le-LINES-clause-slot c = λ same.
    sym (ap (λ (k : Kept). slot_at k.order c.args.line) c.self.view_is)
    ∙ nth_is 0 c.self.inside.order c.args.line ∙ eqb-true _ _ same
