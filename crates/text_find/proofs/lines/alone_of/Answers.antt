use Rattle.std.proofs.Common.{◌∙◌, ap, sym}
use Rattle.standings.specs.Standing.{standing}
use Rattle.text_find.proofs.lines.alone_of.Goals as goal

pub returns-in-Ok : goal.returns-in-Ok
returns-in-Ok c = λ text one other many are.
    c.in-Ok.ensures text many are.before.stood (are.after.places ∙ ap (standing text) (sym are.after.rows)) are.lag
