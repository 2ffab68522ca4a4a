use Rattle.std.proofs.Common.{◌∙◌, ap, sym}
use Rattle.standings.specs.Standing.{standing}
use Rattle.text_find.proofs.lines.put_passed.Goals as goal

pub returns-in-Ok-clause-gave : goal.returns-in-Ok-clause-gave
returns-in-Ok-clause-gave g c = λ text one other many are.
    c.put_passed_alone.ensures.gave (c.in-Ok.ensures text many are.before.stood (are.after.places ∙ ap (standing text) (sym are.after.rows)) are.lag)

pub returns-in-Err-clause-gave : goal.returns-in-Err-clause-gave
returns-in-Err-clause-gave g c = λ text one other many are.
    let ends = c.args.ends.now in
    let steps = c.args.steps.now in
    c.put_told_passed.ensures.gave (c.untold-passed.ensures.told ends.before.rows.items ends.after.rows.items steps.before.rows.items steps.after.rows.items
    ends.before.places.items ends.after.places.items steps.before.places.items steps.after.places.items)

pub returns-in-Ok-clause-front : goal.returns-in-Ok-clause-front
returns-in-Ok-clause-front g c = λ text one other many are.
    c.put_passed_alone.ensures.front (c.in-Ok.ensures text many are.before.stood (are.after.places ∙ ap (standing text) (sym are.after.rows)) are.lag)

pub returns-in-Err-clause-front : goal.returns-in-Err-clause-front
returns-in-Err-clause-front g c = λ text one other many are.
    let ends = c.args.ends.now in
    let steps = c.args.steps.now in
    c.put_told_passed.ensures.front (c.untold-passed.ensures.told ends.before.rows.items ends.after.rows.items steps.before.rows.items steps.after.rows.items
    ends.before.places.items ends.after.places.items steps.before.places.items steps.after.places.items)
