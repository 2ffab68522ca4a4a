use Rattle.std.proofs.Common.{◌≡◌, ◌∙◌, List, [], ap, subst, sym}
use Rattle.std.proofs.lemmas.Result.{err_from_is_err_and}
use Rattle.standings.specs.declared.place.Place.{Place}
use Rattle.tape_core.specs.Devices.{Gave}
use Rattle.text_find.specs.Lines.{Began, passed_lines}
use Rattle.text_find.proofs.BeganLemmas.{began_whole}
use Rattle.text_find.proofs.LineLemmas.{held_on, nothing_passed, passed_by, places_kept}
use Rattle.text_find.proofs.each_byte.put_step.Goals as goal

pub returns-then-is_none-clause-gave : goal.returns-then-is_none-clause-gave
returns-then-is_none-clause-gave g c = λ text one other len between.
    let m = c.args.moment in
    let ends = c.args.ends.now in
    let sides = c.args.steps.now in
    let lines = λ (ps : List Place). passed_lines m.index m.due m.len ends.before.rows.items ends.before.places.items ends.after.rows.items ends.after.places.items
    sides.before.rows.items sides.before.places.items sides.after.rows.items ps in
    let none : lines sides.after.places.items ≡ [] = ap lines (places_kept text other sides.after between.after)
    ∙ nothing_passed text m.index m.due m.len ends.before.rows.items ends.before.places.items ends.after.rows.items ends.after.places.items
    sides.before.rows.items sides.before.places.items sides.after.rows.items (c.is_none.ensures c.if-is_none.true _ _ between.lag) between.before.stood in
    subst (λ t. Gave g.W.Write.contents c.args.writer.now c.args.writer.now t)
    (sym none ∙ passed_by text m.index m.due m.len ends.before.rows.items ends.before.places.items ends.after.rows.items ends.after.places.items one other sides.before sides.after between.before between.after)
    (c.gives_join.ensures.nothing c.args.writer.now)

pub returns-then-is_none-clause-still : goal.returns-then-is_none-clause-still
returns-then-is_none-clause-still g c = λ text one other between.
    let sides = c.args.steps.now in
    record {
      before = held_on text other sides.before sides.after (c.is_none.ensures c.if-is_none.true _ _ between.lag) between.before.stood between.after;
      after = between.after;
      lag = between.lag;
    }

pub returns-in_err-put_passed-clause-front : goal.returns-in_err-put_passed-clause-front
returns-in_err-put_passed-clause-front g c = λ text one other len between.
    let p = err_from_is_err_and c.from_residual.result c.from_residual.ensures.1 in
    let m = c.args.moment in
    let ends = c.args.ends.now in
    let sides = c.args.steps.now in
    rw p.1 (subst (λ t. Began g.W.Write.contents c.args.writer.now c.put_passed.new.writer t)
    (passed_by text m.index m.due m.len ends.before.rows.items ends.before.places.items ends.after.rows.items ends.after.places.items one other sides.before sides.after between.before between.after)
    (c.in_err-put_passed.ensures.front text one other len between))

pub returns-in_err-settle-clause-front : goal.returns-in_err-settle-clause-front
returns-in_err-settle-clause-front g c = λ text one other len between.
    let p = err_from_is_err_and c.from_residual-in_err-settle.result c.from_residual-in_err-settle.ensures.1 in
    let m = c.args.moment in
    let ends = c.args.ends.now in
    let sides = c.args.steps.now in
    rw p.1 (began_whole g.W.Write.contents c.args.writer.now c.put_passed.new.writer _
    (subst (λ t. Gave g.W.Write.contents c.args.writer.now c.put_passed.new.writer t)
    (passed_by text m.index m.due m.len ends.before.rows.items ends.before.places.items ends.after.rows.items ends.after.places.items one other sides.before sides.after between.before between.after)
    (c.in_ok-put_passed.ensures.gave text one other len between)))

pub returns-clause-still : goal.returns-clause-still
returns-clause-still g c = λ text one other between. c.in_ok-settle.ensures text one other between
