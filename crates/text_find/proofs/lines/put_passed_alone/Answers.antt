use Rattle.std.proofs.Common.{subst, sym}
use Rattle.tape_core.specs.Devices.{Gave}
use Rattle.text_find.proofs.LineLemmas.{none_passed}
use Rattle.text_find.proofs.lines.put_passed_alone.Goals as goal

pub returns-then-keeps_all-clause-gave : goal.returns-then-keeps_all-clause-gave
returns-then-keeps_all-clause-gave g c = λ pairs.
    let one = c.args.one.now in
    let other = c.args.other.now in
    let ends = c.args.ends.now in
    let m = c.args.moment in
    subst (λ t. Gave g.W.Write.contents c.args.writer.now c.args.writer.now t)
    (sym (none_passed m.index m.due m.len ends.before.rows.items ends.before.places.items ends.after.rows.items ends.after.places.items one.rows.items one.places.items other.rows.items other.places.items
    (c.keeps_all.ensures c.if-keeps_all.true pairs)))
    (c.gives_join.ensures.nothing c.args.writer.now)

pub returns-clause-gave : goal.returns-clause-gave
returns-clause-gave g c = λ pairs. c.put_told_passed.ensures.gave (c.of-passed.ensures.told pairs)

pub returns-clause-front : goal.returns-clause-front
returns-clause-front g c = λ pairs. c.put_told_passed.ensures.front (c.of-passed.ensures.told pairs)
