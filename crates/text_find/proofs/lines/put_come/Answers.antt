use Rattle.text_find.proofs.lines.put_come.Goals as goal

pub returns-clause-gave : goal.returns-clause-gave
returns-clause-gave g c = λ pairs.
    let ends = c.args.ends.now in
    c.put_less.ensures.gave (c.turned-turned.ensures ends.before.rows.items ends.after.rows.items ends.before.places.items ends.after.places.items pairs)

pub returns-clause-front : goal.returns-clause-front
returns-clause-front g c = λ pairs.
    let ends = c.args.ends.now in
    c.put_less.ensures.front (c.turned-turned.ensures ends.before.rows.items ends.after.rows.items ends.before.places.items ends.after.places.items pairs)
