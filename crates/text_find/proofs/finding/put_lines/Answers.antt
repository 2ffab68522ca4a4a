use Rattle.std.proofs.Common.{◌∙◌, ap, arith, max, subst}
use Rattle.std.proofs.lemmas.Result.{err_from_is_err_and}
use Rattle.tape_core.specs.Devices.{Gave}
use Rattle.tape_core.specs.Due.{first}
use Rattle.text_find.specs.Lines.{Began}
use Rattle.text_find.proofs.BeganLemmas.{began_first, began_none, began_second}
use Rattle.text_find.proofs.LineLemmas.{lines_in_two, places_kept}
use Rattle.text_find.proofs.CalmLemmas.{found_both}
use Rattle.text_find.proofs.finding.put_lines.Goals as goal

pub returns-in_err-ends-clause-front : goal.returns-in_err-ends-clause-front
returns-in_err-ends-clause-front g c = λ profile h h'.
    let p = err_from_is_err_and c.from_residual.result c.from_residual.ensures.1 in
    rw p.1 (began_none g.W.Write.contents c.args.writer.now _)

pub returns-in_err-steps-clause-front : goal.returns-in_err-steps-clause-front
returns-in_err-steps-clause-front g c = λ profile h h'.
    let p = err_from_is_err_and c.from_residual-in_err-steps.result c.from_residual-in_err-steps.ensures.1 in
    rw p.1 (began_none g.W.Write.contents c.args.writer.now _)

pub returns-in_err-put_from-clause-front : goal.returns-in_err-put_from-clause-front
returns-in_err-put_from-clause-front g c = λ profile h h'.
    let p = err_from_is_err_and c.from_residual-in_err-put_from.result c.from_residual-in_err-put_from.ensures.1 in
    let tape = c.args.recording.now in
    let text = c.args.text.now in
    let still = c.in_ok-ends.ends.after in
    let are = c.in_ok-ends.ensures profile (first tape.chunks c.args.start) h' in
    let is = are.after in
    let found = found_both g.T.Plays.shows g.F.Finder.screens profile tape.chunks text c.args.start c.args.ahead c.in_ok-ends.ends c.args.behind.now c.in_ok-steps.steps h' are h
    (c.in_ok-steps.ensures.sides profile (first tape.chunks c.args.start) h) c.in_ok-steps.ensures.lag c.in_ok-steps.ensures.count in
    let high = c.max-end.ensures ∙ ap (λ n. max n c.args.start) c.due_count.ensures.count in
    let all = lines_in_two g.F.Finder.screens c.due_is_below_the_count.ensures profile tape c.args.from c.args.to text c.args.start c.max-end.result still.rows.items still.places.items
    c.requires.start high c.requires.within (omega (arith, c.due_count.ensures.count, c.due_count.ensures.within)) is.rows (places_kept text (g.F.Finder.screens profile (first tape.chunks c.args.start)) still is) in
    rw p.1 (subst (λ t. Began g.W.Write.contents c.args.writer.now c.put_from.new.writer t) all
    (began_first g.W.Write.contents c.args.writer.now c.put_from.new.writer _ _ c.in_err-put_from.ensures.front))

pub returns-in_err-put_between-clause-front : goal.returns-in_err-put_between-clause-front
returns-in_err-put_between-clause-front g c = λ profile h h'.
    let p = err_from_is_err_and c.from_residual-in_err-put_between.result c.from_residual-in_err-put_between.ensures.1 in
    let tape = c.args.recording.now in
    let text = c.args.text.now in
    let still = c.in_ok-ends.ends.after in
    let are = c.in_ok-ends.ensures profile (first tape.chunks c.args.start) h' in
    let is = are.after in
    let found = found_both g.T.Plays.shows g.F.Finder.screens profile tape.chunks text c.args.start c.args.ahead c.in_ok-ends.ends c.args.behind.now c.in_ok-steps.steps h' are h
    (c.in_ok-steps.ensures.sides profile (first tape.chunks c.args.start) h) c.in_ok-steps.ensures.lag c.in_ok-steps.ensures.count in
    let high = c.max-end.ensures ∙ ap (λ n. max n c.args.start) c.due_count.ensures.count in
    let all = lines_in_two g.F.Finder.screens c.due_is_below_the_count.ensures profile tape c.args.from c.args.to text c.args.start c.max-end.result still.rows.items still.places.items
    c.requires.start high c.requires.within (omega (arith, c.due_count.ensures.count, c.due_count.ensures.within)) is.rows (places_kept text (g.F.Finder.screens profile (first tape.chunks c.args.start)) still is) in
    rw p.1 (subst (λ t. Began g.W.Write.contents c.args.writer.now c.put_between.new.writer t) all
    (began_second g.W.Write.contents c.args.writer.now c.put_from.new.writer c.put_between.new.writer _ _ c.in_ok-put_from.ensures.gave (c.in_err-put_between.ensures.front profile found)))

pub returns-clause-gave : goal.returns-clause-gave
returns-clause-gave g c = λ profile h h'.
    let tape = c.args.recording.now in
    let text = c.args.text.now in
    let still = c.in_ok-ends.ends.after in
    let are = c.in_ok-ends.ensures profile (first tape.chunks c.args.start) h' in
    let is = are.after in
    let found = found_both g.T.Plays.shows g.F.Finder.screens profile tape.chunks text c.args.start c.args.ahead c.in_ok-ends.ends c.args.behind.now c.in_ok-steps.steps h' are h
    (c.in_ok-steps.ensures.sides profile (first tape.chunks c.args.start) h) c.in_ok-steps.ensures.lag c.in_ok-steps.ensures.count in
    let high = c.max-end.ensures ∙ ap (λ n. max n c.args.start) c.due_count.ensures.count in
    let all = lines_in_two g.F.Finder.screens c.due_is_below_the_count.ensures profile tape c.args.from c.args.to text c.args.start c.max-end.result still.rows.items still.places.items
    c.requires.start high c.requires.within (omega (arith, c.due_count.ensures.count, c.due_count.ensures.within)) is.rows (places_kept text (g.F.Finder.screens profile (first tape.chunks c.args.start)) still is) in
    subst (λ t. Gave g.W.Write.contents c.args.writer.now c.put_between.new.writer t) all
    (c.gives_join.ensures.both _ _ _ _ _ (c.in_ok-put_between.ensures.gave profile found) c.in_ok-put_from.ensures.gave)
