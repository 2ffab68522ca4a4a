use Rattle.std.proofs.lemmas.Result.{err_from_is_err_and}
use Rattle.text_find.proofs.BeganLemmas.{began_first, began_second}
use Rattle.text_find.proofs.lines.put_ends.Goals as goal

pub returns-in_err-put_gone-clause-front : goal.returns-in_err-put_gone-clause-front
returns-in_err-put_gone-clause-front g c = λ text one other many are.
    let p = err_from_is_err_and c.from_residual.result c.from_residual.ensures.1 in
    let pairs = c.alone_of-alone.ensures text one other many are in
    rw p.1 (began_first g.W.Write.contents c.args.writer.now c.put_gone.new.writer _ _ (c.in_err-put_gone.ensures.front pairs))

pub returns-in_err-put_come-clause-front : goal.returns-in_err-put_come-clause-front
returns-in_err-put_come-clause-front g c = λ text one other many are.
    let p = err_from_is_err_and c.from_residual-in_err-put_come.result c.from_residual-in_err-put_come.ensures.1 in
    let pairs = c.alone_of-alone.ensures text one other many are in
    rw p.1 (began_second g.W.Write.contents c.args.writer.now c.put_gone.new.writer c.put_come.new.writer _ _ (c.in_ok-put_gone.ensures.gave pairs) (c.in_err-put_come.ensures.front pairs))

pub returns-clause-gave : goal.returns-clause-gave
returns-clause-gave g c = λ text one other many are.
    let pairs = c.alone_of-alone.ensures text one other many are in
    c.gives_join.ensures.both _ _ _ _ _ (c.in_ok-put_come.ensures.gave pairs) (c.in_ok-put_gone.ensures.gave pairs)
