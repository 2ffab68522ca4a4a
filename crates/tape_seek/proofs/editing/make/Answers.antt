use Rattle.tape_seek.proofs.editing.make.Goals as goal

pub returns-in-Insert-clause-fitting : goal.returns-in-Insert-clause-fitting
returns-in-Insert-clause-fitting c = c.insert.ensures.fitting

pub returns-in-Insert-clause-ok : goal.returns-in-Insert-clause-ok
returns-in-Insert-clause-ok c = rw c.in-Insert.is c.insert.ensures.ok

pub returns-in-Insert-clause-err : goal.returns-in-Insert-clause-err
returns-in-Insert-clause-err c = c.insert.ensures.err
