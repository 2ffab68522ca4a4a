use Rattle.xterm_transcript.proofs.rows.tell_first_if.Goals as goal

pub returns-then-leaves-clause-tells : goal.returns-then-leaves-clause-tells
returns-then-leaves-clause-tells g c = rw c.if-leaves.true c.tell_first.ensures.tells
