use Rattle.tape_seek.proofs.LogLemmas.{joined}
use Rattle.tape_seek.proofs.written_log.put_words.Goals as goal

pub returns : goal.returns
returns g c =
    rw (joined c.args.word.now c.args.fields.now)
    (c.gives_join.ensures.both _ _ _ _ _ c.put_fields.ensures c.give.ensures)
