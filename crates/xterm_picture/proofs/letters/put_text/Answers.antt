use Rattle.xterm_picture.specs.Letters.{run_texts}
use Rattle.xterm_picture.proofs.letters.put_text.Goals as goal

pub returns : goal.returns
unfolding run_texts
returns g c =
    c.gives_join.ensures.both _ _ _ _ _ c.give-2.ensures
    (c.gives_join.ensures.both _ _ _ _ _ c.put_runs.ensures c.give.ensures)
