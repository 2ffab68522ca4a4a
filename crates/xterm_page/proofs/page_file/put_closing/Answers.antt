use Rattle.xterm_page.specs.Parts.{closing}
use Rattle.xterm_page.proofs.page_file.put_closing.Goals as goal

pub returns : goal.returns
unfolding closing
returns g c = c.gives_join.ensures.both _ _ _ _ _ c.put_tail.ensures c.give.ensures
