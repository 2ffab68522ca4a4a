use Rattle.xterm_page.specs.EntryText.{size_text}
use Rattle.xterm_page.proofs.page_file.put_size.Goals as goal

pub returns : goal.returns
unfolding size_text
returns g c =
    c.gives_join.ensures.both _ _ _ _ _ c.give-2.ensures
    (c.gives_join.ensures.both _ _ _ _ _ c.give_comma_number.ensures (c.gives_join.ensures.both _ _ _ _ _ c.give_number.ensures c.give.ensures))
