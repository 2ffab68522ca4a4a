use Rattle.xterm_escaped.specs.EscapedText.{placed_text}
use Rattle.xterm_escaped.proofs.escaped_print.put_place.Goals as goal

pub returns : goal.returns
unfolding placed_text
returns g c =
    c.gives_join.ensures.both _ _ _ _ _ c.give-3.ensures
    (c.gives_join.ensures.both _ _ _ _ _ c.put_number-2.ensures
    (c.gives_join.ensures.both _ _ _ _ _ c.give-2.ensures
    (c.gives_join.ensures.both _ _ _ _ _ c.put_number.ensures c.give.ensures)))
