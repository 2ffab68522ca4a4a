use Rattle.xterm_escaped.specs.EscapedText.{letters_text}
use Rattle.xterm_escaped.proofs.renditions.put_letters.Goals as goal

pub returns : goal.returns
unfolding letters_text
returns g c =
    c.gives_join.ensures.both _ _ _ _ _ c.give-2.ensures
    (c.gives_join.ensures.both _ _ _ _ _ c.put_ink.ensures
    (c.gives_join.ensures.both _ _ _ _ _ c.put_attributes.ensures c.give.ensures))
