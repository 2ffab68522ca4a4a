use Rattle.xterm_escaped.specs.EscapedText.{rendition_set_text}
use Rattle.xterm_escaped.proofs.renditions.put_rendition.Goals as goal

pub returns : goal.returns
unfolding rendition_set_text
returns g c = c.gives_join.ensures.both _ _ _ _ _ c.put_paper.ensures c.put_letters.ensures
