use Rattle.xterm_picture.specs.Attributes.{rgb_text}
use Rattle.xterm_picture.proofs.attributes.put_rgb.Goals as goal

pub returns : goal.returns
unfolding rgb_text
returns g c =
    c.gives_join.ensures.both _ _ _ _ _ c.give-2.ensures
    (c.gives_join.ensures.both _ _ _ _ _ c.put_hex-3.ensures
    (c.gives_join.ensures.both _ _ _ _ _ c.put_hex-2.ensures
    (c.gives_join.ensures.both _ _ _ _ _ c.put_hex.ensures c.give.ensures)))
