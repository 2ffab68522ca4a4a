use Rattle.xterm_picture.specs.Letters.{piece_text}
use Rattle.xterm_picture.proofs.letters.put_piece.Goals as goal

pub returns : goal.returns
unfolding piece_text
returns g c =
    c.gives_join.ensures.both _ _ _ _ _ c.give-4.ensures
    (c.gives_join.ensures.both _ _ _ _ _ c.put_between.ensures
    (c.gives_join.ensures.both _ _ _ _ _ c.give-3.ensures
    (c.gives_join.ensures.both _ _ _ _ _ c.put_places.ensures
    (c.gives_join.ensures.both _ _ _ _ _ c.give-2.ensures
    (c.gives_join.ensures.both _ _ _ _ _ c.put_letter_attributes.ensures c.give.ensures)))))
