use Rattle.std.proofs.Common.{[], ◌∷◌, ◌+◌, ◌++◌, ◌∙◌, encode_utf8, subst}
use Rattle.std.specs.List.{flat_map}
use Rattle.tape_core.specs.Devices.{Gave}
use Rattle.standings.specs.Found.{column_of, heading}
use Rattle.standings.proofs.line.put_joined.Goals as goal

pub returns-clause-gave : goal.returns-clause-gave
returns-clause-gave g c =
    let m = c.args.moment in
    let place = c.args.place in
    subst (λ t. Gave g.W.Write.contents c.args.writer.now c.put_line.new.writer
    (heading c.args.sign m.index m.due (place.above + 1) (column_of c.args.rows.now place) ++ flat_map encode_utf8 t ++ 10 ∷ []))
    (c.as_slice.ensures.value ∙ c.in_ok-text.ensures) c.put_line.ensures
