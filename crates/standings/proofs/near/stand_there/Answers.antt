use Rattle.std.proofs.Common.{◌≡◌, ◌-◌, ◌∙◌, ap, arith, drop, length, sym, take}
use Rattle.std.proofs.lemmas.List.{length-drop, take_all}
use Rattle.standings.proofs.LeftLemmas.{front_is}
use Rattle.standings.proofs.NearLemmas.{rows_same}
use Rattle.standings.proofs.near.stand_there.Goals as goal

pub returns : goal.returns
returns c = λ told.
    let letters = c.args.letters.now in
    let before = c.args.before in
    let characters = c.characters_below-characters.result.now in
    let rest = take (length characters - before) (drop before characters) in
    let whole : rest ≡ drop before characters = take_all (length characters - before) (drop before characters) (omega (arith, length-drop before characters)) in
    rows_same c.args.above before letters c.args.rows.now
    (front_is rest letters (sym c.starts_with.ensures.value ∙ told) ∙ ap (take (length letters)) whole
    ∙ ap (λ l. take (length letters) (drop before l)) c.characters_below-characters.ensures)
