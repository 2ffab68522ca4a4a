use Rattle.std.proofs.Common.{◌≡◌, ◌-◌, ◌∙◌, ◌++◌, ap, ap₂, append-nil, arith, length, sym}
use Rattle.std.proofs.lemmas.List.{drop_all, take_all}
use Rattle.std.proofs.lemmas.Result.{on_ok_weaker}
use Rattle.standings.specs.Spans.{places_along}
use Rattle.standings.proofs.PlaceLemmas.{standing_along}
use Rattle.standings.proofs.place.push_standing.Goals as goal

pub returns : goal.returns
returns c =
    let text = c.args.text.now in
    let rows = c.args.rows.now in
    let old = c.args.places.now.items in
    let all = c.len-all.result in
    let long : all ≡ length old = omega (arith, c.len-all.ensures, c.args.places.now.ok.0) in
    let many : length rows - 0 ≡ length rows = omega arith in
    on_ok_weaker c.renew.result (λ placed.
    placed
    ∙ ap₂ (λ a b. a ++ (places_along text rows 0 (length rows - 0) ++ b)) (take_all all old (omega (arith, long))) (drop_all all old (omega (arith, long)))
    ∙ ap (λ l. old ++ l) (append-nil (places_along text rows 0 (length rows - 0)) ∙ ap (places_along text rows 0) many ∙ sym (standing_along text rows)))
    c.renew.ensures.items
