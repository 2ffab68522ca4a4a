use Rattle.text_find.proofs.CalmLemmas.{lags_same}
use Rattle.text_find.proofs.LineLemmas.{still_held}
use Rattle.text_find.proofs.sides.sides_of.Goals as goal

pub returns : goal.returns
returns g c = λ profile bytes h.
    let screen = g.F.Finder.screens profile bytes in
    let before = c.in_ok-before.ensures profile bytes h in
    let after = c.in_ok-after.ensures profile bytes h in
    record {
      before = still_held c.args.text.now screen c.in_ok-before.before before;
      after = after;
      lag = lags_same c.none.result screen _ _ c.none.ensures before.rows after.rows;
    }
