use Rattle.std.proofs.Common.{◌∙◌, subst, sym}
use Rattle.standings.specs.Spans.{Stays}
use Rattle.text_find.proofs.CalmLemmas.{lags_same}
use Rattle.text_find.proofs.LineLemmas.{still_held}
use Rattle.text_find.proofs.behind.go_back.Goals as goal

pub returns : goal.returns
returns c = λ text one is stays.
    let sides = c.args.sides.now in
    let rows = c.in_ok-follow.ensures.rows (subst (Stays c.args.span sides.after.rows.items) (sym is.rows) stays) ∙ is.rows in
    record {
      before = still_held text one sides.before is;
      after = record { rows = rows; places = c.in_ok-follow.ensures.places ∙ is.places };
      lag = lags_same c.none-sides.result one sides.before.rows.items c.follow.new.self.rows.items c.none-sides.ensures is.rows rows;
    }
