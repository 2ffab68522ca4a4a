use Rattle.std.proofs.Common.{◌≤◌, ◌∙◌, ap, subst, sym}
use Rattle.std.proofs.lemmas.Bool.{leb-true}
use Rattle.standings.specs.Lag.{Lags}
use Rattle.standings.specs.Spans.{Stays}
use Rattle.standings.specs.Standing.{standing}
use Rattle.standings.proofs.SpanLemmas.{stays_none}
use Rattle.text_find.proofs.LineLemmas.{places_kept}
use Rattle.text_find.proofs.sides.catch_up.Goals as goal

pub returns-then-is_none-clause-sides : goal.returns-then-is_none-clause-sides
returns-then-is_none-clause-sides g c = λ profile first before after shows told are.
    let sides = c.args.sides.now in
    let span = c.in_ok-span.span in
    let kept = c.in_ok-span.ensures.rows profile before after shows told are.after.rows in
    let none : span.to ≤ span.from = leb-true span.to span.from (sym c.is_none.ensures ∙ c.if-is_none.true) in
    let same = stays_none span sides.after.rows.items c.catch_up.new.rows.items none c.in_ok-span.ensures.others in
    record {
      before = are.before;
      after = record {
        rows = kept;
        places = are.after.places ∙ ap (standing c.args.text.now) (sym are.after.rows ∙ sym same ∙ kept);
      };
      lag = subst (Lags sides.lag sides.before.rows.items) (sym same) are.lag;
    }

pub returns-clause-sides : goal.returns-clause-sides
returns-clause-sides g c = λ profile first before after shows told are.
    let text = c.args.text.now in
    let sides = c.args.sides.now in
    let one = c.catch_up.new.rows.items in
    let other = c.look_again.new.self in
    let kept = c.in_ok-span.ensures.rows profile before after shows told are.after.rows in
    let same = c.look_again.ensures.rows in
    let rows = same ∙ kept in
    let stays = c.in_ok-span.ensures.others in
    record {
      before = are.before;
      after = record {
        rows = rows;
        places = c.in_ok-look_again.ensures.places sides.after.rows.items stays (places_kept text (g.F.Finder.screens profile before) sides.after are.after)
            ∙ ap (standing text) rows;
      };
      lag = c.widened-sides.ensures _ _ _ are.lag (subst (Stays c.in_ok-span.span sides.after.rows.items) (sym same) stays);
    }
