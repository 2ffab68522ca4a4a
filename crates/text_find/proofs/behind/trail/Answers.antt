use Rattle.std.proofs.Common.{◌∙◌, ap, arith, sym}
use Rattle.standings.specs.Spans.{Stays}
use Rattle.standings.specs.Standing.{standing}
use Rattle.text_find.proofs.CalmLemmas.{lags_there}
use Rattle.text_find.proofs.behind.trail.Goals as goal

pub returns-then-is_none-clause-stood : goal.returns-then-is_none-clause-stood
returns-then-is_none-clause-stood c = λ text screen is trails.
    let same = c.is_none.ensures c.if-is_none.true _ _ trails.lags.before in
    record {
      rows = same ∙ is.rows;
      places = trails.stood ∙ ap (standing text) (same ∙ is.rows);
    }

pub returns-clause-lags : goal.returns-clause-lags
returns-clause-lags c = λ lags.
    let steps = c.args.steps.now in
    let after = c.args.ends.now.after.rows.items in
    let apart : Stays c.apart-span.result after steps.sides.after.rows.items = c.apart-span.ensures _ _ _ (omega (arith, c.len.ensures)) lags.before lags.after in
    lags_there c.args.ends.now steps c.follow_lag.new.self c.none-steps.result c.of-steps.result (c.in_ok-follow_lag.ensures.rows lags.before) c.none-steps.ensures (c.of-steps.ensures _ _ apart)

pub returns-clause-trails : goal.returns-clause-trails
returns-clause-trails c = λ text screen is trails.
    let steps = c.args.steps.now in
    let after = c.args.ends.now.after.rows.items in
    let rows = c.in_ok-follow_lag.ensures.rows trails.lags.before in
    let apart : Stays c.apart-span.result after steps.sides.after.rows.items = c.apart-span.ensures _ _ _ (omega (arith, c.len.ensures)) trails.lags.before trails.lags.after in
    record {
      lags = lags_there c.args.ends.now steps c.follow_lag.new.self c.none-steps.result c.of-steps.result rows c.none-steps.ensures (c.of-steps.ensures _ _ apart);
      stood = c.in_ok-follow_lag.ensures.places ∙ is.places ∙ ap (standing text) (sym is.rows ∙ sym rows);
    }

pub returns-clause-stood : goal.returns-clause-stood
returns-clause-stood c = λ text screen is trails. record {
  rows = c.in_ok-follow_lag.ensures.rows trails.lags.before ∙ is.rows;
  places = c.in_ok-follow_lag.ensures.places ∙ is.places;
}
