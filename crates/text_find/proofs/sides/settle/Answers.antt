use Rattle.std.proofs.Common.{◌∙◌, inl, sym}
use Rattle.text_find.proofs.CalmLemmas.{lags_same}
use Rattle.text_find.proofs.LineLemmas.{held_on, still_held}
use Rattle.text_find.proofs.sides.settle.Goals as goal

pub returns-then-stands_nowhere : goal.returns-then-stands_nowhere
returns-then-stands_nowhere c = λ text one other are.
    let none = c.stands_nowhere.ensures.before c.if-stands_nowhere.true in
    record {
      before = record {
        places = none ∙ sym (c.stands_nowhere.ensures.after c.if-stands_nowhere.true) ∙ are.after.places;
        stood = are.before.stood;
        rows = inl none;
      };
      after = are.after;
      lag = are.lag;
    }

pub returns-then-is_none : goal.returns-then-is_none
returns-then-is_none c = λ text one other are.
    let sides = c.args.sides.now in
    record {
      before = held_on text other sides.before sides.after (c.is_none.ensures c.if-is_none.true _ _ are.lag) are.before.stood are.after;
      after = are.after;
      lag = are.lag;
    }

pub returns : goal.returns
returns c = λ text one other are.
    let before = c.follow_lag.new.self in
    let rows = c.in_ok-follow_lag.ensures.rows are.lag in
    record {
      before = still_held text other before (record { rows = rows ∙ are.after.rows; places = c.in_ok-follow_lag.ensures.places ∙ are.after.places });
      after = are.after;
      lag = lags_same c.none-sides.result other before.rows.items c.args.sides.now.after.rows.items c.none-sides.ensures (rows ∙ are.after.rows) are.after.rows;
    }
