use Rattle.std.proofs.Common.{◌≡◌, ◌∙◌, ap, arith, length, subst, sym}
use Rattle.standings.specs.Standing.{standing}
use Rattle.text_find.specs.Foretold.{HasRoom, foretold_rows}
use Rattle.text_find.proofs.foretold.foresee_side.Goals as goal

pub returns-clause-lags : goal.returns-clause-lags
returns-clause-lags c = λ rows lags.
    let count : length c.args.sides.now.after.rows.items ≡ c.len-count.result = omega (arith, c.len-count.ensures) in
    c.lagging.ensures _ _ _ c.args.letters.now count lags c.in_ok-span.ensures.rows c.in_ok-span.ensures.others

pub returns-clause-between : goal.returns-clause-between
returns-clause-between c = λ first before after room is are.
    let text = c.args.text.now in
    let foretold = c.args.foretold in
    let letters = c.args.letters.now in
    let sides = c.args.sides.now in
    let count : length sides.after.rows.items ≡ c.len-count.result = omega (arith, c.len-count.ensures) in
    let here : HasRoom foretold letters sides.after.rows.items = subst (HasRoom foretold letters) (sym are.after.rows) room in
    let rows = c.in_ok-span.ensures.rows here ∙ ap (foretold_rows foretold letters) are.after.rows ∙ sym is in
    record {
      before = are.before;
      after = record {
        rows = rows;
        places = c.in_ok-span.ensures.places here (are.after.places ∙ ap (standing text) (sym are.after.rows)) ∙ ap (standing text) rows;
      };
      lag = c.lagging-sides.ensures _ _ _ letters count are.lag c.in_ok-span.ensures.rows c.in_ok-span.ensures.others;
    }
