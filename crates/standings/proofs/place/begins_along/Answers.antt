use Rattle.std.proofs.Common.{◌≡◌, ◌+◌, ◌∙◌, [], ap, arith, cond, drop, length, nat_eq, sym}
use Rattle.std.specs.List.{starts_with}
use Rattle.standings.specs.Rows.{row_below}
use Rattle.standings.specs.Standing.{begins, line_text}
use Rattle.standings.proofs.RowLemmas.{ends_here, not_begun, nothing_left, runs_there, told_here, within_part}
use Rattle.standings.proofs.place.begins_along.Goals as goal

pub returns-then-rest-part : goal.returns-then-rest-part
returns-then-rest-part c =
    let rows = c.args.rows.now in
    let at = c.loop-at.at in
    let row = row_below rows at in
    let rest = c.loop-at.rest.now in
    let part : c.behind-part.result.now ≡ drop c.loop-at.from row.characters = c.behind-part.ensures ∙ ap (drop c.loop-at.from) c.characters_below.ensures in
    c.starts_with.ensures.value ∙ ap (λ l. starts_with nat_eq l rest) part
    ∙ sym (within_part (drop c.loop-at.from row.characters) (cond row.runs_on (line_text (drop (at + 1) rows)) []) rest (omega (arith, c.if-rest-part.true, ap length part)))
    ∙ told_here rows at c.loop-at.from rest (begins c.args.text.now (line_text rows) c.args.before) (omega arith) c.loop-at.invariant.fits c.loop-at.invariant.told

pub returns-then-not-starts_with : goal.returns-then-not-starts_with
returns-then-not-starts_with c =
    let rows = c.args.rows.now in
    let at = c.loop-at.at in
    let row = row_below rows at in
    let rest = c.loop-at.rest.now in
    let part : c.behind-part.result.now ≡ drop c.loop-at.from row.characters = c.behind-part.ensures ∙ ap (drop c.loop-at.from) c.characters_below.ensures in
    let differs = ap (starts_with nat_eq rest) (sym part) ∙ sym c.starts_with-in-loop-at.ensures.value ∙ c.if-not-starts_with.true in
    sym (not_begun (drop c.loop-at.from row.characters) (cond row.runs_on (line_text (drop (at + 1) rows)) []) rest (omega (arith, c.if-rest-part.false, ap length part)) differs)
    ∙ told_here rows at c.loop-at.from rest (begins c.args.text.now (line_text rows) c.args.before) (omega arith) c.loop-at.invariant.fits c.loop-at.invariant.told

pub returns-then-not-runs_on_below : goal.returns-then-not-runs_on_below
returns-then-not-runs_on_below c =
    let rows = c.args.rows.now in
    let at = c.loop-at.at in
    let row = row_below rows at in
    let rest = c.loop-at.rest.now in
    let part : c.behind-part.result.now ≡ drop c.loop-at.from row.characters = c.behind-part.ensures ∙ ap (drop c.loop-at.from) c.characters_below.ensures in
    sym (ends_here row.runs_on (drop c.loop-at.from row.characters) (line_text (drop (at + 1) rows)) rest (sym c.runs_on_below.ensures ∙ c.if-not-runs_on_below.true) (omega (arith, c.if-rest-part.false, ap length part)))
    ∙ told_here rows at c.loop-at.from rest (begins c.args.text.now (line_text rows) c.args.before) (omega arith) c.loop-at.invariant.fits c.loop-at.invariant.told

pub loop-at-preserved : goal.loop-at-preserved
loop-at-preserved c =
    let rows = c.args.rows.now in
    let at = c.loop-at.at in
    let row = row_below rows at in
    let rest = c.loop-at.rest.now in
    let part : c.behind-part.result.now ≡ drop c.loop-at.from row.characters = c.behind-part.ensures ∙ ap (drop c.loop-at.from) c.characters_below.ensures in
    let same = ap (starts_with nat_eq rest) (sym part) ∙ sym c.starts_with-in-loop-at.ensures.value ∙ c.if-not-starts_with.false in
    let more = line_text (drop (at + 1) rows) in
    record {
      told = ap (starts_with nat_eq more) (c.behind-rest.ensures ∙ ap (λ l. drop (length l) rest) part)
          ∙ sym (runs_there row.runs_on (drop c.loop-at.from row.characters) more rest (sym c.runs_on_below.ensures ∙ c.if-not-runs_on_below.false) same (omega (arith, c.if-rest-part.false, ap length part)))
          ∙ told_here rows at c.loop-at.from rest (begins c.args.text.now (line_text rows) c.args.before) (omega arith) c.loop-at.invariant.fits c.loop-at.invariant.told;
      fits = omega arith;
    }

pub returns : goal.returns
returns c =
    c.is_empty.ensures ∙ sym (nothing_left c.args.rows.now c.loop-at.at c.loop-at.from c.loop-at.rest.now (omega (arith, c.loop-at-test.false))) ∙ c.loop-at.invariant.told
