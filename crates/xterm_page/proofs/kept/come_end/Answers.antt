use Rattle.std.proofs.Common.{arith, inl, inr}
use Rattle.std.proofs.lemmas.Bool.{cases_lt}
use Rattle.xterm_page.proofs.DistinctLemmas.{come_on, distinct_come}
use Rattle.xterm_page.proofs.kept.come_end.Goals as goal

pub marked_end-requires : goal.marked_end-requires
marked_end-requires c = record {
  low = omega (arith, c.requires.low, c.distinct_end-end.ensures.low);
  high = c.distinct_end-end.ensures.high;
  some = omega (arith, c.if-shift-eq0.false);
  within = omega (arith, c.if-rows-shift.false);
  rows = c.requires.rows;
  marked = c.requires.marked;
}

pub returns-clause-within : goal.returns-clause-within
returns-clause-within c = λ more. (
  omega (arith, c.if-shift-eq0.false),
  elim (cases_lt c.distinct_end-end.result c.marked_end.result) [
    | inl further ↦ c.marked_end.ensures.within further
    | inr same ↦ omega (arith, same, c.marked_end.ensures.low, c.distinct_end-end.ensures.within (omega (arith, more, same, c.marked_end.ensures.low)))
  ],
)

pub returns-clause-come : goal.returns-clause-come
returns-clause-come c = λ tells apart.
    let origins = c.args.screen.now.origins in
    let rows = c.args.rows.now in
    let after = c.args.screen.now.picture.rows in
    let lines = c.args.screen.now.picture.lines in
    come_on origins lines rows after c.args.from c.distinct_end-end.result c.marked_end.result c.args.shift
    (distinct_come origins rows after lines c.args.from c.distinct_end-end.result c.args.shift c.args.distinct c.requires.low
    (omega (arith, c.if-shift-eq0.false)) c.requires.rows c.distinct_end-end.ensures.come tells apart)
    (c.marked_end.ensures.come tells)
