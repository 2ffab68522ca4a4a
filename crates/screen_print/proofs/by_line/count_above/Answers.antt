use Rattle.std.proofs.Common.{◌-◌, ◌∙◌, arith, false, rules, sym, true}
use Rattle.std.proofs.lemmas.List.{length-set}
use Rattle.screen_print.specs.FindLines.{left_of}
use Rattle.screen_print.specs.ByLine.{row_on, stands_so}
use Rattle.screen_print.proofs.ByLineLemmas.{count_more, count_none, counted}
use Rattle.screen_print.proofs.FrontLemmas.{known_set}
use Rattle.screen_print.proofs.by_line.count_above.Goals as goal
use Rattle.screen_print.proofs.by_line.count_above.Goals.{then-stands_behind, else-stands_behind}

pub loop-line-init : goal.loop-line-init
loop-line-init c = record {
  counted = sym (count_none c.args.sought.now.text.now c.args.still.now (left_of c.args.one.now c.args.place));
  few = omega arith;
  whole = search rules;
  common = c.requires.common;
}

pub loop-line-preserved : goal.loop-line-preserved
loop-line-preserved c =
    let text = c.args.sought.now.text.now in
    let still = c.args.still.now in
    let line = c.loop-line.line in
    let left = left_of c.args.one.now c.args.place in
    let more = count_more text still line left (omega arith) in
    record {
      counted = elim c.if-stands_behind.branch [
        | then-stands_behind w ↦
            let one = counted (stands_so text still line left) true (sym c.stands_behind.ensures.stands ∙ w.if-stands_behind.true) in
            omega (arith, more, one, w.count-is, c.loop-line.invariant.counted)
        | else-stands_behind w ↦
            let none = counted (stands_so text still line left) false (sym c.stands_behind.ensures.stands ∙ w.if-stands_behind.false) in
            omega (arith, more, none, w.count-is, c.loop-line.invariant.counted)
      ];
      few = elim c.if-stands_behind.branch [
        | then-stands_behind w ↦ omega (arith, w.count-is, c.loop-line.invariant.few)
        | else-stands_behind w ↦ omega (arith, w.count-is, c.loop-line.invariant.few)
      ];
      whole = omega (arith, length-set c.loop-line.common (line - 1) c.stands_behind.new.common, c.loop-line.invariant.whole);
      common = known_set still c.args.end line (row_on c.args.one.now c.args.place.line) c.loop-line.common c.stands_behind.new.common (omega arith) (omega (arith, c.loop-line.invariant.whole))
          c.stands_behind.ensures.common c.loop-line.invariant.common;
    }
