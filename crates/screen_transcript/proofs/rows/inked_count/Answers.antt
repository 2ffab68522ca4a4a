use Rattle.std.proofs.Common.{◌-◌, ◌∙◌, arith}
use Rattle.screen_transcript.proofs.RowLemmas.{all_taken, blank_last, inked_last}
use Rattle.screen_transcript.proofs.rows.inked_count.Goals as goal

pub loop-count-init : goal.loop-count-init
loop-count-init c = record { within = omega arith; value = all_taken c.args.screen.now.picture c.screens_are_sound.ensures.rows }

pub loop-count-preserved : goal.loop-count-preserved
loop-count-preserved c =
    let n = c.loop-count.count in
    record {
      within = omega (arith, c.loop-count.invariant.within);
      value = blank_last c.args.screen.now.picture (n - 1) n (omega (arith, c.loop-count-test.true))
          (omega (arith, c.loop-count-test.true, c.loop-count.invariant.within, c.screens_are_sound.ensures.rows)) (c.is_blank.ensures.blank c.if-is_blank.true)
          ∙ c.loop-count.invariant.value;
    }

pub returns-else-is_blank-clause-value : goal.returns-else-is_blank-clause-value
returns-else-is_blank-clause-value c =
    let n = c.loop-count.count in
    inked_last c.args.screen.now.picture (n - 1) n (omega (arith, c.loop-count-test.true))
    (omega (arith, c.loop-count-test.true, c.loop-count.invariant.within, c.screens_are_sound.ensures.rows)) (c.is_blank.ensures.inked c.if-is_blank.false)
    ∙ c.loop-count.invariant.value
