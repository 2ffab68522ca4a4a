use Rattle.std.proofs.Common.{take, sym, ap, ap₂, ◌∙◌, subst, arith}
use Rattle.vt_parser.specs.Reading.{IsCounted, gathered, collected}
use Rattle.vt_parser.specs.Machine.{moves_to}
use Rattle.vt_parser.proofs.Collecting.{digit_joins, semicolon_joins, further}
use Rattle.vt_parser.proofs.control_sequence.collect.Goals as goal
use Rattle.vt_parser.proofs.control_sequence.collect.Goals.{in-59, in-48-to-57}

pub loop-at-preserved : goal.loop-at-preserved
loop-at-preserved c =
    let l = c.loop-at in
    let bytes = c.args.bytes.now in
    let params = gathered l.text l.params in
    let front = take c.args.from bytes in
    let state = collected c.args.text c.args.params.now in
    elim c.match-bytes-at.branch [
      | in-59 w ↦ record {
        counted = subst IsCounted (sym w.text-is) w.with_next_param-text.ensures.counted;
        from = omega arith;
        within = omega arith;
        moved = further front state l.text.private params l.text.over bytes l.at _ _ c.loop-at-test.true (semicolon_joins _ _ _ _ (omega arith))
            (ap moves_to (ap₂ collected w.text-is w.params-is ∙ w.with_next_param-text.ensures.value)) l.invariant.moved;
      }
      | in-48-to-57 w ↦ record {
        counted = subst IsCounted (sym w.text-is) (w.with_next_digit-text.ensures.counted l.invariant.counted);
        from = omega arith;
        within = omega arith;
        moved = further front state l.text.private params l.text.over bytes l.at _ _ c.loop-at-test.true
            (digit_joins _ _ _ _ (omega arith) (omega arith))
            (ap moves_to (ap₂ collected w.text-is w.params-is ∙ w.with_next_digit-text.ensures.value l.params)) l.invariant.moved;
      }
    ]
