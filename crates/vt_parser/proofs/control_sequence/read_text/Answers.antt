use Rattle.std.proofs.Common.{take, refl, sym, ◌∙◌}
use Rattle.vt_parser.specs.Reading.{gathered, collected}
use Rattle.vt_parser.proofs.Collecting.{other_joins, final_joins, further}
use Rattle.vt_parser.proofs.control_sequence.read_text.Goals as goal

pub returns-then-is_control_sequence_text-clause-runs : goal.returns-then-is_control_sequence_text-clause-runs
returns-then-is_control_sequence_text-clause-runs c =
    let text = c.collect-at.result.1 in
    let params = gathered text c.collect-at.new.params in
    let is = sym c.is_control_sequence_text.ensures ∙ c.if-is_control_sequence_text.true in
    further (take c.args.from c.args.bytes.now) (collected c.args.text c.args.params.now) text.private params
    text.over c.args.bytes.now c.collect-at.result.0
    _ _ c.if-at-bytes.true (other_joins _ _ _ _ is (c.collect-at.ensures.end c.if-at-bytes.true)) refl c.collect-at.ensures.moved

pub returns-then-is_control_sequence_final-clause-runs : goal.returns-then-is_control_sequence_final-clause-runs
returns-then-is_control_sequence_final-clause-runs c =
    let text = c.collect-at.result.1 in
    let params = gathered text c.collect-at.new.params in
    let is = sym c.is_control_sequence_final.ensures ∙ c.if-is_control_sequence_final.true in
    further (take c.args.from c.args.bytes.now) (collected c.args.text c.args.params.now) text.private params
    text.over c.args.bytes.now c.collect-at.result.0
    _ _ c.if-at-bytes.true (final_joins _ _ _ _ is) (cc (c.finish.ensures.state, c.finish.ensures.command)) c.collect-at.ensures.moved
