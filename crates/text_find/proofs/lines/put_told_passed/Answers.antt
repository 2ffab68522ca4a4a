use Rattle.std.proofs.Common.{◌∙◌, ◌+◌, arith, length, subst, sym}
use Rattle.std.proofs.lemmas.Result.{err_from_is_err_and}
use Rattle.standings.specs.declared.line.Moment.{Moment}
use Rattle.tape_core.specs.Devices.{Gave}
use Rattle.text_find.specs.Lines.{passed_line}
use Rattle.text_find.proofs.BeganLemmas.{began_at, began_stays, first_more}
use Rattle.text_find.proofs.LineLemmas.{none_between, not_passed}
use Rattle.text_find.proofs.lines.put_told_passed.Goals as goal

pub loop-at-init : goal.loop-at-init
loop-at-init g c =
    let one = c.args.one.now in
    let other = c.args.other.now in
    let ends = c.args.ends.now in
    let m = c.args.moment in
    let f = passed_line m.index m.due m.len ends.before.rows.items ends.before.places.items ends.after.rows.items ends.after.places.items one.rows.items one.places.items other.rows.items other.places.items in
    let within = c.next-at.ensures.within (length one.places.items) c.requires (omega arith) in
    record {
      within = within;
      gave = λ told. subst (λ t. Gave g.W.Write.contents c.args.writer.now c.args.writer.now t)
          (sym (none_between f 0 c.next-at.result (omega arith)
          (λ k low high. not_passed m.index m.due m.len ends.before.rows.items ends.before.places.items ends.after.rows.items ends.after.places.items one.rows.items one.places.items other.rows.items other.places.items k
          (c.next-at.ensures.passed ends.before.rows.items ends.after.rows.items one.rows.items other.rows.items ends.before.places.items ends.after.places.items one.places.items other.places.items told k low high (omega (arith, high, within))))))
          (c.gives_join.ensures.nothing c.args.writer.now);
      ready = c.of-lines.ensures.ready one.rows.items;
      moment = c.of-lines.ensures.moment;
    }

pub returns-in_err-put_if_passed-clause-front : goal.returns-in_err-put_if_passed-clause-front
returns-in_err-put_if_passed-clause-front g c = λ told.
    let one = c.args.one.now in
    let other = c.args.other.now in
    let ends = c.args.ends.now in
    let m = c.args.moment in
    let f = passed_line m.index m.due m.len ends.before.rows.items ends.before.places.items ends.after.rows.items ends.after.places.items one.rows.items one.places.items other.rows.items other.places.items in
    let p = err_from_is_err_and c.from_residual.result c.from_residual.ensures.1 in
    rw p.1 (began_at g.W.Write.contents c.args.writer.now c.loop-at.writer c.put_if_passed.new.writer f c.loop-at.at (length one.places.items) (omega arith) (c.loop-at.invariant.gave told)
    (began_stays g.W.Write.contents c.loop-at.writer c.put_if_passed.new.writer (f c.loop-at.at) c.in_err-put_if_passed.ensures.refused))

pub loop-at-preserved : goal.loop-at-preserved
loop-at-preserved g c =
    let one = c.args.one.now in
    let other = c.args.other.now in
    let ends = c.args.ends.now in
    let m = c.args.moment in
    let f = passed_line m.index m.due m.len ends.before.rows.items ends.before.places.items ends.after.rows.items ends.after.places.items one.rows.items one.places.items other.rows.items other.places.items in
    let within = c.next-at-in-loop-at.ensures.within (length one.places.items) c.requires (omega (arith, c.loop-at-test.true)) in
    record {
      within = within;
      gave = λ told. subst (λ t. Gave g.W.Write.contents c.args.writer.now c.put_if_passed.new.writer t)
          (sym (none_between f (c.loop-at.at + 1) c.next-at-in-loop-at.result c.next-at-in-loop-at.ensures.low
          (λ k low high. not_passed m.index m.due m.len ends.before.rows.items ends.before.places.items ends.after.rows.items ends.after.places.items one.rows.items one.places.items other.rows.items other.places.items k
          (c.next-at-in-loop-at.ensures.passed ends.before.rows.items ends.after.rows.items one.rows.items other.rows.items ends.before.places.items ends.after.places.items one.places.items other.places.items told k low high (omega (arith, high, within))))
          ∙ first_more f c.loop-at.at))
          (c.gives_join.ensures.both _ _ _ _ _ (subst (λ (k : Moment). Gave g.W.Write.contents c.loop-at.writer c.put_if_passed.new.writer (passed_line k.index k.due k.len ends.before.rows.items ends.before.places.items ends.after.rows.items ends.after.places.items one.rows.items one.places.items other.rows.items other.places.items c.loop-at.at)) c.loop-at.invariant.moment (c.in_ok-put_if_passed.ensures.gave told)) (c.loop-at.invariant.gave told));
      ready = c.put_if_passed.ensures.ready;
      moment = c.put_if_passed.ensures.moment ∙ c.loop-at.invariant.moment;
    }
