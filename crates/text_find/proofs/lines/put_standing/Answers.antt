use Rattle.std.proofs.Common.{◌+◌, ◌∙◌, arith, drop, subst, sym, take}
use Rattle.std.specs.List.{flat_map}
use Rattle.std.proofs.lemmas.List.{take_all}
use Rattle.std.proofs.lemmas.Result.{err_from_is_err_and}
use Rattle.standings.specs.Found.{found_line}
use Rattle.standings.specs.Standing.{place_at, place_in}
use Rattle.standings.specs.declared.line.Moment.{Moment}
use Rattle.tape_core.specs.Devices.{Gave}
use Rattle.text_find.proofs.BeganLemmas.{began_behind, began_stays, listed_cut, listed_more}
use Rattle.text_find.proofs.lines.put_standing.Goals as goal

pub loop-at-init : goal.loop-at-init
loop-at-init g c = record {
  gave = c.gives_join.ensures.nothing c.args.writer.now;
  ready = c.of-lines.ensures.ready c.args.still.now.rows.items;
  moment = c.of-lines.ensures.moment;
}

pub returns-in_err-put_at-clause-front : goal.returns-in_err-put_at-clause-front
returns-in_err-put_at-clause-front g c =
    let p = err_from_is_err_and c.from_residual.result c.from_residual.ensures.1 in
    let m = c.args.moment in
    let still = c.args.still.now in
    let at = c.loop-at.at in
    let f = found_line 61 m.index m.due m.len still.rows.items in
    let places = still.places.items in
    rw p.1 (began_behind g.W.Write.contents c.args.writer.now c.loop-at.writer c.put_at.new.writer (flat_map f places) (flat_map f (take at places)) (f (place_at places at)) (flat_map f (drop (at + 1) places))
    (listed_cut f places at (place_in 0 0) (omega arith)) c.loop-at.invariant.gave
    (began_stays g.W.Write.contents c.loop-at.writer c.put_at.new.writer (f (place_at places at)) c.in_err-put_at.ensures.refused))

pub loop-at-preserved : goal.loop-at-preserved
loop-at-preserved g c =
    let m = c.args.moment in
    let still = c.args.still.now in
    let f = found_line 61 m.index m.due m.len still.rows.items in
    record {
      gave = subst (λ t. Gave g.W.Write.contents c.args.writer.now c.put_at.new.writer t) (sym (listed_more f still.places.items c.loop-at.at (place_in 0 0) (omega arith)))
          (c.gives_join.ensures.both _ _ _ _ _ (subst (λ (k : Moment). Gave g.W.Write.contents c.loop-at.writer c.put_at.new.writer (found_line 61 k.index k.due k.len still.rows.items (place_at still.places.items c.loop-at.at))) c.loop-at.invariant.moment c.in_ok-put_at.ensures.gave) c.loop-at.invariant.gave);
      ready = c.put_at.ensures.ready;
      moment = c.put_at.ensures.moment ∙ c.loop-at.invariant.moment;
    }

pub returns-clause-gave : goal.returns-clause-gave
returns-clause-gave g c =
    let m = c.args.moment in
    let still = c.args.still.now in
    let f = found_line 61 m.index m.due m.len still.rows.items in
    subst (λ l. Gave g.W.Write.contents c.args.writer.now c.loop-at.writer (flat_map f l)) (take_all c.loop-at.at still.places.items (omega (arith, c.loop-at-test.false))) c.loop-at.invariant.gave
