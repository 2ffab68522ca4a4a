use Rattle.std.proofs.Common.{◌≡◌, ◌∙◌, ◌+◌, ap, arith, length, subst, sym}
use Rattle.std.proofs.lemmas.Bool.{eqb-true}
use Rattle.tape_core.specs.Devices.{Gave}
use Rattle.screen_print.specs.ByLine.{lines_by, places_above, stands_at_no_end}
use Rattle.screen_print.specs.FindLines.{found_line}
use Rattle.screen_print.proofs.ByLineLemmas.{all_above, lines_more, none_told}
use Rattle.screen_print.proofs.LostLemmas.{lost_down, none_lost}
use Rattle.screen_print.proofs.by_line.put_less.Goals as goal

pub returns-then-is_empty : goal.returns-then-is_empty
returns-then-is_empty g c =
    let text = c.args.sought.now.text.now in
    let one = c.args.pair.now.one.now in
    let other = c.args.pair.now.other.now in
    let chunk = c.args.chunk.now in
    let write = found_line c.args.sign chunk.index chunk.due chunk.len one in
    let keep = stands_at_no_end text c.args.ends in
    let all = lines_by text one other write keep in
    let from = c.pass_kept-from.result in
    let above = c.pass_kept-from.ensures.above in
    let lost = c.pass_kept-from.new.lost.places.items in
    let none : length lost ≡ 0 = eqb-true (length lost) 0 (sym c.is_empty.ensures ∙ c.if-is_empty.true) in
    let last : from ≡ 25 = c.pass_kept-from.ensures.all none in
    subst (Gave g.W.Write.contents c.args.writer.now c.args.writer.now)
    (sym (none_lost text one other write keep above.0 from c.sound-2.ensures.whole c.pass_kept-from.ensures.low above.1)
    ∙ ap (λ n. all (places_above text one n)) last ∙ ap all (all_above text one c.sound.ensures.whole))
    (c.gives_join.ensures.nothing c.args.writer.now)

pub returns-then-all_stood : goal.returns-then-all_stood
returns-then-all_stood g c =
    let text = c.args.sought.now.text.now in
    let one = c.args.pair.now.one.now in
    let chunk = c.args.chunk.now in
    subst (Gave g.W.Write.contents c.args.writer.now c.args.writer.now)
    (none_told text one c.args.pair.now.other.now (found_line c.args.sign chunk.index chunk.due chunk.len one) (stands_at_no_end text c.args.ends) c.sound.ensures.whole
    (c.all_stood.ensures c.if-all_stood.true))
    (c.gives_join.ensures.nothing c.args.writer.now)

pub loop-line-init : goal.loop-line-init
loop-line-init g c =
    let text = c.args.sought.now.text.now in
    let one = c.args.pair.now.one.now in
    let other = c.args.pair.now.other.now in
    let chunk = c.args.chunk.now in
    let passed = c.pass_kept-from.ensures in
    record {
      ready = passed.high;
      few = passed.few;
      lost = passed.lost;
      gave = subst (Gave g.W.Write.contents c.args.writer.now c.args.writer.now)
          (sym (none_lost text one other (found_line c.args.sign chunk.index chunk.due chunk.len one) (stands_at_no_end text c.args.ends) passed.above.0 c.pass_kept-from.result c.sound-2.ensures.whole
          passed.low passed.above.1))
          (c.gives_join.ensures.nothing c.args.writer.now);
    }

pub put_line-requires-clause-lost : goal.put_line-requires-clause-lost
put_line-requires-clause-lost g c =
    let pushed = c.push_at.ensures in
    let lost = c.push_at.new.lost in
    lost_down c.args.sought.now.text.now c.args.pair.now.one.now c.args.pair.now.other.now lost.ready lost.next (c.loop-line.line + 1) lost.places.items
    (omega arith) (omega (arith, pushed.ready)) (omega (arith, pushed.few)) pushed.after

pub loop-line-preserved : goal.loop-line-preserved
loop-line-preserved g c =
    let text = c.args.sought.now.text.now in
    let one = c.args.pair.now.one.now in
    let other = c.args.pair.now.other.now in
    let chunk = c.args.chunk.now in
    let pushed = c.push_at.ensures in
    record {
      ready = omega (arith, pushed.ready);
      few = omega (arith, pushed.few);
      lost = pushed.after;
      gave = subst (Gave g.W.Write.contents c.args.writer.now c.put_line.new.writer)
          (sym (lines_more text one other (found_line c.args.sign chunk.index chunk.due chunk.len one) (stands_at_no_end text c.args.ends) c.loop-line.line (omega arith)))
          (c.gives_join.ensures.both _ _ _ _ _ c.put_line.ensures c.loop-line.invariant.gave);
    }

pub returns : goal.returns
returns g c =
    let text = c.args.sought.now.text.now in
    let one = c.args.pair.now.one.now in
    let other = c.args.pair.now.other.now in
    let chunk = c.args.chunk.now in
    let last : c.loop-line.line ≡ 25 = omega arith in
    let all = lines_by text one other (found_line c.args.sign chunk.index chunk.due chunk.len one) (stands_at_no_end text c.args.ends) in
    subst (Gave g.W.Write.contents c.args.writer.now c.loop-line.writer)
    (ap (λ n. all (places_above text one n)) last ∙ ap all (all_above text one c.sound.ensures.whole))
    c.loop-line.invariant.gave
