use Rattle.std.proofs.Common.{◌≤◌, List, ℕ, take, sym, ap, subst, ◌∙◌, arith}
use Rattle.std.specs.Prelude.{All}
use Rattle.std.proofs.lemmas.List.{take_rest}
use Rattle.std.proofs.lemmas.List.Elements.{All-drop}
use Rattle.vt_screen.specs.Picture.{Picture}
use Rattle.vt_screen.specs.Puts.{run_shown}
use Rattle.vt_screen.specs.Slots.{order_run_shown}
use Rattle.vt_screen.proofs.Runs.{run_step, order_step}
use Rattle.vt_screen.proofs.screen.Screen.show_parts.Goals as goal

pub loop-rest-preserved : goal.loop-rest-preserved
loop-rest-preserved c =
    let rest = c.loop-rest.rest.now in
    let taken = c.show_part-taken.result in
    let left = take_rest rest taken in
    let part =
    c.show_part-taken.ensures.picture ∙ ap (λ (p : Picture). run_shown (take taken rest) c.args.rendition c.args.autowrap p) c.take_wrap.ensures.picture in
    record {
      glyphs = subst (All (λ glyph. glyph ≤ 126)) (sym left) (All-drop (λ glyph. glyph ≤ 126) taken rest c.loop-rest.invariant.glyphs);
      shown =
          ap (λ (gs : List ℕ). run_shown gs c.args.rendition c.args.autowrap c.show_part-taken.new.self.picture) left
          ∙ run_step c.args.rendition c.args.autowrap taken rest c.loop-rest.self.picture c.show_part-taken.new.self.picture (omega arith) part
          ∙ c.loop-rest.invariant.shown;
      order =
          ap (λ (gs : List ℕ). order_run_shown gs c.args.rendition c.args.autowrap c.show_part-taken.new.self.picture c.show_part-taken.new.self.order) left
          ∙ order_step c.args.rendition c.args.autowrap taken rest c.loop-rest.self.picture c.show_part-taken.new.self.picture c.loop-rest.self.order c.take_wrap.new.self.order
          c.show_part-taken.new.self.order (omega arith) part c.take_wrap.ensures.order
          (c.show_part-taken.ensures.order ∙ ap (λ (p : Picture). order_run_shown (take taken rest) c.args.rendition c.args.autowrap p c.take_wrap.new.self.order) c.take_wrap.ensures.picture)
          ∙ c.loop-rest.invariant.order;
      told = λ before told. c.show_part-taken.ensures.told before (c.take_wrap.ensures.told before (c.loop-rest.invariant.told before told));
    }
