use Rattle.std.proofs.Common.{List, ℕ, take, false, ap, ◌∙◌, arith}
use Rattle.std.proofs.lemmas.List.{take_rest}
use Rattle.xterm_screen.specs.Picture.{Picture}
use Rattle.xterm_screen.specs.Puts.{run_shown}
use Rattle.xterm_screen.proofs.Runs.{run_step, taken_unwrapped}
use Rattle.xterm_screen.proofs.screen.Screen.show_parts.Goals as goal

pub show_part-taken-requires-clause-wrap : goal.show_part-taken-requires-clause-wrap
show_part-taken-requires-clause-wrap c = taken_unwrapped c.args.rendition.paper c.loop-rest.self.picture c.take_wrap.new.self.picture c.take_wrap.ensures.picture

pub loop-rest-preserved : goal.loop-rest-preserved
loop-rest-preserved c =
    let rest = c.loop-rest.rest.now in
    let taken = c.show_part-taken.result in
    let part =
    c.show_part-taken.ensures.picture ∙ ap (λ (p : Picture). run_shown (take taken rest) c.args.rendition c.args.autowrap false p) c.take_wrap.ensures.picture in
    record {
      shown =
          ap (λ (cs : List ℕ). run_shown cs c.args.rendition c.args.autowrap false c.show_part-taken.new.self.picture) (take_rest rest taken)
          ∙ run_step c.args.rendition c.args.autowrap false taken rest c.loop-rest.self.picture c.show_part-taken.new.self.picture (omega arith) part
          ∙ c.loop-rest.invariant.shown;
      told = λ before was. c.show_part-taken.ensures.told before (c.take_wrap.ensures.told before (c.loop-rest.invariant.told before was));
    }
