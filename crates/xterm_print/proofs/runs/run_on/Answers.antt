use Rattle.std.proofs.Common.{◌≡◌, ◌-◌, ◌++◌, List, ℕ, arith, drop, length, subst, take}
use Rattle.std.specs.Prelude.{Some}
use Rattle.std.proofs.lemmas.List.{length-drop, take_all}
use Rattle.xterm_term.specs.Ahead.{Letters, letters_from, styling_behind}
use Rattle.xterm_print.proofs.StylingLemmas.{letters_more, styling_more}
use Rattle.xterm_print.proofs.runs.run_on.Goals as goal

pub loop-taken-preserved : goal.loop-taken-preserved
loop-taken-preserved c =
    let kept = c.loop-taken.invariant in
    let set = c.args.set in
    let bytes = c.args.bytes.now in
    let taken = c.loop-taken.taken in
    let more = c.step-more.result in
    let were = c.loop-taken.letters.items in
    let then_ = c.step-more.new.letters.items in
    let rest : take (length bytes - taken) (drop taken bytes) ≡ drop taken bytes =
    take_all (length bytes - taken) (drop taken bytes) (omega (arith, length-drop taken bytes)) in
    record {
      high = omega (arith, kept.high, c.step-more.ensures.within, length-drop taken bytes);
      styled = styling_more set bytes taken more kept.styled
          (subst (λ (l : List ℕ). styling_behind set Letters (take more l) ≡ Some Letters) rest c.step-more.ensures.styled);
      are = letters_more set bytes taken more kept.styled were then_ kept.are
          (subst (λ (l : List ℕ). then_ ≡ were ++ letters_from set Letters (take more l)) rest c.step-more.ensures.more);
      over = c.step-more.ensures.over;
      made = c.step-more.ensures.made;
    }
