use Rattle.std.proofs.Common.{◌≡◌, ℕ, ◌+◌, ◌<◌, drop, get_or, arith}
use Rattle.std.proofs.lemmas.List.{get_or_default}
use Rattle.screen_print.proofs.StillLemmas.{copied_all, in_map, listed_more, listed_or}
use Rattle.screen_print.proofs.lost.first_differing.Goals as goal
use Rattle.screen_print.proofs.lost.first_differing.Goals.{then-line-changed, else-line-changed}

pub loop-changed-init : goal.loop-changed-init
loop-changed-init c = record {
  within = omega arith;
  same = λ k low high. listed_or c.args.pair.now.lines.now k (λ none _. c.requires.lines k (omega arith) high none);
}

pub loop-changed-preserved : goal.loop-changed-preserved
loop-changed-preserved c =
    let lines = c.args.pair.now.lines.now in
    let i = c.loop-changed.changed-index in
    let at = get_or lines i 0 in
    let kept = c.loop-changed.invariant in
    elim c.if-line-changed.branch [
      | then-line-changed w ↦ record {
        within = omega arith;
        same = λ k low high.
            listed_more lines i at k c.loop-changed-test.true (get_or_default lines i 0 at c.loop-changed-test.true) (λ e less. absurd (omega arith))
            (in_map (drop i lines) k (λ same less. same (omega arith)) (kept.same k low high));
      }
      | else-line-changed w ↦ record {
        within = omega arith;
        same = λ k low high.
            listed_more lines i at k c.loop-changed-test.true (get_or_default lines i 0 at c.loop-changed-test.true) (λ e less. absurd (omega arith))
            (in_map (drop i lines) k (λ same less. same (omega arith)) (kept.same k low high));
      }
    ]

pub returns-clause-same : goal.returns-clause-same
returns-clause-same c = λ k low less.
    copied_all c.args.pair.now.lines.now c.loop-changed.changed-index k c.loop-changed-test.false (c.loop-changed.invariant.same k low (omega arith)) less
