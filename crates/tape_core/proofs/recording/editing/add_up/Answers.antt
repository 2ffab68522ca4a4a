use Rattle.std.proofs.Common.{◌≡◌, ◌+◌, ◌-◌, ◌≤◌, ap, arith, take, refl, ◌∙◌}
use Rattle.std.specs.List.{sum_by}
use Rattle.std.proofs.lemmas.List.Sums.{sum_by-le}
use Rattle.std.proofs.lemmas.List.{length-take}
use Rattle.std.proofs.lemmas.List.Elements.{All-take}
use Rattle.tape_core.proofs.recording.editing.add_up.Goals as goal
use Rattle.tape_core.proofs.recording.editing.add_up.Goals.{then-from-eq0, else-from-eq0}

pub loop-i-init : goal.loop-i-init
loop-i-init c =
    let chunks = c.args.chunks.now in
    let from = c.args.from in
    let sum : c.if-from-eq0.due ≡ sum_by (λ x. x.delay) (take from chunks) = elim c.if-from-eq0.branch [
      | then-from-eq0 w ↦ rw (w.due-is, w.if-from-eq0.true) refl
      | else-from-eq0 w ↦ let at : from - 1 + 1 ≡ from = omega arith in
          w.due-is ∙ c.requires.before (from - 1) (omega arith) ∙ ap (λ n. sum_by (λ x. x.delay) (take n chunks)) at
    ] in
    let few = sum_by-le (λ x. x.delay) 1000000000000 (take from chunks) (All-take (λ x. x.delay ≤ 1000000000000) from chunks c.requires.delays) in
    record {
      sum = sum;
      small = omega (arith, few, sum, length-take from chunks);
      before = c.requires.before;
    }
