use Rattle.std.proofs.Common.{◌≡◌, ℕ, ◌+◌, ◌-◌, ◌≤◌, ◌++◌, ◌∙◌, arith, ap, drop, length, subst, sym, take}
use Rattle.std.specs.List.{flat_map}
use Rattle.std.proofs.lemmas.List.{length-take-le, take-take}
use Rattle.held.specs.Held.{Wrote}
use Rattle.chunk_walk.specs.ChangeLine.{spaced_number}
use Rattle.chunk_walk.proofs.ChangeLemmas.{numbers_split}
use Rattle.held.proofs.HeldLemmas.{wrote_both}
use Rattle.chunk_walk.proofs.change_line.put_numbers.Goals as goal

pub loop-at-preserved : goal.loop-at-preserved
loop-at-preserved g c =
    let numbers = c.args.numbers.now in
    let at = c.loop-at.at in
    let count = c.put_first-at.result in
    let left = length numbers - at in
    let within : count ≤ left = omega (arith, c.put_first-at.ensures.within, length-take-le left (drop at numbers)) in
    let same : at + count - at ≡ count = omega arith in
    record {
      high = omega arith;
      gave = subst (Wrote g.W.Write.contents c.args.writer.now c.args.held.now.items c.put_first-at.new.writer c.put_first-at.new.held.items)
          (sym (numbers_split g.N.Integer.text numbers at (at + count) (omega arith)
          ∙ ap (λ (n : ℕ). flat_map (spaced_number g.N.Integer.text) (take at numbers) ++ flat_map (spaced_number g.N.Integer.text) (take n (drop at numbers))) same
          ∙ ap (λ l. flat_map (spaced_number g.N.Integer.text) (take at numbers) ++ flat_map (spaced_number g.N.Integer.text) l) (sym (take-take count left (drop at numbers) within))))
          (wrote_both c.put_first-at.ensures.wrote c.loop-at.invariant.gave);
    }
