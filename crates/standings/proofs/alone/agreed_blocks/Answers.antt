use Rattle.std.proofs.Common.{◌≡◌, ◌+◌, ◌-◌, ◌∙◌, arith, drop, nat_eq, subst, sym, take, true}
use Rattle.std.specs.Cmp.Lexicographic.{pointwise}
use Rattle.standings.proofs.LeftLemmas.{block_more}
use Rattle.standings.proofs.alone.agreed_blocks.Goals as goal

pub loop-count-preserved : goal.loop-count-preserved
loop-count-preserved c =
    let one = c.args.one.now in
    let other = c.args.other.now in
    let n = c.loop-count.count in
    let many : n + 16 - n ≡ 16 = omega arith in
    let block : pointwise nat_eq (take (n + 16 - n) (drop n one)) (take (n + 16 - n) (drop n other)) ≡ true = sym c.eq.ensures ∙ c.if-eq.true in
    record {
      within = omega (arith, c.loop-count-test.true);
      same = block_more one other n 16 c.loop-count.invariant.same (subst (λ k. pointwise nat_eq (take k (drop n one)) (take k (drop n other)) ≡ true) many block);
    }
