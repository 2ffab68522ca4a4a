use Rattle.std.proofs.Common.{◌-◌, ◌+◌, ◌≡◌, ◌==◌, ◌∙◌, ap, arith, drop, length, sym, take}
use Rattle.std.specs.List.{suffix_len}
use Rattle.std.proofs.lemmas.List.{get_or-drop, get_or-take, length-drop, length-take}
use Rattle.standings.proofs.SpeltLemmas.{spaces_passed}
use Rattle.standings.proofs.line.unspaced_blocks.Goals as goal

pub loop-len-preserved : goal.loop-len-preserved
loop-len-preserved c =
    let chars = c.args.chars.now in
    let len = c.loop-len.len in
    let n = len - 16 in
    let many : n + 16 ≡ len = omega arith in
    let here : len - n ≡ 16 = omega arith in
    let block = take (len - n) (drop n chars) in
    let size : length block ≡ 16 = omega (arith, length-take (len - n) (drop n chars), length-drop n chars, c.loop-len.invariant.within) in
    let passed = spaces_passed chars n 16 (omega (arith, c.loop-len.invariant.within)) (λ k lt.
    sym (get_or-drop n chars k 0) ∙ sym (get_or-take (len - n) (drop n chars) k 0 (omega (arith, lt, here)))
    ∙ c.are_spaces.ensures c.if-are_spaces.true k (omega (arith, lt, size))) in
    record {
      within = omega (arith, c.loop-len.invariant.within);
      passed = omega (arith, c.loop-len.invariant.passed, passed, ap (λ k. suffix_len (λ c. c == 32) (take k chars)) many);
    }
