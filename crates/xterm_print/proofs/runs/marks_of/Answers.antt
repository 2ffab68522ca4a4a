use Rattle.std.proofs.Common.{◌≡◌, ◌+◌, ◌*◌, ◌-◌, ◌%◌, ◌∙◌, ap, arith, get_or, inl, inr, subst}
use Rattle.std.specs.Int.{bit_at}
use Rattle.std.proofs.lemmas.Bool.{cases_lt}
use Rattle.std.proofs.lemmas.List.{get_or_read}
use Rattle.xterm_print.proofs.MarkLemmas.{mark_comes, mark_stays}
use Rattle.xterm_print.proofs.runs.marks_of.Goals as goal

pub loop-at-preserved : goal.loop-at-preserved
loop-at-preserved c = λ k lt.
    let text = c.args.text.now in
    let marks = c.loop-at.marks in
    let pairs = c.loop-at.pairs in
    let mark = c.mark_of-marks.result in
    let pair = c.mark_of-pairs.result in
    elim (cases_lt (k + 1) c.loop-at.at) [
      | inl old ↦ (
        mark_stays marks mark (get_or text (k + 1) 0 % 64) (c.loop-at.invariant k old).0,
        mark_stays pairs pair ((get_or text k 0 + 2 * get_or text (k + 1) 0) % 64) (c.loop-at.invariant k old).1,
      )
      | inr new ↦
          let at : c.loop-at.at ≡ k + 1 = omega (arith, lt, new) in
          let before : c.loop-at.at - 1 ≡ k = omega (arith, at) in
          let first = c.index-text-at-in-loop-at.result in
          let second = c.index-text-at-in-loop-at-2.result in
          let marked : c.index-text-at.result ≡ get_or text (k + 1) 0 =
          get_or_read text c.loop-at.at c.index-text-at.result (omega (arith, c.loop-at-test.true)) c.index-text-at.is 0 ∙ ap (λ j. get_or text j 0) at in
          let one : first ≡ get_or text k 0 =
          get_or_read text (c.loop-at.at - 1) first (omega (arith, c.loop-at-test.true)) c.index-text-at-in-loop-at.is 0 ∙ ap (λ j. get_or text j 0) before in
          let other : second ≡ get_or text (k + 1) 0 =
          get_or_read text c.loop-at.at second (omega (arith, c.loop-at-test.true)) c.index-text-at-in-loop-at-2.is 0 ∙ ap (λ j. get_or text j 0) at in (
            mark_comes marks mark (get_or text (k + 1) 0 % 64) (subst (λ n. bit_at mark (n % 64) ≡ 1) marked c.mark_of-marks.ensures),
            mark_comes pairs pair ((get_or text k 0 + 2 * get_or text (k + 1) 0) % 64)
                (subst (λ n. bit_at pair (n % 64) ≡ 1) (omega (arith, c.pair.ensures, one, other)) c.mark_of-pairs.ensures),
          )
    ]
