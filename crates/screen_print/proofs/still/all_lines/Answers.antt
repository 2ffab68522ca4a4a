use Rattle.std.proofs.Common.{◌≡◌, ◌+◌, ◌-◌, ◌++◌, ◌∷◌, [], ◌∙◌, ap, arith, sym, subst}
use Rattle.std.specs.List.{range_with_len}
use Rattle.screen_print.specs.Cover.{CoverAll}
use Rattle.screen_print.proofs.StillLemmas.{all_cover}
use Rattle.screen_rows.proofs.RangeLemmas.{range_more}
use Rattle.screen_print.proofs.still.all_lines.Goals as goal

pub loop-line-preserved : goal.loop-line-preserved
loop-line-preserved c =
    let line = c.loop-line.line in
    let at : 1 + (line - 1) ≡ line = omega arith in
    let next : line - 1 + 1 ≡ line + 1 - 1 = omega arith in
    record {
      lines = c.push.ensures.items ∙ ap (λ l. l ++ line ∷ []) c.loop-line.invariant.lines ∙ sym (ap (λ k. range_with_len 1 (line - 1) ++ k ∷ []) at)
          ∙ sym (range_more 1 (line - 1)) ∙ ap (range_with_len 1) next;
      few = omega (arith, c.push.ensures.len, c.loop-line.invariant.few);
    }

pub returns : goal.returns
returns c =
    let last : c.loop-line.line - 1 ≡ 24 = omega arith in
    all_cover c.loop-line.lines.items (c.loop-line.invariant.lines ∙ ap (range_with_len 1) last)
