use Rattle.std.proofs.Common.{◌≡◌, ◌+◌, ◌-◌, ◌∙◌, ap, arith, sym, take}
use Rattle.screen_rows.specs.RowText.{characters}
use Rattle.screen_print.proofs.FrontLemmas.{alike_behind}
use Rattle.screen_print.proofs.alike.same_blocks.Goals as goal

pub loop-at-preserved : goal.loop-at-preserved
loop-at-preserved c =
    let one = c.args.one.now in
    let other = c.args.other.now in
    let at = c.loop-at.at in
    let n = at + 16 - at in
    let whole : at + n ≡ at + 16 = omega arith in
    record {
      within = omega arith;
      same = ap (λ k. take k (characters one)) (sym whole)
          ∙ alike_behind one other at n c.loop-at.invariant.same (c.has_same_glyphs.ensures c.if-not-has_same_glyphs.false)
          ∙ ap (λ k. take k (characters other)) whole;
    }
