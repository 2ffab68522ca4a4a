use Rattle.std.proofs.Common.{◌≡◌, ◌++◌, ◌+◌, ◌-◌, ◌∙◌, ap, sym, arith, append_assoc}
use Rattle.screen_picture.specs.Strokes.{outline_text}
use Rattle.screen_picture.proofs.LineLemmas.{texts_from, texts_more}
use Rattle.screen_picture.proofs.strokes.push_outlines.Goals as goal

pub loop-before-preserved : goal.loop-before-preserved
loop-before-preserved c =
    let f = outline_text c.args.row.now in
    let from = c.args.run.before in
    let before = c.loop-before.before in
    let text = c.args.text.now.items in
    let count : before + 1 - from ≡ before - from + 1 = omega arith in
    let at : from + (before - from) ≡ before = omega arith in
    record {
      told =
          c.push_outline.ensures.text
          ∙ ap (λ t. t ++ f before) c.loop-before.invariant.told
          ∙ append_assoc text (texts_from f from (before - from)) (f before)
          ∙ ap (λ t. text ++ t) (sym (texts_more f from (before - from) before at))
          ∙ ap (λ n. text ++ texts_from f from n) (sym count);
      short = omega (arith, c.push_outline.ensures.short, c.loop-before.invariant.short, count);
    }
