use Rattle.std.proofs.Common.{◌≡◌, ℕ, ◌∷◌, [], ◌++◌, ◌+◌, ◌-◌, ◌*◌, ◌∙◌, ap, sym, arith, append_assoc, decimal, length}
use Rattle.std.proofs.lemmas.List.{length-append}
use Rattle.screen_picture.proofs.LineLemmas.{texts_from, texts_more}
use Rattle.screen_picture.proofs.letters.places_text.Goals as goal

pub loop-before-preserved : goal.loop-before-preserved
loop-before-preserved c =
    let f = λ (before : ℕ). 32 ∷ decimal (10 * before) in
    let from = c.args.run.before + 1 in
    let before = c.loop-before.before in
    let first = decimal (10 * c.args.run.before) in
    let count : before + 1 - from ≡ before - from + 1 = omega arith in
    let at : from + (before - from) ≡ before = omega arith in
    record {
      told =
          c.push_number-in-loop-before.ensures.text
          ∙ ap (λ (n : ℕ). c.push.new.self.items ++ decimal (10 * n)) c.from-in-loop-before.ensures
          ∙ ap (λ t. t ++ decimal (10 * before)) (c.push.ensures.items ∙ ap (λ t. t ++ 32 ∷ []) c.loop-before.invariant.told)
          ∙ append_assoc (first ++ texts_from f from (before - from)) (32 ∷ []) (decimal (10 * before))
          ∙ append_assoc first (texts_from f from (before - from)) (f before)
          ∙ ap (λ t. first ++ t) (sym (texts_more f from (before - from) before at))
          ∙ ap (λ n. first ++ texts_from f from n) (sym count);
      short = omega (arith, c.push_number-in-loop-before.ensures.short, ap length c.push.ensures.items, length-append c.loop-before.text.items (32 ∷ []), c.loop-before.invariant.short, count);
    }
