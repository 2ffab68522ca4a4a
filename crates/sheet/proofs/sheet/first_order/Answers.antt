use Rattle.std.proofs.Common.{◌≡◌, ℕ, ◌+◌, ◌-◌, ◌++◌, ◌∷◌, [], sym, ap, ◌∙◌, arith}
use Rattle.std.proofs.lemmas.Slice.{pushed}
use Rattle.sheet.specs.Table.{table}
use Rattle.sheet.proofs.First.{table_none, table_more}
use Rattle.sheet.proofs.sheet.first_order.Goals as goal

pub loop-line-init : goal.loop-line-init
loop-line-init c = table_none _ _ c.in_ok-order.ensures.items

pub loop-line-preserved : goal.loop-line-preserved
loop-line-preserved c =
    let line = c.loop-line.line in
    let next : line ≡ line + 1 - 1 = omega arith in
    pushed _ c.loop-line.invariant c.in_ok-push.was c.push.ensures.items
    ∙ ap (λ (x : ℕ). table line (λ k. k - 1) ++ x ∷ []) next ∙ sym (table_more line (λ k. k - 1))
