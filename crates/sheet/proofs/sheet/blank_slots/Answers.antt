use Rattle.std.proofs.Common.{ℕ, ◌++◌, ◌∷◌, [], List, sym, ap, ◌∙◌}
use Rattle.std.proofs.lemmas.Slice.{pushed}
use Rattle.sheet.specs.Cells.{Cell}
use Rattle.sheet.specs.declared.rendition.Colour.TheVariants.{Default}
use Rattle.sheet.specs.Grid.{blank_row}
use Rattle.sheet.specs.Table.{table}
use Rattle.sheet.proofs.First.{table_none, table_more}
use Rattle.sheet.proofs.sheet.blank_slots.Goals as goal

pub loop-line-init : goal.loop-line-init
loop-line-init c = table_none _ _ c.in_ok-slots.ensures.items

pub loop-line-preserved : goal.loop-line-preserved
loop-line-preserved c =
    let line = c.loop-line.line in
    let f : ℕ → List Cell = λ _. blank_row c.args.columns Default in
    pushed _ c.loop-line.invariant c.in_ok-push.was c.push.ensures.items
    ∙ ap (λ (x : List Cell). table line f ++ x ∷ []) c.in_ok-new.ensures ∙ sym (table_more line f)
