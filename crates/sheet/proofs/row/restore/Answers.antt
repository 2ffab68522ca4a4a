use Rattle.std.proofs.Common.{◌≡◌, ◌++◌, ◌∙◌, List, length, drop, ap, arith}
use Rattle.std.proofs.lemmas.List.{length-append, length-drop}
use Rattle.sheet.specs.Cells.{Cell, cell_at}
use Rattle.sheet.proofs.Packed.{restored}
use Rattle.sheet.proofs.Rows.{behind_there, front_there}
use Rattle.sheet.proofs.row.restore.Goals as goal

pub returns : goal.returns
returns c =
    let row = c.args.cells.now in
    let kept = c.args.kept.now in
    let front = c.copy_from_slice.new.self in
    let after = front ++ drop (length kept) row in
    let is : front ≡ kept = c.copy_from_slice.ensures.after in
    let long = ap length is in
    let len : length after ≡ length row = omega (arith, length-append front (drop (length kept) row), long, length-drop (length kept) row, c.requires.short) in
    c.fill.ensures ∙ restored kept after (length row) c.max-end.result c.empty.result len c.empty.ensures
    (λ k low high. front_there front row (length kept) long k low high ∙ ap (λ (xs : List Cell). cell_at xs k) is)
    (λ k past beyond. behind_there front row (length kept) long k (omega arith) past ∙ c.requires.used.tail k (omega (arith, c.max-end.ensures)))
