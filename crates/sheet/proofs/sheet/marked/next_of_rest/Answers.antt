use Rattle.std.proofs.Common.{◌+◌, ◌-◌, ◌≡◌, Bool, List, length, subst, arith, ◌∙◌}
use Rattle.sheet.specs.Marked.{IsNext, marks_of}
use Rattle.sheet.proofs.Marked.{length_marks, marks_in, next_in_end}
use Rattle.sheet.proofs.sheet.marked.next_of_rest.Goals as goal

pub returns-else-origins-lt-BLOCK : goal.returns-else-origins-lt-BLOCK
returns-else-origins-lt-BLOCK c =
    let origins = c.args.origins.now in
    let start = length origins - 16 in
    let count = start + 16 - start in
    let all = length_marks origins in
    next_in_end (marks_of origins) start count c.args.from c.next_of_block.result (omega (arith, all)) (omega arith)
    (subst (λ (marks : List Bool). IsNext marks (c.args.from - start) c.next_of_block.result) (c.block_marks-marks.ensures ∙ marks_in origins start count (omega arith)) c.next_of_block.ensures)
