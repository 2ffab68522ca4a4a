use Rattle.std.proofs.Common.{◌+◌, ◌/◌, ◌^◌, ℕ, subst, sym, ap, ◌∙◌, arith}
use Rattle.sheet.specs.Marked.{IsNext}
use lib.Count.{count_trailing_zeros}
use Rattle.sheet.proofs.Marked.{next_of_none, next_of_some}
use Rattle.sheet.proofs.sheet.marked.next_of_block.Goals as goal

pub returns-then-bits-eq0 : goal.returns-then-bits-eq0
returns-then-bits-eq0 c =
    let marks = c.args.marks.now in
    let from = c.args.from in
    let shifted = ap (λ (n : ℕ). n / 2 ^ from) c.bits_of.ensures in
    subst (IsNext marks from) c.requires.block (next_of_none marks from (omega arith) (sym shifted ∙ c.if-bits-eq0.true))

pub returns-else-bits-eq0 : goal.returns-else-bits-eq0
returns-else-bits-eq0 c =
    let marks = c.args.marks.now in
    let from = c.args.from in
    let shifted = ap (λ (n : ℕ). n / 2 ^ from) c.bits_of.ensures in
    subst (λ (n : ℕ). IsNext marks from (from + count_trailing_zeros 64 n)) (sym shifted)
    (next_of_some marks from (omega arith) (omega arith) (omega (arith, shifted, c.if-bits-eq0.false)))
