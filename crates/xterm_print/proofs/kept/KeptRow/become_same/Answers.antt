use Rattle.std.proofs.Common.{List, arith, length, subst, sym, take_at, ◌∙◌}
use Rattle.sheet.specs.Cells.{Cell}
use Rattle.xterm_print.specs.Same.{Agree}
use Rattle.xterm_print.proofs.KeptLemmas.{follows_itself}
use Rattle.xterm_print.proofs.SameLemmas.{tails_agree}
use Rattle.xterm_print.proofs.kept.KeptRow.become_same.Goals as goal

pub copy_between-requires-clause-before : goal.copy_between-requires-clause-before
copy_between-requires-clause-before c = λ k low high. absurd (omega (arith, low, high))

pub copy_between-requires-clause-behind : goal.copy_between-requires-clause-behind
copy_between-requires-clause-behind c =
    let cells = c.args.cells.now in
    let end = c.max-end.result in
    subst (λ (r : List Cell). Agree r cells end (length cells)) (sym c.as_mut_slice.ensures.value)
    (tails_agree c.self.inside.cells.items cells c.self.inside.used c.args.used end c.self.invariant c.requires
    (omega (arith, c.max-end.ensures)) (omega (arith, c.max-end.ensures)))

pub returns-then-len-cells : goal.returns-then-len-cells
returns-then-len-cells c = λ _. follows_itself _ c.args.cells.now
    (take_at c.copy_between.new.cells _ c.self.inside.cells.len (c.copy_between.auto.cells ∙ c.as_mut_slice.ensures.len) ∙ c.copy_between.ensures)
