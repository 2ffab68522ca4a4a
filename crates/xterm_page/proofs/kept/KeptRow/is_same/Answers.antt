use Rattle.std.proofs.Common.{◌≡◌, ◌∙◌, List, ap, sym, subst, arith, length, take}
use Rattle.std.proofs.lemmas.Bool.{false≢true}
use Rattle.sheet.specs.Cells.{Cell}
use Rattle.sheet.specs.Grid.{IsUsed}
use Rattle.xterm_print.proofs.SameLemmas.{equal_same}
use Rattle.xterm_page.proofs.UsedLemmas.{other_lengths, used_same}
use Rattle.xterm_page.proofs.kept.KeptRow.is_same.Goals as goal

pub returns-then-len-cells : goal.returns-then-len-cells
returns-then-len-cells c =
    other_lengths c.args.self.now c.args.cells.now (λ long. c.if-len-cells.true (omega (arith, c.len.ensures, c.self.inside.cells.ok.0, ap length c.self.view_is, long)))

pub returns : goal.returns
returns c =
    let one = c.args.self.now in
    let other = c.args.cells.now in
    let own = c.as_slice-own.result.now in
    let end = c.compared-end.result in
    let is : own ≡ one = c.as_slice-own.ensures.value ∙ c.self.view_is in
    let long : length one ≡ length other = omega (arith, c.len.ensures, c.self.inside.cells.ok.0, ap length c.self.view_is, c.if-len-cells.false) in
    used_same one other end c.self.inside.used c.args.used c.same_row.result long
    (subst (λ (l : List Cell). IsUsed l c.self.inside.used) c.self.view_is c.self.invariant.used) c.requires
    (omega (arith, c.compared-end.ensures.low, c.max.ensures)) (omega (arith, c.compared-end.ensures.low, c.max.ensures))
    (λ t. ap (take end) (sym is) ∙ c.same_row.ensures.equal t)
    (λ f same. false≢true (sym f ∙ c.same_row.ensures.same ∙ equal_same (take end own) (take end other) (ap (take end) is ∙ same)))
