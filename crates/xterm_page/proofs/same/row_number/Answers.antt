use Rattle.std.proofs.Common.{◌≡◌, ◌-◌, ◌+◌, ap, ap₂, sym, ◌∙◌, arith, drop, length}
use Rattle.sheet.specs.Mixed.{mixed}
use Rattle.xterm_page.specs.Same.{row_number}
use Rattle.xterm_page.proofs.UsedLemmas.{nothing_behind, number_more}
use Rattle.xterm_page.proofs.same.row_number.Goals as goal

pub loop-left-init : goal.loop-left-init
loop-left-init c =
    let row = c.args.cells.now in
    record {
      low = omega arith;
      told = sym (nothing_behind row (length row - c.args.used) c.args.used (omega (arith, c.requires.within)) c.requires);
    }

pub loop-left-preserved : goal.loop-left-preserved
loop-left-preserved c =
    let row = c.args.cells.now in
    let left = c.loop-left.left in
    let cell = c.index-cells-left.result in
    let there : left - 1 + 1 ≡ left = omega (arith, c.loop-left-test.true) in
    record {
      low = omega (arith, c.loop-left.invariant.low);
      told = c.mixed-number.ensures
          ∙ ap₂ (λ n x. mixed n x) (c.loop-left.invariant.told ∙ ap (λ n. row_number (drop n row)) (sym there)) c.index-cells-left.is
          ∙ sym (number_more row (left - 1) cell (omega (arith, c.loop-left-test.true, c.loop-left.invariant.low, c.requires.within)));
    }

pub returns : goal.returns
returns c =
    let none : c.loop-left.left ≡ 0 = omega (arith, c.loop-left-test.false) in
    c.loop-left.invariant.told ∙ ap (λ n. row_number (drop n c.args.cells.now)) none
