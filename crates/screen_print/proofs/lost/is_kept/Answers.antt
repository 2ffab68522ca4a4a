use Rattle.std.proofs.Common.{◌∙◌, ◌-◌, ap, arith, sym, take}
use Rattle.std.proofs.lemmas.List.{take-take}
use Rattle.screen_print.specs.ByLine.{row_on}
use Rattle.screen_print.proofs.lost.is_kept.Goals as goal

pub returns : goal.returns
returns c = λ stands begins.
    let n = c.args.column - 1 in
    let row = row_on c.args.pair.now.one.now c.args.line in
    let row' = row_on c.args.pair.now.other.now c.args.there in
    record {
      within = omega (arith, c.cells-other.ensures.long, c.cells-other.ensures.some);
      begins = sym c.stands-2.ensures ∙ stands;
      left = sym (take-take n c.args.same row (omega arith)) ∙ ap (take n) c.requires.same ∙ take-take n c.args.same row' (omega arith);
    }
