use Rattle.std.proofs.Common.{◌≡◌, ◌-◌, true, sym, ◌∙◌, arith}
use Rattle.std.proofs.lemmas.Bool.Decides.{nat_tests}
use Rattle.std.proofs.lemmas.List.{get_or_default}
use Rattle.vt_screen.specs.Table.{nth}
use Rattle.vt_screen.specs.Touched.{is_touched}
use Rattle.vt_screen.proofs.Tables.{nth_is}
use Rattle.vt_screen.proofs.touched.was_touched.Goals as goal

pub returns : goal.returns
returns c =
    let touched = c.args.touched.now in
    let line = c.args.line in
    let marked : nth true touched line ≡ is_touched touched line = grind (arith, nat_tests) in
    get_or_default touched (line - 1) _ true (omega (arith, c.told-touched)) ∙ sym (nth_is true touched line) ∙ marked
