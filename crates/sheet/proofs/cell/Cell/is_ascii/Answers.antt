use Rattle.std.proofs.Common.{◌≡◌, ◌%◌, ◌/◌, ◌<◌, ap, sym, ◌∙◌, arith, [], List, ℕ}
use Rattle.std.proofs.lemmas.Bool.Decides.{nat_tests}
use Rattle.sheet.specs.Cells.{Cell}
use Rattle.sheet.specs.Numbers.{cell_of, marks_of}
use Rattle.sheet.proofs.cell.Cell.is_ascii.Goals as goal

pub returns-clause-low : goal.returns-clause-low
unfolding cell_of
returns-clause-low c = λ few.
    let low : c.self.inside.text < 128 = grind (arith, nat_tests) in
    let is : c.self.inside.text % 2097152 ≡ c.args.self.character = ap (λ (x : Cell). x.character) c.self.view_is in
    omega (arith, is, low)

pub returns-clause-alone : goal.returns-clause-alone
unfolding cell_of
returns-clause-alone c = λ few.
    let text = c.self.inside.text in
    let low : text < 128 = grind (arith, nat_tests) in
    let none : text / 2097152 % 2097152 ≡ 0 = omega (arith, low) in
    sym (ap (λ (x : Cell). x.marks) c.self.view_is) ∙ ap (λ (n : ℕ). marks_of n (text / 2097152 / 2097152)) none
