use Rattle.std.proofs.Common.{◌≡◌, ◌∙◌, ap₂, sym, arith}
use Rattle.std.proofs.lemmas.Bool.Decides.{nat_tests}
use Rattle.sheet.specs.Numbers.{cell_of}
use Rattle.sheet.proofs.Numbers.{blank_made}
use Rattle.sheet.proofs.cell.Cell.is_blank.Goals as goal

pub returns-then-self-eq32 : goal.returns-then-self-eq32
returns-then-self-eq32 c none =
    let text : c.self.inside.text ≡ 32 = (let t = c.if-self-eq32.true in grind (arith, nat_tests)) in
    let style : c.self.inside.style ≡ 0 = grind (arith, nat_tests) in
    sym c.self.view_is ∙ ap₂ cell_of text style ∙ blank_made
