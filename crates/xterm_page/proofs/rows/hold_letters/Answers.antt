use Rattle.std.proofs.Common.{◌∙◌, ap, subst}
use Rattle.std.proofs.lemmas.List.{get_or_default}
use Rattle.sheet.specs.declared.rendition.Colour.TheVariants.{Default}
use Rattle.sheet.specs.declared.rendition.Rendition.{Rendition}
use Rattle.sheet.specs.Cells.{Cell, blank}
use Rattle.xterm_rows.specs.Letters.{AreLetters}
use Rattle.xterm_page.proofs.rows.hold_letters.Goals as goal

pub returns-then-is_letter-clause-letters : goal.returns-then-is_letter-clause-letters
returns-then-is_letter-clause-letters c =
    let cells = c.args.cells.now in
    let letter = c.index-cells-0.result in
    subst (λ (r : Rendition). AreLetters r cells 0 c.hold_like.result)
    (ap (λ (x : Cell). x.rendition) (c.index-cells-0.is ∙ get_or_default cells 0 letter (blank Default) c.requires))
    c.hold_like.ensures.letters
