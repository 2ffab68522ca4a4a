use Rattle.std.proofs.Common.{◌∙◌, ℕ, ap, ap₂, sym, arith}
use Rattle.sheet.specs.declared.rendition.Colour.TheVariants.{Direct, Palette}
use Rattle.sheet.proofs.Numbers.{default_made, direct_made, palette_made}
use Rattle.sheet.proofs.rendition.Colour.number.Goals as goal

pub returns-in-Default-clause-again : goal.returns-in-Default-clause-again
returns-in-Default-clause-again c = default_made ∙ sym c.in-Default.is

pub returns-in-Palette-clause-again : goal.returns-in-Palette-clause-again
returns-in-Palette-clause-again c = palette_made c.from.result (omega (arith, c.from.ensures)) ∙ ap Palette c.from.ensures ∙ sym c.in-Palette.is

pub returns-in-Direct-clause-again : goal.returns-in-Direct-clause-again
returns-in-Direct-clause-again c =
    direct_made c.from-in-Direct.result c.from-in-Direct-2.result c.from-in-Direct-3.result
    (omega (arith, c.from-in-Direct.ensures)) (omega (arith, c.from-in-Direct-2.ensures)) (omega (arith, c.from-in-Direct-3.ensures))
    ∙ ap (λ (red : ℕ). Direct red c.from-in-Direct-2.result c.from-in-Direct-3.result) c.from-in-Direct.ensures
    ∙ ap₂ (λ (green blue : ℕ). Direct c.in-Direct.red green blue) c.from-in-Direct-2.ensures c.from-in-Direct-3.ensures
    ∙ sym c.in-Direct.is
