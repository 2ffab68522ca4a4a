use Rattle.std.proofs.Common.{◌≡◌, ℕ, ◌%◌, ◌<◌, ◌∷◌, ◌++◌, [], ◌∙◌, ap, arith, get_or, length, sym, take}
use Rattle.std.proofs.Math.ListN.{length-set}
use Rattle.std.proofs.lemmas.List.{map-append, take_all, take_more, take_more_set}
use Rattle.vt_screen.specs.declared.cell.Cell.{Cell}
use Rattle.screen_rows.specs.Plain.{glyphs_of, low_bytes}
use Rattle.screen_rows.proofs.plain.numbers_of.Goals as goal

pub loop-at-preserved : goal.loop-at-preserved
loop-at-preserved c =
    let at = c.loop-at.at in
    let cells = c.args.cells.now in
    let cell = c.index-cells-at.result in
    let is : cell.glyph ≡ (get_or cells at cell).glyph = ap (λ (one : Cell). one.glyph) c.index-cells-at.is in
    let glyph : c.number.result % 256 ≡ (get_or cells at cell).glyph = omega (arith, is, c.number.ensures.value, c.number.ensures.within) in
    let inside : at < length cells = omega (arith, c.type_inv.cells, c.loop-at-test.true) in
    let number = c.number.result in
    record {
      told =
          ap low_bytes (take_more_set c.loop-at.numbers at number (omega (arith, c.loop-at-test.true, c.loop-at.invariant.whole)))
          ∙ map-append (λ (n : ℕ). n % 256) (take at c.loop-at.numbers) (number ∷ [])
          ∙ ap (λ l. l ++ (number % 256) ∷ []) c.loop-at.invariant.told
          ∙ ap (λ g. glyphs_of (take at cells) ++ g ∷ []) glyph
          ∙ sym (ap glyphs_of (take_more cells at cell inside) ∙ map-append (λ (one : Cell). one.glyph) (take at cells) (get_or cells at cell ∷ []));
      whole = omega (arith, length-set {A = ℕ}, c.loop-at.invariant.whole);
    }

pub returns : goal.returns
returns c =
    let cells = c.args.cells.now in
    ap low_bytes (sym (take_all c.loop-at.at c.loop-at.numbers (omega (arith, c.loop-at.invariant.whole))))
    ∙ c.loop-at.invariant.told ∙ ap glyphs_of (take_all c.loop-at.at cells (omega (arith, c.type_inv.cells)))
