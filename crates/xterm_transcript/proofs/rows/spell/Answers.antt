use Rattle.std.proofs.Common.{◌<◌, ◌++◌, ◌∷◌, [], ap, ap₂, sym, ◌∙◌, arith, length, take}
use Rattle.std.specs.List.{flat_map}
use Rattle.sheet.specs.Cells.{Cell}
use Rattle.xterm_rows.specs.RowText.{printed}
use Rattle.xterm_rows.proofs.TextLemmas.{letter_printed}
use Rattle.xterm_transcript.proofs.RowLemmas.{texts_more}
use Rattle.xterm_transcript.proofs.rows.spell.Goals as goal

pub loop-at-preserved : goal.loop-at-preserved
loop-at-preserved c =
    let cells = c.args.cells.now in
    let at = c.loop-at.at in
    let cell = c.index-cells-at.result in
    let below : at < length cells = omega (arith, c.loop-at-test.true, c.min-count.ensures) in
    let letter = c.is_letter.ensures c.if-not-is_letter.false in
    record {
      long = omega (arith, c.push.ensures.len, c.loop-at.invariant.long);
      spelled = c.push.ensures.items ∙ ap₂ (λ l b. l ++ b ∷ []) c.loop-at.invariant.spelled (c.ascii.ensures letter.low)
          ∙ ap (λ t. flat_map printed (take at cells) ++ t) (sym (letter_printed cell.rendition cell letter))
          ∙ ap (λ (x : Cell). flat_map printed (take at cells) ++ printed x) c.index-cells-at.is
          ∙ sym (texts_more printed cells at cell below);
    }
