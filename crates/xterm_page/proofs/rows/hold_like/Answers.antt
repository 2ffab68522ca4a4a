use Rattle.std.proofs.Common.{◌<◌, [], ◌∷◌, ◌++◌, ap, ap₂, append_assoc, sym, ◌∙◌, arith, length, take}
use Rattle.std.specs.List.{flat_map}
use Rattle.sheet.specs.Cells.{Cell}
use Rattle.screen_page.specs.EntryText.{string_byte}
use Rattle.xterm_rows.specs.RowText.{printed}
use Rattle.xterm_rows.proofs.LetterLemmas.{letter_read, letters_more}
use Rattle.xterm_page.specs.Plain.{string_of}
use Rattle.xterm_page.proofs.StringLemmas.{text_more}
use Rattle.xterm_page.proofs.rows.hold_like.Goals as goal

pub loop-at-preserved : goal.loop-at-preserved
loop-at-preserved c =
    let cells = c.args.cells.now in
    let at = c.loop-at.at in
    let cell = c.index-cells-at.result in
    let before = c.args.held.now.items in
    let r = c.args.letter.rendition in
    let below : at < length cells = omega (arith, c.loop-at-test.true, c.min-count.ensures) in
    let letter = c.is_plain_like.ensures.letter c.if-not-is_plain_like.false in
    let plain = c.is_plain_like.ensures.plain c.if-not-is_plain_like.false in
    record {
      many = omega (arith, c.push.ensures.len, c.loop-at.invariant.many);
      text = c.push.ensures.items ∙ ap₂ (λ l b. l ++ b ∷ []) c.loop-at.invariant.text (c.ascii.ensures plain.low)
          ∙ append_assoc before (string_of (take at cells)) (cell.character ∷ [])
          ∙ ap (λ l. before ++ l)
          (ap (λ l. string_of (take at cells) ++ l) (sym plain.text ∙ ap (λ (x : Cell). flat_map string_byte (printed x)) c.index-cells-at.is)
          ∙ sym (text_more printed cells at cell below));
      letters = letters_more r cells 0 at c.loop-at.invariant.letters (letter_read cells at cell r below c.index-cells-at.is letter);
    }
