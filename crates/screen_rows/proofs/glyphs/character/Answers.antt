use Rattle.std.proofs.Common.{arith}
use Rattle.screen_rows.proofs.GlyphLemmas.{length-encode_utf8_le, special_graphics_low}
use Rattle.screen_rows.proofs.glyphs.character.Goals as goal

pub returns-then-glyph-lt32-clause-short : goal.returns-then-glyph-lt32-clause-short
returns-then-glyph-lt32-clause-short c =
    length-encode_utf8_le _ (special_graphics_low c.args.glyph c.if-glyph-lt32.true)

pub returns-else-glyph-lt32-clause-short : goal.returns-else-glyph-lt32-clause-short
returns-else-glyph-lt32-clause-short c = length-encode_utf8_le _ (omega arith)
