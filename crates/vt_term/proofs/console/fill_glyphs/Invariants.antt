use Rattle.std.proofs.Common.{◌≡◌, take, map, length}
use Rattle.vt_term.specs.Sets.{glyph_of}
use Rattle.vt_term.proofs.console.fill_glyphs.Given as goal

abbrev pub invariant-loop-i : goal.invariant-loop-i
invariant-loop-i l = record {
  len : length l.glyphs ≡ 132;
  front : take l.i l.glyphs ≡ map (glyph_of l.set) (take l.i l.bytes);
}
