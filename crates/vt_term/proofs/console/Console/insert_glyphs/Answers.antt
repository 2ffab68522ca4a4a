use Rattle.std.proofs.Common.{arith}
use Rattle.std.proofs.lemmas.Grind.{common_steps}
use Rattle.vt_term.proofs.console.Console.insert_glyphs.Goals as goal

pub loop-byte-preserved : goal.loop-byte-preserved
loop-byte-preserved c = record {
  done = grind (arith, common_steps);
  told = λ before told. c.show_glyph.ensures.told before (c.loop-byte.invariant.told before told);
}
