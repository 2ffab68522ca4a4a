use Rattle.std.proofs.Common.{◌≡◌, take, map}
use Rattle.vt_term.specs.Sets.{glyph_of}
use Rattle.vt_screen.specs.Touched.{KeepsTold}
use Rattle.vt_term.specs.Console.{console_of}
use Rattle.vt_term.specs.Effect.{glyphs_shown}
use Rattle.vt_term.proofs.console.Console.insert_glyphs.Given as goal

abbrev pub invariant-loop-byte : goal.invariant-loop-byte
invariant-loop-byte l = record {
  done : console_of l.self ≡ glyphs_shown (map (glyph_of l.set) (take l.byte-index l.bytes)) (console_of l.initial.self);
  told : KeepsTold l.initial.self.screen l.self.screen;
}
