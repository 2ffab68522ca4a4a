use Rattle.std.proofs.Common.{◌≡◌, ◌≤◌, length, map}
use Rattle.std.specs.Prelude.{All}
use Rattle.vt_term.specs.Sets.{glyph_of}
use Rattle.vt_screen.specs.Touched.{KeepsTold}
use Rattle.vt_term.specs.Console.{console_of}
use Rattle.vt_term.specs.Effect.{glyphs_written}
use Rattle.vt_term.proofs.console.Console.write_glyphs.Given as goal

-- with the rest written, all is written
abbrev pub invariant-loop-rest : goal.invariant-loop-rest
invariant-loop-rest l = record {
  graphic : All (λ byte. byte ≤ 126) l.rest;
  written : glyphs_written (map (glyph_of l.set) l.rest) (console_of l.self)
      ≡ glyphs_written (map (glyph_of l.set) l.bytes) (console_of l.initial.self);
  told : KeepsTold l.initial.self.screen l.self.screen;
}

abbrev pub decreases-loop-rest : goal.decreases-loop-rest
decreases-loop-rest l = length l.rest
