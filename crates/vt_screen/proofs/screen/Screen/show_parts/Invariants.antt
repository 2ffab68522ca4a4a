use Rattle.std.proofs.Common.{◌≡◌, ◌≤◌, length}
use Rattle.std.specs.Prelude.{All}
use Rattle.vt_screen.specs.Puts.{run_shown}
use Rattle.vt_screen.specs.Slots.{order_run_shown}
use Rattle.vt_screen.specs.Touched.{KeepsTold}
use Rattle.vt_screen.proofs.screen.Screen.show_parts.Given as goal

-- what is left to show leads to the whole
abbrev pub invariant-loop-rest : goal.invariant-loop-rest
invariant-loop-rest l = record {
  glyphs : All (λ glyph. glyph ≤ 126) l.rest;
  shown : run_shown l.rest l.rendition l.autowrap l.self.picture ≡ run_shown l.glyphs l.rendition l.autowrap l.fn.self.picture;
  order : order_run_shown l.rest l.rendition l.autowrap l.self.picture l.self.order
      ≡ order_run_shown l.glyphs l.rendition l.autowrap l.fn.self.picture l.fn.self.order;
  told : KeepsTold l.fn.self l.self;
}

abbrev pub decreases-loop-rest : goal.decreases-loop-rest
decreases-loop-rest l = length l.rest
