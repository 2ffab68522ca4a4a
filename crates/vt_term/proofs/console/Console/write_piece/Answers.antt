use Rattle.std.proofs.Common.{ℕ, ◌≤◌, List, sym, subst}
use Rattle.std.specs.Prelude.{All}
use Rattle.vt_term.proofs.Runs.{glyphs_high}
use Rattle.vt_term.proofs.console.Console.write_piece.Goals as goal

pub show_run-requires : goal.show_run-requires
show_run-requires c =
    subst (λ (l : List ℕ). All (λ glyph. glyph ≤ 126) l) (sym c.fill_glyphs.ensures.front)
    (glyphs_high c.args.set c.args.bytes.now c.requires.graphic)
