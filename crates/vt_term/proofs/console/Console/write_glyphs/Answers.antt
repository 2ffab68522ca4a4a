use Rattle.std.proofs.Common.{ℕ, ◌≤◌, List, sym, subst}
use Rattle.std.specs.Prelude.{All}
use Rattle.std.proofs.lemmas.List.Elements.{All-drop}
use Rattle.vt_term.specs.Console.{console_of}
use Rattle.vt_term.proofs.Runs.{front_written}
use Rattle.vt_term.proofs.console.Console.write_glyphs.Goals as goal

pub loop-rest-preserved : goal.loop-rest-preserved
loop-rest-preserved c = record {
  graphic = subst (λ (l : List ℕ). All (λ byte. byte ≤ 126) l) (sym c.split_at.ensures.back)
      (All-drop (λ byte. byte ≤ 126) c.min.result c.loop-rest.rest.now c.loop-rest.invariant.graphic);
  written = front_written c.args.set c.min.result c.loop-rest.rest.now c.split_at.result.0.now c.split_at.result.1.now
      (console_of c.loop-rest.self) (console_of c.write_piece.new.self) _
      c.split_at.ensures.front c.split_at.ensures.back c.write_piece.ensures.done c.loop-rest.invariant.written;
  told = λ before told. c.write_piece.ensures.told before (c.loop-rest.invariant.told before told);
}
