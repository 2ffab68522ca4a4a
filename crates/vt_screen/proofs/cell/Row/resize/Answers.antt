use Rattle.std.proofs.Common.{◌≡◌, ℕ, ◌+◌, ◌∙◌, ap, arith}
use Rattle.std.specs.Prelude.{◌&&◌, not, false, true}
use Rattle.vt_screen.specs.declared.cell.Cell.{Cell}
use Rattle.vt_screen.specs.declared.cell.Row.{Row}
use Rattle.vt_screen.specs.Cells.{is_single}
use Rattle.vt_screen.specs.Picture.{margin_of}
use Rattle.vt_screen.specs.Written.{filled}
use Rattle.vt_screen.proofs.Rows.{resized_same, resized_cut}
use Rattle.vt_screen.proofs.cell.Row.resize.Goals as goal
use Rattle.vt_screen.proofs.cell.Row.resize.Goals.{then-is_single+then-not-is_single, else-is_single, else-is_single-via-then-is_single+else-not-is_single, else-is_single-via-else-is_single}

pub returns : goal.returns
returns c =
    let row = c.args.self.now in
    let size = c.args.size in
    let sized = λ (r : Row). let x : Row = record { size = size; cells = r.cells } in x in
    elim c.if-is_single.branch [
      | then-is_single+then-not-is_single w ↦
          let cuts : is_single row.size && not (is_single size) ≡ true = grind arith in
          ap sized (w.self-is ∙ w.fill.ensures
          ∙ ap (λ (n : ℕ). filled (n + 1) 132 w.blank.result row) w.margin_of.ensures.value
          ∙ ap (λ (e : Cell). filled (margin_of c.args.wide size + 1) 132 e row) w.blank.ensures)
          ∙ resized_cut row c.args.wide size cuts
      | else-is_single w ↦
          let stays : is_single row.size && not (is_single size) ≡ false =
          elim w.else-is_single.branch [
            | else-is_single-via-then-is_single+else-not-is_single w' ↦ grind arith
            | else-is_single-via-else-is_single w' ↦ grind arith
          ] in
          ap sized w.self-is ∙ resized_same row c.args.wide size c.requires.whole stays
    ]
