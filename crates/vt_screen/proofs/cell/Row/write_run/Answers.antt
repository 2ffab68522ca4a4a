use Rattle.std.proofs.Common.{◌+◌, ◌∙◌, sym, ap, drop, arith}
use Rattle.std.proofs.lemmas.List.{length-set}
use Rattle.vt_screen.specs.declared.cell.Row.{Row}
use Rattle.vt_screen.specs.Written.{written}
use Rattle.vt_screen.proofs.Rows.{cell_written_at, written_more}
use Rattle.vt_screen.proofs.cell.Row.write_run.Goals as goal

pub loop-i-preserved : goal.loop-i-preserved
loop-i-preserved c =
    let row = c.loop-i.self in
    let i = c.loop-i.i in (
      length-set _ _ _ ∙ c.loop-i.invariant.0,
      ap (λ (r : Row). written (c.args.column + (i + 1)) (drop (i + 1) c.args.glyphs.now) c.args.rendition r)
          (cell_written_at row c.args.column i _ c.loop-i.invariant.0 c.requires.low (omega arith))
          ∙ sym (written_more c.args.glyphs.now c.args.column i c.args.rendition row c.loop-i-test.true)
          ∙ c.loop-i.invariant.1,
    )
