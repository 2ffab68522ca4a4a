use Rattle.std.proofs.Common.{◌≡◌, ◌+◌, drop, length}
use Rattle.vt_screen.specs.Written.{written}
use Rattle.vt_screen.proofs.cell.Row.write_run.Given as goal

-- what is left to write leads to the whole
abbrev pub invariant-loop-i : goal.invariant-loop-i
invariant-loop-i l = (length l.self.cells ≡ 132) × (written (l.column + l.i) (drop l.i l.glyphs) l.rendition l.self ≡ written l.column l.glyphs l.rendition l.fn.self)
