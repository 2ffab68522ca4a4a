use Rattle.std.proofs.Common.{◌≡◌, ◌-◌}
use Rattle.vt_screen.specs.Lines.{filled_to}
use Rattle.vt_screen.specs.Slots.{rows_of}
use Rattle.vt_screen.specs.Written.{lines_changed, slots_filled}
use Rattle.vt_screen.proofs.grid.Grid.fill_lines.Given as goal

-- the lines before this one are filled
abbrev pub invariant-loop-line : goal.invariant-loop-line
invariant-loop-line l = record {
  rows : rows_of l.self ≡ lines_changed (filled_to l.fn.cell l.to) l.first l.line (rows_of l.fn.self);
  order : l.self.order ≡ l.fn.self.order;
  slots : l.self.slots ≡ slots_filled l.fn.cell l.to l.first (l.line - l.first) l.fn.self.order l.fn.self.slots;
}
