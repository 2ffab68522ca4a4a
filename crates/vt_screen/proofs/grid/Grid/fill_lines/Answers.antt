use Rattle.std.proofs.Common.{◌∙◌, ℕ, ◌-◌, refl, ap, arith}
use Rattle.vt_screen.specs.Lines.{filled_to}
use Rattle.vt_screen.specs.Slots.{rows_of}
use Rattle.vt_screen.specs.Written.{lines_changed, slots_filled}
use Rattle.vt_screen.proofs.Blanked.{filled_none, filled_next}
use Rattle.vt_screen.proofs.Rows.{changed_none, changed_more}
use Rattle.vt_screen.proofs.Tables.{length-table}
use Rattle.vt_screen.proofs.grid.Grid.fill_lines.Goals as goal

pub loop-line-init : goal.loop-line-init
loop-line-init c = record { rows = changed_none (filled_to c.args.cell c.args.to) c.args.first _ (length-table 24 _); order = refl; slots = filled_none c.args.cell c.args.to c.args.first c.args.self.now.order c.args.self.now.slots }

pub loop-line-preserved : goal.loop-line-preserved
loop-line-preserved c = record {
  rows = changed_more (filled_to c.args.cell c.args.to) c.args.first c.loop-line.line (rows_of c.args.self.now) _ _ (omega arith) (omega arith) (omega arith) c.loop-line.invariant.rows c.fill_line.ensures.rows;
  order = c.fill_line.ensures.order ∙ c.loop-line.invariant.order;
  slots = filled_next c.args.cell c.args.to c.args.first c.loop-line.line c.args.self.now c.loop-line.self c.fill_line.new.self.slots c.requires.low (omega arith) (omega arith)
      c.loop-line.invariant.order c.loop-line.invariant.slots c.fill_line.ensures.slots;
}

pub returns-clause-rows : goal.returns-clause-rows
returns-clause-rows c =
    c.loop-line.invariant.rows
    ∙ ap (λ (line : ℕ). lines_changed (filled_to c.args.cell c.args.to) c.args.first line (rows_of c.args.self.now)) (omega arith)

pub returns-clause-slots : goal.returns-clause-slots
returns-clause-slots c =
    c.loop-line.invariant.slots
    ∙ ap (λ (line : ℕ). slots_filled c.args.cell c.args.to c.args.first (line - c.args.first) c.args.self.now.order c.args.self.now.slots) (omega arith)
