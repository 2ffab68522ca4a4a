use Rattle.std.proofs.Common.{◌∙◌, ℕ, ap}
use Rattle.sheet.specs.Grid.{blank_row, lines_erased}
use Rattle.sheet.proofs.Turns.{lines_all}
use Rattle.sheet.proofs.sheet.Sheet.clear.Goals as goal

pub returns-clause-rows : goal.returns-clause-rows
returns-clause-rows c =
    c.erase_lines.ensures.rows ∙ ap (λ (n : ℕ). lines_erased 1 n c.args.self.now.columns c.args.paper c.args.self.now.rows) c.lines-lines.ensures.value
    ∙ lines_all c.args.self.now.lines (blank_row c.args.self.now.columns c.args.paper) c.args.self.now.rows c.lines-lines.ensures.rows
