use Rattle.std.proofs.Common.{◌∙◌, sym}
use Rattle.sheet.specs.View.{held_of}
use Rattle.sheet.proofs.Turns.{lines_of, rows_counted}
use Rattle.sheet.proofs.sheet.Sheet.lines.Goals as goal

pub returns-clause-value : goal.returns-clause-value
returns-clause-value c = c.len.ensures ∙ c.self.inside.order.ok.0 ∙ sym (lines_of (held_of c.self.inside) _ c.self.view_is)

pub returns-clause-rows : goal.returns-clause-rows
returns-clause-rows c = rows_counted (held_of c.self.inside) _ c.self.view_is
