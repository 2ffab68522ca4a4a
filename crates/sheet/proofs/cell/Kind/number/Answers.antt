use Rattle.std.proofs.Common.{◌∙◌, sym}
use Rattle.sheet.proofs.Numbers.{covered_made, narrow_made, wide_made}
use Rattle.sheet.proofs.cell.Kind.number.Goals as goal

pub returns-in-Narrow-clause-again : goal.returns-in-Narrow-clause-again
returns-in-Narrow-clause-again c = narrow_made ∙ sym c.in-Narrow.is

pub returns-in-Wide-clause-again : goal.returns-in-Wide-clause-again
returns-in-Wide-clause-again c = wide_made ∙ sym c.in-Wide.is

pub returns-in-Covered-clause-again : goal.returns-in-Covered-clause-again
returns-in-Covered-clause-again c = covered_made ∙ sym c.in-Covered.is
