use Rattle.sheet.specs.Held.{LinesFilled, SlotsStayOrFill}
use Rattle.sheet.proofs.sheet.fill_lines.Given as goal

-- the lines before this one are filled
abbrev pub invariant-loop-line : goal.invariant-loop-line
invariant-loop-line l = record {
  lines : LinesFilled l.first l.line l.cell l.order l.fn.slots l.slots;
  slots : SlotsStayOrFill l.cell l.fn.slots l.slots;
}
