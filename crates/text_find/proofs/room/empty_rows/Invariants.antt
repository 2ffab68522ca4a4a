use Rattle.standings.specs.Spans.{Stays}
use Rattle.text_find.proofs.room.empty_rows.Given as goal

-- none but those of the span became others so far
abbrev pub invariant-loop-above : goal.invariant-loop-above
invariant-loop-above l = Stays l.fn.span l.fn.rows.items l.rows.items
