use Rattle.std.proofs.Common.{◌≡◌, ◌++◌, drop}
use Rattle.standings.specs.Found.{rows_reaching}
use Rattle.standings.proofs.line.rows_reaching.Given as goal

-- the rows so far and those to what is left are those to all
abbrev pub invariant-loop-at : goal.invariant-loop-at
invariant-loop-at l = record {
  joined : l.text.items ++ rows_reaching l.lacking (drop l.at l.rows) ≡ rows_reaching l.least (drop l.above l.rows);
}
