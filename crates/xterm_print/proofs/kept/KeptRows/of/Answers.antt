use Rattle.xterm_print.proofs.kept.KeptRows.of.Goals as goal

pub returns-clause-known : goal.returns-clause-known
returns-clause-known c = c.none.ensures c.in_ok-rows.rows.items
