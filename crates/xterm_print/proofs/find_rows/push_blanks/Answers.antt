use Rattle.std.proofs.Common.{◌+◌, ◌-◌, ◌++◌, ◌∙◌, ap, length, replicate}
use Rattle.std.specs.List.{range_with_len}
use Rattle.standings.specs.Rows.{Row}
use Rattle.xterm_print.proofs.FindRowLemmas.{characters_tail, columns_tail}
use Rattle.xterm_print.proofs.find_rows.push_blanks.Goals as goal

pub returns-clause-characters : goal.returns-clause-characters
returns-clause-characters c =
    let cells = c.args.cells.now in
    let used = c.args.used in
    ap (λ (row : Row). row.characters) c.in_ok-push_many.ensures.pushed ∙ ap (λ l. l ++ replicate (length cells - used) 32) c.requires.characters
    ∙ characters_tail cells used c.requires.tail

pub returns-clause-columns : goal.returns-clause-columns
returns-clause-columns c =
    let cells = c.args.cells.now in
    let used = c.args.used in
    ap (λ (row : Row). row.columns) c.in_ok-push_many.ensures.pushed ∙ ap (λ l. l ++ range_with_len (used + 1) (length cells - used)) c.requires.columns
    ∙ columns_tail cells used c.requires.within c.requires.tail
