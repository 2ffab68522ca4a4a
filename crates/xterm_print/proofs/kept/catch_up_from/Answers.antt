use Rattle.std.proofs.Common.{sym, append-nil, arith}
use Rattle.xterm_print.specs.ChangeLines.{is_changed}
use Rattle.xterm_print.proofs.KeptLemmas.{passing_more}
use Rattle.xterm_print.proofs.kept.catch_up_from.Goals as goal
use Rattle.xterm_print.proofs.kept.catch_up_from.Goals.{then-catch_up_line, else-catch_up_line}

pub returns-clause-known : goal.returns-clause-known
returns-clause-known c = c.forget.ensures c.args.rows.now c.catch_up_line.new.rows c.requires.known c.catch_up_line.ensures.others

pub returns-clause-changed : goal.returns-clause-changed
returns-clause-changed c = λ before marked follow so_far.
    let line = c.args.line in
    passing_more (is_changed before c.args.screen.now.picture.rows) line c.catch_up_line.result c.args.changed.now.items c.if-catch_up_line.changed.items c.requires.low
    (c.catch_up_line.ensures.changed before marked (follow line (omega arith) (omega arith))) so_far
    (elim c.if-catch_up_line.branch [
      | then-catch_up_line w ↦ rw (w.changed-is, w.if-catch_up_line.true) w.push.ensures.items
      | else-catch_up_line w ↦ rw (w.changed-is, w.if-catch_up_line.false) (sym (append-nil c.args.changed.now.items))
    ])
