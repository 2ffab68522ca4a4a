use Rattle.std.proofs.Common.{◌∙◌, ◌++◌, ◌-◌, ◌+◌, ap, arith, drop, length}
use Rattle.standings.specs.Found.{rows_reaching}
use Rattle.standings.proofs.RowLemmas.{reaching_all, reaching_end, reaching_more}
use Rattle.standings.proofs.line.rows_reaching.Goals as goal

pub returns-then-lacking-row : goal.returns-then-lacking-row
returns-then-lacking-row c =
    let rows = c.args.rows.now in
    let row = c.characters_below-row.ensures in
    let whole = rows_reaching c.args.least (drop c.args.above rows) in
    c.in_ok-extend_from_slice.ensures.items ∙ ap (λ l. c.loop-at.text.items ++ l) row
    ∙ reaching_end rows c.loop-at.at c.loop-at.lacking c.loop-at.text.items whole (omega arith) (omega (arith, c.if-lacking-row.true, ap length row)) c.loop-at.invariant.joined

pub loop-at-preserved : goal.loop-at-preserved
loop-at-preserved c =
    let rows = c.args.rows.now in
    let at = c.loop-at.at in
    let n = c.loop-at.lacking in
    let row = c.characters_below-row.ensures in
    let whole = rows_reaching c.args.least (drop c.args.above rows) in
    record {
      joined = ap (λ l. l ++ rows_reaching (n - length c.characters_below-row.result.now) (drop (at + 1) rows)) c.in_ok-extend_from_slice.ensures.items
          ∙ ap (λ l. (c.loop-at.text.items ++ l) ++ rows_reaching (n - length l) (drop (at + 1) rows)) row
          ∙ reaching_more rows at n c.loop-at.text.items whole (omega arith) (omega (arith, c.if-lacking-row.false, ap length row)) c.loop-at.invariant.joined;
    }

pub returns : goal.returns
returns c =
    reaching_all c.args.rows.now c.loop-at.at c.loop-at.lacking c.loop-at.text.items (rows_reaching c.args.least (drop c.args.above c.args.rows.now))
    (omega (arith, c.loop-at-test.false)) c.loop-at.invariant.joined
