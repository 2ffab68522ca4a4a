use Rattle.std.proofs.Common.{◌+◌, ◌-◌, ◌++◌, ◌∷◌, [], append_assoc, ap, arith, sym, take, ◌∙◌, ◌≡◌}
use Rattle.std.specs.List.{range_with_len}
use Rattle.std.proofs.lemmas.List.{length-set, take_more_set}
use Rattle.standings.proofs.RowLemmas.{range_more}
use Rattle.standings.proofs.row.number.Goals as goal

pub loop-at-preserved : goal.loop-at-preserved
loop-at-preserved c =
    let columns = c.loop-at.columns in
    let at = c.loop-at.at in
    let from = c.args.from in
    let column = c.args.column in
    let before = take from c.args.columns.now in
    let so_far = range_with_len column (at - from) in
    let next : at - from + 1 ≡ at + 1 - from = omega arith in
    record {
      long = length-set columns at (column + (at - from)) ∙ c.loop-at.invariant.long;
      so_far = take_more_set columns at (column + (at - from)) (omega (arith, c.loop-at-test.true, c.loop-at.invariant.long))
          ∙ ap (λ l. l ++ (column + (at - from)) ∷ []) c.loop-at.invariant.so_far
          ∙ append_assoc before so_far ((column + (at - from)) ∷ [])
          ∙ ap (λ l. before ++ l) (sym (range_more column (at - from)) ∙ ap (range_with_len column) next);
    }
