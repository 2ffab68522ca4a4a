use Rattle.std.proofs.Common.{◌≡◌, ◌+◌, ◌-◌, ◌%◌, ◌∙◌, false, arith, length, inl, inr}
use Rattle.std.specs.Prelude.{nat_lt, ◌==◌, ◌&&◌}
use Rattle.std.proofs.lemmas.Bool.{cases_eq}
use Rattle.std.proofs.lemmas.Bool.Decides.{nat_tests}
use Rattle.std.proofs.lemmas.List.{length-set}
use Rattle.xterm_screen.proofs.Tables.{filled_table, get_or-set}
use Rattle.xterm_screen.proofs.screen.put_first_tabs.Goals as goal

pub loop-column-preserved : goal.loop-column-preserved
loop-column-preserved c =
    let column = c.loop-column.column in
    record {
      all = length-set _ _ _ ∙ c.loop-column.invariant.all;
      stops = λ k below.
          let new = get_or-set false c.loop-column.tabs (column - 1) (nat_lt 1 column && (column % 8 == 1)) k (omega (arith, c.loop-column.invariant.all)) in
          elim (cases_eq k (column - 1)) [
            | inl e ↦ (let next : k + 1 ≡ column = omega arith in grind (arith, nat_tests))
            | inr ne ↦ (let old = c.loop-column.invariant.stops k (omega arith) in grind (arith, nat_tests))
          ];
    }

pub returns : goal.returns
returns c =
    filled_table false (length c.args.tabs.now) c.loop-column.tabs (λ k. nat_lt 1 k && (k % 8 == 1)) c.loop-column.invariant.all
    (λ k below. c.loop-column.invariant.stops k (omega arith))
