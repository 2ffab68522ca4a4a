use Rattle.std.proofs.Common.{◌≡◌, ◌+◌, ◌∙◌, inl, inr, length, arith}
use Rattle.std.proofs.lemmas.Bool.{cases_eq}
use Rattle.std.proofs.lemmas.Bool.Decides.{nat_tests}
use Rattle.std.proofs.lemmas.List.{length-set}
use Rattle.sheet.proofs.Tables.{is_table, nth-set}
use Rattle.sheet.proofs.sheet.name_lines.Goals as goal

pub loop-i-preserved : goal.loop-i-preserved
loop-i-preserved c =
    let origins = c.loop-i.origins in
    let i = c.loop-i.i in
    let count : length origins ≡ length c.args.origins.now = c.loop-i.invariant.count in
    record {
      count = length-set origins i (i + 1) ∙ count;
      done = λ line low high.
          let written = nth-set 0 origins i (i + 1) line (omega arith) low in
          elim (cases_eq line (i + 1)) [
            | inl e ↦ grind (arith, nat_tests)
            | inr ne ↦ (let before = c.loop-i.invariant.done line low (omega arith) in grind (arith, nat_tests))
          ];
    }

pub returns : goal.returns
returns c =
    is_table 0 (length c.args.origins.now) c.loop-i.origins (λ line. line) c.loop-i.invariant.count (λ k low high. c.loop-i.invariant.done k low (omega arith))
