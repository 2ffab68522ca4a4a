use Rattle.std.proofs.Common.{◌≢◌, ◌-◌, arith, get_or-set_other, inl, inr, subst, sym, ◌∙◌}
use Rattle.std.proofs.lemmas.Bool.{cases_eq}
use Rattle.std.proofs.lemmas.List.{length-set}
use Rattle.vt_screen.specs.Cells.{row_at}
use Rattle.vt_screen.proofs.Tables.{nth_is}
use Rattle.screen_page.specs.Numbered.{IsCarried, row_number}
use Rattle.screen_page.proofs.NumberLemmas.{numbered_more}
use Rattle.screen_page.proofs.numbered.numbers_of.Goals as goal
use Rattle.screen_page.proofs.numbered.numbers_of.Goals.{then-source-line, else-source-line}

pub number_of-requires-clause-carried : goal.number_of-requires-clause-carried
number_of-requires-clause-carried c =
    let line = c.loop-line.line in
    subst (λ source. IsCarried c.args.numbers.now source (row_at c.args.screen.now.picture.rows line)) (nth_is 0 c.args.sources.now line)
    (c.requires line (omega arith) (omega arith))

pub loop-line-preserved : goal.loop-line-preserved
loop-line-preserved c =
    let numbers = c.args.numbers.now in
    let these = c.loop-line.these in
    let line = c.loop-line.line in
    let rows = c.args.screen.now.picture.rows in
    let kept = c.loop-line.invariant in
    elim c.if-source-line.branch [
      | then-source-line w ↦
          let number = w.number_of.result in
          rw w.these-is (record {
            long = length-set these (line - 1) number ∙ kept.long;
            numbered = numbered_more these line number (λ k. row_number (row_at rows k)) kept.long (omega arith) (omega arith) w.number_of.ensures kept.numbered;
            still = λ k low.
                let apart : k - 1 ≢ line - 1 = omega arith in
                nth_is 0 _ k ∙ get_or-set_other these (line - 1) (k - 1) number 0 apart ∙ sym (nth_is 0 these k) ∙ kept.still k (omega arith);
          })
      | else-source-line w ↦
          let carried = subst (λ source. IsCarried numbers source (row_at rows line)) (nth_is 0 c.args.sources.now line) (c.requires line (omega arith) (omega arith)) in
          let own = subst (λ source. IsCarried numbers source (row_at rows line)) w.if-source-line.false carried in
          rw w.these-is (record {
            long = kept.long;
            numbered = λ k low below. elim (cases_eq k line) [
              | inl e ↦ rw e (kept.still line (omega arith) ∙ own.same (omega arith))
              | inr ne ↦ kept.numbered k low (omega arith)
            ];
            still = λ k low. kept.still k (omega arith);
          })
    ]
