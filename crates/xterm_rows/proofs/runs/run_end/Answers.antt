use Rattle.std.proofs.Common.{◌+◌, ◌∙◌, length, sym, ap, arith, add-zero}
use Rattle.xterm_rows.specs.Runs.{begins}
use Rattle.xterm_rows.proofs.GroupLemmas.{reach_ends, reach_more, reach_none, reach_to}
use Rattle.xterm_rows.proofs.runs.run_end.Goals as goal

pub loop-end-init : goal.loop-end-init
loop-end-init c =
    let letters = c.letters_end-end.ensures in
    record {
      low = letters.some;
      high = letters.within;
      passed = reach_to (begins c.args.cells.now) (c.args.at + 1) c.letters_end-end.result (length c.args.cells.now)
          (omega (arith, letters.some)) letters.within (λ k low high. letters.none k (omega (arith, low)) high);
    }

pub loop-end-preserved : goal.loop-end-preserved
loop-end-preserved c =
    let letters = c.letters_end-end-in-loop-end.ensures in
    let end = c.loop-end.end in
    record {
      low = omega arith;
      high = letters.within;
      passed = c.loop-end.invariant.passed
          ∙ reach_more (begins c.args.cells.now) end (length c.args.cells.now) c.loop-end-test.true (sym c.begins.ensures ∙ c.if-not-begins.true)
          ∙ reach_to (begins c.args.cells.now) (end + 1) c.letters_end-end-in-loop-end.result (length c.args.cells.now)
          (omega (arith, letters.some)) letters.within (λ k low high. letters.none k (omega (arith, low)) high);
    }

pub returns-else-not-begins-clause-end : goal.returns-else-not-begins-clause-end
returns-else-not-begins-clause-end c =
    let end = c.loop-end.end in
    let none = reach_ends (begins c.args.cells.now) end (length c.args.cells.now) c.loop-end-test.true (sym c.begins.ensures ∙ c.if-not-begins.false) in
    sym (c.loop-end.invariant.passed ∙ ap (λ n. end + n) none ∙ add-zero end)

pub returns-after-loop-end-clause-end : goal.returns-after-loop-end-clause-end
returns-after-loop-end-clause-end c =
    let end = c.loop-end.end in
    let none = reach_none (begins c.args.cells.now) end (length c.args.cells.now) c.loop-end-test.false in
    sym (c.loop-end.invariant.passed ∙ ap (λ n. end + n) none ∙ add-zero end)
