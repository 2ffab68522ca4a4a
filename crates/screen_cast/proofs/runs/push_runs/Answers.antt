use Rattle.std.proofs.Common.{◌≡◌, ◌+◌, ◌∷◌, ◌++◌, [], ◌∙◌, List, ℕ, append-nil, ap, length, sym, arith}
use Rattle.std.specs.List.{flat_map}
use Rattle.std.proofs.lemmas.List.Concat.{flat_map-append}
use Rattle.screen_rows.specs.declared.runs.Run.{Run}
use Rattle.screen_rows.specs.Runs.{run_at, runs_of}
use Rattle.screen_rows.proofs.RunLemmas.{first_runs, next_begins, run_added, run_high}
use Rattle.screen_cast.specs.Parts.{run_part}
use Rattle.screen_cast.proofs.runs.push_runs.Goals as goal

pub loop-before-preserved : goal.loop-before-preserved
loop-before-preserved c =
    let row = c.args.row.now in
    let cells = c.inked-cells.result.now in
    let before = c.loop-before.before in
    let inside = c.loop-before-test.true in
    let text : Run → List ℕ = run_part c.args.reversed row in
    let run : c.run_at-run.result ≡ run_at cells before = c.run_at-run.ensures.run in
    let len : c.from-before.result ≡ (run_at cells before).len = c.from-before.ensures ∙ ap (λ r. r.len) run in
    let all = ap (flat_map text) (run_added cells before inside (c.loop-before.invariant.here inside))
    ∙ flat_map-append text (first_runs cells before) (run_at cells before ∷ [])
    ∙ ap (λ t. flat_map text (first_runs cells before) ++ t) (append-nil (text (run_at cells before))) in
    record {
      laid = c.push_run.ensures.text ∙ ap (λ t. t ++ text c.run_at-run.result) c.loop-before.invariant.laid
          ∙ ap (λ r. flat_map text (first_runs cells before) ++ text r) run ∙ sym all
          ∙ ap (λ n. flat_map text (first_runs cells (before + n))) (sym len);
      here = rw len (λ more. next_begins cells before inside more);
      high = omega (arith, len, run_high cells before inside);
      short = omega (arith, c.push_run.ensures.short, c.from-before.ensures, c.loop-before.invariant.short);
    }

pub returns : goal.returns
unfolding runs_of
returns c =
    let row = c.args.row.now in
    let text : Run → List ℕ = run_part c.args.reversed row in
    let all : c.loop-before.before ≡ length c.inked-cells.result.now = omega (arith, c.loop-before.invariant.high, c.loop-before-test.false) in
    c.loop-before.invariant.laid ∙ ap (λ n. flat_map text (first_runs c.inked-cells.result.now n)) all
    ∙ ap (λ cells. flat_map text (first_runs cells (length cells))) c.inked-cells.ensures
