use Rattle.std.proofs.Common.{◌≡◌, ◌+◌, ◌∷◌, ◌++◌, [], ◌∙◌, ap, sym, arith}
use Rattle.std.proofs.lemmas.List.Elements.{All-push}
use Rattle.screen_rows.specs.Runs.{IsRun, run_at}
use Rattle.screen_rows.proofs.RunLemmas.{first_runs, next_begins, run_added, run_high, run_low}
use Rattle.screen_rows.proofs.runs.runs_of.Goals as goal

pub loop-before-preserved : goal.loop-before-preserved
loop-before-preserved c =
    let cells = c.inked-cells.result.now in
    let before = c.loop-before.before in
    let inside = c.loop-before-test.true in
    let run : c.run_at-run.result ≡ run_at cells before = c.run_at-run.ensures.run in
    let len : c.from-before.result ≡ (run_at cells before).len = c.from-before.ensures ∙ ap (λ r. r.len) run in
    record {
      told =
          c.push.ensures.items
          ∙ ap (λ l. l ++ c.run_at-run.result ∷ []) c.loop-before.invariant.told
          ∙ ap (λ r. first_runs cells before ++ r ∷ []) run
          ∙ sym (run_added cells before inside (c.loop-before.invariant.here inside))
          ∙ ap (λ n. first_runs cells (before + n)) (sym len);
      here = rw len (λ more. next_begins cells before inside more);
      short = omega (arith, len, run_low cells before inside, c.push.ensures.len, c.loop-before.invariant.short);
      high = omega (arith, len, run_high cells before inside);
      within = rw c.push.ensures.items (All-push IsRun c.loop-before.runs.items c.run_at-run.result c.loop-before.invariant.within c.run_at-run.ensures.sound);
    }
