use Rattle.std.proofs.Common.{◌≡◌, ◌∙◌, arith}
use Rattle.screen_rows.specs.Runs.{run_at}
use Rattle.screen_rows.proofs.RunLemmas.{run_high, run_len_is, run_low}
use Rattle.screen_rows.proofs.runs.run_at.Goals as goal

pub overflow_cast-result-2 : goal.overflow_cast-result-2
overflow_cast-result-2 c =
    let cells = c.args.cells.now in
    let len : c.like_len.result ≡ (run_at cells c.args.before).len = c.like_len.ensures ∙ run_len_is cells c.args.before c.index-cells-before.result c.requires.within c.index-cells-before.is in
    omega (arith, len, run_high cells c.args.before c.requires.within, c.requires.few)

pub returns-clause-sound : goal.returns-clause-sound
returns-clause-sound c =
    let cells = c.args.cells.now in
    let len : c.like_len.result ≡ (run_at cells c.args.before).len = c.like_len.ensures ∙ run_len_is cells c.args.before c.index-cells-before.result c.requires.within c.index-cells-before.is in
    record {
      some = omega (arith, len, run_low cells c.args.before c.requires.within);
      within = omega (arith, len, run_high cells c.args.before c.requires.within, c.requires.few);
    }
