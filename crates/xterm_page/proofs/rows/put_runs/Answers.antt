use Rattle.std.proofs.Common.{◌≡◌, ℕ, ◌<◌, List, ◌∙◌, length, true, ap, sym, subst, arith}
use Rattle.std.proofs.lemmas.List.Folds.{flat_map-map}
use Rattle.held.specs.Held.{Wrote}
use Rattle.xterm_rows.specs.Groups.{starts}
use Rattle.xterm_rows.specs.Runs.{begins}
use Rattle.xterm_rows.proofs.GroupLemmas.{groups_more, groups_to, next_begins}
use Rattle.xterm_rows.proofs.RunLemmas.{first_begins}
use Rattle.xterm_page.specs.Entries.{cells_shown, shown_at}
use Rattle.xterm_page.specs.EntryText.{run_text}
use Rattle.held.proofs.HeldLemmas.{wrote_both, wrote_none}
use Rattle.xterm_page.proofs.rows.put_runs.Goals as goal

pub loop-at-init : goal.loop-at-init
loop-at-init g c = record {
  gave = wrote_none c.args.writer.now c.args.held.now.items;
  here = λ _. first_begins c.args.cells.now;
  high = omega arith;
}

pub loop-at-preserved : goal.loop-at-preserved
loop-at-preserved g c =
    let cells = c.args.cells.now in
    let at = c.loop-at.at in
    let within = c.loop-at-test.true in
    let text : ℕ → List ℕ = λ n. run_text (shown_at cells n) in
    let end = c.put_run-at.ensures.end in
    let more = groups_more text (begins cells) 0 at (length cells) (omega arith) within (c.loop-at.invariant.here within) in
    record {
      gave = subst (Wrote g.W.Write.contents c.args.writer.now c.args.held.now.items c.put_run-at.new.writer c.put_run-at.new.held.items)
          (sym more ∙ ap (groups_to text (begins cells) 0) (sym end))
          (wrote_both c.put_run-at.ensures.wrote c.loop-at.invariant.gave);
      here = λ more. subst (λ n. begins cells n ≡ true) (sym end)
          (next_begins (begins cells) at (length cells) within (subst (λ n. n < length cells) end more));
      high = c.put_run-at.ensures.within;
    }

pub returns : goal.returns
unfolding cells_shown
returns g c =
    let cells = c.args.cells.now in
    let text : ℕ → List ℕ = λ n. run_text (shown_at cells n) in
    let all : c.loop-at.at ≡ length cells = omega (arith, c.loop-at.invariant.high, c.loop-at-test.false) in
    subst (Wrote g.W.Write.contents c.args.writer.now c.args.held.now.items c.loop-at.writer c.loop-at.held.items)
    (ap (groups_to text (begins cells) 0) all ∙ sym (flat_map-map run_text (shown_at cells) (starts (begins cells) 0 (length cells))))
    c.loop-at.invariant.gave
