use Rattle.std.proofs.Common.{◌≡◌, ◌+◌, ◌-◌, ◌∙◌, sym, subst, arith, drop, length, take}
use Rattle.held.specs.Held.{Wrote}
use Rattle.xterm_page.specs.Plain.{string_of}
use Rattle.xterm_rows.specs.Runs.{begins}
use Rattle.xterm_rows.proofs.GroupLemmas.{reach_more, reach_to}
use Rattle.xterm_page.proofs.StringLemmas.{string_on}
use Rattle.held.proofs.HeldLemmas.{wrote_both}
use Rattle.xterm_page.proofs.rows.put_characters.Goals as goal

pub loop-end-init : goal.loop-end-init
loop-end-init g c =
    let cells = c.args.cells.now in
    let at = c.args.at in
    let some = c.put_some.ensures in
    let count : at + c.put_some.result - at ≡ c.put_some.result = omega arith in
    record {
      low = omega (arith, some.some);
      high = some.within;
      passed = reach_to (begins cells) (at + 1) (at + c.put_some.result) (length cells) (omega (arith, some.some)) some.within
          (λ k low high. some.none k (omega (arith, low)) high);
      gave = subst (λ n. Wrote g.W.Write.contents c.args.writer.now c.args.held.now.items c.put_some.new.writer c.put_some.new.held.items (string_of (take n (drop at cells))))
          (sym count) some.wrote;
    }

pub loop-end-preserved : goal.loop-end-preserved
loop-end-preserved g c =
    let cells = c.args.cells.now in
    let at = c.args.at in
    let end = c.loop-end.end in
    let some = c.put_some-end.ensures in
    let count = c.put_some-end.result in
    let kept = c.loop-end.invariant in
    record {
      low = omega (arith, kept.low);
      high = some.within;
      passed = kept.passed
          ∙ reach_more (begins cells) end (length cells) c.loop-end-test.true (sym c.begins.ensures ∙ c.if-not-begins.true)
          ∙ reach_to (begins cells) (end + 1) (end + count) (length cells) (omega (arith, some.some)) some.within
          (λ k low high. some.none k (omega (arith, low)) high);
      gave = subst (Wrote g.W.Write.contents c.args.writer.now c.args.held.now.items c.put_some-end.new.writer c.put_some-end.new.held.items)
          (sym (string_on cells at end count (omega (arith, kept.low)))) (wrote_both some.wrote kept.gave);
    }
