use Rattle.std.proofs.Common.{◌≡◌, ◌+◌, ◌∙◌, arith, drop, length, length-drop, sym}
use Rattle.std.specs.Option.{option_map}
use Rattle.tape_import.specs.KeptTlog.{continued_len}
use Rattle.tape_import.proofs.TlogLemmas.{begins_at, goes_on_at, none_left}
use Rattle.tape_import.proofs.tlog_timing.continued_len.Goals as goal
use Rattle.tape_import.proofs.tlog_timing.continued_len.Goals.{then-not-goes_on+else-left-eq0, else-not-goes_on}

pub loop-b-preserved : goal.loop-b-preserved
loop-b-preserved c =
    let text = c.args.text.now in
    let at = c.loop-b.b-index in
    let len = c.loop-b.len in
    let next : option_map (λ k. len + k) (continued_len c.loop-b.left (drop at text)) ≡ option_map (λ k. len + 1 + k) (continued_len c.if-not-goes_on.left (drop (at + 1) text)) = elim c.if-not-goes_on.branch [
      | then-not-goes_on+else-left-eq0 w ↦ rw w.left-is (begins_at len c.loop-b.left at text (omega arith) (sym c.goes_on.ensures ∙ w.if-not-goes_on.true) (omega (arith, w.if-left-eq0.false)))
      | else-not-goes_on w ↦ rw w.left-is (goes_on_at len c.loop-b.left at text (omega arith) (sym c.goes_on.ensures ∙ w.if-not-goes_on.false))
    ] in
    record { same = c.loop-b.invariant.same ∙ next; within = omega (arith, c.loop-b.invariant.within) }

pub returns-else-left-eq0-2-clause-len : goal.returns-else-left-eq0-2-clause-len
returns-else-left-eq0-2-clause-len c =
    let text = c.args.text.now in
    let end : length (drop c.loop-b.b-index text) ≡ 0 = omega (arith, length-drop c.loop-b.b-index text) in
    sym (c.loop-b.invariant.same ∙ none_left c.loop-b.len c.loop-b.left (drop c.loop-b.b-index text) (omega (arith, c.if-left-eq0-2.false)) end)
