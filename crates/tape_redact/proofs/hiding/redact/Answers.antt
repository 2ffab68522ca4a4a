use Rattle.std.proofs.Common.{◌≡◌, ◌+◌, ◌-◌, ◌<◌, ◌≤◌, ◌∙◌, ap, arith, cond, get_or, length, nat_lt, subst, sym, take}
use Rattle.std.proofs.lemmas.List.{take_all}
use Rattle.tape_redact.specs.Ahead.{Tells}
use Rattle.tape_redact.specs.Redacted.{begins_at, occurrences, redacted}
use Rattle.tape_redact.proofs.RedactLemmas.{begins_same, begun_before, begun_few, length-redacted}
use Rattle.tape_redact.proofs.AheadLemmas.{gone_on, left_one, none_between, pass, rest_on, told_first}
use Rattle.tape_redact.proofs.hiding.redact.Goals as goal

pub begins-begun-requires : goal.begins-begun-requires
begins-begun-requires c =
    let front = take 64 c.args.text.now in
    let old = c.args.bytes.now in
    let now = c.loop-at.bytes in
    let at = c.loop-at.at in
    let ahead = c.look.new.self in
    let kept = c.loop-at.invariant in
    let tells = c.look.ensures.tells (begins_at front old) kept.tells
    (λ k le. begins_same front old now k (rest_on old now at k le kept.so_far.rest)) in
    told_first ahead.bits at ahead.end (begins_at front old) c.take.result tells c.look.ensures.some c.take.ensures.stands
    ∙ sym (begins_same front old now at kept.so_far.rest)

pub overflow_add-count : goal.overflow_add-count
overflow_add-count c =
    omega (arith, c.loop-at.invariant.so_far.counted, begun_few c.args.text.now c.args.bytes.now c.loop-at.at, c.one_if-count.ensures.few)

pub loop-at-preserved-then-not-begun : goal.loop-at-preserved-then-not-begun
loop-at-preserved-then-not-begun c =
    let text = c.args.text.now in
    let front = take 64 text in
    let old = c.args.bytes.now in
    let now = c.loop-at.bytes in
    let at = c.loop-at.at in
    let kept = c.loop-at.invariant in
    let long : length now ≡ length old = omega arith in
    let tells = c.look.ensures.tells (begins_at front old) kept.tells
    (λ k le. begins_same front old now k (rest_on old now at k le kept.so_far.rest)) in
    let ahead = left_one c.look.new.self.bits at c.look.new.self.end c.take.new.self.bits c.take.new.self.end (begins_at front old) tells
    c.take.ensures.bits c.take.ensures.end in
    let here : begins_at text old at ≡ c.begins-begun.result = sym (c.begins-begun.ensures ∙ begins_same text old now at kept.so_far.rest) in
    let to = at + (1 + c.pass.result) in
    record {
      so_far = pass text old now at to c.loop-at.left c.loop-at.count c.requires (omega arith)
          (omega (arith, c.pass.ensures.within, c.take.ensures.end, c.look.ensures.within)) long
          (none_between text old at to (here ∙ c.if-not-begun.true)
          (λ k low high. c.pass.ensures.none (begins_at front old) ahead k (omega arith) (omega arith))) c.if-left-eq0.true kept.so_far;
      high = omega (arith, c.pass.ensures.within, c.pass.ensures.end);
      few = omega (arith, c.pass.ensures.end, c.take.ensures.end, c.look.ensures.few);
      within = omega (arith, c.pass.ensures.end, c.take.ensures.end, c.look.ensures.within);
      tells =
          let there : at + 1 + c.pass.result ≡ to = omega arith in
          subst (λ m. Tells c.pass.new.self.bits m c.pass.new.self.end (begins_at front old)) there (c.pass.ensures.tells (begins_at front old) ahead);
    }

pub loop-at-preserved : goal.loop-at-preserved
loop-at-preserved c =
    let text = c.args.text.now in
    let front = take 64 text in
    let old = c.args.bytes.now in
    let now = c.loop-at.bytes in
    let at = c.loop-at.at in
    let kept = c.loop-at.invariant in
    let long : length now ≡ length old = omega arith in
    let lt : at < length old = omega arith in
    let begun : c.begins-begun.result ≡ begins_at text old at = c.begins-begun.ensures ∙ begins_same text old now at kept.so_far.rest in
    let tells = c.look.ensures.tells (begins_at front old) kept.tells
    (λ k le. begins_same front old now k (rest_on old now at k le kept.so_far.rest)) in
    record {
      so_far = gone_on text old now at c.loop-at.left c.saturating_sub-left.result c.loop-at.count c.one_if-count.result c.hidden.result
          c.begins-begun.result c.requires lt long begun
          (c.hidden.ensures ∙ ap (λ n. cond (nat_lt 0 n) 42 (get_or now at 0)) c.reach-left.ensures)
          (c.saturating_sub-left.ensures ∙ ap (λ n. n - 1) c.reach-left.ensures) c.one_if-count.ensures.value kept.so_far;
      high = omega (arith, c.take.ensures.end, c.look.ensures.some);
      few = omega (arith, c.take.ensures.end, c.look.ensures.few);
      within = omega (arith, c.take.ensures.end, c.look.ensures.within);
      tells = left_one c.look.new.self.bits at c.look.new.self.end c.take.new.self.bits c.take.new.self.end (begins_at front old) tells
          c.take.ensures.bits c.take.ensures.end;
    }

pub returns-clause-bytes : goal.returns-clause-bytes
returns-clause-bytes c =
    let text = c.args.text.now in
    let old = c.args.bytes.now in
    let at = c.loop-at.at in
    let long : length c.loop-at.bytes ≡ length old = omega arith in
    sym (take_all at c.loop-at.bytes (omega arith)) ∙ c.loop-at.invariant.so_far.done
    ∙ take_all at (redacted text old) (omega (arith, length-redacted text old))

pub returns-clause-count : goal.returns-clause-count
unfolding occurrences
returns-clause-count c =
    let kept = c.loop-at.invariant in
    let long : length c.loop-at.bytes ≡ length c.args.bytes.now = omega arith in
    let at : c.loop-at.at ≡ length c.args.bytes.now = omega (arith, kept.high, kept.within) in
    kept.so_far.counted ∙ ap (begun_before c.args.text.now c.args.bytes.now) at
