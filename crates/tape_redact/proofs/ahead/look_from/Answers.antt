use Rattle.std.proofs.Common.{ℕ, ◌+◌, ◌-◌, ◌∙◌, List, ap, ap₂, arith, cond, drop, length, length-drop, nat_eq, subst, sym, take}
use Rattle.std.specs.List.{starts_with}
use Rattle.std.proofs.lemmas.List.{length-take, take_rest}
use Rattle.tape_redact.specs.Ahead.{Tells, places_from}
use Rattle.tape_redact.specs.Redacted.{begins_at}
use Rattle.tape_redact.proofs.AheadLemmas.{few_places, front_is, many_places, tells_ahead, tells_one}
use Rattle.tape_redact.proofs.ahead.look_from.Goals as goal

pub returns-then-rest-front : goal.returns-then-rest-front
returns-then-rest-front c =
    let text = c.args.text.now in
    let bytes = c.args.bytes.now in
    let at = c.args.at in
    let front = front_is text c.min.result c.min.ensures in
    subst (λ n. Tells c.from.result at (at + n) (begins_at (take 64 text) bytes))
    (sym (few_places (length bytes - at) (length text)
    (omega (arith, c.if-rest-front.true, ap (λ (l : List ℕ). length l) (take_rest bytes at), length-drop at bytes, length-take c.min.result text, c.min.ensures))))
    (tells_one at c.from.result (begins_at (take 64 text) bytes) c.starts_with.result
    (c.starts_with.ensures.value ∙ ap₂ (starts_with nat_eq) (take_rest bytes at) front) c.from.ensures)

pub returns : goal.returns
returns c =
    let text = c.args.text.now in
    let bytes = c.args.bytes.now in
    let at = c.args.at in
    let rest = take (length bytes - at) (drop at bytes) in
    subst (λ n. Tells c.begun_together.result at (at + n) (begins_at (take 64 text) bytes))
    (sym (many_places (length bytes - at) (length text)
    (omega (arith, c.if-rest-front.false, ap (λ (l : List ℕ). length l) (take_rest bytes at), length-drop at bytes, length-take c.min.result text, c.min.ensures))))
    (tells_ahead (take 64 text) bytes at c.begun_together.result
    (λ k lt. c.begun_together.ensures k lt ∙ ap (λ t. cond (begins_at t rest k) 1 0) (front_is text c.min.result c.min.ensures)))
