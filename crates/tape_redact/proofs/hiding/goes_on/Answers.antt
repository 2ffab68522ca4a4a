use Rattle.std.proofs.Common.{◌+◌, ◌∙◌, ap, ap₂, arith, length, nat_eq, sym}
use Rattle.std.proofs.lemmas.Bool.{le-leb}
use Rattle.std.specs.List.{starts_with}
use Rattle.std.proofs.lemmas.List.{take_all, take_rest}
use Rattle.tape_redact.specs.Redacted.{begins_at}
use Rattle.tape_redact.proofs.AheadLemmas.{behind_front, front_fits}
use Rattle.tape_redact.proofs.hiding.goes_on.Goals as goal

pub slice_bounds-starts_with-count : goal.slice_bounds-starts_with-count
slice_bounds-starts_with-count c = omega (arith, front_fits c.args.text.now c.args.bytes.now 64 c.args.at (omega arith) c.requires)

pub slice_bounds-starts_with-start : goal.slice_bounds-starts_with-start
slice_bounds-starts_with-start c = omega (arith, front_fits c.args.text.now c.args.bytes.now 64 c.args.at (omega arith) c.requires)

pub returns-then-text-le-FRONT : goal.returns-then-text-le-FRONT
returns-then-text-le-FRONT c =
    let text = c.args.text.now in
    le-leb (length text) 64 c.if-text-le-FRONT.true ∙ sym c.requires
    ∙ ap (λ t. begins_at t c.args.bytes.now c.args.at) (take_all 64 text c.if-text-le-FRONT.true)

pub returns-else-text-le-FRONT : goal.returns-else-text-le-FRONT
returns-else-text-le-FRONT c =
    c.starts_with.ensures.value
    ∙ ap₂ (starts_with nat_eq) (take_rest c.args.bytes.now (c.args.at + 64)) (take_rest c.args.text.now 64)
    ∙ behind_front c.args.text.now c.args.bytes.now 64 c.args.at (omega arith) c.requires
