use Rattle.std.proofs.Common.{◌≡◌, arith, cond, length, sym, subst, take}
use Rattle.std.proofs.lemmas.List.{take_all}
use Rattle.tape_redact.specs.Ahead.{HasLanes}
use Rattle.tape_redact.specs.Redacted.{begins_at}
use Rattle.tape_redact.proofs.AheadLemmas.{bit_of_begun, lanes_first, lanes_more}
use Rattle.tape_redact.proofs.ahead.begun_together.Goals as goal

pub loop-at-init : goal.loop-at-init
loop-at-init c = lanes_first c.args.text.now c.args.bytes.now

pub loop-at-preserved : goal.loop-at-preserved
loop-at-preserved c =
    lanes_more c.args.text.now c.args.bytes.now c.loop-at.begun c.kept-begun.result c.loop-at.at (omega arith) c.requires c.loop-at.invariant c.kept-begun.ensures

pub returns : goal.returns
returns c k lt =
    let text = c.args.text.now in
    let bytes = c.args.bytes.now in
    let whole : take c.loop-at.at text ≡ text = take_all c.loop-at.at text (omega arith) in
    bit_of_begun text bytes c.loop-at.begun c.bits_of.result k lt
    (subst (λ t. HasLanes c.loop-at.begun (λ j. cond (begins_at t bytes j) 1 0)) whole c.loop-at.invariant) (c.bits_of.ensures k lt)
