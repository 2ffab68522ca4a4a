use Rattle.std.proofs.Common.{◌≡◌, ◌≢◌, ◌==◌, ◌+◌, ◌-◌, ◌≤◌, length, drop, take, ap, ◌∙◌, arith}
use Rattle.std.specs.List.{position_or_len}
use Rattle.std.proofs.lemmas.List.{take_rest}
use Rattle.tape_mend.proofs.OpeningLemmas.{opened}
use Rattle.tape_mend.proofs.opening.header_at.Goals as goal

pub returns-clause-ok : goal.returns-clause-ok
returns-clause-ok c =
    let script = c.args.script.now.value.items in
    let from = c.args.from in
    let place = c.position_of.result in
    let held : c.deref-2.result.now ≡ script = c.deref-2.ensures.value ∙ ap (λ text. text.items) c.deref.ensures in
    let behind : take (length c.deref-2.result.now - from) (drop from c.deref-2.result.now) ≡ drop from script =
    ap (λ s. take (length s - from) (drop from s)) held ∙ take_rest script from in
    let short : from + place ≢ length script = λ e. c.if-end-len.false (omega (arith, ap (λ text. length text.items) c.deref-3.ensures)) in
    let within : place ≤ length (drop from script) = omega (arith, ap length behind) in
    opened script c.in_ok-header.header from place (c.position_of.ensures.first ∙ ap (position_or_len (λ b. b == 10)) behind) c.requires within short c.in_ok-header.ensures
