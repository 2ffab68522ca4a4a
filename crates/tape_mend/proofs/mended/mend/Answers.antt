use Rattle.std.proofs.Common.{◌≡◌, ◌-◌, length, drop, take, ap, ◌∙◌, arith, subst}
use Rattle.std.proofs.lemmas.List.{take_rest}
use Rattle.tape_core.specs.Tape.{fits}
use Rattle.tape_mend.specs.Front.{Front}
use Rattle.tape_mend.proofs.MendedLemmas.{mended_is}
use Rattle.tape_mend.proofs.TakenLemmas.{mended_fits}
use Rattle.tape_mend.proofs.mended.mend.Goals as goal

pub from_parts-requires : goal.from_parts-requires
from_parts-requires c =
    let script = c.in_ok-script.script.value.items in
    let timing = c.args.timing.now in
    let opening = c.in_ok-opening.ensures.ok in
    let f = c.in_ok-front.front in
    let front : Front = record { pieces = f.pieces.items; behind = f.behind; fault = f.fault; left = f.left } in
    let h = c.in_ok-taken.taken in
    let len : c.len.result ≡ length script = omega (arith, ap (λ text. length text.items) c.deref-2.ensures) in
    let trailer : c.in_ok-trailer.trailer ≡ drop h.rest script =
    c.in_ok-trailer.ensures ∙ ap (λ n. take (n - h.rest) (drop h.rest script)) len ∙ take_rest script h.rest in
    let is = mended_is c.args.how script timing c.in_ok-opening.opening.header c.in_ok-trailer.trailer c.in_ok-opening.opening.start front c.deref.result.now h
    opening c.in_ok-front.ensures.front c.deref.ensures.value c.in_ok-taken.ensures trailer in
    subst fits (ap (λ r. r.tape) is) (mended_fits c.args.how script timing opening.some)
