use Rattle.std.proofs.Common.{◌≡◌, ◌∙◌, ◌+◌, ◌-◌, ◌<◌, ℕ, ap, arith, drop, get_or, sym, take}
use Rattle.std.proofs.lemmas.List.{get_or-drop, get_or-take, length-take}
use Rattle.screen_print.specs.Skim.{is_pair}
use Rattle.screen_print.proofs.free.apart_len.Goals as goal

pub returns-clause-apart : goal.returns-clause-apart
returns-clause-apart c = λ k lt.
    let bytes = c.args.bytes.now in
    let most = c.min-most.result in
    let within : k < most = omega (arith, lt, c.min-most.ensures, c.rounded_up.ensures, c.requires.here) in
    let next : 1 + k ≡ k + 1 = omega arith in
    ap (λ a. is_pair c.args.ending a (get_or bytes (k + 1) 0)) (sym (get_or-take most bytes k 0 within))
    ∙ ap (is_pair c.args.ending (get_or (take most bytes) k 0))
    (ap (λ (i : ℕ). get_or bytes i 0) (sym next) ∙ sym (get_or-take (most + 1 - 1) (drop 1 bytes) k 0 (omega (arith, within)) ∙ get_or-drop 1 bytes k 0))
    ∙ c.has_pair.ensures c.if-has_pair.false k (omega (arith, within, length-take most bytes, c.min-most.ensures))
