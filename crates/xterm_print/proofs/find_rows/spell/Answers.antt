use Rattle.std.proofs.Common.{◌≡◌, ◌<◌, ◌∙◌, ℕ, List, arith, length, replicate, true}
use Rattle.std.proofs.lemmas.List.{get_or-replicate, get_or-take, length-take}
use Rattle.std.proofs.lemmas.Bool.Decides.{nat_tests}
use Rattle.xterm_print.proofs.OverLemmas.{row_plain}
use Rattle.xterm_print.proofs.find_rows.spell.Goals as goal

pub put_used-requires-clause-spaces : goal.put_used-requires-clause-spaces
put_used-requires-clause-spaces c = λ k lt.
    let count = length c.args.cells.now in
    let spaces : List ℕ = replicate 160 32 in
    let low : k < count = omega (arith, lt, length-take count spaces) in
    get_or-take count spaces k 0 low ∙ get_or-replicate 160 k 32 0 (omega (arith, low, c.if-count-gt-AT_ONCE.false))

pub returns : goal.returns
returns c = λ _.
    let plain : c.put_used.result ≡ true = grind (arith, nat_tests) in
    row_plain c.respell.new.self c.args.cells.now c.put_used.new.letters c.args.runs_on (c.put_used.ensures.plain plain) c.put_used.ensures.letters c.in_ok-respell.ensures.spelt
