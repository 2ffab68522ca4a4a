use Rattle.std.proofs.Common.{List, ℕ, arith, codes, ap, sym, ◌∙◌, ◌++◌}
use Rattle.itoa.proofs.Decimal.{decimal_two}
use Rattle.screen_cast.proofs.JsonLemmas.{opening_is}
use Rattle.screen_cast.proofs.drawn.opening_of.Goals as goal

pub returns : goal.returns
returns c =
    let opens : List ℕ = codes "\\u001b[" in
    let rest : List ℕ = codes ";1H\\u001b[0m\\u001b[2K" in
    sym (ap (λ (digits : List ℕ). (opens ++ digits) ++ rest) (decimal_two c.args.line c.requires.low c.requires.high))
    ∙ opening_is c.args.line (omega (arith, c.requires.high))
