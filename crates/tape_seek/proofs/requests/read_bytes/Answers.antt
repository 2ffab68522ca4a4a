use Rattle.std.proofs.Common.{◌≡◌, true, false, codes, is_some, sym, ◌∙◌}
use Rattle.std.specs.Str.{bytes_eq}
use Rattle.tape_seek.specs.Requests.{pairs_of}
use Rattle.tape_seek.proofs.HexLemmas.{pairs_some}
use Rattle.tape_seek.proofs.requests.read_bytes.Goals as goal

pub returns-in-Err-clause-want : goal.returns-in-Err-clause-want
returns-in-Err-clause-want c =
    let other : bytes_eq c.args.field.now (codes "-") ≡ false = cc in
    let some : is_some (pairs_of c.args.field.now) ≡ true = sym c.are_hex_pairs.ensures ∙ c.if-not-are_hex_pairs.false in
    λ want. pairs_some c.args.field.now other some
