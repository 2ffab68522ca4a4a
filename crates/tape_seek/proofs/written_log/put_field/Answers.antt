use Rattle.std.proofs.Common.{◌≡◌, [], ◌∷◌, ◌<◌, ◌∙◌, Bor, List, ℕ, length, ap, subst, sym, arith}
use Rattle.hex.specs.Hex.{encode_lower}
use Rattle.tape_core.specs.Devices.{Gave}
use Rattle.tape_seek.specs.declared.written_log.Field.TheVariants.{Bytes}
use Rattle.tape_seek.specs.Fields.{spaced}
use Rattle.tape_seek.proofs.LogLemmas.{digits_of_some}
use Rattle.tape_seek.proofs.written_log.put_field.Goals as goal

pub returns-in-Bytes : goal.returns-in-Bytes
returns-in-Bytes g c =
    let bytes = c.in-Bytes.bytes in
    let long = ap (λ (b : Bor (List ℕ)). length b.now) c.in-Bytes.bytes-is in
    let some : 0 < length bytes.now = omega (arith, long, c.in-Bytes.len_at_least) in
    let is : c.args.field ≡ Bytes bytes = (cc) in
    let gave : Gave g.W.Write.contents c.args.writer.now c.give_hex.new.writer (32 ∷ encode_lower bytes.now) =
    subst (λ (b : Bor (List ℕ)). Gave g.W.Write.contents c.args.writer.now c.give_hex.new.writer (32 ∷ encode_lower b.now)) c.in-Bytes.bytes-is
    (c.gives_join.ensures.both _ _ _ (32 ∷ []) _ c.give_hex.ensures c.give-in-Bytes.ensures) in
    subst (λ (t : List ℕ). Gave g.W.Write.contents c.args.writer.now c.give_hex.new.writer t)
    (ap (λ (t : List ℕ). 32 ∷ t) (sym (digits_of_some bytes.now some)) ∙ ap spaced (sym is)) gave
