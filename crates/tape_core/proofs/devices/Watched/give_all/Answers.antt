use Rattle.std.proofs.Common.{ℕ, List, Bor, ap, sym, ◌∙◌, subst}
use Rattle.std.specs.List.{flat_map}
use Rattle.std.proofs.lemmas.List.{take_all}
use Rattle.tape_core.specs.Devices.{Gave}
use Rattle.tape_core.proofs.DeviceLemmas.{joined_flat}
use Rattle.tape_core.proofs.devices.Watched.give_all.Goals as goal

pub returns : goal.returns
returns g c =
    let pieces = c.args.pieces.now in
    let bytes = λ (piece : Bor (List ℕ)). piece.now in
    subst (Gave g.W.Write.contents c.args.self.now c.loop-bytes.self)
    (ap (flat_map bytes) (take_all c.loop-bytes.bytes-index pieces c.loop-bytes-test.false) ∙ sym (joined_flat bytes pieces)) c.loop-bytes.invariant
