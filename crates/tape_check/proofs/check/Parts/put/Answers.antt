use Rattle.std.proofs.Common.{List, ℕ, subst, sym}
use Rattle.tape_core.specs.Devices.{Gave}
use Rattle.tape_check.proofs.NoteLemmas.{parts_are_joined}
use Rattle.tape_check.proofs.check.Parts.put.Goals as goal

pub returns : goal.returns
returns g c =
    subst (λ (t : List ℕ). Gave g.W.Write.contents c.args.writer.now c.put_in_turn.new.writer t)
    (sym (parts_are_joined c.args.self.now)) c.put_in_turn.ensures
