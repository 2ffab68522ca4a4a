use Rattle.std.proofs.Common.{◌≡◌, ◌∙◌, [], length, sym, arith}
use Rattle.std.proofs.lemmas.List.{get_or_default, same_lists}
use Rattle.sheet.proofs.sheet.copy_slots.Goals as goal

pub returns : goal.returns
returns c =
    let slots = c.loop-i.slots in
    let others = c.args.others.now in
    let len : length slots ≡ length others = c.loop-i.invariant.count ∙ sym c.requires.count in
    same_lists slots others len (λ k d below.
    get_or_default slots k d [] below ∙ c.loop-i.invariant.done k (omega arith) ∙ sym (get_or_default others k d [] (omega (arith, len))))
