use Rattle.std.proofs.Common.{◌∙◌}
use Rattle.std.specs.Vec.{with_items}
use Rattle.sheet.proofs.Packed.{all_used}
use Rattle.sheet.proofs.slot.Slot.erase.Goals as goal

pub invariant_of-self : goal.invariant_of-self
invariant_of-self c = all_used _ _ (c.len-self-inside.ensures ∙ (with_items c.self.inside.cells c.erase.new.cells).ok.0)
