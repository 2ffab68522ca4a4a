use Rattle.std.proofs.Common.{◌∙◌, ap, subst}
use Rattle.vt_screen.specs.Slots.{Held, OncePerSlot, slot_at}
use Rattle.vt_screen.proofs.Index.{slot_read, slot_below}
use Rattle.vt_screen.proofs.grid.Grid.slot_of.Goals as goal

pub returns-clause-value : goal.returns-clause-value
returns-clause-value c = slot_read c.self.inside.order c.args.line ∙ ap (λ (h : Held). slot_at h.order c.args.line) c.self.view_is

pub returns-clause-within : goal.returns-clause-within
returns-clause-within c = slot_below _ _ c.self.invariant c.self.view_is c.args.line c.requires.low c.requires.high

pub returns-clause-once : goal.returns-clause-once
returns-clause-once c = subst OncePerSlot c.self.view_is c.self.invariant
