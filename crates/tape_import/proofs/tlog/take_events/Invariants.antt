use Rattle.std.proofs.Common.{◌≡◌, All, length}
use Rattle.tape_import.specs.KeptCast.{HasSizes, IsSized}
use Rattle.tape_import.specs.Tlog.{with_events}
use Rattle.tape_import.proofs.tlog.take_events.Given as goal

-- what is taken of all events is what is taken of those that are left
abbrev pub invariant-loop-event : goal.invariant-loop-event
invariant-loop-event l = record {
  same : with_events l.initial.events.items l.initial.cast ≡ with_events l.events.items l.cast;
  sizes : HasSizes l.cast;
  sized : All (λ e. IsSized e.what) l.events.items;
}

abbrev pub decreases-loop-event : goal.decreases-loop-event
decreases-loop-event l = length l.events.items
