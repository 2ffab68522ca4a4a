use Rattle.std.proofs.Common.{◌≡◌, ◌-◌, ◌++◌, All}
use Rattle.tape_import.specs.KeptCast.{IsSized}
use Rattle.tape_import.specs.KeptTlog.{shown_progress}
use Rattle.tape_import.specs.TlogTiming.{items}
use Rattle.tape_import.proofs.tlog_timing.Progress.read_story.Given as goal

-- behind the events so far stand those that what is left tells
abbrev pub invariant-loop : goal.invariant-loop
invariant-loop l = record {
  whole : (items l.end (shown_progress l.initial.self) l.timing).whole ≡ (items (l.end - l.counter) (shown_progress l.self) l.rest).whole;
  events : l.initial.events.items ++ (items l.end (shown_progress l.initial.self) l.timing).events
      ≡ l.events.items ++ (items (l.end - l.counter) (shown_progress l.self) l.rest).events;
  sized : All (λ e. IsSized e.what) l.events.items;
}
