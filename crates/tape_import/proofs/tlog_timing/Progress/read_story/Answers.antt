use Rattle.std.proofs.Common.{◌+◌, ◌-◌, ◌++◌, ◌∙◌, All, IfSome, List, ap, append-nil, append_assoc, arith, length, refl, subst, sym}
use Rattle.tape_import.specs.KeptCast.{IsSized}
use Rattle.tape_import.specs.KeptTlog.{events_at, shown_progress, step_behind}
use Rattle.tape_import.specs.TlogTiming.{Story, go_on, items}
use Rattle.tape_import.specs.declared.event.Event.{Event}
use Rattle.tape_import.proofs.TlogLemmas.{ends_whole, event_added, item_more, no_events, same_whole, sized_more}
use Rattle.tape_import.proofs.tlog_timing.Progress.read_story.Goals as goal

pub returns-in_default-2-clause-whole : goal.returns-in_default-2-clause-whole
returns-in_default-2-clause-whole c =
    let most = length c.args.timing.now in
    let more = items (most - (c.loop.counter + 1)) in
    let none = rw c.in_default-2.is at c.in_ok-what.ensures.step in
    sym (c.loop.invariant.whole
    ∙ ap (λ (s : Story). s.whole) (item_more most c.loop.counter (shown_progress c.loop.self) c.loop.rest.now (omega arith) (omega arith))
    ∙ ap (λ r. (go_on more r).whole) none)

pub returns-in_default-2-clause-events : goal.returns-in_default-2-clause-events
returns-in_default-2-clause-events c =
    let most = length c.args.timing.now in
    let more = items (most - (c.loop.counter + 1)) in
    let none = rw c.in_default-2.is at c.in_ok-what.ensures.step in
    let kept = c.loop.events.items in
    sym (c.loop.invariant.events
    ∙ ap (λ (s : Story). kept ++ s.events) (item_more most c.loop.counter (shown_progress c.loop.self) c.loop.rest.now (omega arith) (omega arith))
    ∙ ap (λ r. kept ++ (go_on more r).events) none ∙ append-nil kept)

pub loop-preserved : goal.loop-preserved
loop-preserved c =
    let most = length c.args.timing.now in
    let more = items (most - (c.loop.counter + 1)) in
    let here = c.loop.rest.now in
    let told = c.in-Some.what in
    let step = step_behind told c.step_at.new.self in
    let story = more step.behind c.in-Some.behind.now in
    let is = rw c.in-Some.is at c.in_ok-what.ensures.step in
    let small : IfSome told IsSized = rw c.in-Some.is at c.in_ok-what.ensures.small in
    let kept = c.loop.events.items in
    let time = c.step_at.new.self.moment in
    record {
      whole = c.loop.invariant.whole
          ∙ ap (λ (s : Story). s.whole) (item_more most c.loop.counter (shown_progress c.loop.self) here (omega arith) (omega arith))
          ∙ ap (λ r. (go_on more r).whole) is ∙ same_whole step told story;
      events = c.loop.invariant.events
          ∙ ap (λ (s : Story). kept ++ s.events) (item_more most c.loop.counter (shown_progress c.loop.self) here (omega arith) (omega arith))
          ∙ ap (λ r. kept ++ (go_on more r).events) is ∙ ap (λ (es : List Event). kept ++ es) (event_added time told step.behind story refl)
          ∙ sym (append_assoc kept (events_at time told) story.events) ∙ ap (λ (es : List Event). es ++ story.events) (sym c.in_ok-keep.ensures);
      sized = subst (λ (es : List Event). All (λ e. IsSized e.what) es) (sym c.in_ok-keep.ensures) (sized_more kept time told c.loop.invariant.sized small);
    }

pub returns-clause-whole : goal.returns-clause-whole
returns-clause-whole c =
    c.is_empty.ensures ∙ sym (ends_whole (length c.args.timing.now - c.loop.counter) (shown_progress c.loop.self) c.loop.rest.now (omega arith)) ∙ sym c.loop.invariant.whole

pub returns-clause-events : goal.returns-clause-events
returns-clause-events c =
    let kept = c.loop.events.items in
    sym (c.loop.invariant.events
    ∙ ap (λ (es : List Event). kept ++ es) (no_events (length c.args.timing.now - c.loop.counter) (shown_progress c.loop.self) c.loop.rest.now (omega arith))
    ∙ append-nil kept)
