-- That what a front of a recording of tlog is refused for the whole is refused for too.
use Rattle.std.proofs.Common.{◌≡◌, ℕ, ◌+◌, ◌≤◌, Bool, true, false, List, [], ◌∷◌, ◌++◌, length, nat_eq, nat_lt, Option, Some, None, IfSome, if◌then◌else◌, inl, inr, refl, ap, subst, sym, ◌∙◌, arith}
use Rattle.std.specs.Option.{option_and_then, option_map, option_or}
use Rattle.std.proofs.lemmas.Option.{same_Some}
use Rattle.tape_core.specs.Text.{lines_of}
use Rattle.tape_import.specs.Asciicast.{header_number, in_time, is_blank_line, is_in_force, left_from, what_fault, with_event, with_resize, with_what}
use Rattle.tape_import.specs.FaultOrder.{IsWithin, LogKeepsItsFault}
use Rattle.tape_import.specs.Law.{EndsLine}
use Rattle.tape_import.specs.Refusal.{late_fault}
use Rattle.tape_import.specs.Tlog as tlog
use Rattle.tape_import.specs.Tlog.{LineRead, Taken, at_start, first_by, is_same_name, messages, on_line, order_fault, read_on, take_on, with_events, with_found, with_ordered}
use Rattle.tape_import.specs.TlogImported.{late}
use Rattle.tape_import.specs.TlogMessage.{Message, message_of, story_of}
use Rattle.tape_import.specs.declared.asciicast.Cast.{Cast}
use Rattle.tape_import.specs.declared.event.Event.{Event}
use Rattle.tape_import.specs.declared.event.What.{What}
use Rattle.tape_import.specs.declared.event.What.TheVariants as what
use Rattle.tape_import.specs.declared.facts.Size.{Size}
use Rattle.tape_import.specs.declared.fault.EventFault.{EventFault}
use Rattle.tape_import.specs.declared.fault.EventFault.TheVariants as event
use Rattle.tape_import.specs.declared.losses.Late.{Late}
use Rattle.tape_import.specs.declared.losses.Left.{Left}
use Rattle.tape_import.specs.declared.refusal.Refusal.{Refusal}
use Rattle.tape_import.specs.declared.tlog.Log.{Log}
use Rattle.tape_import.specs.declared.tlog.LogFront.{LogFront}
use Rattle.tape_import.specs.declared.tlog_message.Head.{Head}
use Rattle.tape_import.specs.declared.version.Version.TheVariants as version
use Rattle.tape_import.proofs.FrontLemmas.{AllBlank, Split, lined, same_number, split}
use Rattle.tape_import.proofs.OrderLemmas.{Slower, fault_by, found_slower, is_among, line_alone, slow_alone, still_slow, wider}

-- events of a line stand in it
size_line : (size : Size) (cast : Cast) (first same : Bool)
    → (if first then record cast { in_force = Some size; told = Some size } else if same then cast else with_resize (record cast { in_force = Some size })).line ≡ cast.line
size_line size cast true same = refl
size_line size cast false true = refl
size_line size cast false false = refl

what_line : (w : What) (cast : Cast) → (with_what w cast).line ≡ cast.line
what_line (what.Output bytes) cast = refl
what_line (what.Resize None) cast = refl
what_line (what.Resize (Some size)) cast = size_line size cast (nat_eq (length cast.outputs.chunks) 0) (is_in_force size cast.in_force)
what_line what.Input cast = refl
what_line what.Marker cast = refl
what_line what.Other cast = refl

event_line : (found : Event) (cast : Cast) → (with_event version.Two found cast).line ≡ cast.line
event_line found cast = what_line found.what (record cast { outputs = in_time version.Two found cast.outputs })

-- the first delay that is cut in them is in this line
both_slower : (number : ℕ) (a b c : Option ℕ) → Slower number a b → Slower number b c → Slower number a c
both_slower number a b c (inl same) (inl again) = inl (again ∙ same)
both_slower number a b c (inl same) (inr now) = inr (sym same ∙ now.0, now.1)
both_slower number a b c (inr now) (inl same) = inr (now.0, same ∙ now.1)
both_slower number a b c (inr now) (inr again) = inr (now.0, again.1)

abbrev Slows : Cast → Taken → Type 0
Slows cast taken = Slower cast.line cast.outputs.first_slow taken.cast.outputs.first_slow

one_slower : (found : Event) (more : List Event) (cast : Cast) (fault : Option EventFault)
    → Slows (with_event version.Two found cast) (with_events more (with_event version.Two found cast)) → Slows cast (take_on (with_events more) cast found fault)
one_slower found more cast None slower =
    let next = with_event version.Two found cast in
    let after = (with_events more next).cast.outputs.first_slow in
    both_slower cast.line cast.outputs.first_slow next.outputs.first_slow after (found_slower version.Two cast (Some found))
    (subst (λ n. Slower n next.outputs.first_slow after) (event_line found cast) slower)
one_slower found more cast (Some fault) slower = inl refl

events_slower : (events : List Event) (cast : Cast) → Slows cast (with_events events cast)
events_slower [] cast = inl refl
events_slower (found ∷ more) cast = one_slower found more cast (what_fault found.what cast.outputs) (events_slower more (with_event version.Two found cast))

-- what a line leaves of what was read before
abbrev Started : Log → Type 0
Started log = log.first ≡ None → log.cast.outputs.first_slow ≡ None

record Line (log : Log) (read : LineRead) : Type 0 where
  slower : Slower log.cast.line log.cast.outputs.first_slow read.log.cast.outputs.first_slow
  first : (head : Head) → log.first ≡ Some head → read.log.first ≡ Some head
  started : Started log → Started read.log

untouched : (log : Log) (fault : Option EventFault) → Line log (record { log = log; fault = fault })
untouched log fault = record { slower = inl refl; first = λ head is. is; started = λ is. is }

first_stays : (first : Option Head) (now head : Head) → first ≡ Some head → Some (first_by first now) ≡ Some head
first_stays None now head is = cc
first_stays (Some first) now head is = is

ordered_by : (log : Log) (message : Message) (fault : Option EventFault) → Line log (with_ordered log message fault)
ordered_by log message None = record {
  slower = events_slower (story_of message).events log.cast;
  first = λ head is. first_stays log.first message.head head is;
  started = λ is none. cc;
}
ordered_by log message (Some fault) = untouched log (Some fault)

message_by : (log : Log) (message : Option Message) → Line log (with_found log message)
message_by log None = untouched log (Some event.BadEvent)
message_by log (Some message) = ordered_by log message (order_fault log.first log.last message.head)

read_by : (log : Log) (message : Option Message) (blank : Bool) → Line log (if blank then record { log = log; fault = None } else with_found log message)
read_by log message true = untouched log None
read_by log message false = message_by log message

line_read : (log : Log) (line : List ℕ) → Line log (tlog.with_line log line)
line_read log line = read_by log (message_of line) (is_blank_line line)

-- what was told stays told
record Stays (log : Log) (front : LogFront) : Type 0 where
  slow : (k : ℕ) → log.cast.outputs.first_slow ≡ Some k → front.log.cast.outputs.first_slow ≡ Some k
  first : (head : Head) → log.first ≡ Some head → front.log.first ≡ Some head

stays_by : (more : Log → LogFront) (number : ℕ) (log : Log) (read : LineRead) (fault : Option EventFault) (left : EventFault → Left) → Line (on_line number log) read
    → Stays read.log (more read.log) → Stays log (read_on more read fault left)
stays_by more number log read None left line stays = record {
  slow = λ k is. stays.slow k (still_slow number k log.cast.outputs.first_slow read.log.cast.outputs.first_slow line.slower is);
  first = λ head is. stays.first head (line.first head is);
}
stays_by more number log read (Some fault) left line stays = record {
  slow = λ k is. still_slow number k log.cast.outputs.first_slow read.log.cast.outputs.first_slow line.slower is;
  first = λ head is. line.first head is;
}

stays : (number : ℕ) (log : Log) (lines : List (List ℕ)) → Stays log (messages number log lines)
stays number log [] = record { slow = λ k is. is; first = λ head is. is }
stays number log (line ∷ more) =
    let here = on_line (number + 1) log in
    let read = tlog.with_line here line in
    stays_by (λ next. messages (number + 1) next more) (number + 1) log read read.fault (left_from (number + 1) (length (line ∷ more)))
    (line_read here line) (stays (number + 1) read.log more)

-- what a log is refused for, by its first message's line
abbrev log_fault : ℕ → Option Head → Option ℕ → Option Left → Option Refusal
log_fault line first slow left = option_or (option_map late_fault (option_and_then (late line) first)) (fault_by slow left)

abbrev Kept : ℕ → ℕ → LogFront → LogFront → Type 0
Kept line bound front whole =
    (r : Refusal) → log_fault line front.log.first front.log.cast.outputs.first_slow front.left ≡ Some r
    → (log_fault line whole.log.first whole.log.cast.outputs.first_slow whole.left ≡ Some r) × IsWithin bound r

-- it is its first message's, or another
late_or : (bound line : ℕ) (told : Option Late) (before after : Option Refusal) (r : Refusal) → IfSome told (λ l. l.line ≤ bound) → option_or (option_map late_fault told) before ≡ Some r
    → (before ≡ Some r → (after ≡ Some r) × IsWithin bound r) → (option_or (option_map late_fault told) after ≡ Some r) × IsWithin bound r
late_or bound line None before after r small is else_ = else_ is
late_or bound line (Some l) before after r small is else_ = (is, subst (IsWithin bound) (same_Some (late_fault l) r is) small)

late_by : (bound line : ℕ) (head : Head) (begins_late : Bool) → line ≤ bound → IfSome (if begins_late then Some (record { number = head.number; line = line }) else None) (λ (l : Late). l.line ≤ bound)
late_by bound line head true le = le
late_by bound line head false le = tt

late_small : (bound line : ℕ) (first : Option Head) → line ≤ bound → IfSome (option_and_then (late line) first) (λ l. l.line ≤ bound)
late_small bound line None le = tt
late_small bound line (Some head) le = late_by bound line head (nat_lt 1 head.number) le

front_ends : (line bound : ℕ) (log : Log) (first : Option Head) (whole : LogFront) → log.first ≡ first → Started log → IfSome log.cast.outputs.first_slow (λ k. k ≤ bound) → line ≤ bound → Stays log whole
    → (r : Refusal) → log_fault line first log.cast.outputs.first_slow None ≡ Some r
    → (log_fault line whole.log.first whole.log.cast.outputs.first_slow whole.left ≡ Some r) × IsWithin bound r
front_ends line bound log None whole is started among le stays r told =
    let none : fault_by log.cast.outputs.first_slow None ≡ fault_by None None = ap (λ slow. fault_by slow None) (started is) in
    let no : None ≡ Some r = sym none ∙ told in cc
front_ends line bound log (Some head) whole is started among le stays r told =
    let same : whole.log.first ≡ Some head = stays.first head is in
    subst (λ first. (log_fault line first whole.log.cast.outputs.first_slow whole.left ≡ Some r) × IsWithin bound r) (sym same)
    (late_or bound line (late line head) (fault_by log.cast.outputs.first_slow None) (fault_by whole.log.cast.outputs.first_slow whole.left) r
    (late_small bound line (Some head) le) told
    (λ slow. slow_alone bound log.cast.outputs.first_slow whole.log.cast.outputs.first_slow whole.left r slow among stays.slow))

line_by : (line bound number few many : ℕ) (read : LineRead) (fault : Option EventFault) (some all : Log → LogFront)
    → line ≤ bound → number ≤ bound → IfSome read.log.cast.outputs.first_slow (λ k. k ≤ bound) → Kept line bound (some read.log) (all read.log)
    → Kept line bound (read_on some read fault (left_from number few)) (read_on all read fault (left_from number many))
line_by line bound number few many read None some all le within among kept = kept
line_by line bound number few many read (Some fault) some all le within among kept =
    λ r told. late_or bound line (option_and_then (late line) read.log.first) (fault_by read.log.cast.outputs.first_slow (Some (left_from number few fault)))
    (fault_by read.log.cast.outputs.first_slow (Some (left_from number many fault))) r (late_small bound line read.log.first le) told
    (λ is. line_alone bound number few many read.log.cast.outputs.first_slow fault r is among within)

all_kept : (line bound number : ℕ) (log : Log) (lines rest : List (List ℕ)) → line ≤ bound → number + length lines ≤ bound → Started log → IfSome log.cast.outputs.first_slow (λ k. k ≤ number)
    → Kept line bound (messages number log lines) (messages number log (lines ++ rest))
all_kept line bound number log [] rest le within started among =
    front_ends line bound log log.first (messages number log rest) refl started (wider number bound log.cast.outputs.first_slow (omega arith) among) le (stays number log rest)
all_kept line bound number log (one ∷ more) rest le within started among =
    let here = on_line (number + 1) log in
    let read = tlog.with_line here one in
    let own = line_read here one in
    let later = is_among number log.cast.outputs.first_slow read.log.cast.outputs.first_slow own.slower among in
    line_by line bound (number + 1) (length (one ∷ more)) (length (one ∷ (more ++ rest))) read read.fault
    (λ next. messages (number + 1) next more) (λ next. messages (number + 1) next (more ++ rest)) le (omega arith)
    (wider (number + 1) bound read.log.cast.outputs.first_slow (omega arith) later)
    (all_kept line bound (number + 1) read.log more rest le (omega arith) (own.started started) later)

-- of blank lines nothing is told
nothing_told : (number : ℕ) (log : Log) (lines : List (List ℕ)) → AllBlank lines → log.first ≡ None → log.cast.outputs.first_slow ≡ None
    → (line : ℕ) → (λ (f : LogFront). log_fault line f.log.first f.log.cast.outputs.first_slow f.left) (messages number log lines) ≡ None
nothing_told number log [] blank none fast line = rw (none, fast) refl
nothing_told number log (one ∷ more) blank none fast line = rw (blank.0) (nothing_told (number + 1) (on_line (number + 1) log) more (blank.1) none fast line)

abbrev Keeps : List (List ℕ) → List (List ℕ) → Type 0
Keeps front whole =
    (r : Refusal) → log_fault (header_number front) (messages 0 at_start front).log.first (messages 0 at_start front).log.cast.outputs.first_slow (messages 0 at_start front).left ≡ Some r
    → (log_fault (header_number whole) (messages 0 at_start whole).log.first (messages 0 at_start whole).log.cast.outputs.first_slow (messages 0 at_start whole).left ≡ Some r)
    × IsWithin (length front) r

log_kept : (lines rest : List (List ℕ)) → Split lines rest → Keeps lines (lines ++ rest)
log_kept lines rest (inl blank) = λ r told. let no : None ≡ Some r = sym (nothing_told 0 at_start lines blank refl refl (header_number lines)) ∙ told in cc
log_kept lines rest (inr headed) = λ r told.
    let whole = messages 0 at_start (lines ++ rest) in
    subst (λ n. (log_fault n whole.log.first whole.log.cast.outputs.first_slow whole.left ≡ Some r) × IsWithin (length lines) r) (sym (same_number lines rest headed))
    (all_kept (header_number lines) (length lines) 0 at_start lines rest (omega arith) (omega arith) (λ none. refl) tt r told)

pub log_keeps_its_fault : (front more : List ℕ) → EndsLine front → LogKeepsItsFault front more
log_keeps_its_fault front more ends =
    let cut = lined front more ends in
    subst (λ ls. Keeps ls (lines_of (front ++ more))) (sym cut.first)
    (subst (λ ls. Keeps cut.lines ls) (sym cut.whole) (log_kept cut.lines (lines_of more) (split cut.lines (lines_of more))))
