-- The outputs of a recording of tlog, message by message: what they add to the body.
use Rattle.std.proofs.Common.{◌≡◌, ℕ, suc, ◌+◌, ◌-◌, ◌≤◌, ◌&&◌, ◌==◌, Bool, true, false, List, [], ◌∷◌, ◌++◌, length, take, drop, Option, Some, None, if◌then◌else◌, inl, inr, refl, ap, subst, sym, ◌∙◌, arith, append-nil, append_assoc}
use Rattle.std.specs.List.{flat_map}
use Rattle.std.proofs.lemmas.Grind.{flat_map-append}
use Rattle.tape_core.specs.Tape.{body}
use Rattle.tape_core.specs.Text.{lines_of}
use Rattle.tape_core.specs.declared.chunk.Chunk.{Chunk}
use Rattle.tape_import.specs.Asciicast.{is_blank_line, left_from, what_fault, with_event}
use Rattle.tape_import.specs.Law.{EndAtFault, EndInLine, HasItsMessages, bytes_of, fault_of, first_outputs, left_count, line_outputs, message_outputs, story_outputs, what_bytes, what_outputs}
use Rattle.tape_import.specs.Outputs.{Outputs}
use Rattle.tape_import.specs.Tlog as tlog
use Rattle.tape_import.specs.Tlog.{LineRead, Taken, at_start, is_same_name, log_of, messages, on_line, read_on, take_on, with_events, with_found, with_taken}
use Rattle.tape_import.specs.TlogMessage.{Message, message_of, story_of}
use Rattle.tape_import.specs.declared.asciicast.Cast.{Cast}
use Rattle.tape_import.specs.declared.event.Event.{Event}
use Rattle.tape_import.specs.declared.event.What.{What}
use Rattle.tape_import.specs.declared.event.What.TheVariants as what
use Rattle.tape_import.specs.declared.fault.EventFault.{EventFault}
use Rattle.tape_import.specs.declared.fault.EventFault.TheVariants as event
use Rattle.tape_import.specs.declared.tlog.Log.{Log}
use Rattle.tape_import.specs.declared.tlog.LogFront.{LogFront}
use Rattle.tape_import.specs.declared.tlog_message.Head.{Head}
use Rattle.tape_import.specs.declared.version.Version.TheVariants as version
use Rattle.tape_import.proofs.AddedLemmas.{Added, all_taken, fault_first, none_added, one_added}
use Rattle.tape_import.proofs.OutputLemmas.{found_added}

-- an event whose output has no fault, and those behind it
record Takes (before : List Chunk) (outputs : List (List ℕ)) (taken : Taken) : Type 0 where
  count : ℕ
  added : Added count before outputs taken.fault taken.cast.outputs

with_none : (before next : List Chunk) (outputs : List (List ℕ)) (taken : Taken) → body next ≡ body before ++ [] → Takes next outputs taken → Takes before outputs taken
with_none before next outputs taken is takes = record {
  count = takes.count;
  added = record {
    bytes = takes.added.bytes ∙ ap (λ front. front ++ bytes_of (take takes.count outputs)) (is ∙ append-nil (body before));
    rest = takes.added.rest;
  };
}

with_one : (w : What) (before next : List Chunk) (more : List (List ℕ)) (taken : Taken) → body next ≡ body before ++ what_bytes w → Takes next more taken
    → Takes before (what_outputs w ++ more) taken
with_one (what.Output bytes) before next more taken is takes =
    record { count = suc takes.count; added = one_added takes.count before next bytes more taken.fault taken.cast.outputs is takes.added }
with_one (what.Resize size) before next more taken is takes = with_none before next more taken is takes
with_one what.Input before next more taken is takes = with_none before next more taken is takes
with_one what.Marker before next more taken is takes = with_none before next more taken is takes
with_one what.Other before next more taken is takes = with_none before next more taken is takes

with_fault : (w : What) (more : List (List ℕ)) (so_far : Outputs) (fault : EventFault) → what_fault w so_far ≡ Some fault
    → Added 0 so_far.chunks (what_outputs w ++ more) (Some fault) so_far
with_fault (what.Output bytes) more so_far fault is = fault_first so_far bytes more fault is
with_fault (what.Resize size) more so_far fault is = cc
with_fault what.Input more so_far fault is = cc
with_fault what.Marker more so_far fault is = cc
with_fault what.Other more so_far fault is = cc

event_taken : (found : Event) (more : List Event) (cast : Cast) (fault : Option EventFault) → what_fault found.what cast.outputs ≡ fault
    → Takes (with_event version.Two found cast).outputs.chunks (story_outputs more) (with_events more (with_event version.Two found cast))
    → Takes cast.outputs.chunks (story_outputs (found ∷ more)) (take_on (with_events more) cast found fault)
event_taken found more cast None is takes =
    let next = with_event version.Two found cast in
    with_one found.what cast.outputs.chunks next.outputs.chunks (story_outputs more) (with_events more next) (found_added version.Two cast (Some found)) takes
event_taken found more cast (Some fault) is takes = record { count = 0; added = with_fault found.what (story_outputs more) cast.outputs fault is }

story_taken : (events : List Event) (cast : Cast) → Takes cast.outputs.chunks (story_outputs events) (with_events events cast)
story_taken [] cast = record { count = 0; added = none_added cast.outputs None }
story_taken (found ∷ more) cast =
    event_taken found more cast (what_fault found.what cast.outputs) refl (story_taken more (with_event version.Two found cast))

-- the outputs of a line are taken, up to its fault
record LineTaken (log : Log) (outputs : List (List ℕ)) (read : LineRead) : Type 0 where
  count : ℕ
  bytes : body read.log.cast.outputs.chunks ≡ body log.cast.outputs.chunks ++ bytes_of (take count outputs)
  rest : EndInLine read.log.cast.outputs read.fault count outputs

nothing_taken : (log : Log) → LineTaken log [] (record { log = log; fault = None })
nothing_taken log = record { count = 0; bytes = sym (append-nil (body log.cast.outputs.chunks)); rest = refl }

bad_line : (log : Log) → LineTaken log [] (record { log = log; fault = Some event.BadEvent })
bad_line log = record { count = 0; bytes = sym (append-nil (body log.cast.outputs.chunks)); rest = inr tt }

out_of_order : (log : Log) (outputs : List (List ℕ)) → LineTaken log outputs (record { log = log; fault = Some event.OutOfOrder })
out_of_order log outputs = record { count = 0; bytes = sym (append-nil (body log.cast.outputs.chunks)); rest = inl (refl, refl) }

in_line : (so_far : Outputs) (fault : Option EventFault) (count : ℕ) (outputs : List (List ℕ)) → EndAtFault so_far fault (drop count outputs) → EndInLine so_far fault count outputs
in_line so_far None count outputs rest = rest
in_line so_far (Some fault) count outputs rest = inr rest

message_taken : (log : Log) (head : Head) (events : List Event) (taken : Taken) → Takes log.cast.outputs.chunks (story_outputs events) taken → LineTaken log (story_outputs events) (with_taken log head taken)
message_taken log head events taken takes =
    record { count = takes.count; bytes = takes.added.bytes; rest = in_line taken.cast.outputs taken.fault takes.count (story_outputs events) takes.added.rest }

in_order : (log : Log) (message : Message) → LineTaken log (story_outputs (story_of message).events) (tlog.with_ordered log message None)
in_order log message =
    let events = (story_of message).events in message_taken log message.head events (with_events events log.cast) (story_taken events log.cast)

ordered_by : (log : Log) (message : Message) (next : Bool)
    → LineTaken log (story_outputs (story_of message).events) (tlog.with_ordered log message (if next then None else Some event.OutOfOrder))
ordered_by log message true = in_order log message
ordered_by log message false = out_of_order log (story_outputs (story_of message).events)

ordered : (log : Log) (message : Message) (first : Option Head)
    → LineTaken log (story_outputs (story_of message).events) (tlog.with_ordered log message (tlog.order_fault first log.last message.head))
ordered log message None = in_order log message
ordered log message (Some first) = ordered_by log message ((message.head.number == log.last + 1) && is_same_name first.recording message.head.recording)

found_taken : (log : Log) (message : Option Message) → LineTaken log (message_outputs message) (with_found log message)
found_taken log None = bad_line log
found_taken log (Some message) = ordered log message log.first

line_by : (log : Log) (message : Option Message) (blank : Bool)
    → LineTaken log (if blank then [] else message_outputs message) (if blank then record { log = log; fault = None } else with_found log message)
line_by log message true = nothing_taken log
line_by log message false = found_taken log message

line_taken : (log : Log) (line : List ℕ) → LineTaken log (line_outputs line) (tlog.with_line log line)
line_taken log line = line_by log (message_of line) (is_blank_line line)

-- and so those of lines, where so many stand before the one with the fault
abbrev Bytes : Log → List (List ℕ) → Outputs → ℕ → ℕ → Type 0
Bytes log lines so_far before count =
    body so_far.chunks ≡ body log.cast.outputs.chunks ++ bytes_of (flat_map line_outputs (take before lines) ++ take count (first_outputs (drop before lines)))

abbrev Rest : List (List ℕ) → Outputs → Option EventFault → ℕ → ℕ → Type 0
Rest lines so_far fault before count = EndInLine so_far fault count (first_outputs (drop before lines))

record LinesTaken (log : Log) (lines : List (List ℕ)) (front : LogFront) : Type 0 where
  few : left_count front.left ≤ length lines
  count : ℕ
  bytes : Bytes log lines front.log.cast.outputs (length lines - left_count front.left) count
  rest : Rest lines front.log.cast.outputs (fault_of front.left) (length lines - left_count front.left) count

whole_line : (so_far : Outputs) (fault : Option EventFault) (count : ℕ) (outputs : List (List ℕ)) → fault ≡ None → EndInLine so_far fault count outputs
    → take count outputs ≡ outputs
whole_line so_far None count outputs is rest = all_taken count outputs rest
whole_line so_far (Some f) count outputs is rest = cc

goes_on : (log : Log) (line : List ℕ) (more : List (List ℕ)) (read : LineRead) (front : LogFront) → read.fault ≡ None → LineTaken log (line_outputs line) read
    → LinesTaken read.log more front → LinesTaken log (line ∷ more) front
goes_on log line more read front none taken lines =
    let before = length more - left_count front.left in
    let one : length (line ∷ more) - left_count front.left ≡ suc before = omega (arith, lines.few) in
    let rest = take lines.count (first_outputs (drop before more)) in
    let those = flat_map line_outputs (take before more) in
    let whole : take taken.count (line_outputs line) ≡ line_outputs line = whole_line read.log.cast.outputs read.fault taken.count (line_outputs line) none taken.rest in
    let here : body read.log.cast.outputs.chunks ≡ body log.cast.outputs.chunks ++ bytes_of (line_outputs line) =
    taken.bytes ∙ ap (λ all. body log.cast.outputs.chunks ++ bytes_of all) whole in
    let joined : bytes_of (line_outputs line) ++ bytes_of (those ++ rest) ≡ bytes_of (line_outputs line ++ those ++ rest) =
    sym (flat_map-append (λ (bytes : List ℕ). bytes) (line_outputs line) (those ++ rest)) ∙ ap bytes_of (sym (append_assoc (line_outputs line) those rest)) in
    let bytes : Bytes log (line ∷ more) front.log.cast.outputs (suc before) lines.count =
    lines.bytes ∙ ap (λ front. front ++ bytes_of (those ++ rest)) here
    ∙ append_assoc (body log.cast.outputs.chunks) (bytes_of (line_outputs line)) (bytes_of (those ++ rest))
    ∙ ap (λ all. body log.cast.outputs.chunks ++ all) joined in
    record {
      few = omega (arith, lines.few);
      count = lines.count;
      bytes = subst (λ n. Bytes log (line ∷ more) front.log.cast.outputs n lines.count) (sym one) bytes;
      rest = subst (λ n. Rest (line ∷ more) front.log.cast.outputs (fault_of front.left) n lines.count) (sym one) lines.rest;
    }

ends_here : (number : ℕ) (log : Log) (line : List ℕ) (more : List (List ℕ)) (read : LineRead) (fault : EventFault) → read.fault ≡ Some fault → LineTaken log (line_outputs line) read
    → LinesTaken log (line ∷ more) (record { log = read.log; left = Some (left_from number (length (line ∷ more)) fault) })
ends_here number log line more read fault is taken =
    let none : length (line ∷ more) - length (line ∷ more) ≡ 0 = omega arith in
    record {
      few = omega arith;
      count = taken.count;
      bytes = subst (λ n. Bytes log (line ∷ more) read.log.cast.outputs n taken.count) (sym none) taken.bytes;
      rest = subst (λ n. Rest (line ∷ more) read.log.cast.outputs (Some fault) n taken.count) (sym none)
          (subst (λ f. EndInLine read.log.cast.outputs f taken.count (line_outputs line)) is taken.rest);
    }

lines_by : (number : ℕ) (log : Log) (line : List ℕ) (more : List (List ℕ)) (read : LineRead) (fault : Option EventFault) → read.fault ≡ fault → LineTaken log (line_outputs line) read
    → LinesTaken read.log more (messages (number + 1) read.log more)
    → LinesTaken log (line ∷ more) (read_on (λ next. messages (number + 1) next more) read fault (left_from (number + 1) (length (line ∷ more))))
lines_by number log line more read None is taken lines = goes_on log line more read (messages (number + 1) read.log more) is taken lines
lines_by number log line more read (Some fault) is taken lines = ends_here (number + 1) log line more read fault is taken

lines_taken : (number : ℕ) (log : Log) (lines : List (List ℕ)) → LinesTaken log lines (messages number log lines)
lines_taken number log [] = record { few = omega arith; count = 0; bytes = sym (append-nil (body log.cast.outputs.chunks)); rest = refl }
lines_taken number log (line ∷ more) =
    let here = on_line (number + 1) log in
    let read = tlog.with_line here line in
    let taken = line_taken here line in
    lines_by number log line more read read.fault refl (record { count = taken.count; bytes = taken.bytes; rest = taken.rest }) (lines_taken (number + 1) read.log more)

pub has_its_messages : (text : List ℕ) → HasItsMessages text
has_its_messages text =
    let taken = lines_taken 0 at_start (lines_of text) in
    record { count = taken.count; bytes = taken.bytes; rest = taken.rest }
