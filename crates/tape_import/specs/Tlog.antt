-- A recording of tlog: messages, one behind another. tlog's message format.
use Rattle.std.specs.Prelude.{ℕ, ◌+◌, Bool, true, false, ◌&&◌, List, [], ◌∷◌, length, ◌==◌, Option, Some, None, if◌then◌else◌}
use Rattle.tape_core.specs.Text.{lines_of}
use Rattle.tape_import.specs.Asciicast as cast
use Rattle.tape_import.specs.Asciicast.{at_header, is_blank_line, is_word, left_from, what_fault}
use Rattle.tape_import.specs.TlogMessage.{Message, message_of, story_of}
use Rattle.tape_import.specs.declared.asciicast.Cast.{Cast}
use Rattle.tape_import.specs.declared.event.Event.{Event}
use Rattle.tape_import.specs.declared.fault.EventFault.{EventFault}
use Rattle.tape_import.specs.declared.fault.EventFault.TheVariants as event
use Rattle.tape_import.specs.declared.losses.Left.{Left}
use Rattle.tape_import.specs.declared.tlog.Log.{Log}
use Rattle.tape_import.specs.declared.tlog.LogFront.{LogFront}
use Rattle.tape_import.specs.declared.tlog_message.Head.{Head}
use Rattle.tape_import.specs.declared.version.Version.TheVariants as version

-- What a message tells is taken as the events of an asciicast 2 are, up to the first output that has a fault.
pub record Taken : Type 0 where
  pub cast : Cast
  pub fault : Option EventFault

abbrev pub take_on : (Cast → Taken) → Cast → Event → Option EventFault → Taken
take_on more so_far found None = more (cast.with_event version.Two found so_far)
take_on more so_far found (Some fault) = record { cast = so_far; fault = Some fault }

abbrev pub with_events : List Event → Cast → Taken
with_events [] so_far = record { cast = so_far; fault = None }
with_events (found ∷ more) so_far =
    take_on (with_events more) so_far found (what_fault found.what so_far.outputs)

-- Nothing was read yet.
abbrev pub at_start : Log
at_start = record { cast = at_header None; first = None; last = 0 }

-- The names of recordings are the same where both are left out, too (ours).
abbrev pub is_same_name : Option (List ℕ) → Option (List ℕ) → Bool
is_same_name None None = true
is_same_name None (Some b) = false
is_same_name (Some a) None = false
is_same_name (Some a) (Some b) = is_word a b

-- A message is in order where it is the first, or has the number behind the last one's and the first one's recording.
abbrev pub order_fault : Option Head → ℕ → Head → Option EventFault
order_fault None last head = None
order_fault (Some first) last head =
    if head.number == last + 1 && is_same_name first.recording head.recording then None else Some event.OutOfOrder

abbrev pub first_by : Option Head → Head → Head
first_by None head = head
first_by (Some first) head = first

-- What was read behind a line, and its fault, if it has one.
pub record LineRead : Type 0 where
  pub log : Log
  pub fault : Option EventFault

abbrev pub with_taken : Log → Head → Taken → LineRead
with_taken log head taken = record {
  log = record { cast = taken.cast; first = Some (first_by log.first head); last = head.number };
  fault = taken.fault;
}

abbrev pub with_ordered : Log → Message → Option EventFault → LineRead
with_ordered log message None = with_taken log message.head (with_events (story_of message).events log.cast)
with_ordered log message (Some fault) = record { log = log; fault = Some fault }

abbrev pub with_found : Log → Option Message → LineRead
with_found log None = record { log = log; fault = Some event.BadEvent }
with_found log (Some message) =
    with_ordered log message (order_fault log.first log.last message.head)

abbrev pub with_line : Log → List ℕ → LineRead
with_line log line =
    if is_blank_line line then record { log = log; fault = None } else with_found log (message_of line)

-- A line is read, and then those behind it; or it has a fault, and reading ends: from it on all lines are left out, but
-- what of it stood before an output with a fault.
abbrev pub read_on : (Log → LogFront) → LineRead → Option EventFault → (EventFault → Left) → LogFront
read_on more read None left = more read.log
read_on more read (Some fault) left = record { log = read.log; left = Some (left fault) }

-- The lines behind so many others; they are counted from 1.
abbrev pub on_line : ℕ → Log → Log
on_line number log = record log { cast = cast.on_line number log.cast }

abbrev pub messages : ℕ → Log → List (List ℕ) → LogFront
messages number log [] = record { log = log; left = None }
messages number log (line ∷ more) =
    let read = with_line (on_line (number + 1) log) line in
    read_on (λ next. messages (number + 1) next more) read read.fault
    (left_from (number + 1) (length (line ∷ more)))

abbrev pub log_of : List ℕ → LogFront
log_of text = messages 0 at_start (lines_of text)
