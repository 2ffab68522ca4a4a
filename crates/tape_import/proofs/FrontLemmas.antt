-- What is read of a front of an asciicast begins what is read of the whole.
use Rattle.std.proofs.Common.{◌≡◌, ℕ, ◌+◌, ◌<◌, ◌≤◌, Bool, true, false, cond, List, [], ◌∷◌, ◌++◌, length, min, nat_eq, Option, Some, None, if◌then◌else◌, ◌⊎◌, inl, inr, refl, ap, subst, sym, ◌∙◌, arith, append-nil, append_assoc}
use Rattle.std.specs.List.{onto_first, slice_split}
use Rattle.std.proofs.lemmas.List.{length-append}
use Rattle.std.proofs.lemmas.List.Splits.{length-slice_split}
use Rattle.tape_core.specs.Tape.{longest_delay}
use Rattle.tape_core.specs.Text.{lines_of, without_empty_last}
use Rattle.tape_core.specs.declared.chunk.Chunk.{Chunk}
use Rattle.json_bytes.specs.Values.{json_of}
use Rattle.tape_import.specs.Asciicast.{at_header, cast_of, event_of, events, header_line, header_number, in_time, is_blank_line, is_in_force, is_skipped, left_from, line_fault, on_line, past_header, told_size, what_fault, with_event, with_found, with_line, with_what}
use Rattle.tape_import.specs.Law.{BeginWith, BeginsWithItsFront, EndsLine, LogBeginsWithItsFront}
use Rattle.tape_import.specs.Outputs.{Outputs, waited, with_output}
use Rattle.tape_import.specs.declared.asciicast.Cast.{Cast}
use Rattle.tape_import.specs.declared.asciicast.CastFront.{CastFront}
use Rattle.tape_import.specs.declared.event.Event.{Event}
use Rattle.tape_import.specs.declared.event.What.{What}
use Rattle.tape_import.specs.declared.event.What.TheVariants as what
use Rattle.tape_import.specs.declared.fault.EventFault.{EventFault}
use Rattle.tape_import.specs.Tlog as tlog
use Rattle.tape_import.specs.Tlog.{LineRead, at_start, messages, order_fault, read_on, take_on, with_events}
use Rattle.tape_import.specs.TlogMessage.{Message, message_of, story_of}
use Rattle.tape_import.specs.declared.losses.Left.{Left}
use Rattle.tape_import.specs.declared.tlog.Log.{Log}
use Rattle.tape_import.specs.declared.tlog.LogFront.{LogFront}
use Rattle.tape_import.specs.declared.version.Version.{Version}
use Rattle.tape_import.specs.declared.version.Version.TheVariants as version
use Rattle.tape_import.proofs.CastLemmas.{line_ends, line_taken}
use Rattle.tape_import.proofs.LineLemmas.{is_feed, kept}
use Rattle.tape_import.proofs.OutputLemmas.{size_same, time_same}

pub begin_all : (chunks : List Chunk) → BeginWith chunks chunks
begin_all chunks = record { more = []; is = sym (append-nil chunks) }

pub begin_same : (front whole : List Chunk) → whole ≡ front → BeginWith front whole
begin_same front whole is = record { more = []; is = is ∙ sym (append-nil front) }

pub begin_on : (a b c : List Chunk) → BeginWith a b → BeginWith b c → BeginWith a c
begin_on a b c p q = record { more = p.more ++ q.more; is = q.is ∙ ap (λ front. front ++ q.more) p.is ∙ append_assoc a p.more q.more }

-- chunks are only added
pub output_grows : (number : ℕ) (bytes : List ℕ) (so_far : Outputs) → BeginWith so_far.chunks (with_output number bytes so_far).chunks
output_grows number [] so_far = begin_all so_far.chunks
output_grows number (b ∷ bs) so_far = record { more = record { delay = min (waited so_far) longest_delay; bytes = b ∷ bs } ∷ []; is = refl }

what_grows : (w : What) (cast : Cast) → BeginWith cast.outputs.chunks (with_what w cast).outputs.chunks
what_grows (what.Output bytes) cast = output_grows cast.line bytes cast.outputs
what_grows (what.Resize None) cast = begin_all cast.outputs.chunks
what_grows (what.Resize (Some size)) cast =
    begin_same cast.outputs.chunks (with_what (what.Resize (Some size)) cast).outputs.chunks
    (size_same size cast (nat_eq (length cast.outputs.chunks) 0) (is_in_force size cast.in_force))
what_grows what.Input cast = begin_all cast.outputs.chunks
what_grows what.Marker cast = begin_all cast.outputs.chunks
what_grows what.Other cast = begin_all cast.outputs.chunks

found_grows : (v : Version) (cast : Cast) (read : Option Event) → BeginWith cast.outputs.chunks (with_found v cast read).outputs.chunks
found_grows v cast None = begin_all cast.outputs.chunks
found_grows v cast (Some found) =
    let timed : Cast = record cast { outputs = in_time v found cast.outputs } in
    subst (λ chunks. BeginWith chunks (with_what found.what timed).outputs.chunks) (time_same v found cast.outputs) (what_grows found.what timed)

line_by : (v : Version) (cast : Cast) (read : Option Event) (skipped : Bool) → BeginWith cast.outputs.chunks (if skipped then cast else with_found v cast read).outputs.chunks
line_by v cast read true = begin_all cast.outputs.chunks
line_by v cast read false = found_grows v cast read

line_grows : (v : Version) (cast : Cast) (line : List ℕ) → BeginWith cast.outputs.chunks (with_line v cast line).outputs.chunks
line_grows v cast line = line_by v cast (event_of line) (is_skipped v line)

abbrev Grown : Cast → CastFront → Type 0
Grown cast front = BeginWith cast.outputs.chunks front.cast.outputs.chunks

grows_by : (v : Version) (number : ℕ) (cast : Cast) (line : List ℕ) (more : List (List ℕ)) (fault : Option EventFault)
    → line_fault v (on_line (number + 1) cast) line ≡ fault
    → Grown (with_line v (on_line (number + 1) cast) line) (events v (number + 1) (with_line v (on_line (number + 1) cast) line) more)
    → Grown cast (events v number cast (line ∷ more))
grows_by v number cast line more None is grown =
    let next = with_line v (on_line (number + 1) cast) line in
    subst (λ (f : CastFront). Grown cast f) (sym (line_taken v number cast line more is))
    (begin_on cast.outputs.chunks next.outputs.chunks (events v (number + 1) next more).cast.outputs.chunks (line_grows v (on_line (number + 1) cast) line) grown)
grows_by v number cast line more (Some fault) is grown =
    subst (λ (f : CastFront). Grown cast f) (sym (line_ends v number cast line more fault is)) (begin_all cast.outputs.chunks)

grow : (v : Version) (number : ℕ) (cast : Cast) (lines : List (List ℕ)) → Grown cast (events v number cast lines)
grow v number cast [] = begin_all cast.outputs.chunks
grow v number cast (line ∷ more) =
    grows_by v number cast line more (line_fault v (on_line (number + 1) cast) line) refl (grow v (number + 1) (with_line v (on_line (number + 1) cast) line) more)

-- the first lines give the first chunks
abbrev Fronts : CastFront → CastFront → Type 0
Fronts front whole = BeginWith front.cast.outputs.chunks whole.cast.outputs.chunks

fronts_by : (v : Version) (number : ℕ) (cast : Cast) (line : List ℕ) (more rest : List (List ℕ)) (fault : Option EventFault)
    → line_fault v (on_line (number + 1) cast) line ≡ fault
    → Fronts (events v (number + 1) (with_line v (on_line (number + 1) cast) line) more) (events v (number + 1) (with_line v (on_line (number + 1) cast) line) (more ++ rest))
    → Fronts (events v number cast (line ∷ more)) (events v number cast (line ∷ (more ++ rest)))
fronts_by v number cast line more rest None is begun =
    subst (λ (f : CastFront). Fronts f (events v number cast (line ∷ (more ++ rest)))) (sym (line_taken v number cast line more is))
    (subst (λ (f : CastFront). Fronts (events v (number + 1) (with_line v (on_line (number + 1) cast) line) more) f) (sym (line_taken v number cast line (more ++ rest) is)) begun)
fronts_by v number cast line more rest (Some fault) is begun =
    subst (λ (f : CastFront). Fronts f (events v number cast (line ∷ (more ++ rest)))) (sym (line_ends v number cast line more fault is))
    (subst (λ (f : CastFront). Grown cast f) (sym (line_ends v number cast line (more ++ rest) fault is)) (begin_all cast.outputs.chunks))

fronts : (v : Version) (number : ℕ) (cast : Cast) (lines rest : List (List ℕ)) → Fronts (events v number cast lines) (events v number cast (lines ++ rest))
fronts v number cast [] rest = grow v number cast rest
fronts v number cast (line ∷ more) rest =
    fronts_by v number cast line more rest (line_fault v (on_line (number + 1) cast) line) refl (fronts v (number + 1) (with_line v (on_line (number + 1) cast) line) more rest)

-- the header of the front is that of the whole, if the front has one
pub record Headed (lines rest : List (List ℕ)) : Type 0 where
  pub line : header_line (lines ++ rest) ≡ header_line lines
  pub past : past_header (lines ++ rest) ≡ past_header lines ++ rest
  pub few : length (past_header lines) ≤ length lines

abbrev pub AllBlank : List (List ℕ) → Type 0
AllBlank [] = Unit {0}
AllBlank (line ∷ more) = (is_blank_line line ≡ true) × AllBlank more

abbrev pub Split : List (List ℕ) → List (List ℕ) → Type 0
Split lines rest = AllBlank lines ⊎ Headed lines rest

split_by : (line : List ℕ) (more rest : List (List ℕ)) (blank : Bool) → is_blank_line line ≡ blank → Split more rest → Split (line ∷ more) rest
split_by line more rest true is (inl none) = inl (is, none)
split_by line more rest true is (inr headed) = inr (record { line = rw is headed.line; past = rw is headed.past; few = rw is (omega (arith, headed.few)) })
split_by line more rest false is split = inr (record { line = rw is refl; past = rw is refl; few = rw is (omega arith) })

pub split : (lines rest : List (List ℕ)) → Split lines rest
split [] rest = inl tt
split (line ∷ more) rest = split_by line more rest (is_blank_line line) refl (split more rest)

pub none_past : (lines : List (List ℕ)) → AllBlank lines → past_header lines ≡ []
none_past [] blank = refl
none_past (line ∷ more) blank = rw (blank.0) (none_past more (blank.1))

pub same_number : (lines rest : List (List ℕ)) → Headed lines rest → header_number (lines ++ rest) ≡ header_number lines
same_number lines rest headed = omega (arith, headed.few, ap length headed.past, length-append lines rest, length-append (past_header lines) rest)

abbrev pub from_header : Version → ℕ → List ℕ → List (List ℕ) → CastFront
from_header v number line past = events v number (at_header (told_size v (json_of line))) past

pub headed_whole : (v : Version) (lines rest : List (List ℕ)) → Headed lines rest
    → cast_of v (lines ++ rest) ≡ from_header v (header_number lines) (header_line lines) (past_header lines ++ rest)
headed_whole v lines rest headed =
    ap (λ n. from_header v n (header_line (lines ++ rest)) (past_header (lines ++ rest))) (same_number lines rest headed)
    ∙ ap (λ line. from_header v (header_number lines) line (past_header (lines ++ rest))) headed.line
    ∙ ap (from_header v (header_number lines) (header_line lines)) headed.past

cast_by : (v : Version) (lines rest : List (List ℕ)) → Split lines rest → Fronts (cast_of v lines) (cast_of v (lines ++ rest))
cast_by v lines rest (inl blank) =
    subst (λ past. Fronts (from_header v (header_number lines) (header_line lines) past) (cast_of v (lines ++ rest))) (sym (none_past lines blank))
    (record { more = (cast_of v (lines ++ rest)).cast.outputs.chunks; is = refl })
cast_by v lines rest (inr headed) =
    subst (λ (f : CastFront). Fronts (cast_of v lines) f) (sym (headed_whole v lines rest headed))
    (fronts v (header_number lines) (at_header (told_size v (json_of (header_line lines)))) (past_header lines) rest)

-- lines behind an LF
onto : (x : ℕ) (first more : List (List ℕ)) → 0 < length first → onto_first x (first ++ more) ≡ onto_first x first ++ more
onto x [] more some = absurd (omega arith)
onto x (part ∷ parts) more some = refl

some_split : (text : List ℕ) → 0 < length (slice_split is_feed text)
some_split text = omega (arith, length-slice_split is_feed text)

joined_by : (x : ℕ) (xs ys : List ℕ) (ends : Bool) → is_feed x ≡ ends → slice_split is_feed (xs ++ 10 ∷ ys) ≡ slice_split is_feed xs ++ slice_split is_feed ys
    → cond ends ([] ∷ slice_split is_feed (xs ++ 10 ∷ ys)) (onto_first x (slice_split is_feed (xs ++ 10 ∷ ys)))
    ≡ cond ends ([] ∷ slice_split is_feed xs) (onto_first x (slice_split is_feed xs)) ++ slice_split is_feed ys
joined_by x xs ys true is same = ap (λ parts. [] ∷ parts) same
joined_by x xs ys false is same = ap (onto_first x) same ∙ onto x (slice_split is_feed xs) (slice_split is_feed ys) (some_split xs)

joined : (xs ys : List ℕ) → slice_split is_feed (xs ++ 10 ∷ ys) ≡ slice_split is_feed xs ++ slice_split is_feed ys
joined [] ys = refl
joined (x ∷ xs) ys = joined_by x xs ys (is_feed x) refl (joined xs ys)

without : (first more : List (List ℕ)) → 0 < length more → without_empty_last (first ++ more) ≡ first ++ without_empty_last more
without [] more some = refl
without (part ∷ parts) more some = kept part (parts ++ more) (omega (arith, length-append parts more)) ∙ ap (λ rest. part ∷ rest) (without parts more some)

lines_joined : (start more : List ℕ) → lines_of (start ++ 10 ∷ more) ≡ slice_split is_feed start ++ lines_of more
lines_joined start more = ap without_empty_last (joined start more) ∙ without (slice_split is_feed start) (slice_split is_feed more) (some_split more)

pub record Lined (front more : List ℕ) : Type 0 where
  pub lines : List (List ℕ)
  pub first : lines_of front ≡ lines
  pub whole : lines_of (front ++ more) ≡ lines ++ lines_of more

pub lined : (front more : List ℕ) → EndsLine front → Lined front more
lined front more ends =
    let lines = slice_split is_feed ends.start in
    record {
      lines = lines;
      first = ap lines_of ends.is ∙ lines_joined ends.start [] ∙ append-nil lines;
      whole = ap (λ text. lines_of (text ++ more)) ends.is ∙ ap lines_of (append_assoc ends.start (10 ∷ []) more) ∙ lines_joined ends.start more;
    }

pub begins_with_its_front : (v : Version) (front more : List ℕ) → EndsLine front → BeginsWithItsFront v front more
begins_with_its_front v front more ends =
    let cut = lined front more ends in
    subst (λ ls. Fronts (cast_of v ls) (cast_of v (lines_of (front ++ more)))) (sym cut.first)
    (subst (λ ls. Fronts (cast_of v cut.lines) (cast_of v ls)) (sym cut.whole) (cast_by v cut.lines (lines_of more) (split cut.lines (lines_of more))))

-- and so of tlog
taken_by : (found : Event) (more : List Event) (cast : Cast) (fault : Option EventFault)
    → BeginWith (with_event version.Two found cast).outputs.chunks (with_events more (with_event version.Two found cast)).cast.outputs.chunks
    → BeginWith cast.outputs.chunks (take_on (with_events more) cast found fault).cast.outputs.chunks
taken_by found more cast None grown =
    let next = with_event version.Two found cast in
    begin_on cast.outputs.chunks next.outputs.chunks (with_events more next).cast.outputs.chunks (found_grows version.Two cast (Some found)) grown
taken_by found more cast (Some fault) grown = begin_all cast.outputs.chunks

taken_grows : (events : List Event) (cast : Cast) → BeginWith cast.outputs.chunks (with_events events cast).cast.outputs.chunks
taken_grows [] cast = begin_all cast.outputs.chunks
taken_grows (found ∷ more) cast = taken_by found more cast (what_fault found.what cast.outputs) (taken_grows more (with_event version.Two found cast))

abbrev Reads : Log → LineRead → Type 0
Reads log read = BeginWith log.cast.outputs.chunks read.log.cast.outputs.chunks

ordered_by : (log : Log) (message : Message) (fault : Option EventFault) → Reads log (tlog.with_ordered log message fault)
ordered_by log message None = taken_grows (story_of message).events log.cast
ordered_by log message (Some fault) = begin_all log.cast.outputs.chunks

message_by : (log : Log) (message : Option Message) → Reads log (tlog.with_found log message)
message_by log None = begin_all log.cast.outputs.chunks
message_by log (Some message) = ordered_by log message (order_fault log.first log.last message.head)

read_by : (log : Log) (message : Option Message) (blank : Bool) → Reads log (if blank then record { log = log; fault = None } else tlog.with_found log message)
read_by log message true = begin_all log.cast.outputs.chunks
read_by log message false = message_by log message

read_grows : (log : Log) (line : List ℕ) → Reads log (tlog.with_line log line)
read_grows log line = read_by log (message_of line) (is_blank_line line)

abbrev LogGrown : Log → LogFront → Type 0
LogGrown log front = BeginWith log.cast.outputs.chunks front.log.cast.outputs.chunks

goes_on_by : (more : Log → LogFront) (log : Log) (read : LineRead) (fault : Option EventFault) (left : EventFault → Left) → Reads log read → LogGrown read.log (more read.log)
    → LogGrown log (read_on more read fault left)
goes_on_by more log read None left begun grown = begin_on log.cast.outputs.chunks read.log.cast.outputs.chunks (more read.log).log.cast.outputs.chunks begun grown
goes_on_by more log read (Some fault) left begun grown = begun

log_grows : (number : ℕ) (log : Log) (lines : List (List ℕ)) → LogGrown log (messages number log lines)
log_grows number log [] = begin_all log.cast.outputs.chunks
log_grows number log (line ∷ more) =
    let read = tlog.with_line (tlog.on_line (number + 1) log) line in
    goes_on_by (λ next. messages (number + 1) next more) log read read.fault (left_from (number + 1) (length (line ∷ more)))
    (read_grows (tlog.on_line (number + 1) log) line) (log_grows (number + 1) read.log more)

abbrev LogFronts : LogFront → LogFront → Type 0
LogFronts front whole = BeginWith front.log.cast.outputs.chunks whole.log.cast.outputs.chunks

both_go_on : (some all : Log → LogFront) (read : LineRead) (fault : Option EventFault) (left right : EventFault → Left) → LogFronts (some read.log) (all read.log)
    → LogFronts (read_on some read fault left) (read_on all read fault right)
both_go_on some all read None left right begun = begun
both_go_on some all read (Some fault) left right begun = begin_all read.log.cast.outputs.chunks

log_fronts : (number : ℕ) (log : Log) (lines rest : List (List ℕ)) → LogFronts (messages number log lines) (messages number log (lines ++ rest))
log_fronts number log [] rest = log_grows number log rest
log_fronts number log (line ∷ more) rest =
    let read = tlog.with_line (tlog.on_line (number + 1) log) line in
    both_go_on (λ next. messages (number + 1) next more) (λ next. messages (number + 1) next (more ++ rest)) read read.fault
    (left_from (number + 1) (length (line ∷ more))) (left_from (number + 1) (length (line ∷ (more ++ rest))))
    (log_fronts (number + 1) read.log more rest)

pub log_begins_with_its_front : (front more : List ℕ) → EndsLine front → LogBeginsWithItsFront front more
log_begins_with_its_front front more ends =
    let cut = lined front more ends in
    subst (λ ls. LogFronts (messages 0 at_start ls) (messages 0 at_start (lines_of (front ++ more)))) (sym cut.first)
    (subst (λ ls. LogFronts (messages 0 at_start cut.lines) (messages 0 at_start ls)) (sym cut.whole) (log_fronts 0 at_start cut.lines (lines_of more)))
