-- Private: what the parts of a message show, and what holds of them.
use Rattle.std.specs.Prelude.{ℕ, ◌+◌, ◌-◌, ◌≡◌, ◌≤◌, IfSome, List, [], ◌∷◌, codes, drop, length, nat_eq, Option, Some, None, if◌then◌else◌}
use Rattle.std.specs.Cmp.Lexicographic.{pointwise}
use Rattle.std.specs.List.{AllPass, prefix_len}
use Rattle.std.specs.Option.{option_map}
use Rattle.json_bytes.specs.Listed.{listed, valued}
use Rattle.json_bytes.specs.Strings.{meant}
use Rattle.json_bytes.specs.Values.{Json, last_named, string_of}
use Rattle.json_bytes.specs.declared.members.Member.{Member}
use Rattle.tape_import.specs.Asciicast.{date_of, is_word, term_of, what_fault}
use Rattle.tape_import.specs.Dates.{last_second}
use Rattle.tape_import.specs.Facts.{is_term_byte}
use Rattle.tape_import.specs.Kept.{IsSize}
use Rattle.tape_import.specs.KeptCast.{HasSizes}
use Rattle.tape_import.specs.Tlog.{Taken, take_on}
use Rattle.tape_import.specs.TlogMessage.{Message, at_front, count_of, given_bytes, given_text, is_versioned}
use Rattle.tape_import.specs.TlogTiming.{Progress, Step, Stream, characters_len, goes_on}
use Rattle.tape_import.specs.declared.asciicast.Cast.{Cast}
use Rattle.tape_import.specs.declared.event.Event.{Event}
use Rattle.tape_import.specs.declared.event.What.{What}
use Rattle.tape_import.specs.declared.tlog.Log.{Log}
use Rattle.tape_import.specs.declared.tlog_fields.Field.{Field}
use Rattle.tape_import.specs.declared.tlog_fields.Field.TheVariants as field
use Rattle.tape_import.specs.declared.tlog_fields.Fields.{Fields}
use Rattle.tape_import.specs.declared.tlog_message.Head.{Head}
use Rattle.tape_import.specs.declared.tlog_message.HeadRead.{HeadRead}
use Rattle.tape_import.specs.declared.tlog_message.MessageRead.{MessageRead}
use Rattle.tape_import.specs.declared.tlog_stream.Rest.{Rest}
use Rattle.tape_import.specs.declared.tlog_timing.Progress.{Progress as ProgressKept}
use Rattle.tape_import.specs.declared.tlog_timing.Word.{Word}
use Rattle.tape_import.specs.declared.tlog_timing.Word.TheVariants as word

-- What a member of this name is, of those that are told by their places.
abbrev pub told : List Member → List ℕ → Option Json
told members name = last_named name None (listed 63 members)

-- The member that a name is of, and the name.
abbrev pub field_named : List ℕ → Option Field
field_named name =
    if is_word (codes "ver") name then Some field.Version
    else if is_word (codes "id") name then Some field.Number
    else if is_word (codes "pos") name then Some field.Pos
    else if is_word (codes "rec") name then Some field.Recording
    else if is_word (codes "term") name then Some field.Term
    else if is_word (codes "time") name then Some field.Time
    else if is_word (codes "timing") name then Some field.Timing
    else if is_word (codes "in_txt") name then Some field.TypedText
    else if is_word (codes "in_bin") name then Some field.TypedBytes
    else if is_word (codes "out_txt") name then Some field.ShownText
    else if is_word (codes "out_bin") name then Some field.ShownBytes
    else None

abbrev pub word_of : Field → List ℕ
word_of field.Version = codes "ver"
word_of field.Number = codes "id"
word_of field.Pos = codes "pos"
word_of field.Recording = codes "rec"
word_of field.Term = codes "term"
word_of field.Time = codes "time"
word_of field.Timing = codes "timing"
word_of field.TypedText = codes "in_txt"
word_of field.TypedBytes = codes "in_bin"
word_of field.ShownText = codes "out_txt"
word_of field.ShownBytes = codes "out_bin"

-- What members tell by their names: none yet; and behind one more of them.
abbrev pub none_told : List ℕ → Option Json
none_told name = None

abbrev pub with_member : List ℕ → Json → (List ℕ → Option Json) → List ℕ → Option Json
with_member other value told name = if pointwise nat_eq other name then Some value else told name

-- This is kept of what they tell.
pub record Tells (told : List ℕ → Option Json) (fields : Fields) : Type 0 where
  pub version : fields.is_versioned ≡ is_versioned (string_of (told (codes "ver")))
  pub number : fields.number ≡ count_of (told (codes "id"))
  pub pos : fields.pos ≡ count_of (told (codes "pos"))
  pub recording : option_map meant fields.recording ≡ string_of (told (codes "rec"))
  pub term : option_map (valued 63) fields.term ≡ told (codes "term")
  pub time : option_map (valued 63) fields.time ≡ told (codes "time")
  pub timing : option_map meant fields.timing ≡ string_of (told (codes "timing"))
  pub typed_text : option_map meant fields.typed.text ≡ given_text (told (codes "in_txt"))
  pub typed_bytes : option_map (λ b. b.items) fields.typed.bytes ≡ given_bytes (told (codes "in_bin"))
  pub shown_text : option_map meant fields.shown.text ≡ given_text (told (codes "out_txt"))
  pub shown_bytes : option_map (λ b. b.items) fields.shown.bytes ≡ given_bytes (told (codes "out_bin"))

-- What is left of a stream, how far a timing has come, and what an item told behind which it has come so far.
abbrev pub shown_stream : Rest → Stream
shown_stream rest = record {
  text = drop (length (meant rest.text) - rest.text_left) (meant rest.text);
  bytes = drop (length rest.bytes.items - rest.bytes_left) rest.bytes.items;
}

abbrev pub shown_progress : ProgressKept → Progress
shown_progress so_far = record {
  moment = so_far.moment;
  typed = shown_stream so_far.typed;
  shown = shown_stream so_far.shown;
}

abbrev pub step_behind : Option What → ProgressKept → Step
step_behind found so_far = record { what = found; behind = shown_progress so_far }

abbrev pub events_at : ℕ → Option What → List Event
events_at time None = []
events_at time (Some found) = record { time = time; what = found } ∷ []

-- What was read of a message that tells something of the recording; and of all of it.
abbrev pub shown_head : HeadRead → Head
shown_head head = record {
  number = head.number;
  recording = option_map meant head.recording;
  term = term_of (option_map (valued 63) head.term);
  date = date_of (option_map (valued 63) head.time);
}

pub record IsRead (message : Message) (read : MessageRead) : Type 0 where
  pub head : shown_head read.head ≡ message.head
  pub timing : meant read.timing ≡ message.timing
  pub so_far : shown_progress read.so_far ≡ at_front message

-- How many bytes go on with a character, and with so many more behind it, where there are so many.
abbrev pub continued_len : ℕ → List ℕ → Option ℕ
continued_len count text =
    let more = prefix_len goes_on text in option_map (λ len. more + len) (characters_len count (drop more text))

-- Sizes that items tell can be told.
abbrev pub IsSizedWord : Word → Type 0
IsSizedWord (word.Pass ms) = Unit {0}
IsSizedWord (word.Typed count) = Unit {0}
IsSizedWord (word.Shown count) = Unit {0}
IsSizedWord (word.TypedBytes skipped count) = Unit {0}
IsSizedWord (word.ShownBytes skipped count) = Unit {0}
IsSizedWord (word.Window size) = IfSome size IsSize

-- What is taken of one event.
abbrev pub event_taken : Event → Cast → Taken
event_taken found so_far =
    take_on (λ next. record { cast = next; fault = None }) so_far found (what_fault found.what so_far.outputs)

-- What a message tells of its recording can be told, and so can what is read of all messages.
pub record CanHead (head : Head) : Type 0 where
  pub term : IfSome head.term (AllPass is_term_byte)
  pub date : IfSome head.date (λ s. s ≤ last_second)

pub record CanLog (log : Log) : Type 0 where
  pub sizes : HasSizes log.cast
  pub first : IfSome log.first CanHead
