-- What holds of every recording of another form: statements of the crate's laws.
use Rattle.std.specs.Prelude.{◌≡◌, ◌≢◌, ℕ, zero, suc, ◌+◌, ◌-◌, List, [], ◌∷◌, ◌++◌, length, take, drop, Option, Some, None, ◌⊎◌, if◌then◌else◌}
use Rattle.std.specs.List.{flat_map}
use Rattle.tape_core.specs.Reading.{reads}
use Rattle.tape_core.specs.Tape.{Tape, body, fits}
use Rattle.tape_core.specs.Text.{lines_of}
use Rattle.tape_core.specs.Written.{script_text, timing_text}
use Rattle.tape_core.specs.declared.chunk.Chunk.{Chunk}
use Rattle.tape_import.specs.Asciicast.{asciicast_of, event_of, is_blank_line, is_skipped, past_header}
use Rattle.tape_import.specs.AsciicastOne.{asciicast_one_of}
use Rattle.tape_import.specs.EntriesOne.{outputs_of}
use Rattle.tape_import.specs.Outputs.{Outputs, output_fault}
use Rattle.tape_import.specs.Tlog.{log_of}
use Rattle.tape_import.specs.TlogMessage.{Message, message_of, story_of}
use Rattle.tape_import.specs.Ttyrec.{data_of, head_len, told_of, ttyrec_of}
use Rattle.tape_import.specs.declared.event.Event.{Event}
use Rattle.tape_import.specs.declared.event.What.{What}
use Rattle.tape_import.specs.declared.event.What.TheVariants as what
use Rattle.tape_import.specs.declared.fault.EventFault.{EventFault}
use Rattle.tape_import.specs.declared.fault.EventFault.TheVariants as fault
use Rattle.tape_import.specs.declared.losses.Left.{Left}
use Rattle.tape_import.specs.declared.version.Version.{Version}

-- What is imported fits the limits, and the pair that is written of it is read again without a fault as that recording.
pub record ReadsBack (tape : Tape) : Type 0 where
  pub fitting : fits tape
  pub read : reads (script_text tape) (timing_text tape) tape

-- The bytes of the output that a line of an asciicast is: none where it is anything else.
abbrev pub what_bytes : What → List ℕ
what_bytes (what.Output bytes) = bytes
what_bytes (what.Resize size) = []
what_bytes what.Input = []
what_bytes what.Marker = []
what_bytes what.Other = []

abbrev pub event_bytes : Option Event → List ℕ
event_bytes None = []
event_bytes (Some found) = what_bytes found.what

abbrev pub line_bytes : Version → List ℕ → List ℕ
line_bytes version line = if is_skipped version line then [] else event_bytes (event_of line)

-- The lines behind the header up to the first with a fault; all where there is none.
abbrev pub left_count : Option Left → ℕ
left_count None = 0
left_count (Some left) = left.count

abbrev pub sound_lines : Version → List ℕ → List (List ℕ)
sound_lines version text =
    let lines = past_header (lines_of text) in
    take (length lines - left_count (asciicast_of version text).left) lines

-- Every byte of every output is in the body, in order, up to the first fault, and no other byte is.
abbrev pub HasItsOutputs : Version → List ℕ → Type 0
HasItsOutputs version text =
    body (asciicast_of version text).cast.outputs.chunks ≡ flat_map (line_bytes version) (sound_lines version text)

-- The data of the first so many records of a ttyrec, of which so many bytes at the front belong to the record before.
abbrev pub record_data : ℕ → ℕ → List ℕ → List (List ℕ)
record_data count belong [] = []
record_data count (suc belong) (b ∷ bs) = record_data count belong bs
record_data zero zero (b ∷ bs) = []
record_data (suc count) zero (b ∷ bs) = data_of (b ∷ bs) ∷ record_data count (head_len - 1 + told_of (b ∷ bs)) bs

-- The data of every record up to the first with a fault is in the body, in order, and no other byte is.
abbrev pub HasItsData : List ℕ → Type 0
HasItsData file =
    let read = (ttyrec_of file).read in
    body read.outputs.chunks ≡ flat_map (λ bytes. bytes) (record_data read.count 0 file)

-- The bytes of outputs, one behind another.
abbrev pub bytes_of : List (List ℕ) → List ℕ
bytes_of outputs = flat_map (λ bytes. bytes) outputs

-- Of outputs that weren't taken the first has the fault with which reading ended. There may be none: the fault is
-- another line's, entry's or member's.
abbrev pub BeginWithFault : Outputs → EventFault → List (List ℕ) → Type 0
BeginWithFault so_far fault [] = Unit {0}
BeginWithFault so_far fault (bytes ∷ more) = output_fault so_far (length bytes) ≡ Some fault

abbrev pub EndAtFault : Outputs → Option EventFault → List (List ℕ) → Type 0
EndAtFault so_far None rest = rest ≡ []
EndAtFault so_far (Some fault) rest = BeginWithFault so_far fault rest

-- The outputs of the entries of an asciicast of version 1 up to the first with a fault are in the body, in order, and no
-- other byte is.
pub record HasItsEntries (text : List ℕ) : Type 0 where
  pub bytes :
      let read = (asciicast_one_of text).read in
      body read.outputs.chunks ≡ bytes_of (take read.count (outputs_of text))
  pub rest :
      let ending = asciicast_one_of text in
      EndAtFault ending.read.outputs ending.fault (drop ending.read.count (outputs_of text))

-- The outputs that a line of tlog tells, in order: none where it is no message.
abbrev pub what_outputs : What → List (List ℕ)
what_outputs (what.Output bytes) = bytes ∷ []
what_outputs (what.Resize size) = []
what_outputs what.Input = []
what_outputs what.Marker = []
what_outputs what.Other = []

abbrev pub story_outputs : List Event → List (List ℕ)
story_outputs events = flat_map (λ found. what_outputs found.what) events

abbrev pub message_outputs : Option Message → List (List ℕ)
message_outputs None = []
message_outputs (Some message) = story_outputs (story_of message).events

abbrev pub line_outputs : List ℕ → List (List ℕ)
line_outputs line = if is_blank_line line then [] else message_outputs (message_of line)

-- The outputs of the first of these lines.
abbrev pub first_outputs : List (List ℕ) → List (List ℕ)
first_outputs [] = []
first_outputs (line ∷ more) = line_outputs line

-- So many outputs were taken of the line in which reading ended: none where it is out of order, else those before the
-- first with a fault.
abbrev pub EndInLine : Outputs → Option EventFault → ℕ → List (List ℕ) → Type 0
EndInLine so_far None count outputs = drop count outputs ≡ []
EndInLine so_far (Some found) count outputs =
    ((found ≡ fault.OutOfOrder) × (count ≡ 0)) ⊎ BeginWithFault so_far found (drop count outputs)

abbrev pub fault_of : Option Left → Option EventFault
fault_of None = None
fault_of (Some left) = Some left.fault

-- The outputs of a recording of tlog up to the first with a fault are in the body, in order, and no other byte is: those
-- of the lines before the fault's, and the first ones of its line.
pub record HasItsMessages (text : List ℕ) : Type 0 where
  pub count : ℕ
  pub bytes :
      let front = log_of text in
      let lines = lines_of text in
      let before = length lines - left_count front.left in
      body front.log.cast.outputs.chunks
      ≡ bytes_of (flat_map line_outputs (take before lines) ++ take count (first_outputs (drop before lines)))
  pub rest :
      let front = log_of text in
      let lines = lines_of text in
      let before = length lines - left_count front.left in
      EndInLine front.log.cast.outputs (fault_of front.left) count (first_outputs (drop before lines))

-- A text ends behind an LF.
pub record EndsLine (text : List ℕ) : Type 0 where
  pub start : List ℕ
  pub is : text ≡ start ++ 10 ∷ []

-- Chunks begin with others, in order.
pub record BeginWith (front whole : List Chunk) : Type 0 where
  pub more : List Chunk
  pub is : whole ≡ front ++ more

-- What is read of an asciicast, or of messages of tlog, begins with what is read of a front of it that ends behind a line.
abbrev pub BeginsWithItsFront : Version → List ℕ → List ℕ → Type 0
BeginsWithItsFront version front more =
    BeginWith (asciicast_of version front).cast.outputs.chunks (asciicast_of version (front ++ more)).cast.outputs.chunks

abbrev pub LogBeginsWithItsFront : List ℕ → List ℕ → Type 0
LogBeginsWithItsFront front more =
    BeginWith (log_of front).log.cast.outputs.chunks (log_of (front ++ more)).log.cast.outputs.chunks

-- What is read of an asciicast of version 1 begins with what is read of any front of it.
abbrev pub EntriesBeginWithTheirFront : List ℕ → List ℕ → Type 0
EntriesBeginWithTheirFront front more =
    BeginWith (asciicast_one_of front).read.outputs.chunks (asciicast_one_of (front ++ more)).read.outputs.chunks

-- Chunks begin with others but for the last one of those, which has a front of its bytes alone.
pub record BeginWithCut (front whole : List Chunk) : Type 0 where
  pub before : List Chunk
  pub delay : ℕ
  pub kept : List ℕ
  pub rest : List ℕ
  pub more : List Chunk
  pub front_is : front ≡ before ++ record { delay = delay; bytes = kept } ∷ []
  pub whole_is : whole ≡ before ++ record { delay = delay; bytes = kept ++ rest } ∷ more

-- What is read of a ttyrec begins with what is read of any front of it, the last chunk's bytes perhaps cut; but not where
-- a record of the whole passes the limit of all bytes, since what a front keeps of its data may not.
abbrev pub RecordsBeginWithTheirFront : List ℕ → List ℕ → Type 0
RecordsBeginWithTheirFront front more =
    ((ttyrec_of (front ++ more)).fault ≢ Some fault.TooManyBytes)
    → BeginWith (ttyrec_of front).read.outputs.chunks (ttyrec_of (front ++ more)).read.outputs.chunks
    ⊎ BeginWithCut (ttyrec_of front).read.outputs.chunks (ttyrec_of (front ++ more)).read.outputs.chunks
