-- A line of the multi-stream ("advanced") timing format, and what a line of each format says.
use Rattle.std.specs.Prelude.{◌≡◌, ℕ, List, [], ◌∷◌, Option, Some, None, Result, Ok, Err, ◌==◌, ◌||◌, if◌then◌else◌}
use Rattle.tape_core.specs.Text.{NumberText, fields}
use Rattle.tape_core.specs.Timing.{DelayText, delay_of, entry_of, only_count}
use Rattle.tape_core.specs.declared.timing.Entry.{Entry}
use Rattle.tape_core.specs.declared.timing.EntryFault.{EntryFault}
use Rattle.tape_core.specs.declared.timing.EntryFault.TheVariants as entry
use Rattle.tape_mend.specs.declared.line.Format.{Format}
use Rattle.tape_mend.specs.declared.line.Format.TheVariants.{Classic, Streams, Sudo}
use Rattle.tape_mend.specs.declared.line.Line.{Line}
use Rattle.tape_mend.specs.declared.line.LineFault.{LineFault}
use Rattle.tape_mend.specs.declared.line.LineFault.TheVariants as line
use Rattle.tape_mend.specs.declared.line.Stream.{Stream}
use Rattle.tape_mend.specs.declared.line.Stream.TheVariants.{Header, Input, Output, Pipe, Resize, Signal}

-- The letter that names a stream; those that sudo alone logs have none. script(1).
abbrev pub letter_of : Stream → Option ℕ
letter_of Header = Some 72
letter_of Input = Some 73
letter_of Output = Some 79
letter_of Signal = Some 83
letter_of Pipe = None
letter_of Resize = None

-- What stands behind stream and delay: outputs, inputs and outputs to pipes have just a count there; the others have
-- anything, and count no bytes. script(1); sudo.
abbrev pub CountText : Stream → List (List ℕ) → ℕ → Type 0
CountText Output rest count = (text : List ℕ) × (rest ≡ text ∷ []) × NumberText text count
CountText Input rest count = (text : List ℕ) × (rest ≡ text ∷ []) × NumberText text count
CountText Pipe rest count = (text : List ℕ) × (rest ≡ text ∷ []) × NumberText text count
CountText Header rest count = count ≡ 0
CountText Resize rest count = count ≡ 0
CountText Signal rest count = count ≡ 0

-- A line of the multi-stream format: the letter of its stream, its delay, and what stands behind them. script(1).
pub record StreamLine (text : List ℕ) (said : Line) : Type 0 where
  pub letter : ℕ
  pub second : List ℕ
  pub rest : List (List ℕ)
  pub named : letter_of said.stream ≡ Some letter
  pub cut : fields text ≡ (letter ∷ []) ∷ second ∷ rest
  pub delayed : DelayText second said.delay
  pub counted : CountText said.stream rest said.count

-- The stream that a field names: it is just the stream's letter.
abbrev pub stream_of_letter : ℕ → Option Stream
stream_of_letter b =
    if b == 72 then Some Header
    else if b == 73 then Some Input
    else if b == 79 then Some Output
    else if b == 83 then Some Signal
    else None

abbrev pub stream_of : List ℕ → Option Stream
stream_of [] = None
stream_of (b ∷ []) = stream_of_letter b
stream_of (b ∷ c ∷ rest) = None

-- The stream that the digit of an event names: 0 and 3, what was read and typed; 1 and 2, what went to pipes; 4, and 6
-- before sudo 1.8.7, what the terminal got; 5, a change of the size; 7, a signal. sudo (I/O log).
abbrev pub event_of_digit : ℕ → Option Stream
event_of_digit b =
    if b == 48 || b == 51 then Some Input
    else if b == 49 || b == 50 then Some Pipe
    else if b == 52 || b == 54 then Some Output
    else if b == 53 then Some Resize
    else if b == 55 then Some Signal
    else None

-- The stream that a field names in sudo's format: it is just the digit of an event.
abbrev pub event_of : List ℕ → Option Stream
event_of [] = None
event_of (b ∷ []) = event_of_digit b
event_of (b ∷ c ∷ rest) = None

-- The count that stands behind stream and delay.
abbrev pub count_of : Stream → List (List ℕ) → Option ℕ
count_of Output rest = only_count rest
count_of Input rest = only_count rest
count_of Pipe rest = only_count rest
count_of Header rest = Some 0
count_of Resize rest = Some 0
count_of Signal rest = Some 0

-- What a line of the multi-stream format says: nothing where it is blank, or its first fault, in the order in which
-- they are tried: bad stream, bad delay, bad count (ours).
abbrev pub counted : Stream → ℕ → Option ℕ → Result (Option Line) LineFault
counted stream delay None = Err line.BadCount
counted stream delay (Some count) = Ok (Some (record { stream = stream; delay = delay; count = count }))

abbrev pub delayed : Stream → Option ℕ → List (List ℕ) → Result (Option Line) LineFault
delayed stream None rest = Err line.BadDelay
delayed stream (Some delay) rest = counted stream delay (count_of stream rest)

abbrev pub named : Option Stream → List (List ℕ) → Result (Option Line) LineFault
named None rest = Err line.BadStream
named (Some stream) [] = Err line.BadDelay
named (Some stream) (second ∷ rest) = delayed stream (delay_of second) rest

abbrev pub stream_line : List (List ℕ) → Result (Option Line) LineFault
stream_line [] = Ok None
stream_line (first ∷ rest) = named (stream_of first) rest

-- A line of the classic format says an output, and its faults keep their names.
abbrev pub output_of : Option Entry → Option Line
output_of None = None
output_of (Some e) = Some (record { stream = Output; delay = e.delay; count = e.count })

abbrev pub fault_of_entry : EntryFault → LineFault
fault_of_entry entry.MultiStream = line.MultiStream
fault_of_entry entry.BadDelay = line.BadDelay
fault_of_entry entry.BadCount = line.BadCount
fault_of_entry entry.DelayTooLarge = line.DelayTooLarge
fault_of_entry entry.ChunkTooLong = line.ChunkTooLong

abbrev pub classic_line : Result (Option Entry) EntryFault → Result (Option Line) LineFault
classic_line (Ok said) = Ok (output_of said)
classic_line (Err fault) = Err (fault_of_entry fault)

-- A line of sudo's format says the same behind the digit of an event, with the same faults.
abbrev pub sudo_line : List (List ℕ) → Result (Option Line) LineFault
sudo_line [] = Ok None
sudo_line (first ∷ rest) = named (event_of first) rest

-- What a line of a format says.
abbrev pub said_by : Format → List ℕ → Result (Option Line) LineFault
said_by Classic text = classic_line (entry_of text)
said_by Streams text = stream_line (fields text)
said_by Sudo text = sudo_line (fields text)
