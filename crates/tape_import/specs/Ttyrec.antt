-- A ttyrec: records one behind another. ttyrec(1).
use Rattle.std.specs.Prelude.{ℕ, zero, suc, ◌+◌, ◌-◌, ◌*◌, ◌&&◌, List, [], ◌∷◌, length, take, drop, nat_lt, ◌==◌, Option, Some, None, if◌then◌else◌}
use Rattle.std.specs.Int.{from_le_bytes, w32}
use Rattle.std.specs.Option.{option_or}
use Rattle.tape_core.specs.Tape.{longest_chunk}
use Rattle.tape_import.specs.Outputs.{none_yet, output_fault, passed, with_output}
use Rattle.tape_import.specs.declared.fault.EventFault.{EventFault}
use Rattle.tape_import.specs.declared.fault.EventFault.TheVariants as event
use Rattle.tape_import.specs.declared.losses.Cut.{Cut}
use Rattle.tape_import.specs.declared.ttyrec.Front.{Front}
use Rattle.tape_import.specs.declared.ttyrec.Reading.{Reading}

-- A record's head is three numbers of four bytes, the least byte first: the seconds and the microseconds of its clock,
-- and how many bytes follow. ttyrec(1).
abbrev pub head_len : ℕ
head_len = 12

abbrev pub number_at : ℕ → List ℕ → ℕ
number_at at text = from_le_bytes w32 (take 4 (drop at text))

abbrev pub seconds_of : List ℕ → ℕ
seconds_of text = number_at 0 text

-- The clock in microseconds, whatever the head has for microseconds (ours).
abbrev pub clock_of : List ℕ → ℕ
clock_of text = seconds_of text * 1000000 + number_at 4 text

abbrev pub told_of : List ℕ → ℕ
told_of text = number_at 8 text

-- The bytes of a record, as far as the file goes.
abbrev pub data_of : List ℕ → List ℕ
data_of text = take (told_of text) (drop head_len text)

-- The fault of the record at the front of a text: a head that ends early; more bytes than a chunk has; bytes that are
-- told, and none of them there (ours).
abbrev pub record_fault : List ℕ → Option EventFault
record_fault text =
    if nat_lt (length text) head_len then Some event.BadEvent
    else if nat_lt longest_chunk (told_of text) then Some event.ChunkTooLong
    else if nat_lt 0 (told_of text) && length text == head_len then Some event.BadEvent
    else None

-- Nothing was read yet.
abbrev pub at_first : Reading
at_first = record { outputs = none_yet; clock = None; count = 0; cut = None }

-- How far the clock has moved since the record before: nothing at the first, and where it goes back (ours).
abbrev pub moved : Option ℕ → ℕ → ℕ
moved None clock = 0
moved (Some before) clock = clock - before

-- The fault of the record at the front of a text, behind what was read.
abbrev pub fault_at : Reading → List ℕ → Option EventFault
fault_at so_far text = option_or (record_fault text) (output_fault so_far.outputs (length (data_of text)))

-- Data that ends early is taken as far as it goes, and told (ours).
abbrev pub cut_of : ℕ → ℕ → ℕ → Option Cut
cut_of chunk kept told =
    if nat_lt kept told then Some (record { chunk = chunk; kept = kept; counted = told }) else None

-- The record at the front of a text is read.
abbrev pub with_record : Reading → List ℕ → Reading
with_record so_far text = record {
  outputs = with_output so_far.count (data_of text) (passed (moved so_far.clock (clock_of text)) so_far.outputs);
  clock = Some (clock_of text);
  count = so_far.count + 1;
  cut = cut_of (length so_far.outputs.chunks) (length (data_of text)) (told_of text);
}

-- A record is read, and then those behind it; or it has a fault, and reading ends before it: from it on all bytes are
-- left out.
abbrev pub go_on : (Reading → Front) → Reading → List ℕ → Option EventFault → Front
go_on more so_far text None = more (with_record so_far text)
go_on more so_far text (Some fault) = record { read = so_far; fault = Some fault; left = length text }

-- The records of a text of which so many bytes at the front belong to the record before, behind what was read.
abbrev pub records : ℕ → Reading → List ℕ → Front
records belong so_far [] = record { read = so_far; fault = None; left = 0 }
records (suc belong) so_far (b ∷ bs) = records belong so_far bs
records zero so_far (b ∷ bs) =
    let text = b ∷ bs in
    go_on (λ more. records (head_len - 1 + told_of text) more bs) so_far text (fault_at so_far text)

abbrev pub ttyrec_of : List ℕ → Front
ttyrec_of file = records 0 at_first file
