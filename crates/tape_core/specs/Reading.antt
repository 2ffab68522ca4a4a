-- What the two files together say: the fault of a pair, or its recording.
use Rattle.std.specs.Prelude.{◌≡◌, ℕ, ◌+◌, ◌-◌, Bool, List, [], ◌∷◌, ◌++◌, length, take, filter, Option, Some, None, ◌==◌, nat_lt, if◌then◌else◌}
use Rattle.std.specs.List.{position, position_or_len, range_with_len}
use Rattle.std.specs.Option.{option_map, option_or}
use Rattle.tape_core.specs.declared.chunk.Chunk.{Chunk}
use Rattle.tape_core.specs.declared.timing.Entry.{Entry}
use Rattle.tape_core.specs.declared.fault.Fault.{Fault}
use Rattle.tape_core.specs.declared.fault.Fault.TheVariants as fault
use Rattle.tape_core.specs.Tape.{Tape, body, fits}
use Rattle.tape_core.specs.Timing.{TimingLine, entries_of, counted_bytes, timing_fault}
use Rattle.tape_core.specs.Text.{fields, lines_of}

-- How long the first line is with its LF. script(1).
abbrev pub header_len : List ℕ → ℕ
header_len script = position_or_len (λ b. b == 10) script + 1

abbrev pub has_header : List ℕ → Bool
has_header script = nat_lt (position_or_len (λ b. b == 10) script) (length script)

-- The first chunk that needs more bytes, with those of the chunks before it, than stand behind the header.
abbrev pub first_short : ℕ → List Entry → Option ℕ
first_short bytes entries =
    position (λ i. nat_lt bytes (counted_bytes (take (i + 1) entries))) (range_with_len 0 (length entries))

-- The script's fault, where the timing has these entries.
abbrev pub script_fault : List ℕ → List Entry → Option Fault
script_fault script entries =
    if has_header script then option_map fault.ScriptShort (first_short (length script - header_len script) entries)
    else Some fault.NoHeader

-- The fault of a pair of files: the timing is judged first (ours).
unfoldable pub fault_of : List ℕ → List ℕ → Option Fault
fault_of script timing = option_or (timing_fault timing) (script_fault script (entries_of (lines_of timing)))

-- The lines that are not blank are the chunks' delays and byte lengths, in order.
abbrev pub AreTimed : List (List ℕ) → List Chunk → Type 0
AreTimed [] [] = Unit {0}
AreTimed [] (c ∷ cs) = ⊥
AreTimed (text ∷ rest) [] = ⊥
AreTimed (text ∷ rest) (c ∷ cs) = TimingLine text c.delay (length c.bytes) × AreTimed rest cs

abbrev pub timed_lines : List ℕ → List (List ℕ)
timed_lines timing = filter (λ text. nat_lt 0 (length (fields text))) (lines_of timing)

-- The pair is read as this recording: it has no fault, each line that is not blank times its chunk, and header, chunk
-- bytes and trailer joined are the script. script(1).
pub record reads (script timing : List ℕ) (tape : Tape) : Type 0 where
  pub faultless : fault_of script timing ≡ None
  pub fitting : fits tape
  pub timed : AreTimed (timed_lines timing) tape.chunks
  pub joined : script ≡ tape.header ++ body tape.chunks ++ tape.trailer
