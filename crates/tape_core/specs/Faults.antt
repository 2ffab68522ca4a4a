-- The texts of the faults, as the program prints them (ours).
use Rattle.std.specs.Prelude.{ℕ, Bool, true, false, List, ◌++◌, codes}
use Rattle.std.specs.Fmt.{decimal}
use Rattle.tape_core.specs.declared.fault.Fault.{Fault}
use Rattle.tape_core.specs.declared.fault.Fault.TheVariants.{NoHeader, BadDelay, BadCount, MultiStream, DelayTooLarge, ChunkTooLong, TooManyChunks, TooManyBytes, ScriptShort, OutOfMemory, ReadFault, WriteFault}

-- a fault of a line of the timing file, told with its number (ours)
abbrev pub timing_line_text : ℕ → List ℕ → List ℕ
timing_line_text line what = codes "timing line " ++ decimal line ++ what

-- the text of each fault (ours)
abbrev pub fault_message : Fault → List ℕ
fault_message NoHeader = codes "typescript has no header line"
fault_message (BadDelay line) = timing_line_text line (codes ": bad delay")
fault_message (BadCount line) = timing_line_text line (codes ": bad count")
fault_message (MultiStream line) = timing_line_text line (codes ": multi-stream format")
fault_message (DelayTooLarge line) = timing_line_text line (codes ": delay too large")
fault_message (ChunkTooLong line) = timing_line_text line (codes ": chunk too long")
fault_message (TooManyChunks line) = timing_line_text line (codes ": too many chunks")
fault_message (TooManyBytes line) = timing_line_text line (codes ": too many bytes")
fault_message (ScriptShort chunk) = codes "typescript ends inside chunk " ++ decimal chunk
fault_message OutOfMemory = codes "out of memory"
fault_message ReadFault = codes "read fault"
fault_message WriteFault = codes "write fault"

-- a device or want of memory, and nothing in the files (ours)
abbrev pub is_stop : Fault → Bool
is_stop OutOfMemory = true
is_stop ReadFault = true
is_stop WriteFault = true
is_stop _ = false
