-- How a recording is written: the SECONDS form, the typescript and the timing file.
use Rattle.std.specs.Prelude.{ℕ, ◌-◌, ◌/◌, ◌%◌, List, [], ◌∷◌, ◌++◌, length, replicate}
use Rattle.std.specs.Fmt.{decimal}
use Rattle.std.specs.List.{flat_map}
use Rattle.tape_core.specs.declared.chunk.Chunk.{Chunk}
use Rattle.tape_core.specs.Seconds.{second}
use Rattle.tape_core.specs.Tape.{Tape, body}

-- A number below a million in six digits, filled with zeros on the left.
abbrev pub six_digits : ℕ → List ℕ
six_digits n = replicate (6 - length (decimal n)) 48 ++ decimal n

-- Microseconds as seconds: the whole ones without needless zeros, a point, six decimals. script(1).
unfoldable pub seconds_form : ℕ → List ℕ
seconds_form us = decimal (us / second) ++ 46 ∷ six_digits (us % second)

-- A chunk's line of the timing file, with its LF: its delay, a space, how many bytes it has. script(1).
abbrev pub timing_line_of : Chunk → List ℕ
timing_line_of c = seconds_form c.delay ++ 32 ∷ decimal (length c.bytes) ++ 10 ∷ []

-- The typescript: header, chunk bytes and trailer joined. script(1).
unfoldable pub script_text : Tape → List ℕ
script_text tape = tape.header ++ body tape.chunks ++ tape.trailer

-- The timing file: a line for each chunk. script(1).
unfoldable pub timing_text : Tape → List ℕ
timing_text tape = flat_map timing_line_of tape.chunks
