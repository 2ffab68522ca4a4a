-- What lines come to, one behind another: how long was waited, how much was counted, and which parts of the body.
use Rattle.std.specs.Prelude.{ℕ, ◌+◌, Bool, false, true, ◌&&◌, List, [], ◌∷◌, Option, Some, None, Result, Ok, Err, codes, nat_eq, nat_lt, nat_le, if◌then◌else◌}
use Rattle.std.specs.Cmp.Lexicographic.{pointwise}
use Rattle.std.specs.Option.{option_or}
use Rattle.tape_core.specs.Tape.{longest_body, longest_chunk, longest_delay, most_chunks}
use Rattle.tape_core.specs.Text.{fields}
use Rattle.tape_mend.specs.declared.counting.Behind.{Behind}
use Rattle.tape_mend.specs.declared.counting.Piece.{Piece}
use Rattle.tape_mend.specs.declared.counting.Piece.TheVariants as piece
use Rattle.tape_mend.specs.declared.line.Format.{Format}
use Rattle.tape_mend.specs.declared.line.Format.TheVariants.{Classic, Streams, Sudo}
use Rattle.tape_mend.specs.declared.line.Line.{Line}
use Rattle.tape_mend.specs.declared.line.LineFault.{LineFault}
use Rattle.tape_mend.specs.declared.line.LineFault.TheVariants as line
use Rattle.tape_mend.specs.declared.line.Stream.{Stream}
use Rattle.tape_mend.specs.declared.line.Stream.TheVariants.{Header, Input, Output, Pipe, Resize, Signal}

-- The files into which outputs and inputs were logged: what stands behind the name in the first header line of each
-- name that has a field there. script(1).
pub record Logs : Type 0 where
  pub output : Option (List (List ℕ))
  pub input : Option (List (List ℕ))

-- What a header line has behind this name: its fields are the letter H, a delay, the name, and one more at least.
abbrev pub log_of : List ℕ → List (List ℕ) → Option (List (List ℕ))
log_of name (letter ∷ delay ∷ first ∷ next ∷ more) =
    if pointwise nat_eq letter (codes "H") && pointwise nat_eq first name then Some (next ∷ more) else None
log_of name _ = None

-- The logs that are known behind a line: the first ones stay. Only the multi-stream format names any.
abbrev pub logs_behind : Format → Logs → List ℕ → Logs
logs_behind Classic logs text = logs
logs_behind Sudo logs text = logs
logs_behind Streams logs text = record {
  output = option_or logs.output (log_of (codes "OUTPUT_LOG") (fields text));
  input = option_or logs.input (log_of (codes "INPUT_LOG") (fields text));
}

-- Both logs are one file, the typescript, so that the bytes of inputs lie there too. script(1).
abbrev pub same_log : Option (List (List ℕ)) → Option (List (List ℕ)) → Bool
same_log (Some one) (Some other) = pointwise (pointwise nat_eq) one other
same_log _ _ = false

abbrev pub are_shared : Logs → Bool
are_shared logs = same_log logs.output logs.input

-- How many of the bytes that a line counts lie in the typescript.
abbrev pub lying_of : Bool → Stream → ℕ → ℕ
lying_of shared Output count = count
lying_of shared Input count = if shared then count else 0
lying_of shared Pipe count = 0
lying_of shared Header count = 0
lying_of shared Resize count = 0
lying_of shared Signal count = 0

abbrev pub lying : Bool → Line → ℕ
lying shared said = lying_of shared said.stream said.count

abbrev pub is_output : Stream → Bool
is_output Output = true
is_output _ = false

-- A line within the limits, behind other lines, or the first limit that it breaks: delay too large (judged by the sum
-- since the last output), chunk too long, too many chunks, too many bytes (ours).
abbrev pub within : Behind → Bool → Line → Result (Option Line) LineFault
within behind shared said =
    if nat_lt longest_delay (behind.waited + said.delay) then Err line.DelayTooLarge
    else if nat_lt longest_chunk said.count then Err line.ChunkTooLong
    else if is_output said.stream && nat_le most_chunks behind.outputs then Err line.TooManyChunks
    else if nat_lt longest_body (behind.bytes + lying shared said) then Err line.TooManyBytes
    else Ok (Some said)

abbrev pub limited : Behind → Bool → Result (Option Line) LineFault → Result (Option Line) LineFault
limited behind shared (Err fault) = Err fault
limited behind shared (Ok None) = Ok None
limited behind shared (Ok (Some said)) = within behind shared said

-- What lines come to with one more. Delays add up until an output, which takes the sum as its own. script(1).
abbrev pub with_stream : Behind → ℕ → ℕ → Stream → Behind
with_stream behind waited bytes Output =
    record behind { lines = behind.lines + 1; outputs = behind.outputs + 1; bytes = bytes; waited = 0 }
with_stream behind waited bytes Input =
    record behind { lines = behind.lines + 1; inputs = behind.inputs + 1; bytes = bytes; waited = waited }
with_stream behind waited bytes Pipe =
    record behind { lines = behind.lines + 1; pipes = behind.pipes + 1; bytes = bytes; waited = waited }
with_stream behind waited bytes Header = record behind { lines = behind.lines + 1; bytes = bytes; waited = waited }
with_stream behind waited bytes Resize =
    record behind { lines = behind.lines + 1; resizes = behind.resizes + 1; bytes = bytes; waited = waited }
with_stream behind waited bytes Signal =
    record behind { lines = behind.lines + 1; signals = behind.signals + 1; bytes = bytes; waited = waited }

abbrev pub with_line : Behind → Bool → Option Line → Behind
with_line behind shared None = record behind { lines = behind.lines + 1 }
with_line behind shared (Some said) =
    with_stream behind (behind.waited + said.delay) (behind.bytes + lying shared said) said.stream

-- The part of the body that a line counts, if it does: an output behind its delay, or an input whose bytes lie there.
abbrev pub stream_pieces : Bool → ℕ → ℕ → Stream → List Piece
stream_pieces shared waited count Output = piece.Output (record { delay = waited; count = count }) ∷ []
stream_pieces shared waited count Input = if shared then piece.Input count ∷ [] else []
stream_pieces shared waited count Pipe = []
stream_pieces shared waited count Header = []
stream_pieces shared waited count Resize = []
stream_pieces shared waited count Signal = []

abbrev pub line_pieces : Behind → Bool → Option Line → List Piece
line_pieces behind shared None = []
line_pieces behind shared (Some said) = stream_pieces shared (behind.waited + said.delay) said.count said.stream
