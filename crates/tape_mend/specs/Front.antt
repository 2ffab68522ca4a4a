-- The front of a timing file: its lines before the first that has a fault.
use Rattle.std.specs.Prelude.{ℕ, ◌+◌, ◌==◌, Bool, true, false, ◌&&◌, List, [], ◌∷◌, ◌++◌, length, Option, Some, None, is_some, Result, Ok, Err, if◌then◌else◌}
use Rattle.std.specs.List.{after_first, before_first}
use Rattle.tape_core.specs.Text.{fields, number_of}
use Rattle.tape_core.specs.Timing.{begins_with_letter}
use Rattle.tape_mend.specs.declared.counting.Behind.{Behind}
use Rattle.tape_mend.specs.declared.counting.Piece.{Piece}
use Rattle.tape_mend.specs.declared.line.Format.{Format}
use Rattle.tape_mend.specs.declared.line.Format.TheVariants.{Classic, Streams, Sudo}
use Rattle.tape_mend.specs.declared.line.Line.{Line}
use Rattle.tape_mend.specs.declared.line.LineFault.{LineFault}
use Rattle.tape_mend.specs.Counting.{Logs, are_shared, limited, line_pieces, logs_behind, with_line}
use Rattle.tape_mend.specs.Lines.{timing_lines}
use Rattle.tape_mend.specs.Streams.{event_of, said_by}

-- Digits, a point and digits.
abbrev pub is_point : ℕ → Bool
is_point b = b == 46

abbrev pub is_decimal : List ℕ → Bool
is_decimal text = is_some (number_of (before_first is_point text)) && is_some (number_of (after_first is_point text))

-- A line is sudo's by its fields: the digit of an event, a delay with decimals, and one field more at least (ours).
abbrev pub is_event_line : List (List ℕ) → Bool
is_event_line (first ∷ second ∷ third ∷ rest) = is_some (event_of first) && is_decimal second
is_event_line _ = false

-- The format of a timing file, by its first line that isn't blank: multi-stream where that begins with a letter, sudo's
-- where it is a line of sudo's, else classic (ours).
abbrev pub format_by : List (List ℕ) → Format → Format
format_by [] other = other
format_by (first ∷ rest) other =
    if begins_with_letter first then Streams else if is_event_line (first ∷ rest) then Sudo else Classic

abbrev pub format_of : List (List ℕ) → Format
format_of [] = Classic
format_of (text ∷ rest) = format_by (fields text) (format_of rest)

-- A timing file is in sudo's format.
abbrev pub is_sudo : Format → Bool
is_sudo Classic = false
is_sudo Streams = false
is_sudo Sudo = true

abbrev pub is_sudos : List ℕ → Bool
is_sudos timing = is_sudo (format_of (timing_lines timing))

-- What was read before the first fault: the parts of the body in order, what the lines come to, the fault, and how many
-- lines are left out from it on.
pub record Front : Type 0 where
  pub pieces : List Piece
  pub behind : Behind
  pub fault : Option LineFault
  pub left : ℕ

-- A line is read, and then those behind it; or it has a fault, and reading ends before it.
abbrev pub go_on : (Option Line → Front) → List Piece → Behind → ℕ → Result (Option Line) LineFault → Front
go_on more pieces behind left (Ok said) = more said
go_on more pieces behind left (Err fault) =
    record { pieces = pieces; behind = behind; fault = Some fault; left = left }

-- The front of these lines, where what was read before them counts these pieces and comes to this.
abbrev pub front : Format → List Piece → Behind → Logs → List (List ℕ) → Front
front format pieces behind logs [] = record { pieces = pieces; behind = behind; fault = None; left = 0 }
front format pieces behind logs (text ∷ rest) =
    let shared = are_shared logs in
    go_on
    (λ said. front format (pieces ++ line_pieces behind shared said) (with_line behind shared said)
    (logs_behind format logs text) rest)
    pieces behind (length rest + 1) (limited behind shared (said_by format text))

-- Nothing is read yet.
abbrev pub at_first : Behind
at_first = record { lines = 0; outputs = 0; bytes = 0; waited = 0; inputs = 0; signals = 0; pipes = 0; resizes = 0 }

abbrev pub no_logs : Logs
no_logs = record { output = None; input = None }

abbrev pub front_of : List ℕ → Front
front_of timing = let lines = timing_lines timing in front (format_of lines) [] at_first no_logs lines
