-- How losses are told (ours).
use Rattle.std.specs.Prelude.{ℕ, Bool, ◌&&◌, ◌||◌, not, List, [], ◌∷◌, ◌++◌, codes, Option, Some, None, is_some, ◌==◌, if◌then◌else◌}
use Rattle.std.specs.Fmt.{decimal}
use Rattle.tape_core.specs.Devices.{joined}
use Rattle.tape_core.specs.Faults.{fault_message, timing_line_text}
use Rattle.tape_core.specs.declared.fault.Fault.TheVariants as fault
use Rattle.tape_mend.specs.declared.line.LineFault.{LineFault}
use Rattle.tape_mend.specs.declared.line.LineFault.TheVariants as line
use Rattle.tape_mend.specs.declared.losses.Cut.{Cut}
use Rattle.tape_mend.specs.declared.losses.LinesLeft.{LinesLeft}
use Rattle.tape_mend.specs.declared.losses.Losses.{Losses}

-- The fault of the line with this number, as reading tells it.
abbrev pub line_message : ℕ → LineFault → List ℕ
line_message n line.BadStream = timing_line_text n (codes ": bad stream")
line_message n line.BadDelay = fault_message (fault.BadDelay n)
line_message n line.BadCount = fault_message (fault.BadCount n)
line_message n line.MultiStream = fault_message (fault.MultiStream n)
line_message n line.DelayTooLarge = fault_message (fault.DelayTooLarge n)
line_message n line.ChunkTooLong = fault_message (fault.ChunkTooLong n)
line_message n line.TooManyChunks = fault_message (fault.TooManyChunks n)
line_message n line.TooManyBytes = fault_message (fault.TooManyBytes n)

-- A text that ends its line.
abbrev pub ended : List ℕ → List ℕ
ended text = text ++ 10 ∷ []

-- The lines that were left out.
abbrev pub lines_text : Option LinesLeft → List ℕ
lines_text None = []
lines_text (Some left) =
    line_message left.line left.fault
    ++ joined (codes ", " ∷ decimal left.count ∷ ended (codes " lines left out") ∷ [])

-- The inputs and signals, where there are any.
abbrev pub streams_line : ℕ → ℕ → List ℕ
streams_line inputs signals =
    joined (decimal inputs ∷ codes " inputs and " ∷ decimal signals ∷ ended (codes " signals left out") ∷ [])

abbrev pub streams_text : ℕ → ℕ → List ℕ
streams_text inputs signals = if inputs == 0 && signals == 0 then [] else streams_line inputs signals

-- The outputs to pipes and changes of the size, where there are any.
abbrev pub pipes_line : ℕ → ℕ → List ℕ
pipes_line pipes resizes =
    joined (decimal pipes ∷ codes " outputs to pipes and " ∷ decimal resizes ∷ ended (codes " resizes left out") ∷ [])

abbrev pub pipes_text : ℕ → ℕ → List ℕ
pipes_text pipes resizes = if pipes == 0 && resizes == 0 then [] else pipes_line pipes resizes

-- The chunk that was cut.
abbrev pub cut_text : Option Cut → List ℕ
cut_text None = []
cut_text (Some cut) = joined
    (codes "chunk " ∷ decimal cut.chunk ∷ codes " cut to " ∷ decimal cut.kept ∷ codes " of " ∷ decimal cut.counted
    ∷ ended (codes " bytes") ∷ [])

-- The chunks that were left out, where there are any.
abbrev pub chunks_line : ℕ → List ℕ
chunks_line count = joined (decimal count ∷ ended (codes " chunks left out") ∷ [])

abbrev pub chunks_text : ℕ → List ℕ
chunks_text count = if count == 0 then [] else chunks_line count

-- That lines of the timing end in CR LF, where some do.
abbrev pub cr_lf_text : Bool → List ℕ
cr_lf_text cr_lf = if cr_lf then ended (codes "timing has CR LF") else []

-- All of it, in this order: what the timing has lost, what the body has, and what else is told of the timing.
abbrev pub timing_losses : Losses → List ℕ
timing_losses losses =
    lines_text losses.lines ++ streams_text losses.inputs losses.signals ++ pipes_text losses.pipes losses.resizes

abbrev pub body_losses : Losses → List ℕ
body_losses losses = cut_text losses.cut ++ chunks_text losses.chunks

unfoldable pub losses_text : Losses → List ℕ
losses_text losses = timing_losses losses ++ body_losses losses ++ cr_lf_text losses.cr_lf

-- A line, a chunk, an output to a pipe or a change of the size was left out, or a chunk was cut, and not just inputs and
-- signals, or a CR.
abbrev pub is_damaged : Losses → Bool
is_damaged losses =
    is_some losses.lines || is_some losses.cut || not (losses.chunks == 0) || not (losses.pipes == 0 && losses.resizes == 0)
