-- A pair of files, mended: the recording of all that can be read, and what was lost.
use Rattle.std.specs.Prelude.{ℕ, ◌+◌, Bool, false, List, [], ◌∷◌, ◌++◌, length, take, drop, fold, codes, nat_eq, Option, Some, None, if◌then◌else◌}
use Rattle.std.specs.List.{range_with_len, starts_with}
use Rattle.tape_core.specs.Reading.{header_len}
use Rattle.tape_core.specs.Tape.{Tape}
use Rattle.tape_mend.specs.declared.losses.LinesLeft.{LinesLeft}
use Rattle.tape_mend.specs.declared.losses.Losses.{Losses}
use Rattle.tape_mend.specs.declared.line.LineFault.{LineFault}
use Rattle.tape_mend.specs.declared.opening.Header.{Header}
use Rattle.tape_mend.specs.declared.opening.Header.TheVariants.{Kept, Last, Made}
use Rattle.tape_mend.specs.Front.{Front, front_of}
use Rattle.tape_mend.specs.Lines.{has_cr_lf}
use Rattle.tape_mend.specs.Taken.{Taken, taken}

-- Behind the LF at this place a line begins as script(1) begins a session.
abbrev pub begins_session : List ℕ → ℕ → Bool
begins_session script at = starts_with nat_eq (drop at script) (10 ∷ codes "Script started on ")

-- Where the last of these lines begins, or 0 where there is none: of all places the last one counts, and the first line
-- of the typescript stands behind no LF.
abbrev pub later : List ℕ → ℕ → ℕ → ℕ
later script last at = if begins_session script at then at + 1 else last

abbrev pub last_session : List ℕ → ℕ
last_session script = fold (later script) 0 (range_with_len 0 (length script))

-- The header of a typescript that has none (ours).
abbrev pub made_header : List ℕ
made_header = codes "Script started" ++ 10 ∷ []

-- The typescript that is read: as it is; from the first line of its last session on, where it was appended to; or
-- behind a header that is made for it (ours).
abbrev pub seen : Header → List ℕ → List ℕ
seen Kept script = script
seen Last script = drop (last_session script) script
seen Made script = made_header ++ script

-- The lines that were left out: the number of the first one, counted from 1, its fault, and how many they are.
abbrev pub lines_left : ℕ → Option LineFault → ℕ → Option LinesLeft
lines_left line None count = None
lines_left line (Some fault) count = Some (record { line = line; fault = fault; count = count })

-- What was lost, and whether the timing has CR LF.
abbrev pub losses_of : Bool → Front → Taken → Losses
losses_of cr_lf front taken = record {
  lines = lines_left (front.behind.lines + 1) front.fault front.left;
  inputs = front.behind.inputs;
  signals = front.behind.signals;
  pipes = front.behind.pipes;
  resizes = front.behind.resizes;
  cut = taken.cut;
  chunks = taken.left;
  cr_lf = cr_lf;
}

-- Nothing was lost.
abbrev pub nothing_lost : Losses
nothing_lost = record { lines = None; inputs = 0; signals = 0; pipes = 0; resizes = 0; cut = None; chunks = 0; cr_lf = false }

-- A recording, and what was lost of it.
pub record Remains : Type 0 where
  pub tape : Tape
  pub losses : Losses

-- What is left of a typescript and a timing file.
abbrev pub remains : List ℕ → Bool → Front → Taken → Remains
remains typescript cr_lf front taken = record {
  tape = record { header = take (header_len typescript) typescript; chunks = taken.chunks; trailer = taken.rest };
  losses = losses_of cr_lf front taken;
}

abbrev pub mended : Header → List ℕ → List ℕ → Remains
mended how script timing =
    let typescript = seen how script in
    let front = front_of timing in
    remains typescript (has_cr_lf timing) front (taken [] (drop (header_len typescript) typescript) front.pieces)
