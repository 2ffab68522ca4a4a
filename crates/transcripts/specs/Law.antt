-- Laws of transcripts, for the rows that leave and stand of any terminal.
use Rattle.std.specs.Prelude.{◌≡◌, ℕ, ◌≤◌, List, ◌++◌, Option}
use Rattle.tape_core.specs.Due.{first}
use Rattle.tape_core.specs.Tape.{Tape}
use Rattle.transcripts.specs.Transcript.{Leaving, Standing, end_of, left_by, rows_told, start_of, transcript}

-- behind the rows that left by a count these left by a later one, and they are told from the first one on, and then those
-- that stand
pub record TellsTheRest {P : Type 0} (leaving : Leaving P) (standing : Standing P) (profile : P) (tape : Tape) (start end : ℕ)
    : Type 0 where
  pub rest : List (List ℕ)
  pub behind : left_by leaving profile tape end ≡ left_by leaving profile tape start ++ rest
  pub told : rows_told leaving standing profile tape start end ≡ rest ++ standing profile (first tape.chunks end)

-- what left by a count stays told at every later one
abbrev pub WhatLeftStays : {P : Type 0} → Leaving P → Standing P → Type 0
WhatLeftStays {P} leaving standing =
    (profile : P) (tape : Tape) (start end : ℕ) → start ≤ end → TellsTheRest leaving standing profile tape start end

-- recordings of which the same bytes are played, and the same are left out, have one transcript, however they are cut into
-- chunks
abbrev pub ChunksMakeNoDifference : {P : Type 0} → Leaving P → Standing P → Type 0
ChunksMakeNoDifference {P} leaving standing =
    (profile : P) (one other : Tape) (from to other_from other_to : Option ℕ)
    → first one.chunks (end_of one to) ≡ first other.chunks (end_of other other_to)
    → first one.chunks (start_of one from (end_of one to)) ≡ first other.chunks (start_of other other_from (end_of other other_to))
    → transcript leaving standing profile one from to ≡ transcript leaving standing profile other other_from other_to
