-- The edits that make a cut, and those that make an excerpt: chunks are deleted, the pieces of the text are inserted, and
-- the next chunk is retimed (ours).
use Rattle.std.specs.Prelude.{ℕ, ◌+◌, ◌-◌, if◌then◌else◌, List, [], ◌∷◌, ◌++◌, Option, Some, None, length, max, nat_le, nat_lt, take, drop}
use Rattle.std.specs.Option.{option_or}
use Rattle.tape_core.specs.declared.chunk.Chunk.{Chunk}
use Rattle.tape_core.specs.Due.{due_count, due_time, play_length}
use Rattle.tape_core.specs.Tape.{Tape}
use Rattle.tape_seek.specs.declared.edits.Edit.{Edit}
use Rattle.tape_seek.specs.declared.edits.Edit.TheVariants.{Insert, Delete, Retime}
use Rattle.tape_seek.specs.declared.edits.EditFault.{EditFault}
use Rattle.tape_seek.specs.Edits.{edit_fault, edited}
use Rattle.tape_cut.specs.Cuts.{before_next, pieces}

-- why the first of the edits that has a fault is refused, where they are made one after another
abbrev pub first_fault : Tape → List Edit → Option EditFault
first_fault tape [] = None
first_fault tape (edit ∷ more) = option_or (edit_fault tape edit) (first_fault (edited tape edit) more)

-- the chunks from one place up to and without another go, where there are any
abbrev pub deleting : ℕ → ℕ → List Edit
deleting from to = if nat_lt from to then Delete from to ∷ [] else []

-- pieces come in from a place on: the first so long after the chunk before it, the others at the same moment
abbrev pub inserting : ℕ → ℕ → List (List ℕ) → List Edit
inserting at delay [] = []
inserting at delay (piece ∷ more) = Insert at delay piece ∷ inserting (at + 1) 0 more

-- the chunk that is then at a place, the first of those that are left, gets another delay; there may be none
abbrev pub retiming : List Chunk → ℕ → ℕ → List Edit
retiming [] at delay = []
retiming (next ∷ more) at delay = Retime at delay ∷ []

-- when the last of the first chunks is due, in microseconds; 0 where there is none
abbrev pub due_by : List Chunk → ℕ → ℕ
due_by chunks count = play_length (take count chunks)

-- ---- a cut

-- what comes in: nothing where no chunk goes
abbrev pub put_in : ℕ → ℕ → List ℕ → List (List ℕ)
put_in first end text = if nat_lt first end then pieces text else []

unfoldable pub cut_edits : ℕ → ℕ → List ℕ → Tape → List Edit
cut_edits from to text tape =
    let first = due_count tape.chunks from in
    let end = due_count tape.chunks to in
    let put = put_in first end text in
    let old = due_by tape.chunks first in
    if nat_le to from
    then []
    else deleting first end
    ++ inserting first (from - old) put
    ++ retiming (drop end tape.chunks) (first + length put)
    (due_time tape.chunks end - (to - from) - before_next put old from)

-- ---- an excerpt

-- the end of what is kept: nothing is where `to` is below `from`
abbrev pub kept_end : List Chunk → ℕ → Option ℕ → ℕ
kept_end chunks from None = length chunks
kept_end chunks from (Some to) = due_count chunks (max from to)

unfoldable pub excerpt_edits : ℕ → Option ℕ → List ℕ → Tape → List Edit
excerpt_edits from to text tape =
    let first = due_count tape.chunks from in
    let end = kept_end tape.chunks from to in
    deleting end (length tape.chunks)
    ++ deleting 0 first
    ++ inserting 0 0 (pieces text)
    ++ retiming (drop first (take end tape.chunks)) (length (pieces text)) (due_time tape.chunks first - from)
