-- The terminal of a recording at a count of chunks and at a moment.
use Rattle.std.specs.Prelude.{ℕ, List}
use Rattle.tape_core.specs.declared.chunk.Chunk.{Chunk}
use Rattle.tape_core.specs.Due.{due, first}
use Rattle.tape_core.specs.Tape.{Tape}
use Rattle.xterm_term.specs.declared.measure.Size.{Size}
use Rattle.xterm_term.specs.Term.{Term, reset_term, play}

-- the reset term of a size
abbrev pub reset_as : Size → Term
reset_as size = reset_term size.columns size.lines

-- what the reset term of a size becomes by the bytes of the first chunks
abbrev pub up_to : Size → List Chunk → ℕ → Term
up_to size chunks count = play (reset_as size) (first chunks count)

-- what it becomes by all bytes that are due by the moment
abbrev pub term_at : Size → Tape → ℕ → Term
term_at size tape moment = play (reset_as size) (due tape.chunks moment)
