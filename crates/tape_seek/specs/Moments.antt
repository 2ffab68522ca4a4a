-- The terminal of a recording at a count of chunks and at a moment.
use Rattle.std.specs.Prelude.{ℕ, List}
use Rattle.tape_core.specs.declared.chunk.Chunk.{Chunk}
use Rattle.tape_core.specs.Due.{due, first}
use Rattle.tape_core.specs.Tape.{Tape}
use Rattle.vt_term.specs.declared.profile.Profile.{Profile}
use Rattle.vt_term.specs.Term.{Term, reset_term_as, play}

-- what the reset term of a profile becomes by the bytes of the first chunks
abbrev pub up_to : Profile → List Chunk → ℕ → Term
up_to profile chunks count = play (reset_term_as profile) (first chunks count)

-- what it becomes by all bytes that are due by the moment
abbrev pub term_at : Profile → Tape → ℕ → Term
term_at profile tape moment = play (reset_term_as profile) (due tape.chunks moment)
