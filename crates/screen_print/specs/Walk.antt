-- A walk over the chunks of a recording: for each of them, what stands on the screen before and after it
-- alone (ours).
use Rattle.std.specs.Prelude.{ℕ, ◌+◌, List, Option}
use Rattle.std.specs.List.{flat_map}
use Rattle.tape_core.specs.Due.{due_time, indices}
use Rattle.tape_core.specs.Tape.{Tape}
use Rattle.chunk_walk.specs.Walk.{asked_places}
use Rattle.tape_seek.specs.Moments.{up_to}
use Rattle.vt_term.specs.declared.profile.Profile.{Profile}
use Rattle.vt_term.specs.Term.{play, reset_term_as}
use Rattle.screen_print.specs.Stills.{Still, still_of}

-- what stands on the screen of a profile after so many chunks
abbrev pub still_after : Profile → Tape → ℕ → Still
still_after profile tape count = still_of (up_to profile tape.chunks count).console

-- what is written of a chunk, by its place, when it is due, and what stands before and after it
abbrev pub ChunkText : Type 0
ChunkText = ℕ → ℕ → Still → Still → List ℕ

-- what is written of the chunk at this place of a recording
abbrev pub text_at : ChunkText → Profile → Tape → ℕ → List ℕ
text_at text profile tape index =
    text index (due_time tape.chunks index) (still_after profile tape index)
    (still_after profile tape (index + 1))

-- what is written of all chunks
unfoldable pub whole_text : ChunkText → Profile → Tape → List ℕ
whole_text text profile tape = flat_map (text_at text profile tape) (indices tape.chunks)

-- what is written of the chunks that are asked for
unfoldable pub walk_text : ChunkText → Profile → Tape → Option ℕ → ℕ → List ℕ
walk_text text profile tape from to =
    flat_map (text_at text profile tape) (asked_places tape from to)

-- Private, for the walk over any terminal, which tells all by the bytes that were played: what stands on the screen of a
-- profile after them
abbrev pub still_by : Profile → List ℕ → Still
still_by profile bytes = still_of (play (reset_term_as profile) bytes).console

-- and what is written of a chunk, by those before it and by its end
abbrev pub text_by : ChunkText → Profile → ℕ → ℕ → List ℕ → List ℕ → List ℕ
text_by text profile index due before after = text index due (still_by profile before) (still_by profile after)
