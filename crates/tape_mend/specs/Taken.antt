-- Which bytes behind the header the counted parts take.
use Rattle.std.specs.Prelude.{ℕ, ◌+◌, Bool, true, false, List, [], ◌∷◌, ◌++◌, length, take, drop, count_by, nat_le, Option, Some, None, if◌then◌else◌}
use Rattle.tape_core.specs.declared.chunk.Chunk.{Chunk}
use Rattle.tape_mend.specs.declared.counting.Piece.{Piece}
use Rattle.tape_mend.specs.declared.counting.Piece.TheVariants as piece
use Rattle.tape_mend.specs.declared.losses.Cut.{Cut}

-- How many bytes a part counts.
abbrev pub piece_len : Piece → ℕ
piece_len (piece.Output entry) = entry.count
piece_len (piece.Input count) = count

-- The chunk of an output. The bytes of an input are left out.
abbrev pub piece_chunks : Piece → List ℕ → List Chunk
piece_chunks (piece.Output entry) bytes = record { delay = entry.delay; bytes = bytes } ∷ []
piece_chunks (piece.Input count) bytes = []

-- How many of the parts are outputs.
abbrev pub is_chunk : Piece → Bool
is_chunk (piece.Output entry) = true
is_chunk (piece.Input count) = false

abbrev pub chunk_count : List Piece → ℕ
chunk_count pieces = count_by is_chunk pieces

-- What was taken: the chunks, the last of them where it was cut, how many are left out, and every byte behind the last
-- one taken.
pub record Taken : Type 0 where
  pub chunks : List Chunk
  pub cut : Option Cut
  pub left : ℕ
  pub rest : List ℕ

-- Where fewer bytes are left than a part counts, it takes those, and all parts behind it are left out: an output is cut
-- to them, or left out where there are none (ours).
abbrev pub stopped : List Chunk → List ℕ → Piece → List Piece → Taken
stopped chunks [] (piece.Output entry) more =
    record { chunks = chunks; cut = None; left = chunk_count more + 1; rest = [] }
stopped chunks (b ∷ bs) (piece.Output entry) more = record {
  chunks = chunks ++ record { delay = entry.delay; bytes = b ∷ bs } ∷ [];
  cut = Some (record { chunk = length chunks; kept = length (b ∷ bs); counted = entry.count });
  left = chunk_count more;
  rest = [];
}
stopped chunks bytes (piece.Input count) more =
    record { chunks = chunks; cut = None; left = chunk_count more; rest = [] }

-- The parts take bytes one after another, where those before them gave these chunks.
abbrev pub taken : List Chunk → List ℕ → List Piece → Taken
taken chunks bytes [] = record { chunks = chunks; cut = None; left = 0; rest = bytes }
taken chunks bytes (part ∷ more) =
    if nat_le (piece_len part) (length bytes)
    then taken (chunks ++ piece_chunks part (take (piece_len part) bytes)) (drop (piece_len part) bytes) more
    else stopped chunks bytes part more
