-- What `info` tells of a recording.
use Rattle.std.specs.Prelude.{ℕ, List, [], ◌∷◌, ◌++◌, length, codes}
use Rattle.std.specs.Fmt.{decimal}
use Rattle.tape_core.specs.Due.{play_length}
use Rattle.tape_core.specs.Tape.{Tape, body_len}
use Rattle.tape_core.specs.Written.{seconds_form}

-- a line: a name with the space after it, a value and LF (ours)
unfoldable pub info_line : List ℕ → List ℕ → List ℕ
info_line name value = name ++ (value ++ 10 ∷ [])

-- what `info` tells of a recording, in five lines: how many chunks and how many bytes in them, the sum of the delays,
-- the bytes of header and trailer (ours)
unfoldable pub info_text : Tape → List ℕ
info_text tape =
    info_line (codes "chunks ") (decimal (length tape.chunks))
    ++ info_line (codes "bytes ") (decimal (body_len tape.chunks))
    ++ info_line (codes "length ") (seconds_form (play_length tape.chunks))
    ++ info_line (codes "header ") (decimal (length tape.header))
    ++ info_line (codes "trailer ") (decimal (length tape.trailer))
