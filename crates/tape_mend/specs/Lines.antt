-- The lines of a timing file as mending reads them: a line that ends in CR LF is read without its CR, as no other
-- command reads it (ours).
use Rattle.std.specs.Prelude.{ℕ, Bool, List, map}
use Rattle.std.specs.Io.BufRead.{ends_with_byte, strip_last}
use Rattle.std.specs.List.{list_any}
use Rattle.tape_core.specs.Text.{lines_of}

-- A CR stands at the end of a line.
abbrev pub ends_in_cr : List ℕ → Bool
ends_in_cr line = ends_with_byte 13 line

-- A line without one CR at its end.
abbrev pub without_cr : List ℕ → List ℕ
without_cr line = strip_last 13 line

-- The lines that are read.
abbrev pub timing_lines : List ℕ → List (List ℕ)
timing_lines timing = map without_cr (lines_of timing)

-- Some line of the file ends so, whether it is read or left out.
abbrev pub has_cr_lf : List ℕ → Bool
has_cr_lf timing = list_any ends_in_cr (lines_of timing)
