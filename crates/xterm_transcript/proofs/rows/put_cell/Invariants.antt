use Rattle.std.proofs.Common.{take, ◌++◌, encode_utf8}
use Rattle.std.specs.List.{flat_map}
use Rattle.transcripts.specs.Told.{PutsPart}
use Rattle.xterm_transcript.proofs.rows.put_cell.Given as goal

-- the character and the marks so far were put
abbrev pub invariant-loop-n : goal.invariant-loop-n
invariant-loop-n g l = PutsPart g.W.Write.contents l.fn.writer l.fn.rows l.writer l.rows
    (encode_utf8 l.fn.cell.character ++ flat_map encode_utf8 (take l.n l.fn.cell.marks))
