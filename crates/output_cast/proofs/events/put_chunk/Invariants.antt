use Rattle.std.proofs.Common.{◌≡◌, take}
use Rattle.output_cast.specs.Events.{read_behind}
use Rattle.output_cast.specs.Line.{Goes}
use Rattle.output_cast.proofs.events.put_chunk.Given as goal

-- the characters of the bytes so far have gone out
abbrev pub invariant-loop-byte : goal.invariant-loop-byte
invariant-loop-byte g l = record {
  goes : Goes g.W.Write.contents l.fn.writer l.writer l.line l.fn.moment (read_behind l.fn.decoder (take l.byte-index l.bytes)).characters;
  pending : l.decoder ≡ (read_behind l.fn.decoder (take l.byte-index l.bytes)).pending;
}
