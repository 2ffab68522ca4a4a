use Rattle.std.proofs.Common.{◌≡◌}
use Rattle.std.specs.Slice.Iter.{chunks_rest, chunks_size}
use Rattle.tape_seek.proofs.HexLemmas.{HexBefore}
use Rattle.tape_seek.proofs.hex_text.give_hex.Given as goal

-- what lies before the pieces that are left was given
abbrev pub invariant-loop-piece : goal.invariant-loop-piece
invariant-loop-piece g l =
    (goal.iterator-loop-piece g).can_next l.piece-iterator
    × (goal.iterator-loop-piece g).is_finite l.piece-iterator
    × (chunks_size l.piece-iterator ≡ 512)
    × HexBefore g.W.Write.contents l.fn.writer l.writer l.fn.bytes (chunks_rest l.piece-iterator)
