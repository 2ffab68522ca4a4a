use Rattle.std.proofs.Common.{◌≡◌, ◌-◌, ◌^◌, vec_len}
use Rattle.tape_core.proofs.DeviceLemmas.{ToldFront}
use Rattle.tape_core.proofs.devices.slurp.Given as goal

-- the text is what the reader has told so far, and the piece keeps its length
abbrev pub invariant-loop-piece : goal.invariant-loop-piece
invariant-loop-piece g l = ToldFront g.R.Read.remaining l.fn.reader l.reader l.text.items × (vec_len l.piece ≡ 65536)

-- a text has fewer than 2^64 bytes
abbrev pub decreases-loop-piece : goal.decreases-loop-piece
decreases-loop-piece g l = 2 ^ 64 - vec_len l.text
