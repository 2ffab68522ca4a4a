use Rattle.std.proofs.Common.{◌<◌, [], length, get_or, ap, arith}
use Rattle.std.proofs.lemmas.List.{get_or_default}
use Rattle.tape_core.specs.Tape.{body_len}
use Rattle.tape_core.proofs.EditedLemmas.{body_len-replaced}
use Rattle.tape_core.specs.declared.chunk.Chunk.{Chunk}
use Rattle.tape_tests.proofs.recording.edits.replace.Goals as goal

pub replace-requires-clause-bytes : goal.replace-requires-clause-bytes
replace-requires-clause-bytes g c =
    let tape = c.args.recording.now in
    let long = ap length c.chunks.ensures.chunks in
    let place : c.args.at < length tape.chunks = omega (arith, long) in
    let none : Chunk = record { delay = 0; bytes = [] } in
    let chunk = get_or tape.chunks c.args.at none in
    let is = get_or_default tape.chunks c.args.at none chunk place in
    let more = body_len-replaced tape c.args.at c.args.bytes chunk place is in
    omega (arith, more, c.len.ensures, c.body_len.ensures.sum)
