use Rattle.std.proofs.Common.{take, subst, ◌≡◌, get_or, List, ℕ}
use Rattle.std.specs.Prelude.{fold}
use Rattle.tape_core.specs.declared.chunk.Chunk.{Chunk}
use Rattle.tape_core.specs.Tape.{body}
use Rattle.tape_check.specs.Scan.{scan_start, scan_step}
use Rattle.tape_check.specs.Counting.{Scanned}
use Rattle.tape_check.proofs.CountLemmas.{scanned_piece}
use Rattle.tape_check.proofs.scan.unplayed_in.Goals as goal

pub loop-chunk-preserved : goal.loop-chunk-preserved
loop-chunk-preserved c =
    let chunks = c.args.chunks.now in
    let i = c.loop-chunk.chunk-index in
    let before = c.loop-chunk.invariant in
    let chunk = c.chunk-item.result in
    scanned_piece _ c.loop-chunk.scanner c.take.new.self scan_start (λ (k : Chunk). k.bytes) chunks i chunk c.loop-chunk-test.true before
    (subst (λ (bytes : List ℕ). Scanned c.loop-chunk.scanner c.take.new.self (fold scan_step scan_start (body (take i chunks))) bytes)
    (let same : c.as_slice.result.now ≡ (get_or chunks i chunk).bytes = cc in same)
    (c.in_ok-take.ensures (fold scan_step scan_start (body (take i chunks))) before.follows))
