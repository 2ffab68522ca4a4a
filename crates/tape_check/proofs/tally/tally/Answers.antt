use Rattle.std.proofs.Common.{◌≡◌, take, subst, sym, get_or, List, ℕ}
use Rattle.std.specs.Prelude.{fold}
use Rattle.tape_core.specs.Tape.{body}
use Rattle.tape_check.specs.Tally.{tallied, tally_start}
use Rattle.tape_check.specs.Tallying.{IsAt}
use Rattle.tape_check.proofs.TallyLemmas.{chunk_more}
use Rattle.tape_check.proofs.tally.tally.Goals as goal

pub loop-chunk-preserved : goal.loop-chunk-preserved
loop-chunk-preserved c =
    let chunks = c.args.chunks.now in
    let i = c.loop-chunk.chunk-index in
    let chunk = c.chunk-item.result in
    let before = fold tallied tally_start (body (take i chunks)) in
    subst (IsAt c.take.new.self) (sym (chunk_more tally_start chunks i chunk c.loop-chunk-test.true))
    (subst (λ (bytes : List ℕ). IsAt c.take.new.self (fold tallied before bytes))
    (let same : c.as_slice.result.now ≡ (get_or chunks i chunk).bytes = cc in same)
    (c.in_ok-take.ensures before c.loop-chunk.invariant))
