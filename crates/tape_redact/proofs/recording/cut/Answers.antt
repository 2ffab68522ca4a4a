use Rattle.std.proofs.Common.{◌≡◌, ◌+◌, List, [], ◌∷◌, ◌++◌, ◌∙◌, ap, arith, drop, length, sym, take}
use Rattle.std.proofs.lemmas.List.{drop-drop, take_more}
use Rattle.std.proofs.lemmas.List.Sums.{sum_by_push}
use Rattle.tape_core.specs.Tape.{body_len}
use Rattle.tape_core.specs.declared.chunk.Chunk.{Chunk}
use Rattle.tape_redact.proofs.ReadLemmas.{cut_more}
use Rattle.tape_redact.specs.Recording.{cut}
use Rattle.tape_redact.proofs.recording.cut.Goals as goal

pub loop-chunk-preserved : goal.loop-chunk-preserved
loop-chunk-preserved c =
    let chunks = c.args.chunks.now in
    let script = c.args.script.now.value.items in
    let start = c.args.start in
    let i = c.loop-chunk.chunk-index in
    let before = take i chunks in
    let x : Chunk = c.chunk-item.result in
    let more : take (i + 1) chunks ≡ before ++ x ∷ [] =
    take_more chunks i x (omega arith) ∙ ap (λ (y : Chunk). before ++ y ∷ []) (sym c.chunk-item.is) in
    let longer = ap (λ (l : List Chunk). body_len l) more ∙ sum_by_push (λ (y : Chunk). length y.bytes) before x in
    let piece : c.in_ok-bytes.bytes ≡ take (length x.bytes) (drop (body_len before) (drop start script)) =
    c.in_ok-bytes.ensures
    ∙ ap (λ n. take n (drop c.loop-chunk.at script)) c.len-len.ensures
    ∙ ap (λ n. take (length x.bytes) (drop n script)) c.loop-chunk.invariant.at
    ∙ ap (take (length x.bytes)) (sym (drop-drop (body_len before) start script)) in
    record {
      at = omega (arith, c.loop-chunk.invariant.at, c.len-len.ensures, longer);
      made = c.in_ok-push.ensures.items
          ∙ ap (λ (l : List Chunk). l ++ (record { delay = x.delay; bytes = c.in_ok-bytes.bytes }) ∷ []) c.loop-chunk.invariant.made
          ∙ ap (λ b. cut before (drop start script) ++ (record { delay = x.delay; bytes = b }) ∷ []) piece
          ∙ sym (ap (λ (l : List Chunk). cut l (drop start script)) more ∙ cut_more before x (drop start script));
    }
