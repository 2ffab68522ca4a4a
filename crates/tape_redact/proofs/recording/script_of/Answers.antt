use Rattle.std.proofs.Common.{◌++◌, ◌∙◌, List, ap, arith, length, ℕ}
use Rattle.std.proofs.lemmas.List.{take_all}
use Rattle.tape_core.specs.Tape.{body}
use Rattle.tape_core.specs.Written.{script_text}
use Rattle.tape_core.specs.declared.chunk.Chunk.{Chunk}
use Rattle.tape_redact.proofs.recording.script_of.Goals as goal

pub returns : goal.returns
unfolding script_text
returns c =
    let tape = c.args.recording.now in
    let all = take_all c.loop-chunk.chunk-index tape.chunks (omega (arith, ap (λ (l : List Chunk). length l) c.chunks-chunk-items.ensures.chunks)) in
    c.in_ok-extend_from_slice-2.ensures.items
    ∙ ap (λ (l : List ℕ). l ++ c.trailer.result.now) (c.loop-chunk.invariant ∙ ap (λ (l : List Chunk). tape.header ++ body l) all)
    ∙ ap (λ (l : List ℕ). tape.header ++ body tape.chunks ++ l) c.trailer.ensures
