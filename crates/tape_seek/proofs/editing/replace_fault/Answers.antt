use Rattle.std.proofs.Common.{◌≡◌, ◌<◌, get_or, length, ap, arith, true, false, ◌∙◌}
use Rattle.std.proofs.lemmas.Bool.{le-ltb, lt-ltb}
use Rattle.tape_core.specs.Tape.{longest_body}
use Rattle.tape_seek.proofs.EditLemmas.{replace_judged}
use Rattle.tape_seek.proofs.editing.replace_fault.Goals as goal

pub returns-then-others-len : goal.returns-then-others-len
returns-then-others-len c =
    let chunks = c.args.recording.now.chunks in
    let at = c.args.at in
    let chunk = c.index-chunks-at.result in
    let place : at < length chunks = omega (arith, c.if-at-chunks.false, ap length c.chunks.ensures.chunks) in
    let is : chunk ≡ get_or chunks at chunk = c.index-chunks-at.is ∙ ap (λ cs. get_or cs at chunk) c.chunks-2.ensures.chunks in
    replace_judged c.args.recording.now at c.args.bytes.now chunk true place is (omega arith)
    (lt-ltb longest_body _ (omega (arith, c.body_len.ensures.sum, ap (λ x. length x.bytes) c.index-chunks-at.is)))

pub returns : goal.returns
returns c =
    let chunks = c.args.recording.now.chunks in
    let at = c.args.at in
    let chunk = c.index-chunks-at.result in
    let place : at < length chunks = omega (arith, c.if-at-chunks.false, ap length c.chunks.ensures.chunks) in
    let is : chunk ≡ get_or chunks at chunk = c.index-chunks-at.is ∙ ap (λ cs. get_or cs at chunk) c.chunks-2.ensures.chunks in
    replace_judged c.args.recording.now at c.args.bytes.now chunk false place is (omega arith)
    (le-ltb longest_body _ (omega (arith, c.body_len.ensures.sum, ap (λ x. length x.bytes) c.index-chunks-at.is)))
