use Rattle.std.proofs.Common.{◌≡◌, ◌==◌, ◌+◌, ◌-◌, length, take, drop, ap, ◌∙◌, arith}
use Rattle.std.specs.List.{position_or_len}
use Rattle.tape_core.proofs.ReadingLemmas.{reads_parts}
use Rattle.tape_core.proofs.reading.read_recording_of.Goals as goal

pub from_parts-requires : goal.from_parts-requires
from_parts-requires c =
    let script = c.args.script.items in
    let start = c.min-start.result in
    let held : c.in-Ok.script.value.items ≡ script = ap (λ text. text.items) c.in-Ok.ensures.ok in
    let bytes = c.in_ok-chunks.bytes in
    let len : c.len-2.result ≡ length script = omega arith in
    let size = ap length held in
    let before = ap length c.deref.ensures.value in
    let end = c.position_of-end.ensures.first ∙ ap (position_or_len (λ b. b == 10)) c.deref.ensures.value in
    let behind = ap (λ text. length text.items) c.deref-2.ensures in
    (reads_parts script c.args.timing.now start c.in_ok-header.header c.in_ok-trailer.trailer c.in_ok-chunks.chunks.items bytes
    (omega (arith, size, before, behind, end)) (omega (arith, size, before)) (omega (arith, size, before)) (rw held at c.in_ok-chunks.ensures.ok)
    (c.in_ok-header.ensures ∙ ap (take start) held)
    (c.in_ok-trailer.ensures ∙ ap (λ text. take ((c.len-2.result - start) - bytes) (drop (start + bytes) text)) held ∙ ap (λ n. take ((n - start) - bytes) (drop (start + bytes) script)) len)).fitting

pub returns-clause-ok : goal.returns-clause-ok
returns-clause-ok c =
    let script = c.args.script.items in
    let start = c.min-start.result in
    let held : c.in-Ok.script.value.items ≡ script = ap (λ text. text.items) c.in-Ok.ensures.ok in
    let bytes = c.in_ok-chunks.bytes in
    let len : c.len-2.result ≡ length script = omega arith in
    let size = ap length held in
    let before = ap length c.deref.ensures.value in
    let end = c.position_of-end.ensures.first ∙ ap (position_or_len (λ b. b == 10)) c.deref.ensures.value in
    let behind = ap (λ text. length text.items) c.deref-2.ensures in
    rw c.in_ok-from_parts.ensures
    (reads_parts script c.args.timing.now start c.in_ok-header.header c.in_ok-trailer.trailer c.in_ok-chunks.chunks.items bytes
    (omega (arith, size, before, behind, end)) (omega (arith, size, before)) (omega (arith, size, before)) (rw held at c.in_ok-chunks.ensures.ok)
    (c.in_ok-header.ensures ∙ ap (take start) held)
    (c.in_ok-trailer.ensures ∙ ap (λ text. take ((c.len-2.result - start) - bytes) (drop (start + bytes) text)) held ∙ ap (λ n. take ((n - start) - bytes) (drop (start + bytes) script)) len))
