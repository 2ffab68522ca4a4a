use Rattle.std.proofs.Common.{◌≡◌, ◌+◌, ◌-◌, ◌∙◌, Some, ap, arith, length, sym}
use Rattle.json_bytes.specs.Values.{items, value}
use Rattle.json_bytes.proofs.ArrayLemmas.{array_empty, array_opened, behind_bytes, behind_none, last_byte, more_bytes, no_array, no_byte, open_bytes, read_bytes}
use Rattle.json_bytes.proofs.arrays.bytes_in.Goals as goal

pub returns-then-not-begins : goal.returns-then-not-begins
returns-then-not-begins c = λ depth. sym (no_array depth c.args.text.now (sym c.begins.ensures ∙ c.if-not-begins.true))

pub returns-in-Some-past_mark : goal.returns-in-Some-past_mark
returns-in-Some-past_mark c = λ depth.
    ap Some c.new-bytes.ensures.items
    ∙ sym (array_empty depth c.args.text.now c.in-Some.inner.now c.in-Some-past_mark._end.now (sym c.begins.ensures ∙ c.if-not-begins.false) (sym c.in-Some.ensures)
    (sym c.in-Some-past_mark.ensures))

pub loop-init : goal.loop-init
loop-init c = λ depth.
    let inner = c.in-Some.inner.now in
    let whole : length inner - 0 ≡ length inner = omega arith in
    let all = items (value depth) (length inner - 0) inner in
    array_opened depth c.args.text.now inner (sym c.begins.ensures ∙ c.if-not-begins.false) (sym c.in-Some.ensures) (sym c.in_default-past_mark.ensures)
    ∙ ap (λ most. read_bytes (items (value depth) most inner)) (sym whole) ∙ sym (behind_none (read_bytes all)) ∙ ap (λ front. behind_bytes front (read_bytes all)) (sym c.new-bytes.ensures.items)

pub returns-in_default-read_byte : goal.returns-in_default-read_byte
returns-in_default-read_byte c = λ depth.
    sym (c.loop.invariant depth ∙ no_byte c.loop.bytes.items depth (length c.in-Some.inner.now) c.loop.counter c.loop.at.now (omega arith) (sym c.in_default-read_byte.ensures))

pub returns-in-Some-past_mark-2 : goal.returns-in-Some-past_mark-2
returns-in-Some-past_mark-2 c = λ depth.
    ap Some c.in_ok-push.ensures.items
    ∙ sym (c.loop.invariant depth
    ∙ last_byte c.loop.bytes.items depth (length c.in-Some.inner.now) c.loop.counter c.loop.at.now c.in-Some-read_byte.rest.now c.in-Some-past_mark-2._end.now c.in-Some-read_byte.byte (omega arith)
    (sym c.in-Some-read_byte.ensures) (sym c.in-Some-past_mark-2.ensures))

pub returns-in_default-past_mark-3 : goal.returns-in_default-past_mark-3
returns-in_default-past_mark-3 c = λ depth.
    sym (c.loop.invariant depth
    ∙ open_bytes c.loop.bytes.items depth (length c.in-Some.inner.now) c.loop.counter c.loop.at.now c.in-Some-read_byte.rest.now c.in-Some-read_byte.byte (omega arith)
    (sym c.in-Some-read_byte.ensures) (sym c.in_default-past_mark-2.ensures) (sym c.in_default-past_mark-3.ensures))

pub loop-preserved : goal.loop-preserved
loop-preserved c = λ depth.
    let most = length c.in-Some.inner.now in
    let next = c.in-Some-past_mark-3.next.now in
    c.loop.invariant depth
    ∙ more_bytes c.loop.bytes.items depth most c.loop.counter c.loop.at.now c.in-Some-read_byte.rest.now next c.in-Some-read_byte.byte (omega arith)
    (sym c.in-Some-read_byte.ensures) (sym c.in_default-past_mark-2.ensures) (sym c.in-Some-past_mark-3.ensures)
    ∙ ap (λ front. behind_bytes front (read_bytes (items (value depth) (most - (c.loop.counter + 1)) next))) (sym c.in_ok-push.ensures.items)
