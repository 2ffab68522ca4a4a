use Rattle.std.proofs.Common.{◌≡◌, ◌+◌, ◌-◌, None, arith, length, refl, rules, sym, ◌∙◌}
use Rattle.json_bytes.specs.Marks.{past_mark}
use Rattle.json_bytes.specs.Values.{array_at, behind, object_at, value}
use Rattle.json_bytes.proofs.ValueLemmas.{after_value, array_inner, item_here, member_here, more_items, named_behind, object_inner, value_nested, value_number, value_string, value_word}
use Rattle.json_bytes.proofs.values.+values.Goals as goal

pub array_end-returns-in-Some-past_mark : goal.array_end-returns-in-Some-past_mark
array_end-returns-in-Some-past_mark t c =
    let one = value c.args.depth in
    let inner = c.in_ok-inner.inner.now in
    let rest = c.in_ok-rest.rest.now in
    let start : behind (array_at one c.args.text.now) ≡ after_value (more_items one (length inner - (c.loop.counter + 1))) (past_mark 93 rest) (past_mark 44 rest) =
    array_inner one c.args.text.now inner (sym c.in_ok-inner.ensures) (sym c.in_default.ensures) ∙ c.loop.invariant
    ∙ item_here one (length inner) c.loop.counter c.loop.at.now rest (omega arith) (sym c.in_ok-rest.ensures) in
    sym (start ∙ rw (sym c.in-Some-past_mark.ensures) refl)

pub array_end-returns-in_err-at : goal.array_end-returns-in_err-at
array_end-returns-in_err-at t c =
    let one = value c.args.depth in
    let inner = c.in_ok-inner.inner.now in
    let rest = c.in_ok-rest.rest.now in
    let start : behind (array_at one c.args.text.now) ≡ after_value (more_items one (length inner - (c.loop.counter + 1))) (past_mark 93 rest) (past_mark 44 rest) =
    array_inner one c.args.text.now inner (sym c.in_ok-inner.ensures) (sym c.in_default.ensures) ∙ c.loop.invariant
    ∙ item_here one (length inner) c.loop.counter c.loop.at.now rest (omega arith) (sym c.in_ok-rest.ensures) in
    let none : behind (array_at one c.args.text.now) ≡ None = start ∙ rw (sym c.in_default-past_mark.ensures, sym c.in_err-at.ensures) refl in
    rw none (search rules)

pub array_end-loop-preserved : goal.array_end-loop-preserved
array_end-loop-preserved t c =
    let one = value c.args.depth in
    let most = length c.in_ok-inner.inner.now in
    let rest = c.in_ok-rest.rest.now in
    let next = c.in_ok-at.at.now in
    let goes : after_value (more_items one (most - (c.loop.counter + 1))) (past_mark 93 rest) (past_mark 44 rest) ≡ more_items one (most - (c.loop.counter + 1)) next =
    rw (sym c.in_default-past_mark.ensures, sym c.in_ok-at.ensures) refl in
    c.loop.invariant ∙ item_here one most c.loop.counter c.loop.at.now rest (omega arith) (sym c.in_ok-rest.ensures) ∙ goes

pub object_end-returns-in_err-string_end : goal.object_end-returns-in_err-string_end
object_end-returns-in_err-string_end t c =
    let one = value c.args.depth in
    let inner = c.in_ok-inner.inner.now in
    let text = c.args.text.now in
    let none : behind (object_at one text) ≡ None =
    object_inner one text inner (sym c.in_ok-inner.ensures) (sym c.in_default.ensures) ∙ c.loop.invariant
    ∙ member_here one (length inner) c.loop.counter c.loop.at.now (omega arith)
    ∙ rw (named_behind one c.loop.at.now, sym c.in_err-string_end.ensures) refl in
    rw none (search rules)

pub object_end-returns-in_err-value : goal.object_end-returns-in_err-value
object_end-returns-in_err-value t c =
    let one = value c.args.depth in
    let inner = c.in_ok-inner.inner.now in
    let text = c.args.text.now in
    let none : behind (object_at one text) ≡ None =
    object_inner one text inner (sym c.in_ok-inner.ensures) (sym c.in_default.ensures) ∙ c.loop.invariant
    ∙ member_here one (length inner) c.loop.counter c.loop.at.now (omega arith)
    ∙ rw (named_behind one c.loop.at.now, sym c.in_ok-string_end.ensures, sym c.in_err-value.ensures) refl in
    rw none (search rules)

pub object_end-returns-in_err-at : goal.object_end-returns-in_err-at
object_end-returns-in_err-at t c =
    let one = value c.args.depth in
    let inner = c.in_ok-inner.inner.now in
    let text = c.args.text.now in
    let none : behind (object_at one text) ≡ None =
    object_inner one text inner (sym c.in_ok-inner.ensures) (sym c.in_default.ensures) ∙ c.loop.invariant
    ∙ member_here one (length inner) c.loop.counter c.loop.at.now (omega arith)
    ∙ rw (named_behind one c.loop.at.now, sym c.in_ok-string_end.ensures, sym c.in_ok-value.ensures, sym c.in_ok-rest.ensures, sym c.in_default-past_mark.ensures, sym c.in_err-at.ensures) refl in
    rw none (search rules)

pub object_end-loop-preserved : goal.object_end-loop-preserved
object_end-loop-preserved t c =
    let one = value c.args.depth in
    let most = length c.in_ok-inner.inner.now in
    let next = c.in_ok-at.at.now in
    c.loop.invariant ∙ member_here one most c.loop.counter c.loop.at.now (omega arith)
    ∙ rw (named_behind one c.loop.at.now, sym c.in_ok-string_end.ensures, sym c.in_ok-value.ensures, sym c.in_ok-rest.ensures, sym c.in_default-past_mark.ensures, sym c.in_ok-at.ensures) refl

pub value_end-returns-then-begins : goal.value_end-returns-then-begins
value_end-returns-then-begins t c =
    c.string_end.ensures ∙ sym (value_string c.args.depth c.args.text.now (sym c.begins.ensures ∙ c.if-begins.true))

pub value_end-returns-in-Some : goal.value_end-returns-in-Some
value_end-returns-in-Some t c =
    sym (value_number c.args.depth c.args.text.now c.in-Some.rest.now (sym c.begins.ensures ∙ c.if-begins.false) (sym c.in-Some.ensures))

pub value_end-returns-then-depth-eq0 : goal.value_end-returns-then-depth-eq0
value_end-returns-then-depth-eq0 t c =
    c.word_end.ensures ∙ sym (value_word c.args.depth c.args.text.now (omega arith) (sym c.begins.ensures ∙ c.if-begins.false) (sym c.in_default.ensures))

pub value_end-returns : goal.value_end-returns
value_end-returns t c =
    c.nested_end.ensures
    ∙ sym (value_nested c.args.depth (c.args.depth - 1) c.args.text.now (omega arith) (sym c.begins.ensures ∙ c.if-begins.false) (sym c.in_default.ensures))
