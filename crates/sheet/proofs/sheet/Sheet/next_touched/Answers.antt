use Rattle.std.proofs.Common.{◌≡◌, ◌+◌, ◌-◌, ◌<◌, ◌≤◌, ℕ, List, length, get_or, sym, ap, ◌∙◌, arith, true}
use Rattle.sheet.specs.Grid.{Grid, is_touched}
use Rattle.sheet.specs.Marked.{marks_of}
use Rattle.sheet.specs.View.{held_of}
use Rattle.sheet.proofs.Index.{inside}
use Rattle.sheet.proofs.Marked.{length_marks}
use Rattle.sheet.proofs.Tables.{get_or-table, length-table}
use Rattle.sheet.proofs.Turns.{lines_of}
use Rattle.sheet.proofs.sheet.Sheet.next_touched.Goals as goal

pub next_touched-requires-clause-few : goal.next_touched-requires-clause-few
next_touched-requires-clause-few c = omega (arith, c.self.invariant.origins, c.self.invariant.lines_high, ap length c.as_slice.ensures.value)

-- it lies among the lines, or behind the last one
high : (c : goal.After-next_touched) → c.next_touched.result ≤ c.args.self.now.lines
high c =
    omega (arith, c.next_touched.ensures.high, length_marks c.as_slice.result.now, ap length c.as_slice.ensures.value, c.self.invariant.origins, lines_of (held_of c.self.inside) _ c.self.view_is)

pub overflow_cast-result : goal.overflow_cast-result
overflow_cast-result c = omega (arith, high c, lines_of (held_of c.self.inside) _ c.self.view_is, c.self.invariant.lines_high)

pub overflow_add-result : goal.overflow_add-result
overflow_add-result c = omega (arith, high c, lines_of (held_of c.self.inside) _ c.self.view_is, c.self.invariant.lines_high)

pub returns-clause-high : goal.returns-clause-high
returns-clause-high c = omega (arith, high c)

-- a line's mark is the one that is looked at
mark_is : (c : goal.After-next_touched) (line : ℕ) → 1 ≤ line → line ≤ length c.as_slice.result.now → is_touched c.args.self.now.origins line ≡ get_or (marks_of c.as_slice.result.now) (line - 1) true
mark_is c line low high =
    let same : line - 1 + 1 ≡ line = omega arith in
    sym (ap (λ (g : Grid). is_touched g.origins line) c.self.view_is) ∙ ap (λ (l : List ℕ). is_touched l line) (sym c.as_slice.ensures.value)
    ∙ ap (is_touched c.as_slice.result.now) (sym same)
    ∙ sym (get_or-table (length c.as_slice.result.now) (is_touched c.as_slice.result.now) (line - 1) true (omega arith))

pub returns-clause-between : goal.returns-clause-between
returns-clause-between c = λ line low high.
    let within = c.next_touched.ensures.high in
    let long = length-table (length c.as_slice.result.now) (is_touched c.as_slice.result.now) in
    mark_is c line (omega arith) (omega (arith, within, long)) ∙ c.next_touched.ensures.between (line - 1) (omega arith) (omega arith)

pub returns-clause-touched : goal.returns-clause-touched
returns-clause-touched c = λ high.
    let at = c.next_touched.result in
    let below : at < length c.as_slice.result.now =
    omega (arith, inside (held_of c.self.inside) _ c.self.invariant c.self.view_is (at + 1) (omega arith) high, c.self.invariant.origins, ap length c.as_slice.ensures.value) in
    let long = length-table (length c.as_slice.result.now) (is_touched c.as_slice.result.now) in
    let same : at + 1 - 1 ≡ at = omega arith in
    mark_is c (at + 1) (omega arith) (omega arith) ∙ ap (λ (k : ℕ). get_or (marks_of c.as_slice.result.now) k true) same ∙ c.next_touched.ensures.found (omega (arith, long))
