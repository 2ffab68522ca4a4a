use Rattle.std.proofs.Common.{◌≡◌, ℕ, ◌+◌, List, sym, ap, subst, arith}
use Rattle.sheet.specs.Cells.{Cell}
use Rattle.sheet.specs.Grid.{Grid}
use Rattle.sheet.proofs.Packed.{AreKept, is_packed, kept_more, kept_none, packed_is}
use Rattle.sheet.proofs.sheet.Sheet.pack.Goals as goal

pub invariant_of-result : goal.invariant_of-result
invariant_of-result c =
    let g = c.args.self.now in
    let same : c.self.inside.columns ≡ g.columns = ap (λ (h : Grid). h.columns) c.self.view_is in
    let lines : c.loop-line.line ≡ g.lines = omega (arith, c.lines-lines.ensures.value) in
    let some : AreKept g.columns g.rows c.loop-line.rows.items g.lines = subst (AreKept g.columns g.rows c.loop-line.rows.items) lines c.loop-line.invariant in
    let all : AreKept c.self.inside.columns g.rows c.loop-line.rows.items g.lines = subst (λ (columns : ℕ). AreKept columns g.rows c.loop-line.rows.items g.lines) (sym same) some in
    is_packed c.self.inside.columns g c.loop-line.rows.items same c.lines-lines.ensures.rows all
    c.self.invariant.columns_low c.self.invariant.columns_high (omega (arith, c.lines-lines.ensures.value, c.lines-lines.ensures.low)) (omega (arith, c.lines-lines.ensures.value, c.lines-lines.ensures.high))

pub returns : goal.returns
returns c =
    let g = c.args.self.now in
    let same : c.self.inside.columns ≡ g.columns = ap (λ (h : Grid). h.columns) c.self.view_is in
    let lines : c.loop-line.line ≡ g.lines = omega (arith, c.lines-lines.ensures.value) in
    let some : AreKept g.columns g.rows c.loop-line.rows.items g.lines = subst (AreKept g.columns g.rows c.loop-line.rows.items) lines c.loop-line.invariant in
    let all : AreKept c.self.inside.columns g.rows c.loop-line.rows.items g.lines = subst (λ (columns : ℕ). AreKept columns g.rows c.loop-line.rows.items g.lines) (sym same) some in
    packed_is c.self.inside.columns g c.loop-line.rows.items same c.lines-lines.ensures.rows all

pub loop-line-init : goal.loop-line-init
loop-line-init c = kept_none c.args.self.now.columns c.args.self.now.rows c.in_ok-rows.rows.items c.in_ok-rows.ensures.items

pub loop-line-preserved : goal.loop-line-preserved
loop-line-preserved c =
    let g = c.args.self.now in
    subst (λ (kept : List (List Cell)). AreKept g.columns g.rows kept (c.loop-line.line + 1)) (sym c.in_ok-push.ensures.items)
    (kept_more g.columns g.rows c.loop-line.rows.items c.loop-line.line c.row.result.now c.in_ok-keep.field-0 c.row.ensures.value c.row.ensures.columns c.row.ensures.whole
    c.in_ok-keep.ensures.row c.in_ok-keep.ensures.short c.loop-line.invariant)
