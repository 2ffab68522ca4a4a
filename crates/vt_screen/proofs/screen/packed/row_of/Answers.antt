use Rattle.std.proofs.Common.{ℕ, ◌∙◌, ap, set, length, arith}
use Rattle.vt_screen.specs.declared.cell.Row.{Row}
use Rattle.vt_screen.specs.Packed.{unpacked}
use Rattle.vt_screen.proofs.Packed.{unpacked_more, unpacked_none}
use Rattle.vt_screen.proofs.Tables.{length-table}
use Rattle.vt_screen.proofs.screen.packed.row_of.Goals as goal

pub loop-i-init : goal.loop-i-init
loop-i-init c =
    let part = c.args.part in
    ap (λ (r : Row). let x : Row = record { size = part.size; cells = r.cells } in x) c.blank-row.ensures
    ∙ unpacked_none c.args.cells.now part.size part.from

pub loop-i-preserved : goal.loop-i-preserved
loop-i-preserved c =
    let part = c.args.part in
    let i = c.loop-i.i in
    let cell = c.index-cells-from.result in
    ap (λ (r : Row). let x : Row = record { size = r.size; cells = set r.cells i cell } in x) c.loop-i.invariant
    ∙ unpacked_more c.args.cells.now part.size part.from i cell (omega (arith, c.requires.short)) (omega (arith, c.requires.within)) c.index-cells-from.is

pub returns-clause-value : goal.returns-clause-value
returns-clause-value c =
    c.loop-i.invariant ∙ ap (λ (n : ℕ). unpacked c.args.cells.now (record c.args.part { len = n })) (omega arith)

pub returns-clause-whole : goal.returns-clause-whole
returns-clause-whole c = ap (λ (r : Row). length r.cells) c.loop-i.invariant ∙ length-table 132 _
