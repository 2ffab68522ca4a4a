use Rattle.std.proofs.Common.{◌≡◌, ℕ, ◌≤◌, List, length, sym, ap, ◌∙◌, arith, take_at}
use Rattle.std.specs.Vec.{with_items}
use Rattle.std.proofs.lemmas.Bool.Decides.{nat_tests}
use Rattle.sheet.specs.Cells.{Cell}
use Rattle.sheet.specs.Grid.{Grid, is_touched, origin_of, own_origins, row_at}
use Rattle.sheet.specs.View.{held_of}
use Rattle.sheet.proofs.Index.{known_high, known_low}
use Rattle.sheet.proofs.Tables.{length-table, nth-table}
use Rattle.sheet.proofs.Turns.{lines_of}
use Rattle.sheet.proofs.sheet.Sheet.clear_touched.Goals as goal

pub name_lines-requires : goal.name_lines-requires
name_lines-requires c = omega (arith, c.self.invariant.origins, c.self.invariant.lines_high, ap length c.as_mut_slice.ensures.value)

own : (c : goal.After-self-1) → (with_items c.self.inside.origins c.name_lines.new.origins).items ≡ own_origins (length c.self.inside.origins.items)
own c =
    take_at c.name_lines.new.origins _ c.self.inside.origins.len (c.name_lines.auto.origins ∙ c.as_mut_slice.ensures.len)
    ∙ c.name_lines.ensures ∙ ap (λ (origins : List ℕ). own_origins (length origins)) c.as_mut_slice.ensures.value

-- a line's origin is the line
same_line : (origins : List ℕ) (lines line : ℕ) → origins ≡ own_origins lines → 1 ≤ line → line ≤ lines → origin_of origins line ≡ line
same_line origins lines line is low high = ap (λ (os : List ℕ). origin_of os line) is ∙ nth-table 0 lines (λ k. k) line low high

pub returns-clause-untouched : goal.returns-clause-untouched
returns-clause-untouched c = λ line low high.
    let is = same_line _ (length c.self.inside.origins.items) line (own c) low (omega (arith, lines_of (held_of c.self.inside) _ c.self.view_is, c.self.invariant.origins)) in
    grind (arith, nat_tests)

pub returns-clause-told : goal.returns-clause-told
returns-clause-told c = λ line known.
    let origins = (with_items c.self.inside.origins c.name_lines.new.origins).items in
    let high = known_high origins line known in
    let long = ap length (own c) ∙ length-table (length c.self.inside.origins.items) (λ k. k) in
    let is = same_line origins (length c.self.inside.origins.items) line (own c) (known_low origins line known) (omega (arith, high, long)) in
    ap (λ (g : Grid). row_at g.rows line) c.self.view_is ∙ ap (row_at c.args.self.now.rows) (sym is)
