use Rattle.std.proofs.Common.{◌≡◌, ◌≤◌, ap, arith, get_or, subst, sym, ◌∙◌}
use Rattle.vt_screen.specs.Cells.{row_at}
use Rattle.screen_rows.specs.KeptRows.{Kept}
use Rattle.screen_rows.specs.SameRows.{same_row}
use Rattle.screen_rows.proofs.SameLemmas.{same_row_decides}
use Rattle.screen_page.specs.Entries.{line_of}
use Rattle.screen_page.specs.Numbered.{AreNumbers, bucket_of, row_number}
use Rattle.screen_page.proofs.NumberLemmas.{none_at_all, none_before}
use Rattle.screen_page.proofs.PageLemmas.{first_found, none_found}
use Rattle.screen_page.proofs.numbered.NumberedRows.line_of.Goals as goal

pub returns-then-first-eq0 : goal.returns-then-first-eq0
returns-then-first-eq0 c =
    let rows = c.args.self.now.rows in
    let row = row_at c.args.screen.now.picture.rows c.args.line in
    let are : AreNumbers rows c.self.inside.numbers = subst (λ (k : Kept). AreNumbers k.rows c.self.inside.numbers) c.self.view_is c.self.invariant.numbers in
    let bucket = c.bucket_of.ensures.value ∙ ap bucket_of c.number_of-number.ensures in
    let none = ap (λ b. get_or c.self.inside.firsts b 0) (sym bucket) ∙ c.if-first-eq0.true in
    sym (none_found (λ k. same_row (row_at rows k) row) 1 24
    (λ k low below. none_at_all rows c.self.inside.numbers c.self.inside.firsts row are c.self.invariant.firsts none k low (omega arith)))

pub returns-then-first-source : goal.returns-then-first-source
returns-then-first-source c =
    let rows = c.args.self.now.rows in
    let row = row_at c.args.screen.now.picture.rows c.args.line in
    let source = c.args.source in
    let are : AreNumbers rows c.self.inside.numbers = subst (λ (k : Kept). AreNumbers k.rows c.self.inside.numbers) c.self.view_is c.self.invariant.numbers in
    let bucket = c.bucket_of.ensures.value ∙ ap bucket_of c.number_of-number.ensures in
    let first : source ≡ get_or c.self.inside.firsts (bucket_of (row_number row)) 0 = sym c.if-first-source.true ∙ ap (λ b. get_or c.self.inside.firsts b 0) bucket in
    let some : 1 ≤ source = omega (arith, c.if-first-eq0.false, c.if-first-source.true) in
    let same = (same_row_decides (row_at rows source) row).1 (c.requires.source.row some) in
    sym (first_found (λ k. same_row (row_at rows k) row) 1 24 source
    (λ k low below. none_before rows c.self.inside.numbers c.self.inside.firsts row source k are c.self.invariant.firsts first low (omega (arith, below, c.requires.source.high)) below)
    some (omega (arith, c.requires.source.high)) same)

pub line_from-requires-clause-before : goal.line_from-requires-clause-before
line_from-requires-clause-before c = λ k low high below.
    let rows = c.args.self.now.rows in
    let row = row_at c.args.screen.now.picture.rows c.args.line in
    let are : AreNumbers rows c.self.inside.numbers = subst (λ (k : Kept). AreNumbers k.rows c.self.inside.numbers) c.self.view_is c.self.invariant.numbers in
    let bucket = c.bucket_of.ensures.value ∙ ap bucket_of c.number_of-number.ensures in
    let first = ap (λ b. get_or c.self.inside.firsts b 0) bucket in
    ap (same_row (row_at rows k)) c.row.ensures.value
    ∙ none_before rows c.self.inside.numbers c.self.inside.firsts row _ k are c.self.invariant.firsts first low high below

pub returns : goal.returns
returns c = c.line_from.ensures ∙ ap (line_of c.args.self.now.rows) c.row.ensures.value
