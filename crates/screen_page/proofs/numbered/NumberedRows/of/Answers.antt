use Rattle.std.proofs.Common.{◌≡◌, ◌-◌, ℕ, arith, replicate, ◌∙◌}
use Rattle.std.proofs.lemmas.List.{get_or-replicate}
use Rattle.vt_screen.specs.Cells.{row_at}
use Rattle.vt_screen.specs.Table.{nth}
use Rattle.vt_screen.proofs.Tables.{nth_is}
use Rattle.screen_page.proofs.NumberLemmas.{carried_none}
use Rattle.screen_page.proofs.numbered.NumberedRows.of.Goals as goal

pub numbers_of-numbers-requires : goal.numbers_of-numbers-requires
numbers_of-numbers-requires c = λ line low high.
    let none : ℕ = 0 in
    let nothing : nth none (replicate 24 none) line ≡ none =
    nth_is none (replicate 24 none) line ∙ get_or-replicate 24 (line - 1) none none (omega arith) in
    carried_none _ (row_at c.args.screen.now.picture.rows line) _ nothing
