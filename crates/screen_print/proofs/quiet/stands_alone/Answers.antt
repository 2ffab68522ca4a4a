use Rattle.std.proofs.Common.{length, refl, ◌∙◌, sym, arith}
use Rattle.std.proofs.lemmas.Bool.{not-true}
use Rattle.screen_print.proofs.QuietLemmas.{cells_stay, spaced_stays}
use Rattle.screen_print.proofs.quiet.stands_alone.Goals as goal

pub returns-then-character-eq32 : goal.returns-then-character-eq32
returns-then-character-eq32 c = λ told.
    spaced_stays c.args.text.now c.args.cells.now c.index-cells-cells.result c.requires.cells (sym c.character.ensures.value ∙ c.if-character-eq32.true)

pub returns : goal.returns
returns c = λ quiet.
    let none = c.may_begin_behind.ensures (not-true c.may_begin_behind.result quiet) in
    cells_stay c.args.text.now c.args.cells.now c.args.cells.now (length c.args.cells.now) c.saturating_sub-behind.result c.requires.text
    (omega arith) (omega arith) c.saturating_sub-behind.ensures refl none none
