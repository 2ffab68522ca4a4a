use Rattle.std.proofs.Common.{◌∙◌, ap, arith, sym}
use Rattle.std.proofs.lemmas.Bool.{and_parts, eqb-true}
use Rattle.std.proofs.lemmas.List.{length-map, take_all}
use Rattle.vt_screen.specs.declared.cell.Cell.{Cell}
use Rattle.screen_rows.specs.Glyphs.{character}
use Rattle.screen_rows.specs.RowText.{characters}
use Rattle.screen_print.proofs.QuietLemmas.{alike_more}
use Rattle.screen_print.proofs.alike.has_same_glyphs.Goals as goal

pub loop-at-preserved : goal.loop-at-preserved
loop-at-preserved c = λ same.
    let parts = and_parts c.loop-at.same _ same in
    alike_more c.args.one.now c.args.other.now c.loop-at.at c.index-one-at.result c.index-other-at.result (omega arith) (omega arith)
    (ap character (eqb-true _ _ parts.1)) (c.loop-at.invariant parts.0)

pub returns : goal.returns
returns c = λ same.
    let one = c.args.one.now in
    let other = c.args.other.now in
    let long = length-map one (λ (cell : Cell). character cell.glyph) in
    let long' = length-map other (λ (cell : Cell). character cell.glyph) in
    sym (take_all c.loop-at.at (characters one) (omega (arith, long))) ∙ c.loop-at.invariant same ∙ take_all c.loop-at.at (characters other) (omega (arith, long'))
