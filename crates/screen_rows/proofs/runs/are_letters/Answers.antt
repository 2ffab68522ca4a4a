use Rattle.std.proofs.Common.{◌≡◌, ◌∙◌, arith, ◌+◌, ◌-◌, ◌%◌, ap, get_or, inl, inr, refl, subst, sym}
use Rattle.std.proofs.lemmas.Bool.{and_parts, cases_lt, leb-true}
use Rattle.std.proofs.lemmas.List.{get_or_default}
use Rattle.vt_screen.specs.Cells.{blank}
use Rattle.screen_rows.specs.Runs.{IsLetter}
use Rattle.screen_rows.proofs.BlockLemmas.{letter_is}
use Rattle.screen_rows.proofs.runs.are_letters.Goals as goal

pub loop-at-preserved : goal.loop-at-preserved
loop-at-preserved c = λ all k low below.
    let parts = and_parts _ _ all in
    elim (cases_lt k c.loop-at.at) [
      | inl lt ↦ c.loop-at.invariant parts.0 k low lt
      | inr ge ↦
          let at : k ≡ c.loop-at.at = omega arith in
          let is : c.index-cells-at.result ≡ get_or c.args.cells.now k blank =
          c.index-cells-at.is ∙ get_or_default c.args.cells.now c.loop-at.at c.index-cells-at.result blank (omega (arith, c.requires, c.loop-at-test.true)) ∙ ap (λ m. get_or c.args.cells.now m blank) (sym at) in
          subst (IsLetter c.args.rendition) is
          (letter_is c.args.rendition c.index-cells-at.result c.numbered-least.result c.number.result ((c.number.result + (65536 - c.numbered-least.result)) % 65536)
          c.numbered-least.ensures c.number.ensures.value c.number.ensures.within refl (leb-true _ _ parts.1))
    ]
