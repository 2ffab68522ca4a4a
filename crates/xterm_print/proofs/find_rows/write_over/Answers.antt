use Rattle.std.proofs.Common.{◌≡◌, ◌+◌, ◌<◌, ◌∙◌, ◌∷◌, [], ap, arith, length, set, subst, take}
use Rattle.std.proofs.lemmas.List.{get_or_default, length-set}
use Rattle.sheet.specs.Cells.{Cell}
use Rattle.standings.specs.Rows.{Row}
use Rattle.xterm_rows.specs.RowText.{characters}
use Rattle.xterm_print.proofs.FindRowLemmas.{characters_over, columns_over}
use Rattle.xterm_print.proofs.find_rows.write_over.Goals as goal

pub loop-at-preserved : goal.loop-at-preserved
loop-at-preserved c =
    let cells = c.args.cells.now in
    let row = c.loop-at.row in
    let at = c.loop-at.at in
    let kept = c.loop-at.invariant in
    let one = c.index-cells-at.result in
    let cell = c.index-cells-at-in-loop-at.result in
    let lt : at < length cells = omega (arith, kept.within, c.loop-at-test.true) in
    let here : at < length row.characters = omega (arith, kept.count, c.loop-at-test.true, c.min-end.ensures, c.count.ensures.characters) in
    let there : at < length row.columns = omega (arith, kept.places, c.loop-at-test.true, c.min-end.ensures, c.count.ensures.columns) in
    let plain = subst (λ x. characters x ≡ x.character ∷ []) (c.index-cells-at.is ∙ get_or_default cells at one cell lt) (c.is_alone.ensures c.if-is_alone.true) in
    record {
      high = omega (arith, c.loop-at-test.true);
      within = kept.within;
      count = ap (λ (r : Row). length r.characters) c.set.ensures ∙ length-set row.characters at c.character.result ∙ kept.count;
      places = ap (λ (r : Row). length r.columns) c.set.ensures ∙ length-set row.columns at (at + 1) ∙ kept.places;
      characters = ap (λ (r : Row). take (at + 1) r.characters) c.set.ensures
          ∙ ap (λ x. take (at + 1) (set row.characters at x)) (c.character.ensures ∙ ap (λ (x : Cell). x.character) c.index-cells-at-in-loop-at.is)
          ∙ characters_over row.characters cells at cell here lt kept.characters plain;
      columns = ap (λ (r : Row). take (at + 1) r.columns) c.set.ensures ∙ columns_over row.columns cells at cell there lt kept.columns plain;
    }
