use Rattle.std.proofs.Common.{◌≡◌, ◌+◌, ◌<◌, ◌++◌, ◌∷◌, ◌∙◌, [], ap, append_assoc, arith, below_more, get_or, length, subst, suc, sym, take}
use Rattle.std.specs.Prelude.{slice_index_or}
use Rattle.std.proofs.lemmas.List.{get_or_default, take_more}
use Rattle.sheet.specs.declared.rendition.Colour.TheVariants.{Default}
use Rattle.sheet.specs.Cells.{Cell, blank}
use Rattle.xterm_rows.specs.Runs.{cell_behind}
use Rattle.xterm_print.specs.Pieces.{AreApart, IsPlain}
use Rattle.xterm_print.proofs.runs.put_graphics.Goals as goal

pub loop-at-preserved : goal.loop-at-preserved
loop-at-preserved c =
    let kept = c.loop-at.invariant in
    let at = c.loop-at.at in
    let cells = c.args.cells.now in
    let bytes = c.args.bytes.now in
    let were = c.args.letters.now.items in
    let byte = get_or bytes at 0 in
    let in_bytes : at < length bytes = omega (arith, c.loop-at-test.true, c.min-room.ensures) in
    let in_cells : at < length cells = omega (arith, c.loop-at-test.true, c.min-room.ensures) in
    let cell : c.index-cells-at.result ≡ cell_behind cells at =
    c.index-cells-at.is ∙ get_or_default cells at c.index-cells-at.result (blank Default) in_cells in
    let goes = c.if-not-may_follow.false in
    let next : suc at ≡ at + 1 = omega arith in
    record {
      put = c.push.ensures.items ∙ ap (λ l. l ++ byte ∷ []) kept.put
          ∙ append_assoc were (take at bytes) (byte ∷ [])
          ∙ ap (λ l. were ++ l) (sym (take_more bytes at 0 in_bytes));
      graphic = below_more _ _ kept.graphic (c.may_follow.ensures.graphic goes);
      plain = below_more _ _ kept.plain (subst IsPlain cell (c.may_follow.ensures.plain goes));
      apart = λ text marked. below_more _ _ (kept.apart text marked)
          (subst (λ one. AreApart text one (cell_behind cells at).character) kept.one
          (subst (λ (other : Cell). AreApart text c.loop-at.one other.character) cell (c.may_follow.ensures.apart goes text marked)));
      one = ap (λ j. slice_index_or (c.args.last ∷ bytes) j 0) next;
    }
