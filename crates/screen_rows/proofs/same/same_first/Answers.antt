use Rattle.std.proofs.Common.{◌≡◌, ◌∙◌, ◌&&◌, ◌+◌, ◌*◌, ap, arith, get_or, nat_eq, sym, take}
use Rattle.vt_screen.specs.Attributes.{byte_of}
use Rattle.std.specs.Cmp.Lexicographic.{pointwise}
use Rattle.screen_rows.specs.SameRows.{same_cell}
use Rattle.screen_rows.proofs.SameLemmas.{cell_numbers, pointwise_more}
use Rattle.screen_rows.proofs.same.same_first.Goals as goal

pub loop-at-preserved : goal.loop-at-preserved
loop-at-preserved g c =
    let one = c.args.one.now in
    let other = c.args.other.now in
    let at = c.loop-at.at in
    let these = get_or one at c.index-one-at.result in
    let those = get_or other at c.index-other-at.result in
    let here : nat_eq c.number.result c.number-in-loop-at.result ≡ same_cell these those =
    ap (λ n. nat_eq n c.number-in-loop-at.result) c.number.ensures.value
    ∙ ap (λ n. nat_eq (256 * byte_of these.rendition + these.glyph) n) c.number-in-loop-at.ensures.value
    ∙ cell_numbers these those c.number.ensures.within c.number-in-loop-at.ensures.within in
    record {
      compared =
          ap (λ b. b && nat_eq c.number.result c.number-in-loop-at.result) c.loop-at.invariant.compared
          ∙ ap (λ b. pointwise same_cell (take at one) (take at other) && b) here
          ∙ sym (pointwise_more same_cell one other at c.index-one-at.result c.index-other-at.result (omega arith) (omega arith));
    }
