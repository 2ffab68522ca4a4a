use Rattle.std.proofs.Common.{◌≡◌, ℕ, ◌<◌, ◌++◌, List, ap, arith, drop, false, inl, inr, length, nat_eq, subst}
use Rattle.std.specs.List.{starts_with}
use Rattle.std.proofs.lemmas.Bool.{cases_lt}
use Rattle.standings.specs.Rows.{row_below}
use Rattle.standings.specs.Standing.{line_text}
use Rattle.standings.proofs.SpanLemmas.{all_before, never_here, none_here}
use Rattle.standings.proofs.place.begins_in.Goals as goal

pub returns-then-not-has_front : goal.returns-then-not-has_front
returns-then-not-has_front c = λ _.
    none_here c.args.text.now c.args.rows.now c.args.above
    (subst (λ l. (before : ℕ) → before < length l → (rest : List ℕ) → starts_with nat_eq (drop before l ++ rest) c.args.text.now ≡ false) c.characters_below-characters.ensures (c.has_front.ensures c.if-not-has_front.true))

pub returns : goal.returns
returns c = λ _.
    let rows = c.args.rows.now in
    let above = c.args.above in
    let same = c.characters_below-characters.ensures in
    all_before c.args.text.now above (line_text (drop above rows)) (length (row_below rows above).characters) (λ k lt.
    c.loop-from.invariant.none k (omega (arith, lt, c.loop-from-test.false, ap length same)))

pub loop-from-preserved : goal.loop-from-preserved
loop-from-preserved c =
    let rows = c.args.rows.now in
    let above = c.args.above in
    let text = c.args.text.now in
    let same = c.characters_below-characters.ensures in
    record {
      within = omega (arith, ap length same, c.next_block-next.ensures.within, c.min.ensures);
      none = λ k lt. elim (cases_lt k c.next_block-next.result) [
        | inr late ↦ c.begins_between.ensures c.if-begins_between.false k late lt
        | inl early ↦ elim (cases_lt k c.loop-from.from) [
          | inl passed ↦ c.loop-from.invariant.none k passed
          | inr low ↦
              never_here text rows above k (omega (arith, early, ap length same, c.next_block-next.ensures.within))
              (subst (λ l. (rest : List ℕ) → starts_with nat_eq (drop k l ++ rest) text ≡ false) same (c.next_block-next.ensures.passed k low early))
        ]
      ];
    }
