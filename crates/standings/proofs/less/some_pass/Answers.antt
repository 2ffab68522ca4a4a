use Rattle.std.proofs.Common.{◌≡◌, ℕ, ◌<◌, ◌≤◌, ◌∙◌, ap, ap₂, arith, inl, inr, length, subst, sym}
use Rattle.std.proofs.lemmas.Bool.{cases_lt, false≢true}
use Rattle.std.proofs.lemmas.List.{get_or_default}
use Rattle.standings.specs.Rows.{row_below}
use Rattle.standings.specs.Standing.{is_lone, left_of, place_at, place_in}
use Rattle.standings.specs.declared.place.Place.{Place}
use Rattle.standings.proofs.LeftLemmas.{row_front}
use Rattle.standings.proofs.LessLemmas.{all_stay}
use Rattle.standings.proofs.less.some_pass.Goals as goal

pub loop-at-preserved : goal.loop-at-preserved
loop-at-preserved c =
    let one = c.args.one.now in
    let alone = c.args.alone.now in
    let at = c.loop-at.at in
    let row = c.characters_below-row.result.now in
    let place : place_at alone.one.items at ≡ c.index.result.now = get_or_default alone.one.items at (place_in 0 0) c.index.result.now (omega (arith, c.loop-at-test.true, c.len.ensures, alone.one.ok.0)) ∙ sym c.index.ensures in
    let line : row ≡ (row_below one.rows.items (place_at alone.one.items at).above).characters =
    c.characters_below-row.ensures ∙ ap₂ (λ rows (p : Place). (row_below rows p.above).characters) c.as_slice.ensures.value (sym place) in
    let above : (k : ℕ) → at ≤ k → k < c.row_end-at.result → (place_at alone.one.items k).above ≡ (place_at alone.one.items at).above =
    subst (λ l. (k : ℕ) → at ≤ k → k < c.row_end-at.result → (place_at l k).above ≡ (place_at l at).above) c.as_slice-in-loop-at.ensures.value c.row_end-at.ensures.same in
    record {
      within = omega (arith, c.row_end-at.ensures.within, ap length c.as_slice-in-loop-at.ensures.value);
      none = λ pairs n m lt low same. elim (cases_lt m at) [
        | inl before ↦ c.loop-at.invariant.none pairs n m lt before same
        | inr high ↦ c.in_ok-some_pass_with.ensures.none pairs c.if-branch.false n lt
            (row_front one.rows.items alone.one.items at c.row_end-at.result row line above m (left_of one.rows.items (place_at one.places.items n)) high low same)
      ];
    }

pub returns : goal.returns
returns c = λ pairs.
    let first = c.args.first.now in
    let one = c.args.one.now in
    let other = c.args.other.now in
    let alone = c.args.alone.now in
    record {
      none = λ _ n lt. all_stay one.rows.items other.rows.items one.places.items other.places.items alone.one.items alone.other.items
          (is_lone first.rows.items first.places.items (left_of one.rows.items (place_at one.places.items n))) n lt
          pairs (λ m lt'. c.loop-at.invariant.none pairs n m lt (omega (arith, lt', c.loop-at-test.false, c.len.ensures, alone.one.ok.0)));
      some = λ t. absurd (false≢true t);
    }
