use Rattle.std.proofs.Common.{◌≡◌, ◌+◌, ◌-◌, ◌<◌, ◌∙◌, ◌&&◌, ◌||◌, ap, arith, false, get_or, inl, inr, length, nat_eq, refl, sym, true}
use Rattle.std.specs.List.{starts_with}
use Rattle.std.proofs.lemmas.Bool.{cases_lt, le-leb, lt-leb}
use Rattle.std.proofs.lemmas.List.{get_or_default}
use Rattle.standings.specs.Less.{for_left, is_last}
use Rattle.standings.specs.Standing.{left_of, place_at, place_in}
use Rattle.standings.specs.declared.place.Place.{Place}
use Rattle.standings.proofs.LeftLemmas.{front_fits}
use Rattle.standings.proofs.SurplusLemmas.{is_told, last_off, last_spent, none_last, none_long, none_still, none_told, not_told, told_more, told_same}
use Rattle.standings.proofs.surplus.tell_last.Goals as goal

pub returns-then-least-row : goal.returns-then-least-row
returns-then-least-row c = λ n lt.
    none_told c.args.row.now c.args.surplus.now c.args.still.now.rows.items c.args.still.now.places.items (get_or c.args.told.now n false) n lt
    (λ left. none_long c.args.row.now c.args.surplus.now c.least_len-least.result left c.if-least-row.true c.least_len-least.ensures.none)

pub loop-at-preserved-in-Some : goal.loop-at-preserved-in-Some
loop-at-preserved-in-Some c =
    let row = c.args.row.now in
    let rows = c.as_slice-rows.result.now in
    let places = c.args.still.now.places.items in
    let counts = c.loop-at.surplus in
    let was = c.args.surplus.now in
    let next = c.loop-at.at in
    let k = next - 1 in
    let len = c.in-Some.len in
    let is_next : next ≡ k + 1 = omega (arith, c.loop-at-test.true) in
    let lt : k < length places = omega (arith, c.loop-at-test.true, c.loop-at.invariant.within) in
    let place : place_at places k ≡ c.index.result.now = get_or_default places k (place_in 0 0) c.index.result.now lt ∙ sym c.index.ensures in
    let many : len ≡ length (left_of rows (place_at places k)) = c.in-Some.ensures.some.0 ∙ ap (λ (p : Place). length (left_of rows p)) (sym place) in
    let begins : starts_with nat_eq row (left_of rows (place_at places k)) ≡ true = ap (λ (p : Place). starts_with nat_eq row (left_of rows p)) place ∙ c.in-Some.ensures.some.1 in
    record {
      within = omega (arith, lt);
      agree = c.len_from.ensures.agree;
      left = λ left begins'. last_off row counts was rows places k next len (get_or counts len 0 - 1) left lt is_next
          (omega (arith, many, front_fits row (left_of rows (place_at places k)) begins, c.requires.surplus, c.loop-at.auto.surplus))
          many begins begins' refl (c.loop-at.invariant.left left begins');
      told = λ n lt'. told_more c.loop-at.told c.args.told.now (is_last row rows places was) k next n is_next (omega (arith, lt, c.requires.told, c.loop-at.auto.told))
          (is_told row counts was rows places k next len lt is_next many begins c.loop-at.invariant.left ∙ le-leb 1 (get_or counts len 0) c.in-Some.ensures.more)
          (c.loop-at.invariant.told n lt');
      none = λ m. none_still counts c.least_len-least.result len (get_or counts len 0 - 1) m c.loop-at.invariant.none c.in-Some.ensures.more;
      spent = c.is_spent_by-spent.ensures;
    }

pub loop-at-preserved : goal.loop-at-preserved
loop-at-preserved c =
    let row = c.args.row.now in
    let rows = c.as_slice-rows.result.now in
    let places = c.args.still.now.places.items in
    let counts = c.loop-at.surplus in
    let was = c.args.surplus.now in
    let next = c.loop-at.at in
    let k = next - 1 in
    let is_next : next ≡ k + 1 = omega (arith, c.loop-at-test.true) in
    let lt : k < length places = omega (arith, c.loop-at-test.true, c.loop-at.invariant.within) in
    let place : place_at places k ≡ c.index.result.now = get_or_default places k (place_in 0 0) c.index.result.now lt ∙ sym c.index.ensures in
    let spent : starts_with nat_eq row (left_of rows (place_at places k)) ≡ true → for_left counts (left_of rows (place_at places k)) ≡ 0 = λ begins.
    ap (λ (p : Place). for_left counts (left_of rows p)) place
    ∙ c.in_default.ensures.none refl (ap (λ (p : Place). starts_with nat_eq row (left_of rows p)) (sym place) ∙ begins) in
    record {
      within = omega (arith, lt);
      agree = c.len_from.ensures.agree;
      left = λ left begins'. last_spent row counts was rows places k next left lt is_next spent begins' (c.loop-at.invariant.left left begins');
      told = λ n lt'. told_same c.loop-at.told c.args.told.now (is_last row rows places was) k next n is_next
          (not_told row counts was rows places k next lt is_next spent c.loop-at.invariant.left) (c.loop-at.invariant.told n lt');
      none = c.loop-at.invariant.none;
      spent = c.loop-at.invariant.spent;
    }

pub returns-then-spent : goal.returns-then-spent
returns-then-spent c = λ n lt.
    let row = c.args.row.now in
    let rows = c.as_slice-rows.result.now in
    let places = c.args.still.now.places.items in
    let was = c.args.surplus.now in
    let old = get_or c.args.told.now n false in
    let at = c.loop-at.at in
    let mine = c.as_slice-rows.ensures.value in
    c.loop-at.invariant.told n lt
    ∙ (elim (cases_lt n at) [
      | inl low ↦
          let fails = none_last row c.loop-at.surplus was rows places n at low c.loop-at.invariant.within (c.loop-at.invariant.spent c.if-spent.true) c.loop-at.invariant.left in
          ap (λ b. old || (b && is_last row rows places was n)) (lt-leb at n low)
          ∙ sym (ap (λ b. old || b) fails)
      | inr high ↦ ap (λ b. old || (b && is_last row rows places was n)) (le-leb at n high)
    ])
    ∙ ap (λ r. old || is_last row r places was n) mine

pub returns : goal.returns
returns c = λ n lt.
    let row = c.args.row.now in
    let places = c.args.still.now.places.items in
    let was = c.args.told.now in
    c.loop-at.invariant.told n lt
    ∙ ap (λ b. get_or was n false || (b && is_last row c.as_slice-rows.result.now places c.args.surplus.now n)) (le-leb c.loop-at.at n (omega (arith, c.loop-at-test.false)))
    ∙ ap (λ rows. get_or was n false || is_last row rows places c.args.surplus.now n) c.as_slice-rows.ensures.value
