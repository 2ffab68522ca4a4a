use Rattle.std.proofs.Common.{◌≡◌, ℕ, ◌<◌, ◌≤◌, ◌++◌, ◌∙◌, ap, arith, drop, false, get_or, inl, inr, length, subst, sym, take}
use Rattle.std.proofs.lemmas.Bool.{cases_lt}
use Rattle.std.proofs.lemmas.List.{take_at}
use Rattle.standings.specs.Less.{is_away}
use Rattle.standings.specs.Rows.{row_below}
use Rattle.standings.specs.Standing.{left_of, place_at}
use Rattle.standings.proofs.LessLemmas.{all_told}
use Rattle.standings.proofs.less.tell.Goals as goal

pub loop-at-preserved : goal.loop-at-preserved
loop-at-preserved c =
    let one = c.args.one.now in
    let other = c.args.other.now in
    let places = one.places.items in
    let alone = c.args.alone.now in
    let at = c.loop-at.at in
    let end = c.row_end-end.result in
    let was = c.loop-at.told.items in
    let told = c.tell_row.new.told in
    let now = take c.loop-at.told.len (told ++ drop (length told) was) in
    let many : length told ≡ c.loop-at.told.len = omega (arith, c.tell_row.auto.told, c.as_mut_slice.ensures.len) in
    let back : now ≡ told = take_at told (drop (length told) was) c.loop-at.told.len many in
    let mine = c.as_slice.ensures.value in
    let above : (k : ℕ) → at ≤ k → k < end → (place_at alone.one.items k).above ≡ (place_at alone.one.items at).above =
    subst (λ l. (k : ℕ) → at ≤ k → k < end → (place_at l k).above ≡ (place_at l at).above) mine c.row_end-end.ensures.same in
    let old : (n : ℕ) → get_or was n false ≡ get_or c.as_mut_slice.result.now n false = λ n. ap (λ l. get_or l n false) (sym c.as_mut_slice.ensures.value) in
    let new : (n : ℕ) → get_or now n false ≡ get_or told n false = λ n. ap (λ l. get_or l n false) back in
    record {
      within = omega (arith, c.row_end-end.ensures.within, ap length mine);
      len = ap length back ∙ omega (arith, many, c.loop-at.invariant.len, c.loop-at.told.ok.0);
      right = λ pairs n lt holds. c.in_ok-tell_row.ensures.right pairs n lt (λ held. c.loop-at.invariant.right pairs n lt (old n ∙ held)) (sym (new n) ∙ holds);
      whole = λ pairs n m lt low same wanted. new n ∙ elim (cases_lt m at) [
        | inl before ↦ c.in_ok-tell_row.ensures.kept n lt (sym (old n) ∙ c.loop-at.invariant.whole pairs n m lt before same wanted)
        | inr high ↦ c.in_ok-tell_row.ensures.whole pairs n (place_at alone.one.items m).before lt
            (same ∙ ap (λ k. take (place_at alone.one.items m).before (row_below one.rows.items k).characters) (above m high low))
            (λ least all. all m high low) wanted
      ];
    }

pub returns-clause-told : goal.returns-clause-told
returns-clause-told c = λ pairs n lt.
    let one = c.args.one.now in
    let other = c.args.other.now in
    let alone = c.args.alone.now in
    all_told one.rows.items other.rows.items one.places.items other.places.items alone.one.items alone.other.items (get_or c.loop-at.told.items n false)
    (is_away c.args.ends (left_of one.rows.items (place_at one.places.items n))) n lt
    pairs (c.loop-at.invariant.right pairs n lt) (λ m lt'. c.loop-at.invariant.whole pairs n m lt (omega (arith, lt', c.loop-at-test.false, c.len-in-loop-at.ensures, alone.one.ok.0)))
