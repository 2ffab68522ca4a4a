use Rattle.std.proofs.Common.{◌≡◌, ℕ, ◌<◌, ◌≤◌, ◌-◌, ◌++◌, ◌∙◌, ap, ap₂, append_assoc, arith, drop, length, subst, sym, take}
use Rattle.std.proofs.lemmas.List.{drop_at, take_at}
use Rattle.std.proofs.lemmas.Result.{on_ok_weaker}
use Rattle.standings.specs.Near.{IsOrdered}
use Rattle.standings.specs.Spans.{places_along}
use Rattle.standings.specs.Standing.{place_at}
use Rattle.standings.proofs.PlaceLemmas.{again, late_both, late_second, standing_ordered}
use Rattle.standings.proofs.place.look_between.Goals as goal

pub returns-clause-looked : goal.returns-clause-looked
returns-clause-looked c = λ before stays was.
    let text = c.args.text.now in
    let rows = c.args.rows.now in
    let places = c.args.places.now.items in
    let end = c.min-end.result in
    let start = c.min-start.result in
    let order : start ≤ end = omega (arith, c.min-start.ensures) in
    let high : end ≤ length rows = omega (arith, c.min-end.ensures) in
    let is = again text c.args.span before rows start end c.reach_start.result stays c.reach_start.ensures.within c.reach_start.ensures.ends
    (omega (arith, c.min-start.ensures)) order high (λ short. omega (arith, short, c.min-end.ensures)) in
    let view = c.as_slice.ensures.value in
    let view' = c.as_slice-2.ensures.value in
    let ordered = standing_ordered text before places was in
    let late = subst (λ l. (k : ℕ) → c.count_up_to-behind.result ≤ k → k < length l → end ≤ (place_at l k).above) view
    (λ k low lt. c.count_up_to-behind.ensures.late (subst IsOrdered (sym view) ordered) k low (omega (arith, lt, ap length view, c.len.ensures, c.args.places.now.ok.0))) in
    let within : c.count_up_to-behind.result ≤ length places = omega (arith, c.count_up_to-behind.ensures.within, c.len.ensures, c.args.places.now.ok.0) in
    let second = late_second text before rows start end c.count_up_to-behind.result places is order high was within
    (subst (λ l. 0 < c.count_up_to-behind.result → (place_at l (c.count_up_to-behind.result - 1)).above < end) view c.count_up_to-behind.ensures.early) late in
    let first = late_both text before rows start end c.count_up_to-kept.result c.count_up_to-behind.result places is order high was within late c.count_up_to-kept.ensures.within
    (subst (λ l. 0 < c.count_up_to-kept.result → (place_at l (c.count_up_to-kept.result - 1)).above < start) view' c.count_up_to-kept.ensures.early)
    (subst (λ l. (k : ℕ) → c.count_up_to-kept.result ≤ k → k < c.count_up_to-behind.result → start ≤ (place_at l k).above) view' (c.count_up_to-kept.ensures.late (subst IsOrdered (sym view') ordered))) in
    let split : places ≡ is.front ++ (is.was ++ is.rest) = was ∙ is.before in
    let front : take c.count_up_to-kept.result places ≡ is.front = ap (take c.count_up_to-kept.result) split ∙ take_at is.front (is.was ++ is.rest) c.count_up_to-kept.result (sym first) in
    let other : places ≡ (is.front ++ is.was) ++ is.rest = split ∙ sym (append_assoc is.front is.was is.rest) in
    let rest : drop c.count_up_to-behind.result places ≡ is.rest =
    ap (drop c.count_up_to-behind.result) other ∙ drop_at (is.front ++ is.was) is.rest c.count_up_to-behind.result (sym second) in
    on_ok_weaker c.renew.result (λ placed.
    placed ∙ ap₂ (λ a b. a ++ (places_along text rows start (end - start) ++ b)) front rest ∙ sym is.after) c.renew.ensures.items
