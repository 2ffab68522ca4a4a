use Rattle.std.proofs.Common.{◌≡◌, ℕ, ◌+◌, ◌-◌, ◌<◌, ◌≤◌, ap, arith, length, subst, sym, true}
use Rattle.standings.specs.Near.{IsOrdered}
use Rattle.standings.specs.Rows.{row_below}
use Rattle.standings.specs.Spans.{characters_in}
use Rattle.standings.specs.Standing.{place_at}
use Rattle.standings.proofs.CutLemmas.{cut_pairs}
use Rattle.standings.proofs.PairLemmas.{pair_all}
use Rattle.standings.proofs.PlaceLemmas.{standing_ordered}
use Rattle.standings.proofs.alone.Cut.of.Goals as goal

pub returns-then-all-least-clause-others : goal.returns-then-all-least-clause-others
returns-then-all-least-clause-others c = λ text many was came lags.
    let one = c.args.one.now in
    let other = c.args.other.now in
    pair_all one.rows.items other.rows.items one.places.items other.places.items c.len-count.result c.len-all.result
    (omega (arith, c.len-count.ensures, one.places.ok.0)) (omega (arith, c.len-all.ensures, other.places.ok.0))

pub returns-clause-others : goal.returns-clause-others
returns-clause-others c = λ text many was came lags.
    let one = c.args.one.now in
    let other = c.args.other.now in
    let lag = c.args.lag in
    let reach = c.reach_start.result in
    let start = c.min-start.result in
    let end = c.min-end.result in
    let to = c.count_up_to-behind.result in
    let from = c.count_up_to-from.result in
    let rows = c.as_slice-rows.ensures.value in
    let places = c.as_slice-places.ensures.value in
    let ordered = subst IsOrdered (sym places) (standing_ordered text one.rows.items one.places.items was) in
    let ends = subst (λ r. 0 < reach → (row_below r (reach - 1)).runs_on ≡ true → c.args.len ≤ characters_in r reach (lag.span.from - reach) + 1) rows c.reach_start.ensures.ends in
    cut_pairs text lag one.rows.items other.rows.items one.places.items other.places.items reach start end from to (c.len-all.result - (c.len-count.result - to))
    c.requires was came lags c.reach_start.ensures.within (λ some runs. omega (arith, many, ends some runs))
    c.min-start.ensures (omega (arith, c.min-end.ensures, ap length rows))
    (omega (arith, c.count_up_to-behind.ensures.within, c.len-count.ensures, one.places.ok.0))
    (subst (λ l. 0 < to → (place_at l (to - 1)).above < end) places c.count_up_to-behind.ensures.early)
    (subst (λ l. (k : ℕ) → to ≤ k → k < length l → end ≤ (place_at l k).above) places (λ k low lt. c.count_up_to-behind.ensures.late ordered k low (omega (arith, lt, ap length places, c.len-count.ensures, one.places.ok.0))))
    c.count_up_to-from.ensures.within
    (subst (λ l. 0 < from → (place_at l (from - 1)).above < start) places c.count_up_to-from.ensures.early)
    (subst (λ l. (k : ℕ) → from ≤ k → k < to → start ≤ (place_at l k).above) places (c.count_up_to-from.ensures.late ordered))
    (omega (arith, c.len-count.ensures, one.places.ok.0, c.len-all.ensures, other.places.ok.0))
