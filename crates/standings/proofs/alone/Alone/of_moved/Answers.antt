use Rattle.std.proofs.Common.{◌≡◌, ℕ, ◌+◌, ◌-◌, ◌<◌, ◌≤◌, ◌++◌, ◌∙◌, true, ap, ap₂, arith, drop, length, subst, sym, take}
use Rattle.std.proofs.lemmas.List.{take_rest}
use Rattle.std.proofs.lemmas.Result.{IfOk-weaker}
use Rattle.standings.specs.Lag.{Lags}
use Rattle.standings.specs.Less.{PairOff}
use Rattle.standings.specs.Near.{IsOrdered}
use Rattle.standings.specs.Rows.{row_below}
use Rattle.standings.specs.Spans.{characters_in}
use Rattle.standings.specs.Standing.{count_left, place_at}
use Rattle.standings.specs.declared.alone.Alone.{Alone}
use Rattle.standings.proofs.CutLemmas.{moved_pairs}
use Rattle.standings.proofs.PlaceLemmas.{standing_ordered}
use Rattle.standings.proofs.alone.Alone.of_moved.Goals as goal

pub returns-then-lag-rows : goal.returns-then-lag-rows
returns-then-lag-rows c = λ text many was came lags.
    let one = c.args.one.now in
    let other = c.args.other.now in
    let here = c.as_slice-here.ensures.value in
    let places = c.as_slice-places.ensures.value in
    let rows = c.as_slice-rows.ensures.value in
    let others = c.as_slice-others.ensures.value in
    IfOk-weaker c.between.result
    (λ (alone : Alone). PairOff c.as_slice-here.result.now c.as_slice-places.result.now c.as_slice-rows.result.now c.as_slice-others.result.now alone.one.items alone.other.items)
    (λ (alone : Alone). PairOff one.rows.items one.places.items other.rows.items other.places.items alone.one.items alone.other.items)
    (λ alone within. λ left. omega (
      arith,
      within left,
      ap₂ (λ r l. count_left r l left) here places,
      ap₂ (λ r l. count_left r l left) rows others,
      ap (λ r. count_left r alone.one.items left) here,
      ap (λ r. count_left r alone.other.items left) rows,
    ))
    (c.between.ensures (subst (λ r. Lags c.args.lag r c.as_slice-rows.result.now) (sym here) (subst (Lags c.args.lag one.rows.items) (sym rows) lags)))

pub returns : goal.returns
returns c = λ text many was came lags.
    let one = c.args.one.now in
    let other = c.args.other.now in
    let lag = c.args.lag in
    let here = c.as_slice-here.ensures.value in
    let places = c.as_slice-places.ensures.value in
    let rows = c.as_slice-rows.ensures.value in
    let others = c.as_slice-others.ensures.value in
    let from = c.min-from.result in
    let start = c.reach_start-start.result in
    let count = c.count_up_to-count.result in
    let gone = c.count_above-gone.result in
    let alone = c.in_ok-alone.alone in
    let went : c.extend_from_slice.new.self.items ≡ alone.one.items ++ take gone c.as_slice-places.result.now = c.in_ok-extend_from_slice.ensures.items in
    let lagging = subst (λ r. Lags lag r c.as_slice-rows.result.now) (sym here) (subst (Lags lag one.rows.items) (sym rows) lags) in
    let within : PairOff one.rows.items (drop (gone + count) one.places.items) other.rows.items (drop count other.places.items) alone.one.items alone.other.items = λ left. omega (
      arith,
      c.in_ok-alone.ensures lagging left,
      ap (λ l. count_left c.as_slice-here.result.now l left) (take_rest c.as_slice-places.result.now (gone + count)),
      ap (λ l. count_left c.as_slice-rows.result.now l left) (take_rest c.as_slice-others.result.now count),
      ap₂ (λ r l. count_left r (drop (gone + count) l) left) here places,
      ap₂ (λ r l. count_left r (drop count l) left) rows others,
      ap (λ r. count_left r alone.one.items left) here,
      ap (λ r. count_left r alone.other.items left) rows,
    ) in
    let ends = subst (λ r. 0 < start → (row_below r (start - 1)).runs_on ≡ true → c.args.len ≤ characters_in r start (from - start) + 1) rows c.reach_start-start.ensures.ends in
    subst (λ l. PairOff one.rows.items one.places.items other.rows.items other.places.items l alone.other.items) (sym (went
    ∙ ap (λ l. alone.one.items ++ take gone l) places))
    (moved_pairs text lag one.rows.items other.rows.items one.places.items other.places.items alone.one.items alone.other.items from start gone count
    was came lags (omega (arith, c.if-lag-rows.false, ap length rows)) (omega (arith, c.min-from.ensures, c.saturating_sub.ensures, ap length rows))
    c.reach_start-start.ensures.within (λ some runs. omega (arith, many, ends some runs))
    (omega (arith, c.count_above-gone.ensures.within, ap length places))
    (subst (λ l. (k : ℕ) → k < gone → (place_at l k).above < lag.moved) places c.count_above-gone.ensures.below)
    (subst (λ l. gone < length l → lag.moved ≤ (place_at l gone).above) places c.count_above-gone.ensures.ends)
    (omega (arith, c.count_up_to-count.ensures.within, ap length others))
    (subst (λ l. 0 < count → (place_at l (count - 1)).above < start) others c.count_up_to-count.ensures.early)
    (subst (λ l. (k : ℕ) → count ≤ k → k < length l → start ≤ (place_at l k).above) others (c.count_up_to-count.ensures.late (subst IsOrdered (sym others) (standing_ordered text other.rows.items other.places.items came))))
    within)
