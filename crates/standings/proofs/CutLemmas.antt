-- Places of two screens that are the same on both, since only some rows differ.
use Rattle.std.proofs.Common.{◌≡◌, ℕ, suc, ◌+◌, ◌-◌, ◌<◌, ◌≤◌, true, List, [], ◌∷◌, ◌++◌, cond, drop, length, map, min, nat_eq, take, refl, ap, ap₂, subst, sym, ◌∙◌, arith}
use Rattle.std.specs.Cmp.Lexicographic.{pointwise}
use Rattle.std.proofs.lemmas.List.{drop-drop, drop_at, get_or-drop, get_or-map, get_or-take, get_or_append_left, get_or_past, length-append, length-drop, length-take, take-map, take_at}
use Rattle.std.proofs.lemmas.List.Sums.{sum_by-cons}
use Rattle.standings.specs.Lag.{Lags}
use Rattle.standings.specs.Less.{PairOff}
use Rattle.standings.specs.Moved.{turned}
use Rattle.standings.specs.Rows.{Row, empty_row, row_below}
use Rattle.standings.specs.Spans.{Stays, characters_in, places_along, span_of}
use Rattle.standings.specs.Standing.{count_left, left_of, place_at, place_in, places_from, standing}
use Rattle.standings.specs.declared.lag.Lag.{Lag}
use Rattle.standings.specs.declared.place.Place.{Place}
use Rattle.standings.proofs.CountLemmas.{count_on, count_rest}
use Rattle.standings.proofs.LagLemmas.{lags_still, turned_long}
use Rattle.standings.proofs.MovedLemmas.{below_first, blank_count, blank_rows, lifted, standing_above, up_from}
use Rattle.standings.proofs.PairLemmas.{pair_parts}
use Rattle.standings.proofs.PlaceLemmas.{again, along_within, count_late, from_along, late_both, late_second, within_both, within_more}

-- all but those from one up to and without another pair off, where these are those in rows that may differ
pub cut_pairs : (text : List ℕ) (lag : Lag) (one other : List Row) (places others : List Place) (reach start end from to there : ℕ)
    → lag.moved ≡ 0 → places ≡ standing text one → others ≡ standing text other → Lags lag one other
    → reach ≤ lag.span.from → (0 < reach → (row_below other (reach - 1)).runs_on ≡ true → length text ≤ characters_in other reach (lag.span.from - reach) + 1)
    → start ≡ min reach end → end ≡ min lag.span.to (length other)
    → to ≤ length places → (0 < to → (place_at places (to - 1)).above < end) → ((k : ℕ) → to ≤ k → k < length places → end ≤ (place_at places k).above)
    → from ≤ to → (0 < from → (place_at places (from - 1)).above < start) → ((k : ℕ) → from ≤ k → k < to → start ≤ (place_at places k).above)
    → there ≡ length others - (length places - to)
    → PairOff one places other others (take (to - from) (drop from places)) (take (there - from) (drop from others))
cut_pairs text lag one other places others reach start end from to there still was came lags low ends is_start is_end within early late order early' late' is_there =
    let stays = lags_still lag one other still lags in
    let below : start ≤ end = omega (arith, is_start) in
    let high : end ≤ length other = omega (arith, is_end) in
    let is = again text lag.span one other start end reach stays low ends (omega (arith, is_start)) below high (λ short. omega (arith, short, is_end)) in
    let second = late_second text one other start end to places is below high was within early late in
    let first = late_both text one other start end from to places is below high was within late order early' late' in
    let split = was ∙ is.before in
    let split' = came ∙ is.after in
    let along = places_along text other start (end - start) in
    let count : length places ≡ length is.front + (length is.was + length is.rest) =
    ap length split ∙ omega (arith, length-append is.front (is.was ++ is.rest), length-append is.was is.rest) in
    let count' : length others ≡ length is.front + (length along + length is.rest) =
    ap length split' ∙ omega (arith, length-append is.front (along ++ is.rest), length-append along is.rest) in
    let both = length-append is.front is.was in
    let middle : take (to - from) (drop from places) ≡ is.was =
    ap (λ l. take (to - from) (drop from l)) split ∙ ap (take (to - from)) (drop_at is.front (is.was ++ is.rest) from (sym first))
    ∙ take_at is.was is.rest (to - from) (omega (arith, first, second, both)) in
    let middle' : take (there - from) (drop from others) ≡ along =
    ap (λ l. take (there - from) (drop from l)) split' ∙ ap (take (there - from)) (drop_at is.front (along ++ is.rest) from (sym first))
    ∙ take_at along is.rest (there - from) (omega (arith, first, second, both, count, count', is_there)) in
    let pairs = pair_parts one other places others is.front is.was along is.rest split split'
    (λ j lt. stays.above (place_at is.front j).above (omega (arith, is.front_rows.to j lt, is_start, low)))
    (λ j lt. stays.below (place_at is.rest j).above (omega (arith, is.rest_rows.from j lt, is.rest_rows.to j lt, is_end))) in
    subst (λ l. PairOff one places other others l (take (there - from) (drop from others))) (sym middle) (subst (PairOff one places other others is.was) (sym middle') pairs)

-- ---- where rows moved

-- places have the same to the left so many rows further up, where the rows there are theirs
count_lifted : (one other : List Row) (n : ℕ) (places : List Place) (left : List ℕ)
    → ((j : ℕ) → j < length places → row_below other ((place_at places j).above - n) ≡ row_below one (place_at places j).above)
    → count_left other (map (lifted n) places) left ≡ count_left one places left
count_lifted one other n [] left same = refl
count_lifted one other n (place ∷ places) left same =
    let has = λ (all : List Row) (p : Place). cond {A = ℕ} (pointwise nat_eq (left_of all p) left) 1 0 in
    let here : left_of other (lifted n place) ≡ left_of one place = ap (λ (r : Row). take place.before r.characters) (same 0 (omega arith)) in
    sum_by-cons (has other) (lifted n place) (map (lifted n) places)
    ∙ ap₂ (λ a b. a + b) (ap {B = ℕ} (λ l. cond {A = ℕ} (pointwise nat_eq l left) 1 0) here)
    (count_lifted one other n places left (λ j lt. same (suc j) (omega (arith, lt))))
    ∙ sym (sum_by-cons (has one) place places)

-- those in the rows that come next are the first ones, as far as the text goes on in none that may differ
moved_same : (text : List ℕ) (lag : Lag) (one other : List Row) (places others : List Place) (from start gone count : ℕ) (left : List ℕ)
    → places ≡ standing text one → others ≡ standing text other → Lags lag one other → lag.moved ≤ length other
    → from ≡ min lag.span.from (length other - lag.moved)
    → start ≤ from → (0 < start → (row_below other (start - 1)).runs_on ≡ true → length text ≤ characters_in other start (from - start) + 1)
    → gone ≤ length places → ((k : ℕ) → k < gone → (place_at places k).above < lag.moved) → (gone < length places → lag.moved ≤ (place_at places gone).above)
    → count ≤ length others → (0 < count → (place_at others (count - 1)).above < start) → ((k : ℕ) → count ≤ k → k < length others → start ≤ (place_at others k).above)
    → count_left other (take count others) left ≡ count_left one (take count (drop gone places)) left
moved_same text lag one other places others from start gone count left was came lags few is_from low ends within below above within' early late =
    let m = lag.moved in
    let n = length other in
    let turns : Stays lag.span (turned m one) other = lags in
    let long : length one ≡ n = omega (arith, turns.count, turned_long m one) in
    let next = drop m one in
    let many : length next ≡ n - m = omega (arith, length-drop m one, long) in
    let row : (k : ℕ) → k < from → row_below other k ≡ row_below next k = λ k lt.
    turns.above k (omega (arith, lt, is_from)) ∙ get_or_append_left next (take m one) empty_row k (omega (arith, lt, is_from, many)) in
    let padded = next ++ blank_rows m in
    let size : length padded ≡ n = omega (arith, length-append next (blank_rows m), blank_count m, many, few) in
    let stays : Stays (span_of from n) padded other = record {
      count = sym size;
      above = λ k lt. row k lt ∙ sym (get_or_append_left next (blank_rows m) empty_row k (omega (arith, lt, is_from, many)));
      below = λ k ge. get_or_past other k empty_row ge ∙ sym (get_or_past padded k empty_row (omega (arith, ge, size)));
    } in
    let inside : start ≤ n = omega (arith, low, is_from) in
    let is = again text (span_of from n) padded other start n start stays low ends (omega arith) inside (omega arith) (λ short. refl) in
    let along = places_along text other start (n - start) in
    let cut : others ≡ is.front ++ (along ++ is.rest) = came ∙ is.after in
    let number : count ≡ length is.front =
    count_late is.front (along ++ is.rest) start count 0 n is.front_rows
    (within_both along is.rest start n
    (within_more along start (start + (n - start)) start n (omega arith) (omega (arith, inside)) (along_within text other (n - start) start))
    (within_more is.rest n n start n inside (omega arith) is.rest_rows))
    (subst (λ l. count ≤ length l) cut within') (subst (λ l. 0 < count → (place_at l (count - 1)).above < start) cut early)
    (subst (λ l. (k : ℕ) → count ≤ k → k < length l → start ≤ (place_at l k).above) cut late) in
    let front : take count others ≡ is.front = ap (take count) cut ∙ take_at is.front (along ++ is.rest) count (sym number) in
    let rest = drop gone places in
    let middle = take count rest in
    let down : rest ≡ places_from text m next = below_first text one places m gone (omega (arith, few, long)) was within below above in
    let first : 0 + m ≡ m = omega arith in
    let lifts : standing text padded ≡ map (lifted m) rest =
    standing_above text next m ∙ sym (up_from m text next 0) ∙ ap (λ k. map (lifted m) (places_from text k next)) first ∙ ap (map (lifted m)) (sym down) in
    let same : is.front ≡ map (lifted m) middle =
    sym (take_at is.front (is.was ++ is.rest) count (sym number)) ∙ ap (take count) (sym is.before ∙ lifts) ∙ take-map (lifted m) count rest in
    let tail : rest ≡ places_along text one m (n - m) = down ∙ from_along text one (n - m) m (omega (arith, few, long)) in
    let rows : (j : ℕ) → j < length middle → row_below other ((place_at middle j).above - m) ≡ row_below one (place_at middle j).above = λ j lt.
    let short : j < count = omega (arith, lt, length-take count rest) in
    let known : j < length rest = omega (arith, lt, length-take count rest) in
    let there : place_at is.front j ≡ lifted m (place_at middle j) = ap (λ l. place_at l j) same ∙ get_or-map (lifted m) middle j (place_in 0 0) (place_in 0 0) lt in
    let high : (place_at middle j).above - m < start = subst (λ (p : Place). p.above < start) there (is.front_rows.to j (omega (arith, short, number))) in
    let deep : m ≤ (place_at middle j).above =
    subst (λ (p : Place). m ≤ p.above) (ap (λ l. place_at l j) (sym tail) ∙ sym (get_or-take count rest j (place_in 0 0) short))
    ((along_within text one (n - m) m).from j (omega (arith, known, ap length tail))) in
    let back : m + ((place_at middle j).above - m) ≡ (place_at middle j).above = omega (arith, deep) in
    row ((place_at middle j).above - m) (omega (arith, high, low)) ∙ get_or-drop m one ((place_at middle j).above - m) empty_row ∙ ap (row_below one) back in
    ap (λ l. count_left other l left) (front ∙ same) ∙ count_lifted one other m middle left rows

-- so those pair off, and the first rows stand alone
pub moved_pairs : (text : List ℕ) (lag : Lag) (one other : List Row) (places others alone alones : List Place) (from start gone count : ℕ)
    → places ≡ standing text one → others ≡ standing text other → Lags lag one other → lag.moved ≤ length other
    → from ≡ min lag.span.from (length other - lag.moved)
    → start ≤ from → (0 < start → (row_below other (start - 1)).runs_on ≡ true → length text ≤ characters_in other start (from - start) + 1)
    → gone ≤ length places → ((k : ℕ) → k < gone → (place_at places k).above < lag.moved) → (gone < length places → lag.moved ≤ (place_at places gone).above)
    → count ≤ length others → (0 < count → (place_at others (count - 1)).above < start) → ((k : ℕ) → count ≤ k → k < length others → start ≤ (place_at others k).above)
    → PairOff one (drop (gone + count) places) other (drop count others) alone alones
    → PairOff one places other others (alone ++ take gone places) alones
moved_pairs text lag one other places others alone alones from start gone count was came lags few is_from low ends within below above within' early late pairs = λ left.
    omega (
      arith,
      count_rest one places gone left,
      count_rest one (drop gone places) count left,
      ap (λ l. count_left one l left) (drop-drop count gone places),
      count_rest other others count left,
      count_on one alone (take gone places) left,
      moved_same text lag one other places others from start gone count left was came lags few is_from low ends within below above within' early late,
      pairs left,
    )
