-- Rows that lag behind others.
use Rattle.std.proofs.Common.{◌≡◌, ℕ, ◌+◌, ◌-◌, ◌<◌, ◌≤◌, true, List, [], ◌∷◌, ◌++◌, append_assoc, append-nil, drop, length, nat_le, take, ap, ap₂, subst, sym, ◌∙◌, arith}
use Rattle.std.proofs.lemmas.Bool.{leb-true}
use Rattle.std.proofs.lemmas.List.{drop-append-le, drop-drop, drop_all, get_or-drop, get_or_append_left, get_or_past, length-append, length-drop, length-take, take-append-le, take_all, take_more}
use Rattle.standings.specs.Lag.{Lags}
use Rattle.standings.specs.Moved.{moved_up, spaces_row, turned}
use Rattle.standings.specs.Rows.{Row, empty_row, row_below}
use Rattle.standings.specs.Spans.{Stays, span_of}
use Rattle.standings.specs.declared.lag.Lag.{Lag}
use Rattle.standings.specs.declared.span.Span.{Span}
use Rattle.standings.proofs.RowLemmas.{rows_at}
use Rattle.standings.proofs.SpanLemmas.{stays_none}

-- ---- rows that were turned

pub turned_none : (moved : ℕ) (rows : List Row) → moved ≡ 0 → turned moved rows ≡ rows
turned_none moved rows none = ap (λ n. turned n rows) none ∙ append-nil rows

pub turned_all : (count : ℕ) (rows : List Row) → length rows ≤ count → turned count rows ≡ rows
turned_all count rows past = ap₂ (λ a b. a ++ b) (drop_all count rows past) (take_all count rows past)

pub turned_long : (count : ℕ) (rows : List Row) → length (turned count rows) ≡ length rows
turned_long count rows = omega (arith, length-append (drop count rows) (take count rows), length-drop count rows, length-take count rows)

pub moved_long : (columns : ℕ) (rows : List Row) → 0 < length rows → length (moved_up columns rows) ≡ length rows
moved_long columns rows some = omega (arith, length-append (drop 1 rows) (spaces_row columns ∷ []), length-drop 1 rows)

-- by one more
turned_more : (count : ℕ) (rows : List Row) → count < length rows → turned (count + 1) rows ≡ turned 1 (turned count rows)
turned_more count rows lt =
    let left = drop count rows in
    let first = take count rows in
    let one = row_below rows count ∷ [] in
    let some : 1 ≤ length left = omega (arith, length-drop count rows) in
    ap₂ (λ a b. a ++ b) (sym (drop-drop 1 count rows)) (take_more rows count empty_row lt)
    ∙ sym (append_assoc (drop 1 left) first one)
    ∙ ap₂ (λ a b. a ++ b) (sym (drop-append-le 1 left first some)) (sym (take-append-le 1 left first some ∙ ap (take 1) (rows_at rows count lt)))

-- the row that was the next one
turned_below : (rows others : List Row) (k : ℕ) → k + 1 < length rows → row_below (drop 1 rows ++ others) k ≡ row_below rows (1 + k)
turned_below rows others k lt =
    get_or_append_left (drop 1 rows) others empty_row k (omega (arith, length-drop 1 rows)) ∙ get_or-drop 1 rows k empty_row

-- a row behind those that were turned
pub turned_front : (moved : ℕ) (rows : List Row) (k : ℕ) → moved ≤ k → k < length rows → row_below (turned moved rows) (k - moved) ≡ row_below rows k
turned_front moved rows k low lt =
    let behind : moved + (k - moved) ≡ k = omega arith in
    get_or_append_left (drop moved rows) (take moved rows) empty_row (k - moved) (omega (arith, length-drop moved rows))
    ∙ get_or-drop moved rows (k - moved) empty_row ∙ ap (row_below rows) behind

-- ---- rows that lag

-- all may differ
pub all_differ : (count : ℕ) (one other : List Row) → length one ≡ count → length other ≡ count → Stays (span_of 0 count) one other
all_differ count one other many many' = record {
  count = many' ∙ sym many;
  above = λ k lt. absurd (omega (arith, lt));
  below = λ k ge. get_or_past other k empty_row (omega (arith, ge)) ∙ sym (get_or_past one k empty_row (omega (arith, ge)));
}

-- all others are the same as one row further up
up_from : (columns last from : ℕ) (one other : List Row) → length other ≡ last + 1 → length other ≡ length one → from ≤ last
    → ((k : ℕ) → k < from → row_below other (1 + k) ≡ row_below one (1 + k)) → Stays (span_of from (last + 1)) (turned 1 one) (moved_up columns other)
up_from columns last from one other many count low same =
    let long : length (moved_up columns other) ≡ last + 1 = omega (arith, moved_long columns other (omega arith)) in
    let long' : length (turned 1 one) ≡ last + 1 = omega (arith, turned_long 1 one) in
    record {
      count = long ∙ sym long';
      above = λ k lt.
          turned_below other (spaces_row columns ∷ []) k (omega (arith, lt)) ∙ same k lt ∙ sym (turned_below one (take 1 one) k (omega (arith, lt)));
      below = λ k ge.
          get_or_past (moved_up columns other) k empty_row (omega (arith, ge)) ∙ sym (get_or_past (turned 1 one) k empty_row (omega (arith, ge)));
    }

-- where no row differed, only the one that came in does
pub up_none : (span : Span) (columns last : ℕ) (one other : List Row) → nat_le span.to span.from ≡ true → length other ≡ last + 1 → Stays span one other
    → Stays (span_of last (last + 1)) (turned 1 one) (moved_up columns other)
up_none span columns last one other none many stays =
    let same = stays_none span one other (leb-true span.to span.from none) stays in
    up_from columns last last one other many stays.count (omega arith) (λ k _. ap (λ rows. row_below rows (1 + k)) same)

-- else those, a row further up, and that one
pub up_some : (span : Span) (columns last from : ℕ) (one other : List Row) → from ≤ last → from ≤ span.from - 1 → length other ≡ last + 1 → Stays span one other
    → Stays (span_of from (last + 1)) (turned 1 one) (moved_up columns other)
up_some span columns last from one other low up many stays =
    up_from columns last from one other many stays.count low (λ k lt. stays.above (1 + k) (omega (arith, lt)))

-- so do rows that moved by one more
pub lags_more : (moved : ℕ) (span : Span) (one other : List Row) → moved < length one → Stays span (turned 1 (turned moved one)) other → Stays span (turned (moved + 1) one) other
lags_more moved span one other lt stays = subst (λ rows. Stays span rows other) (sym (turned_more moved one lt)) stays

-- where none moved
pub lags_still : (lag : Lag) (one other : List Row) → lag.moved ≡ 0 → Lags lag one other → Stays lag.span one other
lags_still lag one other still lags = subst (λ rows. Stays lag.span rows other) (turned_none lag.moved one still) lags
