-- Rows between two margins that move up or down, and back.
use Rattle.std.proofs.Common.{◌≡◌, ℕ, ◌+◌, ◌-◌, ◌<◌, ◌≤◌, Bool, true, false, not, List, [], ◌∷◌, ◌++◌, append_assoc, drop, length, take, ap, ap₂, sym, ◌∙◌, arith, cond}
use Rattle.std.proofs.lemmas.List.{drop-drop, drop_at, get_or-drop, get_or-take, length-append, length-drop, length-take, take-append-drop, take_at, take_more}
use Rattle.standings.specs.Moved.{shifted_down, shifted_up}
use Rattle.standings.specs.Rows.{Row, empty_row, row_below}
use Rattle.standings.proofs.RowLemmas.{rows_at}

-- the rows above, between and below
in_three : (from to : ℕ) (rows : List Row) → from ≤ to → take from rows ++ (take (to - from) (drop from rows) ++ drop to rows) ≡ rows
in_three from to rows order =
    let from_there : from + (to - from) ≡ to = omega arith in
    ap (λ l. take from rows ++ (take (to - from) (drop from rows) ++ l)) (ap (λ n. drop n rows) (sym from_there) ∙ sym (drop-drop (to - from) from rows))
    ∙ ap (λ l. take from rows ++ l) (take-append-drop (to - from) (drop from rows)) ∙ take-append-drop from rows

module _ (from to : ℕ) (rows : List Row) (row : Row) (some : from < to) (within : to ≤ length rows) where
  abbrev front : List Row
  front = take from rows

  abbrev part : List Row
  part = take (to - from) (drop from rows)

  abbrev rest : List Row
  rest = drop to rows

  front_long : length front ≡ from
  front_long = omega (arith, length-take from rows)

  part_long : length part ≡ to - from
  part_long = omega (arith, length-take (to - from) (drop from rows), length-drop from rows)

  part_first : part ≡ row_below rows from ∷ drop 1 part
  part_first =
      let here : from + 0 ≡ from = omega arith in
      rows_at part 0 (omega (arith, part_long))
      ∙ ap (λ r. r ∷ drop 1 part) (get_or-take (to - from) (drop from rows) 0 empty_row (omega arith) ∙ get_or-drop from rows 0 empty_row ∙ ap (row_below rows) here)

  part_last : part ≡ take (to - from - 1) (drop from rows) ++ row_below rows (to - 1) ∷ []
  part_last =
      let all : to - from ≡ to - from - 1 + 1 = omega arith in
      let there : from + (to - from - 1) ≡ to - 1 = omega arith in
      ap (λ n. take n (drop from rows)) all ∙ take_more (drop from rows) (to - from - 1) empty_row (omega (arith, length-drop from rows))
      ∙ ap (λ r. take (to - from - 1) (drop from rows) ++ r ∷ []) (get_or-drop from rows (to - from - 1) empty_row ∙ ap (row_below rows) there)

  pub up_back : shifted_down from to (row_below rows from) (shifted_up from to row rows) ≡ rows
  up_back =
      let middle = drop 1 part in
      let new = front ++ (middle ++ row ∷ []) ++ rest in
      let long : length middle ≡ to - from - 1 = omega (arith, length-drop 1 part, part_long) in
      let split : new ≡ front ++ ((middle ++ row ∷ []) ++ rest) = append_assoc front (middle ++ row ∷ []) rest in
      let above : take from new ≡ front = ap (take from) split ∙ take_at front ((middle ++ row ∷ []) ++ rest) from front_long in
      let past : drop from new ≡ middle ++ (row ∷ [] ++ rest) =
      ap (drop from) split ∙ drop_at front ((middle ++ row ∷ []) ++ rest) from front_long ∙ append_assoc middle (row ∷ []) rest in
      let between : take (to - from - 1) (drop from new) ≡ middle = ap (take (to - from - 1)) past ∙ take_at middle (row ∷ [] ++ rest) (to - from - 1) long in
      let below : drop to new ≡ rest =
      drop_at (front ++ (middle ++ row ∷ [])) rest to (omega (arith, length-append front (middle ++ row ∷ []), length-append middle (row ∷ []), long, front_long)) in
      ap₂ (λ a b. a ++ row_below rows from ∷ b) above (ap₂ (λ a b. a ++ b) between below)
      ∙ ap (λ l. front ++ (l ++ rest)) (sym part_first) ∙ in_three from to rows (omega arith)

  pub down_back : shifted_up from to (row_below rows (to - 1)) (shifted_down from to row rows) ≡ rows
  down_back =
      let middle = take (to - from - 1) (drop from rows) in
      let new = front ++ ((row ∷ middle) ++ rest) in
      let long : length (row ∷ middle) ≡ to - from = omega (arith, length-take (to - from - 1) (drop from rows), length-drop from rows) in
      let above : take from new ≡ front = take_at front ((row ∷ middle) ++ rest) from front_long in
      let between : take (to - from) (drop from new) ≡ row ∷ middle =
      ap (take (to - from)) (drop_at front ((row ∷ middle) ++ rest) from front_long) ∙ take_at (row ∷ middle) rest (to - from) long in
      let below : drop to new ≡ rest =
      ap (drop to) (sym (append_assoc front (row ∷ middle) rest))
      ∙ drop_at (front ++ (row ∷ middle)) rest to (omega (arith, length-append front (row ∷ middle), long, front_long)) in
      ap₂ (λ a b. a ++ b) (ap₂ (λ a b. a ++ (drop 1 b ++ row_below rows (to - 1) ∷ [])) above between) below
      ∙ ap (λ l. (front ++ l) ++ rest) (sym part_last) ∙ append_assoc front part rest ∙ in_three from to rows (omega arith)

pub moved_back : (from to : ℕ) (rows one two : List Row) (row out : Row) (down : Bool) → from < to → to ≤ length rows
    → one ≡ cond down (shifted_down from to row rows) (shifted_up from to row rows) → out ≡ row_below rows (cond down (to - 1) from)
    → two ≡ cond (not down) (shifted_down from to out one) (shifted_up from to out one) → two ≡ rows
moved_back from to rows one two row out true some within there is back =
    back ∙ ap₂ (shifted_up from to) is there ∙ down_back from to rows row some within
moved_back from to rows one two row out false some within there is back =
    back ∙ ap₂ (shifted_down from to) is there ∙ up_back from to rows row some within
