-- Rows that are read where lines between two move up or down by one.
use Rattle.std.proofs.Common.{◌≡◌, ℕ, zero, suc, ◌+◌, ◌-◌, ◌<◌, ◌≤◌, if◌then◌else◌, Bool, true, false, List, [], ◌∷◌, ◌++◌, ap, append_assoc, arith, drop, inl, inr, length, refl, sym, take, ◌∙◌, nat_le}
use Rattle.std.proofs.lemmas.Bool.{cases_lt, le-leb, lt-leb}
use Rattle.std.proofs.lemmas.List.{get_or-append_right, get_or-drop, get_or-take, get_or_append_left, length-append, length-drop, length-take-le, take-take}
use Rattle.std.proofs.lemmas.List.FromFn.{length-map-range_with_len}
use Rattle.sheet.specs.Cells.{Cell, blank, is_covered}
use Rattle.sheet.specs.Grid.{blank_row, row_at, scrolled_down, scrolled_up}
use Rattle.sheet.specs.Table.{nth, table}
use Rattle.sheet.specs.declared.rendition.Colour.{Colour}
use Rattle.standings.specs.Moved.{moved_up, region_down, region_up, spaces_row}
use Rattle.standings.specs.Rows.{Row, empty_row, row_below}
use Rattle.standings.proofs.SpanLemmas.{same_rows}
use Rattle.text_find.specs.Foretold.{IsForetold}
use Rattle.text_find.specs.declared.foretold.Foretold.TheVariants.{MovesWithin}
use Rattle.text_find.specs.declared.foretold.Region.{Region}
use Rattle.xterm_rows.specs.RowText.{is_space}
use Rattle.xterm_screen.specs.Picture.{Picture, Sound}
use Rattle.xterm_term.specs.Ahead.{MovesWithin as Moving}
use Rattle.xterm_term.specs.Term.{Term, play}
use Rattle.xterm_print.specs.Pieces.{rows_after}
use Rattle.xterm_print.specs.FindRows.{heeds_next, row_read, rows_read}
use Rattle.xterm_print.proofs.FindRowLemmas.{count_read, no_row, read_alike, read_at}
use Rattle.xterm_print.proofs.MovedLemmas.{moved_last, moved_up_long, moved_next, nothing, row_in, spaces_read}

-- ---- rows between others

module _ (one two three : List Row) (a b : ℕ) (first : length one ≡ a) (second : length two ≡ b) where
  at_first : (k : ℕ) → k < a → row_below (one ++ (two ++ three)) k ≡ row_below one k
  at_first k lt = get_or_append_left one (two ++ three) empty_row k (omega (arith, first, lt))

  at_second : (k : ℕ) → a ≤ k → k < a + b → row_below (one ++ (two ++ three)) k ≡ row_below two (k - a)
  at_second k low lt =
      get_or-append_right one (two ++ three) a k empty_row first low ∙ get_or_append_left two three empty_row (k - a) (omega (arith, second, low, lt))

  at_third : (k : ℕ) → a + b ≤ k → row_below (one ++ (two ++ three)) k ≡ row_below three (k - a - b)
  at_third k low =
      get_or-append_right one (two ++ three) a k empty_row first (omega (arith, low)) ∙ get_or-append_right two three b (k - a) empty_row second (omega (arith, low))

module _ (columns from to : ℕ) (rows : List Row) (order : from < to) (high : to ≤ length rows) where
  above_long : length (take from rows) ≡ from
  above_long = length-take-le from rows (omega (arith, order, high))

  above_at : (k : ℕ) → k < from → row_below (take from rows) k ≡ row_below rows k
  above_at k lt = get_or-take from rows k empty_row lt

  part_long : (n : ℕ) → n ≤ to - from → length (take n (drop from rows)) ≡ n
  part_long n few = length-take-le n (drop from rows) (omega (arith, length-drop from rows, order, high, few))

  part_at : (n k : ℕ) → k < n → row_below (take n (drop from rows)) k ≡ row_below rows (from + k)
  part_at n k lt = get_or-take n (drop from rows) k empty_row lt ∙ get_or-drop from rows k empty_row

  beneath_at : (k : ℕ) → to ≤ k → row_below (drop to rows) (k - from - (to - from)) ≡ row_below rows k
  beneath_at k low =
      let there : to + (k - from - (to - from)) ≡ k = omega (arith, order, low) in
      get_or-drop to rows (k - from - (to - from)) empty_row ∙ ap (row_below rows) there

  all_long : (two : List Row) → length two ≡ to - from → length (take from rows ++ (two ++ drop to rows)) ≡ length rows
  all_long two is =
      omega (arith, length-append (take from rows) (two ++ drop to rows), length-append two (drop to rows), above_long, is, length-drop to rows, order, high)

  -- ---- up

  abbrev part : List Row
  part = take (to - from) (drop from rows)

  part_count : length part ≡ to - from
  part_count = part_long (to - from) (omega arith)

  part_some : 1 ≤ length part
  part_some = omega (arith, part_count, order)

  two_long : length (moved_up columns part) ≡ to - from
  two_long = moved_up_long columns part part_some ∙ part_count

  up_parts : region_up from to columns rows ≡ take from rows ++ (moved_up columns part ++ drop to rows)
  up_parts = append_assoc (take from rows) (moved_up columns part) (drop to rows)

  pub up_count : length (region_up from to columns rows) ≡ length rows
  up_count = ap length up_parts ∙ all_long (moved_up columns part) two_long

  pub up_above : (k : ℕ) → k < from → row_below (region_up from to columns rows) k ≡ row_below rows k
  up_above k lt = ap (λ l. row_below l k) up_parts ∙ at_first (take from rows) (moved_up columns part) (drop to rows) from (to - from) above_long two_long k lt ∙ above_at k lt

  up_within : (k : ℕ) → from ≤ k → k < to → row_below (region_up from to columns rows) k ≡ row_below (moved_up columns part) (k - from)
  up_within k low lt =
      ap (λ l. row_below l k) up_parts ∙ at_second (take from rows) (moved_up columns part) (drop to rows) from (to - from) above_long two_long k low (omega (arith, order, lt))

  pub up_inside : (k : ℕ) → from ≤ k → k + 1 < to → row_below (region_up from to columns rows) k ≡ row_below rows (k + 1)
  up_inside k low lt =
      let there : from + (k - from + 1) ≡ k + 1 = omega (arith, low) in
      up_within k low (omega (arith, lt)) ∙ moved_next columns part part_some (k - from) (omega (arith, part_count, low, lt))
      ∙ part_at (to - from) (k - from + 1) (omega (arith, low, lt)) ∙ ap (row_below rows) there

  pub up_last : (k : ℕ) → k + 1 ≡ to → row_below (region_up from to columns rows) k ≡ spaces_row columns
  up_last k is =
      up_within k (omega (arith, order, is)) (omega (arith, is)) ∙ moved_last columns part part_some (k - from) (omega (arith, part_count, order, is))

  pub up_beneath : (k : ℕ) → to ≤ k → row_below (region_up from to columns rows) k ≡ row_below rows k
  up_beneath k low =
      ap (λ l. row_below l k) up_parts ∙ at_third (take from rows) (moved_up columns part) (drop to rows) from (to - from) above_long two_long k (omega (arith, order, low)) ∙ beneath_at k low

  -- ---- down

  abbrev but_last : List Row
  but_last = take (to - from - 1) (drop from rows)

  abbrev behind_new : List Row
  behind_new = spaces_row columns ∷ but_last

  new_long : length behind_new ≡ to - from
  new_long = omega (arith, part_long (to - from - 1) (omega arith), order)

  pub down_count : length (region_down from to columns rows) ≡ length rows
  down_count = all_long behind_new new_long

  pub down_above : (k : ℕ) → k < from → row_below (region_down from to columns rows) k ≡ row_below rows k
  down_above k lt = at_first (take from rows) behind_new (drop to rows) from (to - from) above_long new_long k lt ∙ above_at k lt

  down_within : (k : ℕ) → from ≤ k → k < to → row_below (region_down from to columns rows) k ≡ row_below behind_new (k - from)
  down_within k low lt =
      at_second (take from rows) behind_new (drop to rows) from (to - from) above_long new_long k low (omega (arith, order, lt))

  pub down_first : (k : ℕ) → k ≡ from → row_below (region_down from to columns rows) k ≡ spaces_row columns
  down_first k is =
      let none : k - from ≡ 0 = omega (arith, is) in
      down_within k (omega (arith, is)) (omega (arith, is, order)) ∙ ap (row_below behind_new) none

  pub down_inside : (k : ℕ) → from < k → k < to → row_below (region_down from to columns rows) k ≡ row_below rows (k - 1)
  down_inside k low lt =
      let here : k - from ≡ suc (k - from - 1) = omega (arith, low) in
      let there : from + (k - from - 1) ≡ k - 1 = omega (arith, low) in
      down_within k (omega (arith, low)) lt ∙ ap (row_below behind_new) here ∙ part_at (to - from - 1) (k - from - 1) (omega (arith, low, lt)) ∙ ap (row_below rows) there

  pub down_beneath : (k : ℕ) → to ≤ k → row_below (region_down from to columns rows) k ≡ row_below rows k
  down_beneath k low =
      at_third (take from rows) behind_new (drop to rows) from (to - from) above_long new_long k (omega (arith, order, low)) ∙ beneath_at k low

-- ---- lines between two

module _ (paper : Colour) (columns lines top bottom : ℕ) (rows : List (List Cell)) (wide : 1 ≤ columns) (low : 1 ≤ top) (order : top ≤ bottom)
    (high : bottom ≤ lines) (count : length rows ≡ lines) where
  abbrev empty : List Cell
  empty = blank_row columns paper

  abbrev was : List Row
  was = rows_read lines rows

  was_long : length was ≡ lines
  was_long = count_read lines rows

  first_in : top - 1 < bottom
  first_in = omega (arith, low, order)

  last_in : bottom ≤ length was
  last_in = omega (arith, was_long, high)

  was_at : (k : ℕ) → k < lines → row_below was k ≡ row_read (row_at rows (k + 1)) (row_at rows (k + 1 + 1))
  was_at k lt =
      let here : k + 1 - 1 ≡ k = omega arith in
      ap (row_below was) (sym here) ∙ read_at lines rows (k + 1) (omega arith) (omega (arith, lt))

  -- rows are read as others where each one is
  as_others : (now_ : List (List Cell)) (others : List Row) → length others ≡ length was
      → ((k : ℕ) → k < lines → row_read (row_at now_ (k + 1)) (row_at now_ (k + 1 + 1)) ≡ row_below others k) → rows_read lines now_ ≡ others
  as_others now_ others long each = same_rows others (rows_read lines now_) (count_read lines now_ ∙ sym was_long ∙ sym long) (λ k lt.
      let here : k + 1 - 1 ≡ k = omega arith in
      ap (row_below (rows_read lines now_)) (sym here) ∙ read_at lines now_ (k + 1) (omega arith) (omega (arith, lt, long, was_long))
      ∙ each k (omega (arith, lt, long, was_long)))

  -- a row and the next one that stay are read as before
  stays_read : (now_ : List (List Cell)) (k : ℕ) → k < lines → row_at now_ (k + 1) ≡ row_at rows (k + 1) → row_at now_ (k + 1 + 1) ≡ row_at rows (k + 1 + 1)
      → row_read (row_at now_ (k + 1)) (row_at now_ (k + 1 + 1)) ≡ row_below was k
  stays_read now_ k lt row next =
      ap (λ r. row_read r (row_at now_ (k + 1 + 1))) row ∙ ap (row_read (row_at rows (k + 1))) next ∙ sym (was_at k lt)

  -- so is one that stays and doesn't heed the next one
  alone_read : (now_ : List (List Cell)) (k : ℕ) → k < lines → row_at now_ (k + 1) ≡ row_at rows (k + 1) → heeds_next (row_at rows (k + 1)) ≡ false
      → row_read (row_at now_ (k + 1)) (row_at now_ (k + 1 + 1)) ≡ row_below was k
  alone_read now_ k lt row heeds =
      ap (λ r. row_read r (row_at now_ (k + 1 + 1))) row ∙ read_alike (row_at rows (k + 1)) (row_at now_ (k + 1 + 1)) (row_at rows (k + 1 + 1)) heeds ∙ sym (was_at k lt)

  -- a blank one has spaces
  blank_read : (now_ : List (List Cell)) (k : ℕ) → row_at now_ (k + 1) ≡ empty → row_read (row_at now_ (k + 1)) (row_at now_ (k + 1 + 1)) ≡ spaces_row columns
  blank_read now_ k row = ap (λ r. row_read r (row_at now_ (k + 1 + 1))) row ∙ spaces_read paper columns wide (row_at now_ (k + 1 + 1))

  -- ---- up

  abbrev ups : List (List Cell)
  ups = scrolled_up 1 top bottom empty rows

  ups_long : length ups ≡ length rows
  unfolding table
  ups_long = length-map-range_with_len _ 1 (length rows)

  ups_above : (k : ℕ) → k + 1 < top → row_at ups (k + 1) ≡ row_at rows (k + 1)
  ups_above k lt =
      let out : nat_le top (k + 1) ≡ false = lt-leb top (k + 1) lt in
      row_in (length rows) _ k (omega (arith, count, lt, order, high)) ∙ rw out refl

  ups_inside : (k : ℕ) → top ≤ k + 1 → k + 1 < bottom → row_at ups (k + 1) ≡ row_at rows (k + 1 + 1)
  ups_inside k from lt =
      let in_low : nat_le top (k + 1) ≡ true = le-leb top (k + 1) from in
      let in_high : nat_le (k + 1) bottom ≡ true = le-leb (k + 1) bottom (omega (arith, lt)) in
      let next : nat_le (k + 1 + 1) bottom ≡ true = le-leb (k + 1 + 1) bottom (omega (arith, lt)) in
      row_in (length rows) _ k (omega (arith, count, lt, high)) ∙ rw (in_low, in_high, next) refl

  ups_last : (k : ℕ) → k + 1 ≡ bottom → row_at ups (k + 1) ≡ empty
  ups_last k is =
      let in_low : nat_le top (k + 1) ≡ true = le-leb top (k + 1) (omega (arith, is, order)) in
      let in_high : nat_le (k + 1) bottom ≡ true = le-leb (k + 1) bottom (omega (arith, is)) in
      let next : nat_le (k + 1 + 1) bottom ≡ false = lt-leb (k + 1 + 1) bottom (omega (arith, is)) in
      row_in (length rows) _ k (omega (arith, count, is, high)) ∙ rw (in_low, in_high, next) refl

  ups_beneath : (k : ℕ) → bottom < k + 1 → row_at ups (k + 1) ≡ row_at rows (k + 1)
  ups_beneath k past = elim (cases_lt k lines) [
    | inr none ↦ no_row ups k (omega (arith, ups_long, count, none)) ∙ sym (no_row rows k (omega (arith, count, none)))
    | inl lt ↦
        let in_low : nat_le top (k + 1) ≡ true = le-leb top (k + 1) (omega (arith, order, past)) in
        let out : nat_le (k + 1) bottom ≡ false = lt-leb (k + 1) bottom past in
        row_in (length rows) _ k (omega (arith, count, lt)) ∙ rw (in_low, out) refl
  ]

  -- ---- down

  abbrev downs : List (List Cell)
  downs = scrolled_down 1 top bottom empty rows

  downs_long : length downs ≡ length rows
  unfolding table
  downs_long = length-map-range_with_len _ 1 (length rows)

  downs_above : (k : ℕ) → k + 1 < top → row_at downs (k + 1) ≡ row_at rows (k + 1)
  downs_above k lt =
      let out : nat_le top (k + 1) ≡ false = lt-leb top (k + 1) lt in
      row_in (length rows) _ k (omega (arith, count, lt, order, high)) ∙ rw out refl

  downs_first : (k : ℕ) → k + 1 ≡ top → row_at downs (k + 1) ≡ empty
  downs_first k is =
      let in_low : nat_le top (k + 1) ≡ true = le-leb top (k + 1) (omega (arith, is)) in
      let in_high : nat_le (k + 1) bottom ≡ true = le-leb (k + 1) bottom (omega (arith, is, order)) in
      let next : nat_le (top + 1) (k + 1) ≡ false = lt-leb (top + 1) (k + 1) (omega (arith, is)) in
      row_in (length rows) _ k (omega (arith, count, is, order, high)) ∙ rw (in_low, in_high, next) refl

  downs_inside : (k : ℕ) → top < k + 1 → k + 1 ≤ bottom → row_at downs (k + 1) ≡ row_at rows k
  downs_inside k from fits =
      let in_low : nat_le top (k + 1) ≡ true = le-leb top (k + 1) (omega (arith, from)) in
      let in_high : nat_le (k + 1) bottom ≡ true = le-leb (k + 1) bottom fits in
      let next : nat_le (top + 1) (k + 1) ≡ true = le-leb (top + 1) (k + 1) (omega (arith, from)) in
      let here : k + 1 - 1 ≡ k = omega arith in
      row_in (length rows) _ k (omega (arith, count, fits, high)) ∙ rw (in_low, in_high, next) (ap (row_at rows) here)

  downs_beneath : (k : ℕ) → bottom < k + 1 → row_at downs (k + 1) ≡ row_at rows (k + 1)
  downs_beneath k past = elim (cases_lt k lines) [
    | inr none ↦ no_row downs k (omega (arith, downs_long, count, none)) ∙ sym (no_row rows k (omega (arith, count, none)))
    | inl lt ↦
        let in_low : nat_le top (k + 1) ≡ true = le-leb top (k + 1) (omega (arith, order, past)) in
        let out : nat_le (k + 1) bottom ≡ false = lt-leb (k + 1) bottom past in
        row_in (length rows) _ k (omega (arith, count, lt)) ∙ rw (in_low, out) refl
  ]

  -- ---- how they are read

  module _ (above : heeds_next (row_at rows (top - 1)) ≡ false) where
    -- the rows above are read as before, if the last of them doesn't heed the next one
    above_read : (now_ : List (List Cell)) → ((k : ℕ) → k + 1 < top → row_at now_ (k + 1) ≡ row_at rows (k + 1)) → (k : ℕ) → k + 1 < top
        → row_read (row_at now_ (k + 1)) (row_at now_ (k + 1 + 1)) ≡ row_below was k
    above_read now_ stay k lt = elim (cases_lt (k + 1 + 1) top) [
      | inl more ↦ stays_read now_ k (omega (arith, lt, order, high)) (stay k lt) (stay (k + 1) more)
      | inr border ↦
          let is : k + 1 ≡ top - 1 = omega (arith, lt, border) in
          alone_read now_ k (omega (arith, lt, order, high)) (stay k lt) (ap (λ n. heeds_next (row_at rows n)) is ∙ above)
    ]

    -- a row that becomes the next one is read as that one was, if it doesn't heed the next where another one comes to stand
    next_read : heeds_next (row_at rows bottom) ≡ false → (k : ℕ) → top ≤ k + 1 → k + 1 < bottom → row_read (row_at ups (k + 1)) (row_at ups (k + 1 + 1)) ≡ row_below was (k + 1)
    next_read last k from lt =
        ap (λ r. row_read r (row_at ups (k + 1 + 1))) (ups_inside k from lt) ∙ elim (cases_lt (k + 1 + 1) bottom) [
          | inl more ↦ ap (row_read (row_at rows (k + 1 + 1))) (ups_inside (k + 1) (omega (arith, from)) more)
          | inr border ↦
              let is : k + 1 + 1 ≡ bottom = omega (arith, lt, border) in
              read_alike (row_at rows (k + 1 + 1)) (row_at ups (k + 1 + 1)) (row_at rows (k + 1 + 1 + 1)) (ap (λ n. heeds_next (row_at rows n)) is ∙ last)
        ] ∙ sym (was_at (k + 1) (omega (arith, lt, high)))

    ups_read : heeds_next (row_at rows bottom) ≡ false → (k : ℕ) → k < lines → row_read (row_at ups (k + 1)) (row_at ups (k + 1 + 1)) ≡ row_below (region_up (top - 1) bottom columns was) k
    ups_read last k lt = elim (cases_lt (k + 1) top) [
      | inl up ↦ above_read ups ups_above k up ∙ sym (up_above columns (top - 1) bottom was first_in last_in k (omega (arith, up)))
      | inr from ↦ elim (cases_lt (k + 1) bottom) [
        | inl more ↦ next_read last k from more ∙ sym (up_inside columns (top - 1) bottom was first_in last_in k (omega (arith, from)) more)
        | inr end ↦ elim (cases_lt bottom (k + 1)) [
          | inl past ↦
              stays_read ups k lt (ups_beneath k past) (ups_beneath (k + 1) (omega (arith, past)))
              ∙ sym (up_beneath columns (top - 1) bottom was first_in last_in k (omega (arith, past)))
          | inr fits ↦
              let is : k + 1 ≡ bottom = omega (arith, end, fits) in
              blank_read ups k (ups_last k is) ∙ sym (up_last columns (top - 1) bottom was first_in last_in k is)
        ]
      ]
    ]

    pub rows_up : heeds_next (row_at rows bottom) ≡ false → rows_read lines ups ≡ region_up (top - 1) bottom columns was
    rows_up last = as_others ups (region_up (top - 1) bottom columns was) (up_count columns (top - 1) bottom was first_in last_in) (ups_read last)

    previous_read : heeds_next (row_at rows (bottom - 1)) ≡ false → (k : ℕ) → top < k + 1 → k + 1 ≤ bottom → row_read (row_at downs (k + 1)) (row_at downs (k + 1 + 1)) ≡ row_below was (k - 1)
    previous_read last k from fits =
        let here : k ≡ k - 1 + 1 = omega (arith, from, low) in
        ap (λ r. row_read r (row_at downs (k + 1 + 1))) (downs_inside k from fits) ∙ elim (cases_lt (k + 1) bottom) [
          | inl more ↦ ap (row_read (row_at rows k)) (downs_inside (k + 1) (omega (arith, from)) (omega (arith, more)))
          | inr border ↦
              let is : k ≡ bottom - 1 = omega (arith, fits, border) in
              read_alike (row_at rows k) (row_at downs (k + 1 + 1)) (row_at rows (k + 1)) (ap (λ n. heeds_next (row_at rows n)) is ∙ last)
        ] ∙ ap (λ n. row_read (row_at rows n) (row_at rows (n + 1))) here ∙ sym (was_at (k - 1) (omega (arith, fits, from, high)))

    downs_read : heeds_next (row_at rows (bottom - 1)) ≡ false → (k : ℕ) → k < lines → row_read (row_at downs (k + 1)) (row_at downs (k + 1 + 1)) ≡ row_below (region_down (top - 1) bottom columns was) k
    downs_read last k lt = elim (cases_lt (k + 1) top) [
      | inl up ↦ above_read downs downs_above k up ∙ sym (down_above columns (top - 1) bottom was first_in last_in k (omega (arith, up)))
      | inr from ↦ elim (cases_lt bottom (k + 1)) [
        | inl past ↦
            stays_read downs k lt (downs_beneath k past) (downs_beneath (k + 1) (omega (arith, past)))
            ∙ sym (down_beneath columns (top - 1) bottom was first_in last_in k (omega (arith, past)))
        | inr fits ↦ elim (cases_lt top (k + 1)) [
          | inl more ↦ previous_read last k more fits ∙ sym (down_inside columns (top - 1) bottom was first_in last_in k (omega (arith, more, low)) (omega (arith, fits)))
          | inr border ↦
              let is : k + 1 ≡ top = omega (arith, from, border) in
              blank_read downs k (downs_first k is) ∙ sym (down_first columns (top - 1) bottom was first_in last_in k (omega (arith, is)))
        ]
      ]
    ]

    pub rows_down : heeds_next (row_at rows (bottom - 1)) ≡ false → rows_read lines downs ≡ region_down (top - 1) bottom columns was
    rows_down last = as_others downs (region_down (top - 1) bottom columns was) (down_count columns (top - 1) bottom was first_in last_in) (downs_read last)

-- ---- rows outside the screen

none_heeds : heeds_next [] ≡ false
unfolding is_space blank is_covered
none_heeds = refl

pub above_heeds : (rows : List (List Cell)) (line : ℕ) → line < 1 → heeds_next (row_at rows line) ≡ false
unfolding nth
above_heeds rows zero out = none_heeds
above_heeds rows (suc n) out = absurd (omega (arith, out))

pub below_heeds : (rows : List (List Cell)) (line : ℕ) → length rows < line → heeds_next (row_at rows line) ≡ false
below_heeds rows line out =
    let here : line ≡ line - 1 + 1 = omega (arith, out) in
    ap heeds_next (ap (row_at rows) here ∙ no_row rows (line - 1) (omega (arith, out))) ∙ none_heeds

-- ---- what is foretold

module _ (x : Term) (bytes : List ℕ) (taken top bottom : ℕ) (sound : Sound x.console.picture) where
  abbrev played : List ℕ
  played = take taken bytes

  abbrev shown : List Row
  shown = rows_after x []

  abbrev across : ℕ
  across = x.console.picture.columns

  -- the last line whose row comes to stand above another one
  abbrev border : Bool → ℕ
  border down = if down then bottom - 1 else bottom

  abbrev region : Bool → List Row → List Row
  region down rows = if down then region_down (top - 1) bottom across rows else region_up (top - 1) bottom across rows

  moved_region : (down : Bool) → Moving x played top bottom down → heeds_next (row_at x.console.picture.rows (top - 1)) ≡ false
      → heeds_next (row_at x.console.picture.rows (border down)) ≡ false → rows_after x played ≡ region down shown
  moved_region true moves above last =
      let p = x.console.picture in
      ap (rows_read p.lines) moves.rows
      ∙ rows_down x.console.rendition.paper p.columns p.lines top bottom p.rows (omega (arith, sound.columns_low)) moves.low moves.order moves.high sound.rows above last
      ∙ ap (λ (y : Term). region true (rows_read p.lines y.console.picture.rows)) (sym (nothing x))
  moved_region false moves above last =
      let p = x.console.picture in
      ap (rows_read p.lines) moves.rows
      ∙ rows_up x.console.rendition.paper p.columns p.lines top bottom p.rows (omega (arith, sound.columns_low)) moves.low moves.order moves.high sound.rows above last
      ∙ ap (λ (y : Term). region false (rows_read p.lines y.console.picture.rows)) (sym (nothing x))

  still_before : (down : Bool) → Moving x played top bottom down → taken ≤ length bytes → (n : ℕ) → n < taken → rows_after x (take n bytes) ≡ shown
  still_before down moves within n lt =
      let part = take-take n taken bytes (omega (arith, lt)) in
      let few : n < length played = omega (arith, length-take-le taken bytes within, lt) in
      ap (rows_after x) (sym part) ∙ ap (λ (p : Picture). rows_read x.console.picture.lines p.rows) (moves.before n few)
      ∙ ap (λ (y : Term). rows_read x.console.picture.lines y.console.picture.rows) (sym (nothing x))

pub within_foretold : (x : Term) (text bytes letters : List ℕ) (region : Region) (top bottom : ℕ) → Sound x.console.picture
    → region.from ≡ top - 1 → region.to ≡ bottom → region.columns ≡ x.console.picture.columns → region.taken ≤ length bytes
    → Moving x (take region.taken bytes) top bottom region.down → heeds_next (row_at x.console.picture.rows (top - 1)) ≡ false
    → heeds_next (row_at x.console.picture.rows (if region.down then bottom - 1 else bottom)) ≡ false
    → IsForetold text (rows_after x) [] bytes (MovesWithin region) letters
within_foretold x text bytes letters region top bottom sound from to columns within moves above last =
    let rows = rows_after x [] in
    let count = count_read x.console.picture.lines (play x []).console.picture.rows in
    let moved = λ (f t c : ℕ). if region.down then region_down f t c rows else region_up f t c rows in
    record {
      rows = moved_region x bytes region.taken top bottom sound region.down moves above last
          ∙ ap (λ n. moved n bottom x.console.picture.columns) (sym from) ∙ ap (λ n. moved region.from n x.console.picture.columns) (sym to)
          ∙ ap (moved region.from region.to) (sym columns);
      room = (omega (arith, from, to, moves.low, moves.order), omega (arith, to, moves.high, count));
      keeps = still_before x bytes region.taken top bottom sound region.down moves within;
    }
