-- What is found stood there.
use Rattle.std.proofs.Common.{◌≡◌, ℕ, ◌+◌, ◌<◌, ◌&&◌, List, [], ◌∷◌, ◌++◌, length, filter, map, Option, None, Some, refl, sym, arith}
use Rattle.std.specs.List.{All, Contains, flat_map, range_with_len}
use Rattle.std.proofs.lemmas.List.Elements.{All-append, All-contains_itself, All-filter, All-from_recursion, All-map, All-nil, All-weaker, Contains-get_or}
use Rattle.tape_core.specs.Due.{bytes_at, due_count, due_time, first}
use Rattle.tape_core.specs.Tape.{Tape}
use Rattle.standings.specs.declared.place.Place.{Place}
use Rattle.standings.specs.Found.{found}
use Rattle.standings.specs.Rows.{Row}
use Rattle.standings.specs.Standing.{gone, is_less, is_lone, left_of, less, passed, place_at, place_in, standing}
use Rattle.chunk_walk.specs.Walk.{asked_places}
use Rattle.text_find.specs.FindLines.{Screens, StoodOn, WhatIsFoundStood, all_found, all_passed, found_from, found_in, found_of, passed_at, rows_from, rows_within}
use Rattle.text_find.proofs.NowhereLemmas.{range_below, within_start}

-- what holds of each element of each part
all_parts : {X Y : Type 0} (P : Y → Type 0) (f : X → List Y) → ((x : X) → All P (f x)) → (xs : List X) → All P (flat_map f xs)
all_parts P f h [] = All-nil P
all_parts P f h (x ∷ xs) = All-append P (f x) (flat_map f xs) (h x) (all_parts P f h xs)

-- what is less stood there
less_stood : (one : List Row) (places : List Place) (other : List Row) (others : List Place) → All (Contains places) (less one places other others)
less_stood one places other others =
    let pick : ℕ → Place = place_at places in
    let same : 0 + length places ≡ length places = omega arith in
    All-map (Contains places) pick (filter (is_less one places other others) (range_with_len 0 (length places)))
    (All-filter (is_less one places other others) (λ n. Contains places (pick n)) (range_with_len 0 (length places))
    (All-weaker (λ n. n < 0 + length places) (λ n. Contains places (pick n)) (λ n lt. Contains-get_or places n (place_in 0 0) (omega arith)) (range_with_len 0 (length places))
    (All-from_recursion (λ n. n < 0 + length places) (range_with_len 0 (length places)) (range_below 0 (length places)))))

gone_stood : (text : List ℕ) (one other : List Row) → All (Contains (standing text one)) (gone text one other)
unfolding gone
gone_stood text one other = less_stood one (standing text one) other (standing text other)

passed_stood : (text : List ℕ) (first last one other : List Row) → All (Contains (standing text one)) (passed text first last one other)
unfolding passed
passed_stood text first last one other =
    All-filter (λ (place : Place). is_lone first (standing text first) (left_of one place) && is_lone last (standing text last) (left_of one place))
    (Contains (standing text one)) (gone text one other) (gone_stood text one other)

module _ {P : Type 0} (screens : Screens P) where
  all_stood : (profile : P) (tape : Tape) (text : List ℕ) (sign index due count : ℕ) (rows : List Row) (places : List Place)
      → rows ≡ rows_within (screens profile) (first tape.chunks index) (bytes_at tape.chunks index) count → All (Contains (standing text rows)) places
      → All (StoodOn screens profile tape text) (map (found sign index due rows) places)
  all_stood profile tape text sign index due count rows places is h =
      All-map (StoodOn screens profile tape text) (found sign index due rows) places
      (All-weaker (Contains (standing text rows)) (λ place. StoodOn screens profile tape text (found sign index due rows place)) (λ place has. record { stands = has; seen = (count, is) }) places h)

  chunk_stood : (profile : P) (tape : Tape) (text : List ℕ) (index : ℕ) → All (StoodOn screens profile tape text) (found_of screens profile tape text index)
  unfolding found_in
  chunk_stood profile tape text index =
      let screen = screens profile in
      let played = first tape.chunks index in
      let bytes = bytes_at tape.chunks index in
      let due = due_time tape.chunks index in
      let n = length bytes in
      let before = rows_within screen played bytes 0 in
      let after = rows_within screen played bytes n in
      let went = map (found 45 index due before) (gone text before after) in
      let middle = all_passed text index due screen played bytes in
      let came = map (found 43 index due after) (gone text after before) in
      All-append (StoodOn screens profile tape text) (went ++ middle) came
      (All-append (StoodOn screens profile tape text) went middle
      (all_stood profile tape text 45 index due 0 before (gone text before after) refl (gone_stood text before after))
      (all_parts (StoodOn screens profile tape text) (passed_at text index due screen played bytes)
      (λ count. all_stood profile tape text 126 index due count (rows_within screen played bytes count) (passed text before after (rows_within screen played bytes count) (rows_within screen played bytes (count + 1))) refl
      (passed_stood text before after (rows_within screen played bytes count) (rows_within screen played bytes (count + 1))))
      (range_with_len 0 n)))
      (all_stood profile tape text 43 index due n after (gone text after before) refl (gone_stood text after before))

  from_stood : (profile : P) (tape : Tape) (from : Option ℕ) (text : List ℕ) → All (StoodOn screens profile tape text) (found_from screens profile tape text from)
  unfolding found_from
  from_stood profile tape None text = All-nil (StoodOn screens profile tape text)
  from_stood profile tape (Some moment) text =
      let index = due_count tape.chunks moment in
      let rows = rows_from screens profile tape moment in
      all_stood profile tape text 61 index moment 0 rows (standing text rows) (sym (within_start (screens profile) (first tape.chunks index) (bytes_at tape.chunks index))) (All-contains_itself (standing text rows))

  pub what_is_found_stood : WhatIsFoundStood screens
  unfolding all_found
  what_is_found_stood profile tape from to text =
      All-append (StoodOn screens profile tape text) (found_from screens profile tape text from) (flat_map (found_of screens profile tape text) (asked_places tape from to))
      (from_stood profile tape from text)
      (all_parts (StoodOn screens profile tape text) (found_of screens profile tape text) (chunk_stood profile tape text) (asked_places tape from to))
