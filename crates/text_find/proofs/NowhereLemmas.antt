-- Nothing found means nowhere.
use Rattle.std.proofs.Common.{◌≡◌, ℕ, zero, suc, ◌+◌, ◌-◌, ◌<◌, ◌≤◌, Bool, true, false, ◌&&◌, List, [], ◌∷◌, ◌++◌, append-nil, length, filter, map, Option, None, Some, nat_le, nat_lt, refl, ap, sym, ◌∙◌, subst, arith, inl, inr}
use Rattle.std.specs.List.{AllByRecursion, Contains, flat_map, range_with_len}
use Rattle.std.proofs.lemmas.Bool.{and_parts, cases_Bool, cases_lt, leb-true, ltb-true}
use Rattle.std.proofs.lemmas.List.{take_all}
use Rattle.std.proofs.lemmas.List.Elements.{All-contains, All-filter, All-from_recursion, filter_passes}
use Rattle.tape_core.specs.declared.chunk.Chunk.{Chunk}
use Rattle.tape_core.specs.Due.{bytes_at, due_count, due_time, first, indices}
use Rattle.tape_core.specs.Law.{DueIsBelowTheCount, FirstGrowsByAChunk}
use Rattle.tape_core.specs.Tape.{Tape}
use Rattle.standings.specs.declared.place.Place.{Place}
use Rattle.standings.specs.Found.{Found, found, found_text}
use Rattle.standings.specs.Rows.{Row}
use Rattle.standings.specs.Standing.{gone, is_lone, left_of, less, passed, standing}
use Rattle.chunk_walk.specs.Stops.{first_asked}
use Rattle.chunk_walk.specs.Walk.{asked_places, is_asked}
use Rattle.text_find.specs.FindLines.{BeginsBlank, NowhereMeansNowhere, Screens, all_found, all_passed, found_from, found_in, found_of, has_ink, lines_found, passed_at, rows_from, rows_within}
use Rattle.chunk_walk.proofs.AskedLemmas.{asked}

-- ---- lists with nothing in them

first_none : {X : Type 0} (xs ys : List X) → xs ++ ys ≡ [] → xs ≡ []
first_none [] ys h = refl
first_none (x ∷ xs) ys h = cc

second_none : {X : Type 0} (xs ys : List X) → xs ++ ys ≡ [] → ys ≡ []
second_none [] ys h = h
second_none (x ∷ xs) ys h = cc

map_none : {X Y : Type 0} (f : X → Y) (xs : List X) → map f xs ≡ [] → xs ≡ []
map_none f [] h = refl
map_none f (x ∷ xs) h = cc

-- what gives nothing altogether gives nothing of each element
part_none : {X Y : Type 0} (f : X → List Y) (xs : List X) → flat_map f xs ≡ [] → (x : X) → Contains xs x → f x ≡ []
part_none f [] h x (k, lt, e) = absurd (omega arith)
part_none f (y ∷ ys) h x (zero, lt, e) = subst (λ z. f z ≡ []) e (first_none (f y) (flat_map f ys) h)
part_none f (y ∷ ys) h x (suc k, lt, e) =
    let less : k < length ys = omega arith in
    part_none f ys (second_none (f y) (flat_map f ys) h) x (k, less, e)

filter_all : {X : Type 0} (p : X → Bool) → ((x : X) → p x ≡ true) → (xs : List X) → filter p xs ≡ xs
filter_all p h [] = refl
filter_all p h (x ∷ xs) = rw (h x) (ap (λ l. x ∷ l) (filter_all p h xs))

filter_has : {X : Type 0} (p : X → Bool) (xs : List X) (x : X) → Contains xs x → p x ≡ true → Contains (filter p xs) x
filter_has p [] x (k, lt, e) h = absurd (omega arith)
filter_has p (y ∷ ys) x (zero, lt, e) h =
    let here : p y ≡ true = ap p e ∙ h in
    rw here (zero, omega arith, e)
filter_has p (y ∷ ys) x (suc k, lt, e) h =
    let less : k < length ys = omega arith in
    let there = filter_has p ys x (k, less, e) h in
    elim (cases_Bool (p y)) [
      | inl t ↦ rw t (suc there.0, omega (arith, there.1), there.2)
      | inr f ↦ rw f there
    ]

range_has : (a n c : ℕ) → c < n → Contains (range_with_len a n) (a + c)
range_has a zero c lt = absurd (omega arith)
range_has a (suc n) zero lt = (zero, omega arith, omega arith)
range_has a (suc n) (suc c) lt =
    let there = range_has (a + 1) n c (omega arith) in
    let at : a + 1 + c ≡ a + suc c = omega arith in
    let moved : Contains (range_with_len (a + 1) n) (a + suc c) = subst (Contains (range_with_len (a + 1) n)) at there in
    (suc moved.0, omega (arith, moved.1), moved.2)

pub range_below : (a n : ℕ) → AllByRecursion (λ i. i < a + n) (range_with_len a n)
range_below a zero = tt
range_below a (suc n) = (omega arith, subst (λ m. AllByRecursion (λ i. i < m) (range_with_len (a + 1) n)) (omega arith) (range_below (a + 1) n))

none_passes : {X : Type 0} (p : X → Bool) → ((x : X) → p x ≡ false) → (xs : List X) → filter p xs ≡ []
none_passes p h [] = refl
none_passes p h (x ∷ xs) = rw (h x) (none_passes p h xs)

-- ---- what is less than nothing

less_than_none : (one : List Row) (places : List Place) (other : List Row) → less one places other [] ≡ [] → places ≡ []
less_than_none one [] other h = refl
less_than_none one (place ∷ places) other h = cc

pub gone_none : (text : List ℕ) (one other : List Row) → standing text other ≡ [] → gone text one other ≡ [] → standing text one ≡ []
unfolding gone
gone_none text one other none h =
    less_than_none one (standing text one) other (subst (λ places. less one (standing text one) other places ≡ []) none h)

lone_in_none : (still : List Row) (places : List Place) (left : List ℕ) → places ≡ [] → is_lone still places left ≡ true
lone_in_none still places left none = ap (λ l. is_lone still l left) none

both : (s t : Bool) → s ≡ true → t ≡ true → (s && t) ≡ true
both s t h k = rw (h, k) refl

pub passed_none : (text : List ℕ) (first last one other : List Row) → standing text first ≡ [] → standing text last ≡ [] → standing text other ≡ []
    → passed text first last one other ≡ [] → standing text one ≡ []
unfolding passed
passed_none text first last one other none none' there h =
    gone_none text one other there
    (sym (filter_all
    (λ (place : Place). is_lone first (standing text first) (left_of one place) && is_lone last (standing text last) (left_of one place))
    (λ place. both _ _ (lone_in_none first (standing text first) (left_of one place) none) (lone_in_none last (standing text last) (left_of one place) none'))
    (gone text one other)) ∙ h)

-- ---- inside a chunk

pub within_start : (screen : List ℕ → List Row) (before bytes : List ℕ) → rows_within screen before bytes 0 ≡ screen before
within_start screen before bytes = ap screen (append-nil before)

pub within_whole : (screen : List ℕ → List Row) (before bytes : List ℕ) → rows_within screen before bytes (length bytes) ≡ screen (before ++ bytes)
within_whole screen before bytes = ap (λ b. screen (before ++ b)) (take_all (length bytes) bytes (omega arith))

within_down : (text : List ℕ) (index due : ℕ) (screen : List ℕ → List Row) (before bytes : List ℕ) → standing text (rows_within screen before bytes 0) ≡ []
    → standing text (rows_within screen before bytes (length bytes)) ≡ [] → all_passed text index due screen before bytes ≡ []
    → (k : ℕ) → k ≤ length bytes → standing text (rows_within screen before bytes (length bytes - k)) ≡ []
within_down text index due screen before bytes one other h zero le =
    let same : length bytes ≡ length bytes - 0 = omega arith in
    subst (λ n. standing text (rows_within screen before bytes n) ≡ []) same other
within_down text index due screen before bytes one other h (suc k) le =
    let c = length bytes - suc k in
    let next : length bytes - k ≡ c + 1 = omega arith in
    let lt : c < length bytes = omega arith in
    let at : 0 + c ≡ c = omega arith in
    let here = rows_within screen before bytes c in
    let later : standing text (rows_within screen before bytes (c + 1)) ≡ [] =
    subst (λ n. standing text (rows_within screen before bytes n) ≡ []) next (within_down text index due screen before bytes one other h k (omega arith)) in
    passed_none text (rows_within screen before bytes 0) (rows_within screen before bytes (length bytes)) here (rows_within screen before bytes (c + 1)) one other later
    (map_none (found 126 index due here) (passed text (rows_within screen before bytes 0) (rows_within screen before bytes (length bytes)) here (rows_within screen before bytes (c + 1)))
    (part_none (passed_at text index due screen before bytes) (range_with_len 0 (length bytes)) h c
    (subst (Contains (range_with_len 0 (length bytes))) at (range_has 0 (length bytes) c lt))))

-- where nothing stands before a chunk and nothing is found in it, nothing stands after any byte of it
pub chunk_none : (text : List ℕ) (index due : ℕ) (screen : List ℕ → List Row) (before bytes : List ℕ) → standing text (screen before) ≡ []
    → found_in text index due screen before bytes ≡ [] → (count : ℕ) → count ≤ length bytes → standing text (rows_within screen before bytes count) ≡ []
unfolding found_in
chunk_none text index due screen before bytes start h count le =
    let one = rows_within screen before bytes 0 in
    let other = rows_within screen before bytes (length bytes) in
    let went = map (found 45 index due one) (gone text one other) in
    let middle = all_passed text index due screen before bytes in
    let came = map (found 43 index due other) (gone text other one) in
    let none : standing text one ≡ [] = ap (standing text) (within_start screen before bytes) ∙ start in
    let none' : standing text other ≡ [] =
    gone_none text other one none (map_none (found 43 index due other) (gone text other one) (second_none (went ++ middle) came h)) in
    let back : length bytes - (length bytes - count) ≡ count = omega arith in
    subst (λ n. standing text (rows_within screen before bytes n) ≡ []) back
    (within_down text index due screen before bytes none none' (second_none went middle (first_none (went ++ middle) came h)) (length bytes - count) (omega arith))

lines_none : (len : ℕ) (fs : List Found) → flat_map (found_text len) fs ≡ [] → fs ≡ []
lines_none len [] h = refl
lines_none len (f ∷ fs) h = cc

-- ---- from chunk to chunk

pub record Below {P : Type 0} (screens : Screens P) : Type 0 where
  pub dues : DueIsBelowTheCount
  pub grows : FirstGrowsByAChunk
  pub blank : BeginsBlank screens

module _ {P : Type 0} (screens : Screens P) (laws : Below screens) where
  within_end : (profile : P) (tape : Tape) (index : ℕ)
      → rows_within (screens profile) (first tape.chunks index) (bytes_at tape.chunks index) (length (bytes_at tape.chunks index)) ≡ screens profile (first tape.chunks (index + 1))
  within_end profile tape index =
      within_whole (screens profile) (first tape.chunks index) (bytes_at tape.chunks index)
      ∙ ap (screens profile) (sym (laws.grows.at tape.chunks index))

  -- which chunks are asked for
  low : (chunks : List Chunk) (from : Option ℕ) (to i : ℕ) → i < length chunks → is_asked from to (due_time chunks i) ≡ true → first_asked chunks from ≤ i
  low chunks None to i within is = omega arith
  low chunks (Some from) to i within is =
      elim (cases_lt i (due_count chunks from)) [
        | inl lt ↦
            let due : due_time chunks i ≤ from = (laws.dues chunks from i within).1 lt in
            let late = ltb-true from (due_time chunks i) (and_parts (nat_lt from (due_time chunks i)) (nat_le (due_time chunks i) to) is).0 in
            absurd (omega (arith, due, late))
        | inr ge ↦ ge
      ]

  high : (chunks : List Chunk) (from : Option ℕ) (to i : ℕ) → i < length chunks → is_asked from to (due_time chunks i) ≡ true → i < due_count chunks to
  high chunks None to i within is = (laws.dues chunks to i within).0 (leb-true (due_time chunks i) to is)
  high chunks (Some from) to i within is =
      (laws.dues chunks to i within).0 (leb-true (due_time chunks i) to (and_parts (nat_lt from (due_time chunks i)) (nat_le (due_time chunks i) to) is).1)

  asked_is : (tape : Tape) (from : Option ℕ) (to i : ℕ) → i < length tape.chunks → is_asked from to (due_time tape.chunks i) ≡ true → Contains (asked_places tape from to) i
  asked_is tape from to i within is =
      let at : 0 + i ≡ i = omega arith in
      filter_has (λ index. is_asked from to (due_time tape.chunks index)) (indices tape.chunks) i
      (subst (Contains (indices tape.chunks)) at (range_has 0 (length tape.chunks) i within)) is

  asked_within : (tape : Tape) (from : Option ℕ) (to i : ℕ) → Contains (asked_places tape from to) i → i < length tape.chunks
  asked_within tape from to i is =
      let same : 0 + length tape.chunks ≡ length tape.chunks = omega arith in
      subst (λ n. i < n) same
      (All-contains (λ k. k < 0 + length tape.chunks) (asked_places tape from to) i
      (All-filter (λ index. is_asked from to (due_time tape.chunks index)) (λ k. k < 0 + length tape.chunks) (indices tape.chunks)
      (All-from_recursion (λ k. k < 0 + length tape.chunks) (indices tape.chunks) (range_below 0 (length tape.chunks)))) is)

  asked_passes : (tape : Tape) (from : Option ℕ) (to i : ℕ) → Contains (asked_places tape from to) i → is_asked from to (due_time tape.chunks i) ≡ true
  asked_passes tape from to i is =
      All-contains (λ k. is_asked from to (due_time tape.chunks k) ≡ true) (asked_places tape from to) i
      (filter_passes (λ index. is_asked from to (due_time tape.chunks index)) (indices tape.chunks)) is

  -- where nothing is found
  pub record FoundNone (profile : P) (tape : Tape) (from : Option ℕ) (to : ℕ) (text : List ℕ) : Type 0 where
    pub start : found_from screens profile tape text from ≡ []
    pub chunks : flat_map (found_of screens profile tape text) (asked_places tape from to) ≡ []

  start_is : (profile : P) (tape : Tape) (from : Option ℕ) (text : List ℕ) → has_ink text ≡ true → found_from screens profile tape text from ≡ []
      → standing text (screens profile (first tape.chunks (first_asked tape.chunks from))) ≡ []
  unfolding found_from
  start_is profile tape None text ink h = laws.blank profile text ink
  start_is profile tape (Some moment) text ink h =
      map_none (found 61 (due_count tape.chunks moment) moment (rows_from screens profile tape moment)) (standing text (rows_from screens profile tape moment)) h

  here : (profile : P) (tape : Tape) (from : Option ℕ) (to : ℕ) (text : List ℕ) → FoundNone profile tape from to text
      → (index : ℕ) → Contains (asked_places tape from to) index → standing text (screens profile (first tape.chunks index)) ≡ []
      → (count : ℕ) → count ≤ length (bytes_at tape.chunks index)
      → standing text (rows_within (screens profile) (first tape.chunks index) (bytes_at tape.chunks index) count) ≡ []
  here profile tape from to text none index is before count le =
      chunk_none text index (due_time tape.chunks index) (screens profile) (first tape.chunks index) (bytes_at tape.chunks index) before
      (part_none (found_of screens profile tape text) (asked_places tape from to) none.chunks index is) count le

  -- nothing stands before each chunk that is asked for
  before_each : (profile : P) (tape : Tape) (from : Option ℕ) (to : ℕ) (text : List ℕ) → has_ink text ≡ true → FoundNone profile tape from to text
      → (n : ℕ) → ((i : ℕ) → first_asked tape.chunks from ≤ i → i < first_asked tape.chunks from + n → Contains (asked_places tape from to) i)
      → standing text (screens profile (first tape.chunks (first_asked tape.chunks from + n))) ≡ []
  before_each profile tape from to text ink none zero is =
      let same : first_asked tape.chunks from ≡ first_asked tape.chunks from + 0 = omega arith in
      subst (λ i. standing text (screens profile (first tape.chunks i)) ≡ []) same (start_is profile tape from text ink none.start)
  before_each profile tape from to text ink none (suc n) is =
      let index = first_asked tape.chunks from + n in
      let next : index + 1 ≡ first_asked tape.chunks from + suc n = omega arith in
      let before = before_each profile tape from to text ink none n (λ i low high. is i low (omega arith)) in
      subst (λ i. standing text (screens profile (first tape.chunks i)) ≡ []) next
      (sym (ap (standing text) (within_end profile tape index))
      ∙ here profile tape from to text none index (is index (omega arith) (omega arith)) before (length (bytes_at tape.chunks index)) (omega arith))

  asked_between : (tape : Tape) (from : Option ℕ) (to i : ℕ) → i < length tape.chunks → first_asked tape.chunks from ≤ i → i < due_count tape.chunks to
      → Contains (asked_places tape from to) i
  asked_between tape from to i within low high = asked_is tape from to i within (asked laws.dues tape.chunks from to i within low high)

  pub nowhere : NowhereMeansNowhere screens
  unfolding lines_found all_found
  nowhere profile tape from to text ink h =
      let lists = lines_none (length text) (all_found screens profile tape from to text) h in
      let start : found_from screens profile tape text from ≡ [] = first_none (found_from screens profile tape text from) (flat_map (found_of screens profile tape text) (asked_places tape from to)) lists in
      let chunks : flat_map (found_of screens profile tape text) (asked_places tape from to) ≡ [] = second_none (found_from screens profile tape text from) (flat_map (found_of screens profile tape text) (asked_places tape from to)) lists in
      let none : FoundNone profile tape from to text = record { start = start; chunks = chunks } in
      record {
        start = λ moment is. start_is profile tape (Some moment) text ink (subst (λ o. found_from screens profile tape text o ≡ []) is start);
        within = λ index count is le.
            let inside = asked_within tape from to index is in
            let passes = asked_passes tape from to index is in
            let from_first = low tape.chunks from to index inside passes in
            let to_last = high tape.chunks from to index inside passes in
            let n = index - first_asked tape.chunks from in
            let at : first_asked tape.chunks from + n ≡ index = omega arith in
            here profile tape from to text none index is
            (subst (λ i. standing text (screens profile (first tape.chunks i)) ≡ []) at
            (before_each profile tape from to text ink none n
            (λ i low high. asked_between tape from to i (omega arith) low (omega arith))))
            count le;
      }
