-- Nothing found means nowhere.
use Rattle.std.proofs.Common.{◌≡◌, ℕ, zero, suc, ◌+◌, ◌-◌, ◌<◌, ◌≤◌, Bool, true, false, ◌&&◌, ◌==◌, not, List, [], ◌∷◌, ◌++◌, length, filter, map, drop, take, Option, None, Some, nat_le, nat_lt, refl, ap, sym, ◌∙◌, subst, arith, inl, inr, cond}
use Rattle.std.specs.List.{All, AllByRecursion, Contains, flat_map, range_with_len}
use Rattle.std.proofs.lemmas.Bool.{and_parts, cases_Bool, cases_lt, leb-true, ltb-true, eq-eqb, false_from_ne_true, not_from_true}
use Rattle.std.proofs.lemmas.List.{take_all}
use Rattle.std.proofs.lemmas.List.Elements.{All-append, All-contains, All-drop, All-filter, All-from_recursion, All-map, All-nil, All-replicate, All-same, All-take, filter_passes, recursion_from_All}
use Rattle.std.proofs.lemmas.Bool.Decides.{Decides-eqb}
use Rattle.std.proofs.lemmas.Slice.Eq.{slice_eq-Decides}
use Rattle.tape_core.specs.declared.chunk.Chunk.{Chunk}
use Rattle.tape_core.specs.Due.{bytes_at, due_count, due_time, first, indices}
use Rattle.tape_core.specs.Law.{DueIsBelowTheCount, FirstGrowsByAChunk}
use Rattle.tape_core.specs.Tape.{Tape}
use Rattle.tape_seek.specs.Moments.{up_to}
use Rattle.vt_screen.specs.declared.cell.Cell.{Cell}
use Rattle.vt_screen.specs.Cells.{blank, blank_cells, blank_row}
use Rattle.vt_screen.specs.Table.{table}
use Rattle.vt_term.specs.declared.profile.Profile.{Profile}
use Rattle.vt_term.specs.Law.{PlaysInParts}
use Rattle.vt_term.specs.Term.{Term, play, reset_term_as}
use Rattle.screen_print.specs.declared.standing.Place.{Place}
use Rattle.screen_print.specs.EachByte.{Found, NowhereMeansNowhere, all_found, all_passed, find_lines, found, found_from, found_in, found_of, found_text, gone, has_ink, is_lone, less, passed, passed_at, still_from, still_within}
use Rattle.screen_print.specs.FindLines.{begins, ends_line, left_of, line_text_from, place_in, places_from, places_in, standing}
use Rattle.screen_rows.specs.RowText.{row_text}
use Rattle.screen_rows.specs.Glyphs.{character}
use Rattle.screen_print.specs.Stills.{Still, still_of}
use Rattle.chunk_walk.specs.Stops.{first_asked}
use Rattle.chunk_walk.specs.Walk.{asked_places, is_asked}
use Rattle.screen_print.specs.Walk.{still_after}
use Rattle.chunk_walk.proofs.AskedLemmas.{asked}

-- ---- lists with nothing in them

first_none : {X : Type 0} (xs ys : List X) → xs ++ ys ≡ [] → xs ≡ []
first_none [] ys h = refl
first_none (x ∷ xs) ys h = cc

second_none : {X : Type 0} (xs ys : List X) → xs ++ ys ≡ [] → ys ≡ []
second_none [] ys h = h
second_none (x ∷ xs) ys h = cc

map_none : {X Y : Type 0} (f : X → Y) (xs : List X) → map f xs ≡ [] → xs ≡ []
map_none f [] h = refl
map_none f (x ∷ xs) h = cc

-- what gives nothing altogether gives nothing of each element
part_none : {X Y : Type 0} (f : X → List Y) (xs : List X) → flat_map f xs ≡ [] → (x : X) → Contains xs x → f x ≡ []
part_none f [] h x (k, lt, e) = absurd (omega arith)
part_none f (y ∷ ys) h x (zero, lt, e) = subst (λ z. f z ≡ []) e (first_none (f y) (flat_map f ys) h)
part_none f (y ∷ ys) h x (suc k, lt, e) =
    let less : k < length ys = omega arith in
    part_none f ys (second_none (f y) (flat_map f ys) h) x (k, less, e)

filter_all : {X : Type 0} (p : X → Bool) → ((x : X) → p x ≡ true) → (xs : List X) → filter p xs ≡ xs
filter_all p h [] = refl
filter_all p h (x ∷ xs) = rw (h x) (ap (λ l. x ∷ l) (filter_all p h xs))

filter_has : {X : Type 0} (p : X → Bool) (xs : List X) (x : X) → Contains xs x → p x ≡ true → Contains (filter p xs) x
filter_has p [] x (k, lt, e) h = absurd (omega arith)
filter_has p (y ∷ ys) x (zero, lt, e) h =
    let here : p y ≡ true = ap p e ∙ h in
    rw here (zero, omega arith, e)
filter_has p (y ∷ ys) x (suc k, lt, e) h =
    let less : k < length ys = omega arith in
    let there = filter_has p ys x (k, less, e) h in
    elim (cases_Bool (p y)) [
      | inl t ↦ rw t (suc there.0, omega (arith, there.1), there.2)
      | inr f ↦ rw f there
    ]

range_has : (a n c : ℕ) → c < n → Contains (range_with_len a n) (a + c)
range_has a zero c lt = absurd (omega arith)
range_has a (suc n) zero lt = (zero, omega arith, omega arith)
range_has a (suc n) (suc c) lt =
    let there = range_has (a + 1) n c (omega arith) in
    let at : a + 1 + c ≡ a + suc c = omega arith in
    let moved : Contains (range_with_len (a + 1) n) (a + suc c) = subst (Contains (range_with_len (a + 1) n)) at there in
    (suc moved.0, omega (arith, moved.1), moved.2)

pub range_below : (a n : ℕ) → AllByRecursion (λ i. i < a + n) (range_with_len a n)
range_below a zero = tt
range_below a (suc n) = (omega arith, subst (λ m. AllByRecursion (λ i. i < m) (range_with_len (a + 1) n)) (omega arith) (range_below (a + 1) n))

none_passes : {X : Type 0} (p : X → Bool) → ((x : X) → p x ≡ false) → (xs : List X) → filter p xs ≡ []
none_passes p h [] = refl
none_passes p h (x ∷ xs) = rw (h x) (none_passes p h xs)

-- ---- what is less than nothing

less_than_none : (one : Still) (places : List Place) (other : Still) → less one places other [] ≡ [] → places ≡ []
less_than_none one [] other h = refl
less_than_none one (place ∷ places) other h = cc

pub gone_none : (text : List ℕ) (one other : Still) → standing text other ≡ [] → gone text one other ≡ [] → standing text one ≡ []
unfolding gone
gone_none text one other none h =
    less_than_none one (standing text one) other (subst (λ places. less one (standing text one) other places ≡ []) none h)

lone_in_none : (still : Still) (places : List Place) (left : List ℕ) → places ≡ [] → is_lone still places left ≡ true
lone_in_none still places left none = ap (λ l. is_lone still l left) none

both : (s t : Bool) → s ≡ true → t ≡ true → (s && t) ≡ true
both s t h k = rw (h, k) refl

pub passed_none : (text : List ℕ) (first last one other : Still) → standing text first ≡ [] → standing text last ≡ [] → standing text other ≡ []
    → passed text first last one other ≡ [] → standing text one ≡ []
unfolding passed
passed_none text first last one other none none' there h =
    gone_none text one other there
    (sym (filter_all
    (λ (place : Place). is_lone first (standing text first) (left_of one place) && is_lone last (standing text last) (left_of one place))
    (λ place. both _ _ (lone_in_none first (standing text first) (left_of one place) none) (lone_in_none last (standing text last) (left_of one place) none'))
    (gone text one other)) ∙ h)

-- ---- inside a chunk

pub within_start : (x : Term) (bytes : List ℕ) → still_within x bytes 0 ≡ still_of x.console
unfolding play
within_start x bytes = refl

within_down : (text : List ℕ) (index due : ℕ) (x : Term) (bytes : List ℕ) → standing text (still_within x bytes 0) ≡ []
    → standing text (still_within x bytes (length bytes)) ≡ [] → all_passed text index due x bytes ≡ []
    → (k : ℕ) → k ≤ length bytes → standing text (still_within x bytes (length bytes - k)) ≡ []
within_down text index due x bytes before after h zero le =
    let same : length bytes ≡ length bytes - 0 = omega arith in
    subst (λ n. standing text (still_within x bytes n) ≡ []) same after
within_down text index due x bytes before after h (suc k) le =
    let c = length bytes - suc k in
    let next : length bytes - k ≡ c + 1 = omega arith in
    let lt : c < length bytes = omega arith in
    let at : 0 + c ≡ c = omega arith in
    let one = still_within x bytes c in
    let later : standing text (still_within x bytes (c + 1)) ≡ [] =
    subst (λ n. standing text (still_within x bytes n) ≡ []) next (within_down text index due x bytes before after h k (omega arith)) in
    passed_none text (still_within x bytes 0) (still_within x bytes (length bytes)) one (still_within x bytes (c + 1)) before after later
    (map_none (found 126 index due one) (passed text (still_within x bytes 0) (still_within x bytes (length bytes)) one (still_within x bytes (c + 1)))
    (part_none (passed_at text index due x bytes) (range_with_len 0 (length bytes)) h c
    (subst (Contains (range_with_len 0 (length bytes))) at (range_has 0 (length bytes) c lt))))

-- where nothing stands before a chunk and nothing is found in it, nothing stands after any byte of it
pub chunk_none : (text : List ℕ) (index due : ℕ) (x : Term) (bytes : List ℕ) → standing text (still_of x.console) ≡ []
    → found_in text index due x bytes ≡ [] → (count : ℕ) → count ≤ length bytes → standing text (still_within x bytes count) ≡ []
unfolding found_in
chunk_none text index due x bytes start h count le =
    let before = still_within x bytes 0 in
    let after = still_within x bytes (length bytes) in
    let went = map (found 45 index due before) (gone text before after) in
    let middle = all_passed text index due x bytes in
    let came = map (found 43 index due after) (gone text after before) in
    let none : standing text before ≡ [] = ap (standing text) (within_start x bytes) ∙ start in
    let none' : standing text after ≡ [] =
    gone_none text after before none (map_none (found 43 index due after) (gone text after before) (second_none (went ++ middle) came h)) in
    let back : length bytes - (length bytes - count) ≡ count = omega arith in
    subst (λ n. standing text (still_within x bytes n) ≡ []) back
    (within_down text index due x bytes none none' (second_none went middle (first_none (went ++ middle) came h)) (length bytes - count) (omega arith))

-- ---- a blank screen

line_is_blank : (rows : List (List ℕ)) → AllByRecursion (All (λ c. c ≡ 32)) rows → All (λ c. c ≡ 32) (line_text_from rows)
unfolding line_text_from
line_is_blank [] h = All-nil (λ c. c ≡ 32)
line_is_blank (row ∷ rows) h =
    All-append (λ c. c ≡ 32) row (cond (ends_line row) [] (line_text_from rows)) h.0
    (elim (cases_Bool (ends_line row)) [
      | inl t ↦ rw t (All-nil (λ c. c ≡ 32))
      | inr f ↦ rw f (line_is_blank rows h.1)
    ])

blank_has_no_ink : (text : List ℕ) → AllByRecursion (λ c. c ≡ 32) text → has_ink text ≡ true → ⊥
blank_has_no_ink [] h ink = cc
blank_has_no_ink (c ∷ text) h ink =
    let here : not (c == 32) ≡ false = not_from_true (c == 32) (eq-eqb c 32 h.0) in
    blank_has_no_ink text h.1 (rw here at ink)

begins_not : (text line : List ℕ) (column : ℕ) → has_ink text ≡ true → All (λ c. c ≡ 32) line → begins text line column ≡ false
begins_not text line column ink blank =
    false_from_ne_true (begins text line column) (λ is.
    let there = take (length text) (drop (column - 1) line) in
    let same : text ≡ there = (slice_eq-Decides Decides-eqb text there (begins text line column) refl).0 is in
    blank_has_no_ink text (recursion_from_All (λ c. c ≡ 32) text (All-same (λ c. c ≡ 32) text there same (All-take (λ c. c ≡ 32) (length text) (drop (column - 1) line) (All-drop (λ c. c ≡ 32) (column - 1) line blank)))) ink)

none_begins : (text : List ℕ) (line : ℕ) (lines : List ℕ) (columns : ℕ) → ((column : ℕ) → begins text lines column ≡ false) → places_in text line lines columns ≡ []
none_begins text line lines columns none =
    ap (map (place_in line)) (none_passes (begins text lines) none (range_with_len 1 columns))

pub blank_nowhere : (text : List ℕ) (line : ℕ) (rows : List (List ℕ)) → has_ink text ≡ true → AllByRecursion (All (λ c. c ≡ 32)) rows → places_from text line rows ≡ []
unfolding places_from
blank_nowhere text line [] ink h = refl
blank_nowhere text line (row ∷ rows) ink h =
    let lines = line_text_from (row ∷ rows) in
    ap (λ l. l ++ places_from text (line + 1) rows)
    (none_begins text line lines (length row) (λ column. begins_not text lines column ink (line_is_blank (row ∷ rows) h)))
    ∙ blank_nowhere text (line + 1) rows ink h.1

blank_text : All (λ c. c ≡ 32) (row_text false blank_row)
unfolding blank_cells
blank_text =
    All-map (λ c. c ≡ 32) (λ (cell : Cell). character cell.glyph) (take 80 blank_cells)
    (All-take (λ (cell : Cell). character cell.glyph ≡ 32) 80 blank_cells (All-replicate (λ (cell : Cell). character cell.glyph ≡ 32) 132 blank refl))

all_blank : (lines : List ℕ) → AllByRecursion (All (λ c. c ≡ 32)) (map (row_text false) (map (λ _. blank_row) lines))
all_blank [] = tt
all_blank (line ∷ lines) = (blank_text, all_blank lines)

-- a text with ink stands nowhere on a reset terminal
pub reset_nowhere : (text : List ℕ) (profile : Profile) → has_ink text ≡ true → standing text (still_of (reset_term_as profile).console) ≡ []
unfolding table
reset_nowhere text profile ink =
    blank_nowhere text 1 (map (row_text false) (map (λ _. blank_row) (range_with_len 1 24))) ink (all_blank (range_with_len 1 24))

-- ---- from chunk to chunk

pub record Below : Type 0 where
  pub dues : DueIsBelowTheCount
  pub grows : FirstGrowsByAChunk
  pub plays : PlaysInParts

within_end : Below → (profile : Profile) (tape : Tape) (index : ℕ)
    → still_within (up_to profile tape.chunks index) (bytes_at tape.chunks index) (length (bytes_at tape.chunks index)) ≡ still_after profile tape (index + 1)
within_end laws profile tape index =
    let bytes = bytes_at tape.chunks index in
    ap (λ b. still_of (play (up_to profile tape.chunks index) b).console) (take_all (length bytes) bytes (omega arith))
    ∙ ap (λ (x : Term). still_of x.console) (sym (laws.plays (reset_term_as profile) (first tape.chunks index) bytes))
    ∙ ap (λ b. still_of (play (reset_term_as profile) b).console) (sym (laws.grows.at tape.chunks index))

-- which chunks are asked for
low : Below → (chunks : List Chunk) (from : Option ℕ) (to i : ℕ) → i < length chunks → is_asked from to (due_time chunks i) ≡ true → first_asked chunks from ≤ i
low laws chunks None to i within is = omega arith
low laws chunks (Some from) to i within is =
    elim (cases_lt i (due_count chunks from)) [
      | inl lt ↦
          let due : due_time chunks i ≤ from = (laws.dues chunks from i within).1 lt in
          let late = ltb-true from (due_time chunks i) (and_parts (nat_lt from (due_time chunks i)) (nat_le (due_time chunks i) to) is).0 in
          absurd (omega (arith, due, late))
      | inr ge ↦ ge
    ]

high : Below → (chunks : List Chunk) (from : Option ℕ) (to i : ℕ) → i < length chunks → is_asked from to (due_time chunks i) ≡ true → i < due_count chunks to
high laws chunks None to i within is = (laws.dues chunks to i within).0 (leb-true (due_time chunks i) to is)
high laws chunks (Some from) to i within is =
    (laws.dues chunks to i within).0 (leb-true (due_time chunks i) to (and_parts (nat_lt from (due_time chunks i)) (nat_le (due_time chunks i) to) is).1)

asked_is : (tape : Tape) (from : Option ℕ) (to i : ℕ) → i < length tape.chunks → is_asked from to (due_time tape.chunks i) ≡ true → Contains (asked_places tape from to) i
asked_is tape from to i within is =
    let at : 0 + i ≡ i = omega arith in
    filter_has (λ index. is_asked from to (due_time tape.chunks index)) (indices tape.chunks) i
    (subst (Contains (indices tape.chunks)) at (range_has 0 (length tape.chunks) i within)) is

asked_within : (tape : Tape) (from : Option ℕ) (to i : ℕ) → Contains (asked_places tape from to) i → i < length tape.chunks
asked_within tape from to i is =
    let same : 0 + length tape.chunks ≡ length tape.chunks = omega arith in
    subst (λ n. i < n) same
    (All-contains (λ k. k < 0 + length tape.chunks) (asked_places tape from to) i
    (All-filter (λ index. is_asked from to (due_time tape.chunks index)) (λ k. k < 0 + length tape.chunks) (indices tape.chunks)
    (All-from_recursion (λ k. k < 0 + length tape.chunks) (indices tape.chunks) (range_below 0 (length tape.chunks)))) is)

asked_passes : (tape : Tape) (from : Option ℕ) (to i : ℕ) → Contains (asked_places tape from to) i → is_asked from to (due_time tape.chunks i) ≡ true
asked_passes tape from to i is =
    All-contains (λ k. is_asked from to (due_time tape.chunks k) ≡ true) (asked_places tape from to) i
    (filter_passes (λ index. is_asked from to (due_time tape.chunks index)) (indices tape.chunks)) is

-- where nothing is found
pub record FoundNone (profile : Profile) (tape : Tape) (from : Option ℕ) (to : ℕ) (text : List ℕ) : Type 0 where
  pub start : found_from text profile tape from ≡ []
  pub chunks : flat_map (found_of text profile tape) (asked_places tape from to) ≡ []

start_is : (profile : Profile) (tape : Tape) (from : Option ℕ) (text : List ℕ) → has_ink text ≡ true → found_from text profile tape from ≡ []
    → standing text (still_after profile tape (first_asked tape.chunks from)) ≡ []
unfolding found_from play
start_is profile tape None text ink h = reset_nowhere text profile ink
start_is profile tape (Some moment) text ink h =
    map_none (found 61 (due_count tape.chunks moment) moment (still_from profile tape moment)) (standing text (still_from profile tape moment)) h

here : Below → (profile : Profile) (tape : Tape) (from : Option ℕ) (to : ℕ) (text : List ℕ) → FoundNone profile tape from to text
    → (index : ℕ) → Contains (asked_places tape from to) index → standing text (still_after profile tape index) ≡ []
    → (count : ℕ) → count ≤ length (bytes_at tape.chunks index)
    → standing text (still_within (up_to profile tape.chunks index) (bytes_at tape.chunks index) count) ≡ []
here laws profile tape from to text none index asked before count le =
    chunk_none text index (due_time tape.chunks index) (up_to profile tape.chunks index) (bytes_at tape.chunks index) before
    (part_none (found_of text profile tape) (asked_places tape from to) none.chunks index asked) count le

-- nothing stands before each chunk that is asked for
before_each : Below → (profile : Profile) (tape : Tape) (from : Option ℕ) (to : ℕ) (text : List ℕ) → has_ink text ≡ true → FoundNone profile tape from to text
    → (n : ℕ) → ((i : ℕ) → first_asked tape.chunks from ≤ i → i < first_asked tape.chunks from + n → Contains (asked_places tape from to) i)
    → standing text (still_after profile tape (first_asked tape.chunks from + n)) ≡ []
before_each laws profile tape from to text ink none zero asked =
    let same : first_asked tape.chunks from ≡ first_asked tape.chunks from + 0 = omega arith in
    subst (λ i. standing text (still_after profile tape i) ≡ []) same (start_is profile tape from text ink none.start)
before_each laws profile tape from to text ink none (suc n) asked =
    let index = first_asked tape.chunks from + n in
    let next : index + 1 ≡ first_asked tape.chunks from + suc n = omega arith in
    let before = before_each laws profile tape from to text ink none n (λ i low high. asked i low (omega arith)) in
    subst (λ i. standing text (still_after profile tape i) ≡ []) next
    (sym (ap (standing text) (within_end laws profile tape index))
    ∙ here laws profile tape from to text none index (asked index (omega arith) (omega arith)) before (length (bytes_at tape.chunks index)) (omega arith))

asked_between : Below → (tape : Tape) (from : Option ℕ) (to i : ℕ) → i < length tape.chunks → first_asked tape.chunks from ≤ i → i < due_count tape.chunks to
    → Contains (asked_places tape from to) i
asked_between laws tape from to i within low high = asked_is tape from to i within (asked laws.dues tape.chunks from to i within low high)

lines_none : (len : ℕ) (fs : List Found) → flat_map (found_text len) fs ≡ [] → fs ≡ []
lines_none len [] h = refl
lines_none len (f ∷ fs) h = cc

pub nowhere : Below → NowhereMeansNowhere
unfolding find_lines all_found
nowhere laws profile tape from to text ink h =
    let lists = lines_none (length text) (all_found profile tape from to text) h in
    let start : found_from text profile tape from ≡ [] = first_none (found_from text profile tape from) (flat_map (found_of text profile tape) (asked_places tape from to)) lists in
    let chunks : flat_map (found_of text profile tape) (asked_places tape from to) ≡ [] = second_none (found_from text profile tape from) (flat_map (found_of text profile tape) (asked_places tape from to)) lists in
    let none : FoundNone profile tape from to text = record { start = start; chunks = chunks } in
    record {
      start = λ moment is. start_is profile tape (Some moment) text ink (subst (λ o. found_from text profile tape o ≡ []) is start);
      within = λ index count asked le.
          let within = asked_within tape from to index asked in
          let passes = asked_passes tape from to index asked in
          let from_first = low laws tape.chunks from to index within passes in
          let to_last = high laws tape.chunks from to index within passes in
          let n = index - first_asked tape.chunks from in
          let at : first_asked tape.chunks from + n ≡ index = omega arith in
          here laws profile tape from to text none index asked
          (subst (λ i. standing text (still_after profile tape i) ≡ []) at
          (before_each laws profile tape from to text ink none n
          (λ i low high. asked_between laws tape from to i (omega arith) low (omega arith))))
          count le;
    }
