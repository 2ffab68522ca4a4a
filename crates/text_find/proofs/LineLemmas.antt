-- What is written of a chunk that is played byte by byte.
use Rattle.std.proofs.Common.{◌≡◌, ℕ, zero, suc, true, false, ◌+◌, ◌-◌, ◌<◌, ◌≤◌, Bool, ◌&&◌, cond, max, List, [], ◌∷◌, ◌++◌, append-nil, filter, length, get_or, map, nat_eq, take, Option, None, Some, refl, ap, subst, sym, ◌∙◌, arith, inl, inr}
use Rattle.std.specs.List.{count_by, flat_map, range_with_len}
use Rattle.std.proofs.lemmas.Bool.{cases_Bool, eq-eqb, false≢true, lt-leb}
use Rattle.std.proofs.lemmas.List.{drop_more}
use Rattle.std.proofs.lemmas.List.Concat.{flat_map-append}
use Rattle.std.proofs.lemmas.List.Sums.{count_by_more_yes, sum_by-take-drop}
use Rattle.std.specs.Cmp.Lexicographic.{pointwise}
use Rattle.tape_core.specs.declared.chunk.Chunk.{Chunk}
use Rattle.tape_core.specs.Due.{bytes_at, due_count, due_time, first}
use Rattle.tape_core.specs.Law.{DueIsBelowTheCount}
use Rattle.tape_core.specs.Tape.{Tape}
use Rattle.chunk_walk.specs.Stops.{first_asked}
use Rattle.chunk_walk.specs.Walk.{asked_places, is_asked}
use Rattle.chunk_walk.proofs.TextLemmas.{passing_between, range_split, texts_from}
use Rattle.standings.specs.declared.left.Standing.{Standing}
use Rattle.standings.specs.declared.place.Place.{Place}
use Rattle.standings.specs.Found.{Found, found, found_line, found_text}
use Rattle.standings.specs.Less.{has_passed}
use Rattle.standings.specs.Rows.{Row}
use Rattle.standings.specs.Standing.{count_left, gone, is_less, is_lone, left_of, passed, place_at, place_in, standing}
use Rattle.text_find.specs.FindLines.{Screens, all_found, all_passed, found_from, found_in, found_of, lines_found, passed_at, rows_from, rows_within}
use Rattle.text_find.specs.Lines.{IsHeld, IsStill, byte_lines, chunk_lines, chunk_lines_at, from_lines, less_line, less_lines, passed_line, passed_lines}
use Rattle.chunk_walk.proofs.AskedLemmas.{asked, early, past_due}
use Rattle.text_find.proofs.NowhereLemmas.{within_start, within_whole}

-- ---- the lines of what is found

lines_picked : (write : Place → List ℕ) (pick : ℕ → Place) (test : ℕ → Bool) (ns : List ℕ)
    → flat_map write (map pick (filter test ns)) ≡ flat_map (λ n. cond (test n) (write (pick n)) []) ns
lines_picked write pick test [] = refl
lines_picked write pick test (n ∷ ns) = elim (cases_Bool (test n)) [
  | inl t ↦ rw t (ap (λ l. write (pick n) ++ l) (lines_picked write pick test ns))
  | inr f ↦ rw f (lines_picked write pick test ns)
]

lines_kept : (write : Place → List ℕ) (keep : Place → Bool) (pick : ℕ → Place) (test : ℕ → Bool) (ns : List ℕ)
    → flat_map write (filter keep (map pick (filter test ns))) ≡ flat_map (λ n. cond (test n) (cond (keep (pick n)) (write (pick n)) []) []) ns
lines_kept write keep pick test [] = refl
lines_kept write keep pick test (n ∷ ns) = elim (cases_Bool (test n)) [
  | inl t ↦ rw t (elim (cases_Bool (keep (pick n))) [
    | inl k ↦ rw k (ap (λ l. write (pick n) ++ l) (lines_kept write keep pick test ns))
    | inr k ↦ rw k (lines_kept write keep pick test ns)
  ])
  | inr f ↦ rw f (lines_kept write keep pick test ns)
]

lines_mapped : {X : Type 0} (write : Found → List ℕ) (made : X → Found) (xs : List X) → flat_map write (map made xs) ≡ flat_map (λ x. write (made x)) xs
lines_mapped write made [] = refl
lines_mapped write made (x ∷ xs) = ap (λ l. write (made x) ++ l) (lines_mapped write made xs)

lines_nested : (write : Found → List ℕ) (parts : ℕ → List Found) (lines : ℕ → List ℕ) → ((n : ℕ) → flat_map write (parts n) ≡ lines n) → (ns : List ℕ)
    → flat_map write (flat_map parts ns) ≡ flat_map lines ns
lines_nested write parts lines same [] = refl
lines_nested write parts lines same (n ∷ ns) =
    flat_map-append write (parts n) (flat_map parts ns)
    ∙ ap (λ l. l ++ flat_map write (flat_map parts ns)) (same n)
    ∙ ap (λ l. lines n ++ l) (lines_nested write parts lines same ns)

gone_lines : (text : List ℕ) (sign index due : ℕ) (one other : List Row)
    → flat_map (found_text (length text)) (map (found sign index due one) (gone text one other))
    ≡ less_lines sign index due (length text) one (standing text one) other (standing text other)
unfolding gone
gone_lines text sign index due one other =
    lines_mapped (found_text (length text)) (found sign index due one) (gone text one other)
    ∙ lines_picked (found_line sign index due (length text) one) (place_at (standing text one))
    (is_less one (standing text one) other (standing text other)) (range_with_len 0 (length (standing text one)))

-- what passed between two screens
passed_lines_are : (text : List ℕ) (index due : ℕ) (first last one other : List Row)
    → flat_map (found_text (length text)) (map (found 126 index due one) (passed text first last one other))
    ≡ passed_lines index due (length text) first (standing text first) last (standing text last) one (standing text one) other (standing text other)
unfolding passed gone
passed_lines_are text index due first last one other =
    lines_mapped (found_text (length text)) (found 126 index due one) (passed text first last one other)
    ∙ lines_kept (found_line 126 index due (length text) one)
    (λ (place : Place). is_lone first (standing text first) (left_of one place) && is_lone last (standing text last) (left_of one place))
    (place_at (standing text one))
    (is_less one (standing text one) other (standing text other)) (range_with_len 0 (length (standing text one)))

passed_are : (text : List ℕ) (index due : ℕ) (screen : List ℕ → List Row) (before bytes : List ℕ) (count : ℕ)
    → flat_map (found_text (length text)) (passed_at text index due screen before bytes count)
    ≡ byte_lines text index due (rows_within screen before bytes 0) (standing text (rows_within screen before bytes 0)) (rows_within screen before bytes (length bytes)) (standing text (rows_within screen before bytes (length bytes))) screen before bytes count
passed_are text index due screen before bytes count =
    passed_lines_are text index due (rows_within screen before bytes 0) (rows_within screen before bytes (length bytes)) (rows_within screen before bytes count) (rows_within screen before bytes (count + 1))

pub chunk_is : (text : List ℕ) (index due : ℕ) (screen : List ℕ → List Row) (before bytes : List ℕ)
    → flat_map (found_text (length text)) (found_in text index due screen before bytes) ≡ chunk_lines text index due screen before bytes
unfolding found_in
chunk_is text index due screen before bytes =
    let one = rows_within screen before bytes 0 in
    let other = rows_within screen before bytes (length bytes) in
    let write = found_text (length text) in
    let went = map (found 45 index due one) (gone text one other) in
    let middle = all_passed text index due screen before bytes in
    let came = map (found 43 index due other) (gone text other one) in
    flat_map-append write (went ++ middle) came
    ∙ ap (λ l. l ++ flat_map write came) (flat_map-append write went middle)
    ∙ ap (λ l. (l ++ flat_map write middle) ++ flat_map write came) (gone_lines text 45 index due one other)
    ∙ ap (λ l. (less_lines 45 index due (length text) one (standing text one) other (standing text other) ++ l) ++ flat_map write came)
    (lines_nested write (passed_at text index due screen before bytes) (byte_lines text index due one (standing text one) other (standing text other) screen before bytes) (passed_are text index due screen before bytes) (range_with_len 0 (length bytes)))
    ∙ ap (λ l. (less_lines 45 index due (length text) one (standing text one) other (standing text other)
    ++ flat_map (byte_lines text index due one (standing text one) other (standing text other) screen before bytes) (range_with_len 0 (length bytes))) ++ l) (gone_lines text 43 index due other one)

-- ---- where a screen stays

pub pointwise_same : (xs : List ℕ) → pointwise nat_eq xs xs ≡ true
pointwise_same [] = refl
pointwise_same (x ∷ xs) = rw (eq-eqb x x refl) (pointwise_same xs)

pub fewer_before : (p : Place → Bool) (places : List Place) (n : ℕ) → n < length places → p (place_at places n) ≡ true
    → count_by p (take n places) < count_by p places
fewer_before p places n lt passes =
    omega (arith, count_by_more_yes p places n (place_in 0 0) lt passes, sum_by-take-drop (λ x. cond (p x) 1 0) places (n + 1))

-- each place counts itself
not_less : (one : List Row) (places : List Place) (n : ℕ) → n < length places → is_less one places one places n ≡ false
not_less one places n lt =
    let left = left_of one (place_at places n) in
    lt-leb (count_left one places left) (count_left one (take n places) left)
    (fewer_before (λ place. pointwise nat_eq (left_of one place) left) places n lt (pointwise_same left))

pub none_from : (f : ℕ → List ℕ) (a n : ℕ) → ((i : ℕ) → a ≤ i → i < a + n → f i ≡ []) → flat_map f (range_with_len a n) ≡ []
none_from f a zero h = refl
none_from f a (suc n) h = rw (h a (omega arith) (omega arith)) (none_from f (a + 1) n (λ i low high. h i (omega arith) (omega arith)))

-- none of those between two: as far as the first of them all is written
pub none_between : (f : ℕ → List ℕ) (m n : ℕ) → m ≤ n → ((k : ℕ) → m ≤ k → k < n → f k ≡ []) → texts_from f 0 n ≡ texts_from f 0 m
none_between f m n le none =
    let all : m + (n - m) ≡ n = omega (arith, le) in
    ap (texts_from f 0) (sym all) ∙ ap (flat_map f) (range_split 0 m (n - m)) ∙ flat_map-append f (range_with_len 0 m) (range_with_len (0 + m) (n - m))
    ∙ ap (λ l. texts_from f 0 m ++ l) (none_from f (0 + m) (n - m) (λ k low high. none k (omega (arith, low)) (omega (arith, high, le))))
    ∙ append-nil (texts_from f 0 m)

-- where the screen stays nothing passed
pub nothing_passed : (text : List ℕ) (index due len : ℕ) (first : List Row) (firsts : List Place) (last : List Row) (lasts : List Place) (one : List Row) (places : List Place) (other : List Row)
    → one ≡ other → places ≡ standing text one
    → passed_lines index due len first firsts last lasts one places other (standing text other) ≡ []
nothing_passed text index due len first firsts last lasts one places other same is =
    ap (λ ps. passed_lines index due len first firsts last lasts one ps other (standing text other)) is
    ∙ ap (λ r. passed_lines index due len first firsts last lasts one (standing text one) r (standing text r)) (sym same)
    ∙ none_from (passed_line index due len first firsts last lasts one (standing text one) one (standing text one)) 0 (length (standing text one))
    (λ n low high. rw (not_less one (standing text one) n (omega arith)) refl)

-- nor where the other screen has as many of each left part
less_kept : (one : List Row) (places : List Place) (other : List Row) (others : List Place)
    → ((left : List ℕ) → count_left one places left ≤ count_left other others left)
    → (n : ℕ) → n < length places → is_less one places other others n ≡ false
less_kept one places other others kept n lt =
    let left = left_of one (place_at places n) in
    let fewer = fewer_before (λ place. pointwise nat_eq (left_of one place) left) places n lt (pointwise_same left) in
    lt-leb (count_left other others left) (count_left one (take n places) left) (omega (arith, fewer, kept left))

pub none_passed : (index due len : ℕ) (first : List Row) (firsts : List Place) (last : List Row) (lasts : List Place) (one : List Row) (places : List Place) (other : List Row) (others : List Place)
    → ((left : List ℕ) → count_left one places left ≤ count_left other others left)
    → passed_lines index due len first firsts last lasts one places other others ≡ []
none_passed index due len first firsts last lasts one places other others kept =
    none_from (passed_line index due len first firsts last lasts one places other others) 0 (length places)
    (λ n low high. rw (less_kept one places other others kept n (omega arith)) refl)

-- and nothing is less
pub none_less : (sign index due len : ℕ) (one : List Row) (places : List Place) (other : List Row) (others : List Place)
    → ((left : List ℕ) → count_left one places left ≤ count_left other others left)
    → less_lines sign index due len one places other others ≡ []
none_less sign index due len one places other others kept =
    none_from (less_line sign index due len one places other others) 0 (length places)
    (λ n low high. rw (less_kept one places other others kept n (omega arith)) refl)

-- nor where each place is kept, or has a left part that stands at the chunk's start
none_at : (index due len : ℕ) (first : List Row) (firsts : List Place) (last : List Row) (lasts : List Place) (one : List Row) (places : List Place) (other : List Row) (others : List Place) (n : ℕ)
    → (is_less one places other others n && is_lone first firsts (left_of one (place_at places n))) ≡ false
    → passed_line index due len first firsts last lasts one places other others n ≡ []
none_at index due len first firsts last lasts one places other others n none = elim (cases_Bool (is_less one places other others n)) [
  | inl t ↦ rw t (rw (rw t at none) refl)
  | inr f ↦ rw f refl
]

pub none_of_all : (index due len : ℕ) (first : List Row) (firsts : List Place) (last : List Row) (lasts : List Place) (one : List Row) (places : List Place) (other : List Row) (others : List Place)
    → ((n : ℕ) → n < length places → (is_less one places other others n && is_lone first firsts (left_of one (place_at places n))) ≡ false)
    → passed_lines index due len first firsts last lasts one places other others ≡ []
none_of_all index due len first firsts last lasts one places other others none =
    none_from (passed_line index due len first firsts last lasts one places other others) 0 (length places)
    (λ n low high. none_at index due len first firsts last lasts one places other others n (none n (omega arith)))

-- nor where a place didn't pass
pub not_passed : (index due len : ℕ) (first : List Row) (firsts : List Place) (last : List Row) (lasts : List Place) (one : List Row) (places : List Place) (other : List Row) (others : List Place) (n : ℕ)
    → has_passed first firsts last lasts one places other others n ≡ false
    → passed_line index due len first firsts last lasts one places other others n ≡ []
not_passed index due len first firsts last lasts one places other others n none =
    let left = left_of one (place_at places n) in
    elim (cases_Bool (is_less one places other others n)) [
      | inr f ↦ rw f refl
      | inl t ↦ rw t (elim (cases_Bool (is_lone first firsts left && is_lone last lasts left)) [
        | inr f ↦ rw f refl
        | inl both ↦ absurd (false≢true (sym none ∙ rw both t))
      ])
    ]

-- ---- the same lines, by what is kept of the screens

-- the places that are kept, by the rows that are
pub places_kept : (text : List ℕ) (screen : List Row) (still : Standing) → IsStill text screen still → still.places.items ≡ standing text still.rows.items
places_kept text screen still is = is.places ∙ ap (standing text) (sym is.rows)

-- what tells of a screen tells where the text stands on it
pub still_held : (text : List ℕ) (screen : List Row) (still : Standing) → IsStill text screen still → IsHeld text screen still
still_held text screen still is = record { places = is.places; stood = places_kept text screen still is; rows = inr is.rows }

-- and of it, where the text stands somewhere
pub held_still : (text : List ℕ) (screen : List Row) (still : Standing) → (still.places.items ≡ [] → ⊥) → IsHeld text screen still → IsStill text screen still
held_still text screen still stands held = elim held.rows [
  | inl none ↦ absurd (stands none)
  | inr rows ↦ record { rows = rows; places = held.places }
]

-- rows that are those of a screen
pub held_on : (text : List ℕ) (screen : List Row) (one other : Standing) → one.rows.items ≡ other.rows.items → one.places.items ≡ standing text one.rows.items → IsStill text screen other
    → IsHeld text screen one
held_on text screen one other same stood is = record {
  places = stood ∙ ap (standing text) (same ∙ is.rows);
  stood = stood;
  rows = inr (same ∙ is.rows);
}

-- what doesn't depend on the rows where the text stands nowhere
pub held_by : (f : List Row → List Place → List ℕ) (text : List ℕ) (screen : List Row) (still : Standing) → ((r r' : List Row) → f r [] ≡ f r' []) → IsHeld text screen still
    → f still.rows.items still.places.items ≡ f screen (standing text screen)
held_by f text screen still apart held = elim held.rows [
  | inl none ↦ ap (f still.rows.items) none ∙ apart still.rows.items screen ∙ ap (f screen) (sym none ∙ held.places)
  | inr rows ↦ ap (f still.rows.items) held.places ∙ ap (λ r. f r (standing text screen)) rows
]

-- what passed, by what is kept of both screens
pub passed_by : (text : List ℕ) (index due len : ℕ) (first : List Row) (firsts : List Place) (last : List Row) (lasts : List Place) (screen screen' : List Row) (one other : Standing)
    → IsHeld text screen one → IsStill text screen' other
    → passed_lines index due len first firsts last lasts one.rows.items one.places.items other.rows.items other.places.items
    ≡ passed_lines index due len first firsts last lasts screen (standing text screen) screen' (standing text screen')
passed_by text index due len first firsts last lasts screen screen' one other is is' =
    held_by (λ r ps. passed_lines index due len first firsts last lasts r ps other.rows.items other.places.items) text screen one (λ r r'. refl) is
    ∙ ap (λ ps. passed_lines index due len first firsts last lasts screen (standing text screen) other.rows.items ps) is'.places
    ∙ ap (λ r. passed_lines index due len first firsts last lasts screen (standing text screen) r (standing text screen')) is'.rows

less_is : (sign index due : ℕ) (text : List ℕ) (len : ℕ) (screen screen' : List Row) (one other : Standing)
    → len ≡ length text → IsHeld text screen one → IsHeld text screen' other
    → less_lines sign index due len one.rows.items one.places.items other.rows.items other.places.items
    ≡ less_lines sign index due (length text) screen (standing text screen) screen' (standing text screen')
less_is sign index due text len screen screen' one other l is is' =
    ap (λ n. less_lines sign index due n one.rows.items one.places.items other.rows.items other.places.items) l
    ∙ held_by (λ r ps. less_lines sign index due (length text) r ps other.rows.items other.places.items) text screen one (λ r r'. refl) is
    ∙ held_by (λ r ps. less_lines sign index due (length text) screen (standing text screen) r ps) text screen' other (λ r r'. refl) is'

bytes_are : (text : List ℕ) (index due : ℕ) (first last : List Row) (one other : Standing) (screen : List ℕ → List Row) (before bytes : List ℕ) (n : ℕ)
    → IsHeld text first one → IsHeld text last other
    → flat_map (byte_lines text index due one.rows.items one.places.items other.rows.items other.places.items screen before bytes) (range_with_len 0 n)
    ≡ flat_map (byte_lines text index due first (standing text first) last (standing text last) screen before bytes) (range_with_len 0 n)
bytes_are text index due first last one other screen before bytes n is is' =
    held_by (λ r ps. flat_map (byte_lines text index due r ps other.rows.items other.places.items screen before bytes) (range_with_len 0 n)) text first one (λ r r'. refl) is
    ∙ held_by (λ r ps. flat_map (byte_lines text index due first (standing text first) r ps screen before bytes) (range_with_len 0 n)) text last other (λ r r'. refl) is'

-- the three parts of a chunk's lines
pub chunk_in_three : (text : List ℕ) (index due len : ℕ) (screen : List ℕ → List Row) (before bytes : List ℕ) (one other : Standing)
    → len ≡ length text → IsHeld text (screen before) one → IsStill text (screen (before ++ bytes)) other
    → (less_lines 45 index due len one.rows.items one.places.items other.rows.items other.places.items
    ++ flat_map (byte_lines text index due one.rows.items one.places.items other.rows.items other.places.items screen before bytes) (range_with_len 0 (length bytes)))
    ++ less_lines 43 index due len other.rows.items other.places.items one.rows.items one.places.items
    ≡ chunk_lines text index due screen before bytes
chunk_in_three text index due len screen before bytes one other l is is' =
    let first = rows_within screen before bytes 0 in
    let last = rows_within screen before bytes (length bytes) in
    let here : IsHeld text first one = subst (λ r. IsHeld text r one) (sym (within_start screen before bytes)) is in
    let there : IsHeld text last other = subst (λ r. IsHeld text r other) (sym (within_whole screen before bytes)) (still_held text (screen (before ++ bytes)) other is') in
    ap (λ l. (l ++ flat_map (byte_lines text index due one.rows.items one.places.items other.rows.items other.places.items screen before bytes) (range_with_len 0 (length bytes)))
    ++ less_lines 43 index due len other.rows.items other.places.items one.rows.items one.places.items) (less_is 45 index due text len first last one other l here there)
    ∙ ap (λ l. (less_lines 45 index due (length text) first (standing text first) last (standing text last) ++ l)
    ++ less_lines 43 index due len other.rows.items other.places.items one.rows.items one.places.items) (bytes_are text index due first last one other screen before bytes (length bytes) here there)
    ∙ ap (λ l. (less_lines 45 index due (length text) first (standing text first) last (standing text last)
    ++ flat_map (byte_lines text index due first (standing text first) last (standing text last) screen before bytes) (range_with_len 0 (length bytes))) ++ l)
    (less_is 43 index due text len last first other one l there here)

-- ---- chunks

-- the bytes of a chunk
pub bytes_here : (chunks : List Chunk) (i : ℕ) (d : Chunk) → i < length chunks → (get_or chunks i d).bytes ≡ bytes_at chunks i
bytes_here chunks i d lt =
    sym (append-nil (get_or chunks i d).bytes)
    ∙ sym (ap (λ l. flat_map (λ (c : Chunk). c.bytes) (take 1 l)) (drop_more chunks i d lt))

-- the lines of a chunk are those at its place
pub lines_here : {P : Type 0} (text : List ℕ) (screens : Screens P) (profile : P) (tape : Tape) (index i due : ℕ) (chunk : List ℕ)
    → i ≡ index → due ≡ due_time tape.chunks index → chunk ≡ bytes_at tape.chunks index
    → chunk_lines text i due (screens profile) (first tape.chunks index) chunk ≡ chunk_lines_at text screens profile tape index
lines_here text screens profile tape index i due chunk here is bytes =
    let screen = screens profile in
    let before = first tape.chunks index in
    ap (λ n. chunk_lines text n due screen before chunk) here
    ∙ ap (λ d. chunk_lines text index d screen before chunk) is
    ∙ ap (chunk_lines text index (due_time tape.chunks index) screen before) bytes

module _ {P : Type 0} (screens : Screens P) where
  from_are : (text : List ℕ) (profile : P) (tape : Tape) (from : Option ℕ) (rows : List Row)
      → rows ≡ screens profile (first tape.chunks (first_asked tape.chunks from))
      → flat_map (found_text (length text)) (found_from screens profile tape text from) ≡ from_lines (length text) rows (standing text rows) (first_asked tape.chunks from) from
  unfolding found_from
  from_are text profile tape None rows is = refl
  from_are text profile tape (Some moment) rows is =
      let there = rows_from screens profile tape moment in
      lines_mapped (found_text (length text)) (found 61 (due_count tape.chunks moment) moment there) (standing text there)
      ∙ ap (λ r. flat_map (found_line 61 (due_count tape.chunks moment) moment (length text) r) (standing text r)) (sym is)

  -- all lines: those of the moment, and those of the chunks that are asked for
  lines_are : (profile : P) (tape : Tape) (from : Option ℕ) (to : ℕ) (text : List ℕ) (rows : List Row)
      → rows ≡ screens profile (first tape.chunks (first_asked tape.chunks from))
      → lines_found screens profile tape from to text
      ≡ from_lines (length text) rows (standing text rows) (first_asked tape.chunks from) from ++ flat_map (chunk_lines_at text screens profile tape) (asked_places tape from to)
  unfolding lines_found all_found
  lines_are profile tape from to text rows is =
      let write = found_text (length text) in
      let chunks = flat_map (found_of screens profile tape text) (asked_places tape from to) in
      flat_map-append write (found_from screens profile tape text from) chunks
      ∙ ap (λ l. l ++ flat_map write chunks) (from_are text profile tape from rows is)
      ∙ ap (λ l. from_lines (length text) rows (standing text rows) (first_asked tape.chunks from) from ++ l)
      (lines_nested write (found_of screens profile tape text) (chunk_lines_at text screens profile tape)
      (λ index. chunk_is text index (due_time tape.chunks index) (screens profile) (first tape.chunks index) (bytes_at tape.chunks index)) (asked_places tape from to))

  -- the chunks that are asked for lie between two places
  asked_range : DueIsBelowTheCount → (f : ℕ → List ℕ) (tape : Tape) (from : Option ℕ) (to start end : ℕ) → start ≡ first_asked tape.chunks from
      → end ≡ max (due_count tape.chunks to) start → start ≤ length tape.chunks → due_count tape.chunks to ≤ length tape.chunks
      → texts_from f start (end - start) ≡ flat_map f (asked_places tape from to)
  asked_range law f tape from to start end low high within within' =
      let rising : start ≤ end = omega arith in
      let inside : end ≤ length tape.chunks = omega arith in
      sym (ap (flat_map f) (passing_between (λ i. is_asked from to (due_time tape.chunks i)) start end (length tape.chunks) rising inside
      (λ i h. early law tape.chunks from to i (omega arith) (omega arith))
      (λ i l h. asked law tape.chunks from to i (omega arith) (omega arith) (omega arith))
      (λ i l h. past_due law tape.chunks from to i h (omega arith))))

  -- all lines, by what stands before the first chunk that is asked for
  pub lines_in_two : DueIsBelowTheCount → (profile : P) (tape : Tape) (from : Option ℕ) (to : ℕ) (text : List ℕ) (start end : ℕ) (rows : List Row) (places : List Place)
      → start ≡ first_asked tape.chunks from → end ≡ max (due_count tape.chunks to) start → start ≤ length tape.chunks → due_count tape.chunks to ≤ length tape.chunks
      → rows ≡ screens profile (first tape.chunks start) → places ≡ standing text rows
      → from_lines (length text) rows places start from ++ texts_from (chunk_lines_at text screens profile tape) start (end - start) ≡ lines_found screens profile tape from to text
  lines_in_two law profile tape from to text start end rows places low high within within' is stand =
      let all = flat_map (chunk_lines_at text screens profile tape) (asked_places tape from to) in
      ap (λ l. from_lines (length text) rows places start from ++ l) (asked_range law (chunk_lines_at text screens profile tape) tape from to start end low high within within')
      ∙ ap (λ ps. from_lines (length text) rows ps start from ++ all) stand
      ∙ ap (λ n. from_lines (length text) rows (standing text rows) n from ++ all) low
      ∙ sym (lines_are profile tape from to text rows (is ∙ ap (λ n. screens profile (first tape.chunks n)) low))
