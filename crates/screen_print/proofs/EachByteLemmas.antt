-- What is written of a chunk that is played byte by byte.
use Rattle.std.proofs.Common.{◌≡◌, ℕ, ◌+◌, ◌<◌, Bool, ◌&&◌, cond, ◌-◌, ◌≤◌, max, List, [], ◌∷◌, ◌++◌, append-nil, filter, length, get_or, map, take, Option, None, Some, refl, ap, sym, ◌∙◌, arith, inl, inr}
use Rattle.std.specs.List.{flat_map, range_with_len}
use Rattle.std.proofs.lemmas.Bool.{cases_Bool}
use Rattle.std.proofs.lemmas.List.{drop_more, take_all, take_more}
use Rattle.std.proofs.lemmas.List.Concat.{flat_map-append}
use Rattle.tape_core.specs.declared.chunk.Chunk.{Chunk}
use Rattle.tape_core.specs.Due.{bytes_at, due_count, due_time}
use Rattle.tape_core.specs.Law.{DueIsBelowTheCount}
use Rattle.tape_core.specs.Tape.{Tape}
use Rattle.tape_seek.specs.Moments.{up_to}
use Rattle.vt_term.specs.declared.profile.Profile.{Profile}
use Rattle.vt_term.specs.Law.{PlaysInParts}
use Rattle.vt_term.specs.Seen.{Seen, Shows}
use Rattle.vt_term.specs.Term.{Term, play}
use Rattle.screen_print.specs.declared.standing.Place.{Place}
use Rattle.screen_print.specs.EachByte.{Found, all_found, all_passed, byte_lines, chunk_lines, chunk_lines_at, find_lines, found, found_from, found_in, found_of, found_text, from_lines, gone, is_lone, passed, passed_at, passed_lines, still_from, still_within}
use Rattle.screen_print.specs.FindLines.{find_text, found_line, is_less, left_of, less_lines, place_in, standing}
use Rattle.screen_print.specs.Stills.{Still, still_of}
use Rattle.chunk_walk.specs.Stops.{first_asked}
use Rattle.chunk_walk.specs.Walk.{asked_places, is_asked}
use Rattle.screen_print.specs.Walk.{still_after}
use Rattle.chunk_walk.proofs.TextLemmas.{passing_between, texts_from}
use Rattle.chunk_walk.proofs.AskedLemmas.{asked, early, past_due}

append_none : (xs ys : List ℕ) → xs ++ ys ≡ [] → (xs ≡ []) × (ys ≡ [])
append_none [] ys h = (refl, h)
append_none (x ∷ xs) ys h = cc

-- nothing is played of no bytes
pub shows_start : (seen : Seen) (x : Term) → Shows seen x → Shows seen (play x [])
unfolding play
shows_start seen x h = h

-- a byte more
pub play_more : PlaysInParts → (x : Term) (bytes : List ℕ) (at : ℕ) → at < length bytes
    → play (play x (take at bytes)) (get_or bytes at 0 ∷ []) ≡ play x (take (at + 1) bytes)
play_more plays x bytes at lt =
    sym (plays x (take at bytes) (get_or bytes at 0 ∷ [])) ∙ ap (play x) (sym (take_more bytes at 0 lt))

-- the same lines, told by what equals
pub less_is : (sign index due : ℕ) (text : List ℕ) (len : ℕ) (one one' other other' : Still) (places others : List Place)
    → len ≡ length text → one ≡ one' → places ≡ standing text one → other ≡ other' → others ≡ standing text other
    → less_lines sign index due len one places other others ≡ less_lines sign index due (length text) one' (standing text one') other' (standing text other')
less_is sign index due text len one one' other other' places others l a p b q =
    ap (λ n. less_lines sign index due n one places other others) l
    ∙ ap (λ ps. less_lines sign index due (length text) one ps other others) p
    ∙ ap (λ ps. less_lines sign index due (length text) one (standing text one) other ps) q
    ∙ ap (λ s. less_lines sign index due (length text) s (standing text s) other (standing text other)) a
    ∙ ap (λ s. less_lines sign index due (length text) one' (standing text one') s (standing text s)) b

pub passed_moved : (index due : ℕ) (text : List ℕ) (len : ℕ) (first last : Still) (firsts lasts : List Place) (one one' other other' : Still) (places others : List Place)
    → one ≡ one' → places ≡ standing text one → other ≡ other' → others ≡ standing text other
    → passed_lines index due len first firsts last lasts one places other others ≡ passed_lines index due len first firsts last lasts one' (standing text one') other' (standing text other')
passed_moved index due text len first last firsts lasts one one' other other' places others a p b q =
    ap (λ ps. passed_lines index due len first firsts last lasts one ps other others) p
    ∙ ap (λ ps. passed_lines index due len first firsts last lasts one (standing text one) other ps) q
    ∙ ap (λ s. passed_lines index due len first firsts last lasts s (standing text s) other (standing text other)) a
    ∙ ap (λ s. passed_lines index due len first firsts last lasts one' (standing text one') s (standing text s)) b

-- a byte's lines, by what stands before it and by the terminals that are seen before and after it
pub byte_is : (text : List ℕ) (index due len : ℕ) (first last : Still) (firsts lasts : List Place) (x : Term) (bytes : List ℕ) (at : ℕ) (still : Still) (one other : Seen)
    → len ≡ length text → still ≡ still_of one.console → Shows one (play x (take at bytes)) → Shows other (play x (take (at + 1) bytes))
    → passed_lines index due len first firsts last lasts still (standing text still) (still_of other.console) (standing text (still_of other.console))
    ≡ byte_lines text index due first firsts last lasts x bytes at
byte_is text index due len first last firsts lasts x bytes at still one other l is a b =
    let t = still_of other.console in
    ap (λ n. passed_lines index due n first firsts last lasts still (standing text still) t (standing text t)) l
    ∙ passed_moved index due text (length text) first last firsts lasts still (still_within x bytes at) t (still_within x bytes (at + 1)) (standing text still) (standing text t)
    (is ∙ ap still_of (sym a.console)) refl (ap still_of (sym b.console)) refl

-- where nothing came or went between two screens, nothing passed
none_less : (test keep : ℕ → Bool) (one other : ℕ → List ℕ) → ((n : ℕ) → one n ≡ [] → ⊥) → (ns : List ℕ)
    → flat_map (λ n. cond (test n) (one n) []) ns ≡ [] → flat_map (λ n. cond (test n) (cond (keep n) (other n) []) []) ns ≡ []
none_less test keep one other some [] h = refl
none_less test keep one other some (n ∷ ns) h = elim (cases_Bool (test n)) [
  | inl t ↦ absurd (some n (append_none (one n) (flat_map (λ n. cond (test n) (one n) []) ns) (rw t at h)).0)
  | inr f ↦ rw f (none_less test keep one other some ns (rw f at h))
]

line_has_bytes : (sign index due len : ℕ) (still : Still) (place : Place) → found_line sign index due len still place ≡ [] → ⊥
line_has_bytes sign index due len still place h = cc

pub nothing_passed : (text : List ℕ) (index due len : ℕ) (first last : Still) (firsts lasts : List Place) (one other : Still)
    → find_text text 0 0 one other ≡ []
    → passed_lines index due len first firsts last lasts one (standing text one) other (standing text other) ≡ []
unfolding find_text
nothing_passed text index due len first last firsts lasts one other h =
    let places = standing text one in
    let others = standing text other in
    none_less (is_less one places other others)
    (λ n. is_lone first firsts (left_of one (get_or places n (place_in 1 1))) && is_lone last lasts (left_of one (get_or places n (place_in 1 1))))
    (λ n. found_line 45 0 0 (length text) one (get_or places n (place_in 1 1)))
    (λ n. found_line 126 index due len one (get_or places n (place_in 1 1)))
    (λ n. line_has_bytes 45 0 0 (length text) one (get_or places n (place_in 1 1)))
    (range_with_len 0 (length places))
    (append_none (less_lines 45 0 0 (length text) one places other others) (less_lines 43 0 0 (length text) other others one places) h).0

-- where nothing is found between two screens nothing is less on either
pub nothing_less : (text : List ℕ) (index due len : ℕ) (one other : Still) → len ≡ length text → find_text text index due one other ≡ []
    → (less_lines 45 index due len one (standing text one) other (standing text other) ≡ [])
    × (less_lines 43 index due len other (standing text other) one (standing text one) ≡ [])
unfolding find_text
nothing_less text index due len one other is h =
    let both = append_none (less_lines 45 index due (length text) one (standing text one) other (standing text other))
    (less_lines 43 index due (length text) other (standing text other) one (standing text one)) h in
    rw is both

pub bytes_are : (text : List ℕ) (index due : ℕ) (x : Term) (bytes : List ℕ) (n : ℕ) (first first' last last' : Still) (firsts lasts : List Place)
    → first ≡ first' → firsts ≡ standing text first → last ≡ last' → lasts ≡ standing text last
    → flat_map (byte_lines text index due first firsts last lasts x bytes) (range_with_len 0 n)
    ≡ flat_map (byte_lines text index due first' (standing text first') last' (standing text last') x bytes) (range_with_len 0 n)
bytes_are text index due x bytes n first first' last last' firsts lasts a p b q =
    ap (λ ps. flat_map (byte_lines text index due first ps last lasts x bytes) (range_with_len 0 n)) p
    ∙ ap (λ ps. flat_map (byte_lines text index due first (standing text first) last ps x bytes) (range_with_len 0 n)) q
    ∙ ap (λ s. flat_map (byte_lines text index due s (standing text s) last (standing text last) x bytes) (range_with_len 0 n)) a
    ∙ ap (λ s. flat_map (byte_lines text index due first' (standing text first') s (standing text s) x bytes) (range_with_len 0 n)) b

-- a terminal that shows a term shows what stands on it
pub still_shown : (seen : Seen) (x : Term) → Shows seen x → still_of seen.console ≡ still_of x.console
still_shown seen x h = ap still_of (sym h.console)

-- the screens at both ends
pub first_is : (x : Term) (bytes : List ℕ) → still_of x.console ≡ still_within x bytes 0
unfolding play
first_is x bytes = refl

pub last_is : (x : Term) (bytes : List ℕ) → still_of (play x bytes).console ≡ still_within x bytes (length bytes)
last_is x bytes = ap (λ b. still_of (play x b).console) (sym (take_all (length bytes) bytes (omega arith)))

-- ---- chunks

-- the bytes of a chunk
pub bytes_here : (chunks : List Chunk) (i : ℕ) (d : Chunk) → i < length chunks → (get_or chunks i d).bytes ≡ bytes_at chunks i
bytes_here chunks i d lt =
    sym (append-nil (get_or chunks i d).bytes)
    ∙ sym (ap (λ l. flat_map (λ (c : Chunk). c.bytes) (take 1 l)) (drop_more chunks i d lt))

-- ---- the lines of what is found

lines_picked : (write : Place → List ℕ) (pick : ℕ → Place) (test : ℕ → Bool) (ns : List ℕ)
    → flat_map write (map pick (filter test ns)) ≡ flat_map (λ n. cond (test n) (write (pick n)) []) ns
lines_picked write pick test [] = refl
lines_picked write pick test (n ∷ ns) = elim (cases_Bool (test n)) [
  | inl t ↦ rw t (ap (λ l. write (pick n) ++ l) (lines_picked write pick test ns))
  | inr f ↦ rw f (lines_picked write pick test ns)
]

lines_kept : (write : Place → List ℕ) (keep : Place → Bool) (pick : ℕ → Place) (test : ℕ → Bool) (ns : List ℕ)
    → flat_map write (filter keep (map pick (filter test ns))) ≡ flat_map (λ n. cond (test n) (cond (keep (pick n)) (write (pick n)) []) []) ns
lines_kept write keep pick test [] = refl
lines_kept write keep pick test (n ∷ ns) = elim (cases_Bool (test n)) [
  | inl t ↦ rw t (elim (cases_Bool (keep (pick n))) [
    | inl k ↦ rw k (ap (λ l. write (pick n) ++ l) (lines_kept write keep pick test ns))
    | inr k ↦ rw k (lines_kept write keep pick test ns)
  ])
  | inr f ↦ rw f (lines_kept write keep pick test ns)
]

lines_mapped : {X : Type 0} (write : Found → List ℕ) (made : X → Found) (xs : List X) → flat_map write (map made xs) ≡ flat_map (λ x. write (made x)) xs
lines_mapped write made [] = refl
lines_mapped write made (x ∷ xs) = ap (λ l. write (made x) ++ l) (lines_mapped write made xs)

lines_nested : (write : Found → List ℕ) (parts : ℕ → List Found) (lines : ℕ → List ℕ) → ((n : ℕ) → flat_map write (parts n) ≡ lines n) → (ns : List ℕ)
    → flat_map write (flat_map parts ns) ≡ flat_map lines ns
lines_nested write parts lines same [] = refl
lines_nested write parts lines same (n ∷ ns) =
    flat_map-append write (parts n) (flat_map parts ns)
    ∙ ap (λ l. l ++ flat_map write (flat_map parts ns)) (same n)
    ∙ ap (λ l. lines n ++ l) (lines_nested write parts lines same ns)

gone_lines : (text : List ℕ) (sign index due : ℕ) (one other : Still)
    → flat_map (found_text (length text)) (map (found sign index due one) (gone text one other))
    ≡ less_lines sign index due (length text) one (standing text one) other (standing text other)
unfolding gone
gone_lines text sign index due one other =
    lines_mapped (found_text (length text)) (found sign index due one) (gone text one other)
    ∙ lines_picked (found_line sign index due (length text) one) (λ n. get_or (standing text one) n (place_in 1 1))
    (is_less one (standing text one) other (standing text other)) (range_with_len 0 (length (standing text one)))

passed_are : (text : List ℕ) (index due : ℕ) (x : Term) (bytes : List ℕ) (count : ℕ)
    → flat_map (found_text (length text)) (passed_at text index due x bytes count)
    ≡ byte_lines text index due (still_within x bytes 0) (standing text (still_within x bytes 0)) (still_within x bytes (length bytes)) (standing text (still_within x bytes (length bytes))) x bytes count
unfolding passed gone
passed_are text index due x bytes count =
    let first = still_within x bytes 0 in
    let last = still_within x bytes (length bytes) in
    let one = still_within x bytes count in
    let other = still_within x bytes (count + 1) in
    lines_mapped (found_text (length text)) (found 126 index due one) (passed text first last one other)
    ∙ lines_kept (found_line 126 index due (length text) one)
    (λ (place : Place). is_lone first (standing text first) (left_of one place) && is_lone last (standing text last) (left_of one place))
    (λ n. get_or (standing text one) n (place_in 1 1))
    (is_less one (standing text one) other (standing text other)) (range_with_len 0 (length (standing text one)))

pub chunk_is : (text : List ℕ) (index due : ℕ) (x : Term) (bytes : List ℕ)
    → flat_map (found_text (length text)) (found_in text index due x bytes) ≡ chunk_lines text index due x bytes
unfolding found_in
chunk_is text index due x bytes =
    let before = still_within x bytes 0 in
    let after = still_within x bytes (length bytes) in
    let write = found_text (length text) in
    let went = map (found 45 index due before) (gone text before after) in
    let middle = all_passed text index due x bytes in
    let came = map (found 43 index due after) (gone text after before) in
    flat_map-append write (went ++ middle) came
    ∙ ap (λ l. l ++ flat_map write came) (flat_map-append write went middle)
    ∙ ap (λ l. (l ++ flat_map write middle) ++ flat_map write came) (gone_lines text 45 index due before after)
    ∙ ap (λ l. (less_lines 45 index due (length text) before (standing text before) after (standing text after) ++ l) ++ flat_map write came)
    (lines_nested write (passed_at text index due x bytes) (byte_lines text index due before (standing text before) after (standing text after) x bytes) (passed_are text index due x bytes) (range_with_len 0 (length bytes)))
    ∙ ap (λ l. (less_lines 45 index due (length text) before (standing text before) after (standing text after)
    ++ flat_map (byte_lines text index due before (standing text before) after (standing text after) x bytes) (range_with_len 0 (length bytes))) ++ l) (gone_lines text 43 index due after before)

from_are : (text : List ℕ) (profile : Profile) (tape : Tape) (from : Option ℕ)
    → flat_map (found_text (length text)) (found_from text profile tape from) ≡ from_lines text (still_after profile tape (first_asked tape.chunks from)) (first_asked tape.chunks from) from
unfolding found_from
from_are text profile tape None = refl
from_are text profile tape (Some moment) =
    let still = still_from profile tape moment in
    lines_mapped (found_text (length text)) (found 61 (due_count tape.chunks moment) moment still) (standing text still)

-- all lines: those of the moment, and those of the chunks that are asked for
pub lines_are : (profile : Profile) (tape : Tape) (from : Option ℕ) (to : ℕ) (text : List ℕ)
    → find_lines profile tape from to text
    ≡ from_lines text (still_after profile tape (first_asked tape.chunks from)) (first_asked tape.chunks from) from ++ flat_map (chunk_lines_at text profile tape) (asked_places tape from to)
unfolding find_lines all_found
lines_are profile tape from to text =
    let write = found_text (length text) in
    let chunks = flat_map (found_of text profile tape) (asked_places tape from to) in
    flat_map-append write (found_from text profile tape from) chunks
    ∙ ap (λ l. l ++ flat_map write chunks) (from_are text profile tape from)
    ∙ ap (λ l. from_lines text (still_after profile tape (first_asked tape.chunks from)) (first_asked tape.chunks from) from ++ l)
    (lines_nested write (found_of text profile tape) (chunk_lines_at text profile tape)
    (λ index. chunk_is text index (due_time tape.chunks index) (up_to profile tape.chunks index) (bytes_at tape.chunks index)) (asked_places tape from to))

-- the chunks that are asked for lie between two places
pub asked_range : DueIsBelowTheCount → (f : ℕ → List ℕ) (tape : Tape) (from : Option ℕ) (to start end : ℕ) → start ≡ first_asked tape.chunks from
    → end ≡ max (due_count tape.chunks to) start → start ≤ length tape.chunks → due_count tape.chunks to ≤ length tape.chunks
    → texts_from f start (end - start) ≡ flat_map f (asked_places tape from to)
asked_range law f tape from to start end low high within within' =
    let rising : start ≤ end = omega arith in
    let inside : end ≤ length tape.chunks = omega arith in
    sym (ap (flat_map f) (passing_between (λ i. is_asked from to (due_time tape.chunks i)) start end (length tape.chunks) rising inside
    (λ i h. early law tape.chunks from to i (omega arith) (omega arith))
    (λ i l h. asked law tape.chunks from to i (omega arith) (omega arith) (omega arith))
    (λ i l h. past_due law tape.chunks from to i h (omega arith))))

-- all lines, by a terminal that shows what stands before the first chunk that is asked for
pub lines_in_two : DueIsBelowTheCount → (profile : Profile) (tape : Tape) (from : Option ℕ) (to : ℕ) (text : List ℕ) (start end : ℕ) (seen : Seen)
    → start ≡ first_asked tape.chunks from → end ≡ max (due_count tape.chunks to) start → start ≤ length tape.chunks → due_count tape.chunks to ≤ length tape.chunks
    → Shows seen (up_to profile tape.chunks start)
    → from_lines text (still_of seen.console) start from ++ texts_from (chunk_lines_at text profile tape) start (end - start) ≡ find_lines profile tape from to text
lines_in_two law profile tape from to text start end seen low high within within' shows =
    let all = flat_map (chunk_lines_at text profile tape) (asked_places tape from to) in
    ap (λ l. from_lines text (still_of seen.console) start from ++ l) (asked_range law (chunk_lines_at text profile tape) tape from to start end low high within within')
    ∙ ap (λ s. from_lines text s start from ++ all) (ap still_of (sym shows.console))
    ∙ ap (λ n. from_lines text (still_after profile tape n) n from ++ all) low
    ∙ sym (lines_are profile tape from to text)
