-- Where a text stands line by line, and what of it is less on another screen.
use Rattle.std.proofs.Common.{◌≡◌, ℕ, zero, suc, ◌+◌, ◌-◌, ◌<◌, ◌≤◌, Bool, true, false, List, [], ◌∷◌, ◌++◌, ◌&&◌, max, length, get_or, take, drop, nat_eq, nat_le, nat_lt, refl, ap, sym, ◌∙◌, subst, arith, append_assoc, append-nil, cond, inl, inr}
use Rattle.std.specs.Cmp.Lexicographic.{pointwise}
use Rattle.std.specs.List.{All, count_by, flat_map, list_any, range_with_len}
use Rattle.std.proofs.lemmas.Bool.{and_from, and_parts, eq-eqb, false≢true, or_from, or_parts, cases_Bool, cases_eq, cases_lt, false_from_ne_true, le-ltb, lt-leb, lt-ltb, ltb-true, ne_eqb}
use Rattle.std.proofs.lemmas.Bool.Decides.{Decides-eqb}
use Rattle.std.proofs.lemmas.Slice.Eq.{slice_eq-Decides}
use Rattle.std.proofs.lemmas.List.{get_or_append_left, get_or_push, get_or-map, get_or-take, length-append, length-map, length-take, length-take-le, length_push, take-append-le, take-take, take_at}
use Rattle.std.proofs.lemmas.List.Concat.{flat_map-append}
use Rattle.std.proofs.lemmas.List.Elements.{All-nil, All-push}
use Rattle.std.proofs.lemmas.List.Sums.{sum_by-append}
use Rattle.vt_screen.specs.declared.cell.Cell.{Cell}
use Rattle.screen_rows.specs.Glyphs.{character}
use Rattle.screen_rows.specs.RowText.{characters, row_text}
use Rattle.screen_print.specs.declared.standing.Place.{Place}
use Rattle.screen_print.specs.ByLine.{AreKept, AreLost, DifferIn, IsApart, IsKept, IsOnScreen, NonePasses, begins_on, count_above, lines_by, place_line, places_above, places_to, row_on, stands_so}
use Rattle.screen_print.specs.EachByte.{is_lone, passed_lines}
use Rattle.screen_print.specs.FindLines.{begins, count_left, ends_line, found_line, left_of, less_lines, line_text_from, place_in, places_from, row_texts, standing}
use Rattle.screen_print.specs.Stills.{Still}
use Rattle.screen_print.proofs.FindLemmas.{first_more, line_ends, places_more, standing_all, standing_more, texts_at}
use Rattle.chunk_walk.proofs.TextLemmas.{texts_from}
use Rattle.screen_print.proofs.QuietLemmas.{front_alike, itself, line_is}
use Rattle.vt_screen.specs.Cells.{row_at}
use Rattle.screen_rows.proofs.RangeLemmas.{range_more}

-- ---- places above a line

pub above_more : (text : List ℕ) (still : Still) (line : ℕ) → 1 ≤ line
    → places_above text still (line + 1) ≡ places_above text still line ++ places_to text still line (length (row_on still line))
unfolding places_above
above_more text still line low =
    let f : ℕ → List Place = λ k. places_to text still k (length (row_on still k)) in
    let next : line + 1 - 1 ≡ line - 1 + 1 = omega arith in
    let at : 1 + (line - 1) ≡ line = omega arith in
    ap (λ n. flat_map f (range_with_len 1 n)) next
    ∙ ap (flat_map f) (range_more 1 (line - 1))
    ∙ flat_map-append f (range_with_len 1 (line - 1)) ((1 + (line - 1)) ∷ [])
    ∙ ap (λ k. flat_map f (range_with_len 1 (line - 1)) ++ (f k ++ [])) at
    ∙ ap (λ l. flat_map f (range_with_len 1 (line - 1)) ++ l) (append-nil (f line))

pub above_none : (text : List ℕ) (still : Still) → places_above text still 1 ≡ []
unfolding places_above
above_none text still = refl

-- those above a line, and those from it on, are all
above_and_from : (text : List ℕ) (still : Still) (n line : ℕ) → length still.rows ≡ 24 → line ≡ n + 1 → line ≤ 25
    → places_above text still line ++ places_from text line (drop (line - 1) (row_texts still)) ≡ standing text still
above_and_from text still zero line whole is high =
    let first : line ≡ 1 = omega arith in
    rw (first, above_none text still) refl
above_and_from text still (suc n) line whole is high =
    let before = line - 1 in
    let next : before + 1 ≡ line = omega arith in
    subst (λ l. places_above text still l ++ places_from text l (drop (l - 1) (row_texts still)) ≡ standing text still) next
    (standing_more text still before (places_above text still before) (places_above text still (before + 1)) (standing text still) whole (omega arith) (omega arith)
    (above_more text still before (omega arith)) (above_and_from text still n before whole (omega arith) (omega arith)))

pub all_above : (text : List ℕ) (still : Still) → length still.rows ≡ 24 → places_above text still 25 ≡ standing text still
all_above text still whole =
    standing_all text still 25 (places_above text still 25) whole (omega arith) (above_and_from text still 24 25 whole (omega arith) (omega arith))

-- ---- counts

unlike : (one other : List ℕ) → (length one ≡ length other → ⊥) → pointwise nat_eq one other ≡ false
unlike one other differs =
    false_from_ne_true (pointwise nat_eq one other) (λ same. differs (ap length ((slice_eq-Decides Decides-eqb one other (pointwise nat_eq one other) refl).0 same)))

add_zero : (n : ℕ) → 0 + n ≡ n
add_zero n = omega arith

last_counts : (p : Place → Bool) (place : Place) (here : Bool) → count_by p (cond here (place ∷ []) []) ≡ cond (here && p place) 1 0
last_counts p place true = add_zero (cond (p place) 1 0)
last_counts p place false = refl

one_place : (f : Place → List ℕ) (place : Place) (here : Bool) → flat_map f (cond here (place ∷ []) []) ≡ cond here (f place) []
one_place f place true = append-nil (f place)
one_place f place false = refl

count_push : (p : Place → Bool) (places : List Place) (here : Bool) (place : Place)
    → count_by p (places ++ cond here (place ∷ []) []) ≡ count_by p places + cond (here && p place) 1 0
count_push p places here place =
    sum_by-append (λ x. cond (p x) 1 0) places (cond here (place ∷ []) []) ∙ ap (λ n. count_by p places + n) (last_counts p place here)

-- places of a line up to a column: at most one has so much to the left
no_more : (here : Bool) (n : ℕ) → n ≡ n + cond (here && false) 1 0
no_more true n = omega arith
no_more false n = omega arith

pub counted : (a b : Bool) → a ≡ b → ◌≡◌ {A = ℕ} (cond a 1 0) (cond b 1 0)
counted a b same = ap (λ c. cond c 1 0) same

turned : (here same : Bool) → ◌≡◌ {A = ℕ} (cond (here && same) 1 0) (cond (same && here) 1 0)
turned true true = refl
turned true false = refl
turned false true = refl
turned false false = refl

count_to : (text : List ℕ) (still : Still) (line m : ℕ) (left : List ℕ) → m ≤ length (row_on still line)
    → count_left still (places_to text still line m) left
    ≡ cond (nat_lt (length left) m && (pointwise nat_eq (take (length left) (row_on still line)) left && begins_on text still line (length left + 1))) 1 0
count_to text still line zero left high =
    ap (λ b. cond (b && (pointwise nat_eq (take (length left) (row_on still line)) left && begins_on text still line (length left + 1))) 1 0)
    (sym (le-ltb (length left) 0 (omega arith)))
count_to text still line (suc m) left high =
    let row = row_on still line in
    let p : Place → Bool = λ place. pointwise nat_eq (left_of still place) left in
    let here = begins_on text still line (suc m) in
    let last = place_in line (suc m) in
    let rest = pointwise nat_eq (take (length left) row) left && begins_on text still line (length left + 1) in
    let at : suc m - 1 ≡ m = omega arith in
    let long : length (take m row) ≡ m = length-take-le m row (omega arith) in
    let is : p last ≡ pointwise nat_eq (take m row) left = ap (λ n. pointwise nat_eq (take n row) left) at in
    let cut : count_left still (places_to text still line (suc m)) left ≡ count_left still (places_to text still line m) left + cond (here && p last) 1 0 =
    ap (count_by p) (places_more text line (line_text_from (drop (line - 1) (row_texts still))) (suc m) here (omega arith) refl
    ∙ ap (λ n. places_to text still line n ++ cond here (last ∷ []) []) at)
    ∙ count_push p (places_to text still line m) here last in
    let before : count_left still (places_to text still line (suc m)) left ≡ cond (nat_lt (length left) m && rest) 1 0 + cond (here && p last) 1 0 =
    cut ∙ ap (λ n. n + cond (here && p last) 1 0) (count_to text still line m left (omega arith)) in
    elim (cases_lt (length left) m) [
      | inl less ↦
          let none : p last ≡ false = is ∙ unlike (take m row) left (λ e. omega (arith, e, long, less)) in
          before
          ∙ ap (λ b. cond (b && rest) 1 0 + cond (here && p last) 1 0) (lt-ltb (length left) m less)
          ∙ ap (λ b. cond rest 1 0 + cond (here && b) 1 0) none
          ∙ sym (no_more here (cond rest 1 0))
          ∙ ap (λ b. cond (b && rest) 1 0) (sym (lt-ltb (length left) (suc m) (omega arith)))
      | inr ge ↦ before ∙ ap (λ b. cond (b && rest) 1 0 + cond (here && p last) 1 0) (le-ltb (length left) m ge)
          ∙ elim (cases_eq (length left) m) [
            | inl e ↦
                let same : p last ≡ pointwise nat_eq (take (length left) row) left = is ∙ ap (λ n. pointwise nat_eq (take n row) left) (sym e) in
                let column : suc m ≡ length left + 1 = omega arith in
                add_zero (cond (here && p last) 1 0)
                ∙ ap (λ b. cond (here && b) 1 0) same
                ∙ ap (λ n. cond (begins_on text still line n && pointwise nat_eq (take (length left) row) left) 1 0) column
                ∙ turned (begins_on text still line (length left + 1)) (pointwise nat_eq (take (length left) row) left)
                ∙ ap (λ b. cond (b && rest) 1 0) (sym (lt-ltb (length left) (suc m) (omega arith)))
            | inr ne ↦
                let none : p last ≡ false = is ∙ unlike (take m row) left (λ e. ne (sym e ∙ long)) in
                ap (λ b. 0 + cond (here && b) 1 0) none
                ∙ sym (no_more here 0)
                ∙ ap (λ b. cond (b && rest) 1 0) (sym (le-ltb (length left) (suc m) (omega arith)))
          ]
    ]

pub count_more : (text : List ℕ) (still : Still) (line : ℕ) (left : List ℕ) → 1 ≤ line
    → count_above text still (line + 1) left ≡ count_above text still line left + cond (stands_so text still line left) 1 0
unfolding count_above stands_so
count_more text still line left low =
    let row = row_on still line in
    ap (λ l. count_left still l left) (above_more text still line low)
    ∙ sum_by-append (λ place. cond (pointwise nat_eq (left_of still place) left) 1 0) (places_above text still line) (places_to text still line (length row))
    ∙ ap (λ n. count_left still (places_above text still line) left + n) (count_to text still line (length row) left (omega arith))

pub count_none : (text : List ℕ) (still : Still) (left : List ℕ) → count_above text still 1 left ≡ 0
unfolding count_above
count_none text still left = ap (λ l. count_left still l left) (above_none text still)

pub count_all : (text : List ℕ) (still : Still) (left : List ℕ) → length still.rows ≡ 24
    → count_above text still 25 left ≡ count_left still (standing text still) left
unfolding count_above
count_all text still left whole = ap (λ l. count_left still l left) (all_above text still whole)

pub count_is : (text : List ℕ) (still : Still) (line : ℕ) (left : List ℕ) → count_above text still line left ≡ count_left still (places_above text still line) left
unfolding count_above
count_is text still line left = refl

-- further lines have as many or more
rises : (text : List ℕ) (still : Still) (line n : ℕ) (left : List ℕ) → 1 ≤ line → count_above text still line left ≤ count_above text still (line + n) left
rises text still line zero left low =
    let same : line ≡ line + 0 = omega arith in
    omega (arith, ap (λ k. count_above text still k left) same)
rises text still line (suc n) left low =
    let next : line + n + 1 ≡ line + suc n = omega arith in
    omega (arith, rises text still line n left low, count_more text still (line + n) left (omega arith), ap (λ k. count_above text still k left) next)

pub count_rises : (text : List ℕ) (still : Still) (line end : ℕ) (left : List ℕ) → 1 ≤ line → line ≤ end → count_above text still line left ≤ count_above text still end left
count_rises text still line end left low high =
    let whole : line + (end - line) ≡ end = omega arith in
    omega (arith, rises text still line (end - line) left low, ap (λ k. count_above text still k left) whole)

-- ---- what is written

alike_in : (f g : ℕ → List ℕ) (a n : ℕ) → ((i : ℕ) → a ≤ i → i < a + n → f i ≡ g i) → flat_map f (range_with_len a n) ≡ flat_map g (range_with_len a n)
alike_in f g a zero same = refl
alike_in f g a (suc n) same =
    ap (λ l. l ++ flat_map f (range_with_len (a + 1) n)) (same a (omega arith) (omega arith))
    ∙ ap (λ l. g a ++ l) (alike_in f g (a + 1) n (λ i low high. same i (omega arith) (omega arith)))

lines_push : (text : List ℕ) (one other : Still) (write : Place → List ℕ) (keep : List ℕ → Bool) (places : List Place) (place : Place)
    → lines_by text one other write keep (places ++ place ∷ []) ≡ lines_by text one other write keep places ++ place_line text one other write keep places place
unfolding lines_by
lines_push text one other write keep places place =
    let all = places ++ place ∷ [] in
    let n = length places in
    let d = place_in 1 1 in
    let f : ℕ → List ℕ = λ k. place_line text one other write keep (take k all) (get_or all k d) in
    let g : ℕ → List ℕ = λ k. place_line text one other write keep (take k places) (get_or places k d) in
    ap (λ k. texts_from f 0 k) (length-append places (place ∷ []))
    ∙ first_more f n
    ∙ ap (λ l. l ++ f n) (alike_in f g 0 n (λ i low high.
    ap (λ l. place_line text one other write keep l (get_or all i d)) (take-append-le i places (place ∷ []) (omega arith))
    ∙ ap (place_line text one other write keep (take i places)) (get_or_append_left places (place ∷ []) d i (omega arith))))
    ∙ ap (λ l. texts_from g 0 n ++ place_line text one other write keep l (get_or all n d)) (take_at places (place ∷ []) n refl)
    ∙ ap (λ p. texts_from g 0 n ++ place_line text one other write keep places p) (get_or_push places place d n refl)

-- a place is told apart from those before it in its own line
same_behind : (text : List ℕ) (one other : Still) (write : Place → List ℕ) (keep : List ℕ → Bool) (line m : ℕ) (before : List Place) → suc m ≤ length (row_on one line)
    → place_line text one other write keep (before ++ places_to text one line m) (place_in line (suc m)) ≡ place_line text one other write keep before (place_in line (suc m))
unfolding place_line
same_behind text one other write keep line m before high =
    let row = row_on one line in
    let place = place_in line (suc m) in
    let left = left_of one place in
    let at : suc m - 1 ≡ m = omega arith in
    let long : length left ≡ m = length-take-le (suc m - 1) row (omega arith) ∙ at in
    let none : count_left one (places_to text one line m) left ≡ 0 =
    count_to text one line m left (omega arith)
    ∙ ap (λ b. cond (b && (pointwise nat_eq (take (length left) row) left && begins_on text one line (length left + 1))) 1 0) (le-ltb (length left) m (omega (arith, long))) in
    let count : count_left one (before ++ places_to text one line m) left ≡ count_left one before left =
    sum_by-append (λ p. cond (pointwise nat_eq (left_of one p) left) 1 0) before (places_to text one line m)
    ∙ ap (λ n. count_left one before left + n) none ∙ omega arith in
    ap (λ n. cond (nat_le (count_left other (standing text other) left) n) (cond (keep left) (write place) []) []) count

column_more : (text : List ℕ) (still : Still) (line m : ℕ) (f : Place → List ℕ)
    → flat_map f (places_to text still line (suc m)) ≡ flat_map f (places_to text still line m) ++ cond (begins_on text still line (suc m)) (f (place_in line (suc m))) []
column_more text still line m f =
    let here = begins_on text still line (suc m) in
    let place = place_in line (suc m) in
    let at : suc m - 1 ≡ m = omega arith in
    ap (flat_map f) (places_more text line (line_text_from (drop (line - 1) (row_texts still))) (suc m) here (omega arith) refl
    ∙ ap (λ n. places_to text still line n ++ cond here (place ∷ []) []) at)
    ∙ flat_map-append f (places_to text still line m) (cond here (place ∷ []) [])
    ∙ ap (λ l. flat_map f (places_to text still line m) ++ l) (one_place f place here)

lines_to : (text : List ℕ) (one other : Still) (write : Place → List ℕ) (keep : List ℕ → Bool) (line m : ℕ) (before : List Place) → m ≤ length (row_on one line)
    → lines_by text one other write keep (before ++ places_to text one line m)
    ≡ lines_by text one other write keep before ++ flat_map (place_line text one other write keep before) (places_to text one line m)
lines_to text one other write keep line zero before high =
    ap (lines_by text one other write keep) (append-nil before) ∙ sym (append-nil (lines_by text one other write keep before))
lines_to text one other write keep line (suc m) before high =
    let all = lines_by text one other write keep in
    let f = place_line text one other write keep before in
    let here = begins_on text one line (suc m) in
    let place = place_in line (suc m) in
    let old = places_to text one line m in
    let at : suc m - 1 ≡ m = omega arith in
    let cut : places_to text one line (suc m) ≡ old ++ cond here (place ∷ []) [] =
    places_more text line (line_text_from (drop (line - 1) (row_texts one))) (suc m) here (omega arith) refl
    ∙ ap (λ n. places_to text one line n ++ cond here (place ∷ []) []) at in
    let more : all ((before ++ old) ++ cond here (place ∷ []) []) ≡ all (before ++ old) ++ cond here (f place) [] =
    elim (cases_Bool here) [
      | inl t ↦ rw t (lines_push text one other write keep (before ++ old) place ∙ ap (λ l. all (before ++ old) ++ l) (same_behind text one other write keep line m before high))
      | inr other ↦ rw other (ap all (append-nil (before ++ old)) ∙ sym (append-nil (all (before ++ old))))
    ] in
    ap (λ l. all (before ++ l)) cut
    ∙ ap all (sym (append_assoc before old (cond here (place ∷ []) [])))
    ∙ more
    ∙ ap (λ l. l ++ cond here (f place) []) (lines_to text one other write keep line m before (omega arith))
    ∙ append_assoc (all before) (flat_map f old) (cond here (f place) [])
    ∙ ap (λ l. all before ++ l) (sym (column_more text one line m f))

-- a line more
pub lines_more : (text : List ℕ) (one other : Still) (write : Place → List ℕ) (keep : List ℕ → Bool) (line : ℕ) → 1 ≤ line
    → lines_by text one other write keep (places_above text one (line + 1))
    ≡ lines_by text one other write keep (places_above text one line)
    ++ flat_map (place_line text one other write keep (places_above text one line)) (places_to text one line (length (row_on one line)))
lines_more text one other write keep line low =
    ap (lines_by text one other write keep) (above_more text one line low)
    ∙ lines_to text one other write keep line (length (row_on one line)) (places_above text one line) (omega arith)

pub lines_none : (text : List ℕ) (one other : Still) (write : Place → List ℕ) (keep : List ℕ → Bool) → lines_by text one other write keep (places_above text one 1) ≡ []
unfolding lines_by
lines_none text one other write keep = rw (above_none text one) refl

-- columns at which nothing is written
pub quiet_to : (text : List ℕ) (still : Still) (line m n : ℕ) (f : Place → List ℕ)
    → ((column : ℕ) → m < column → column ≤ m + n → begins_on text still line column ≡ true → f (place_in line column) ≡ [])
    → flat_map f (places_to text still line (m + n)) ≡ flat_map f (places_to text still line m)
quiet_to text still line m zero f quiet =
    let same : m + 0 ≡ m = omega arith in
    ap (λ k. flat_map f (places_to text still line k)) same
quiet_to text still line m (suc n) f quiet =
    let next : m + suc n ≡ suc (m + n) = omega arith in
    let here = begins_on text still line (suc (m + n)) in
    let none : cond here (f (place_in line (suc (m + n)))) [] ≡ [] =
    elim (cases_Bool here) [
      | inl t ↦ rw t (quiet (suc (m + n)) (omega arith) (omega arith) t)
      | inr other ↦ rw other refl
    ] in
    ap (λ k. flat_map f (places_to text still line k)) next
    ∙ column_more text still line (m + n) f
    ∙ ap (λ l. flat_map f (places_to text still line (m + n)) ++ l) none
    ∙ append-nil (flat_map f (places_to text still line (m + n)))
    ∙ quiet_to text still line m n f (λ column low high. quiet column low (omega arith))

pub quiet_behind : (text : List ℕ) (still : Still) (line m end : ℕ) (f : Place → List ℕ) → m ≤ end
    → ((column : ℕ) → m < column → column ≤ end → begins_on text still line column ≡ true → f (place_in line column) ≡ [])
    → flat_map f (places_to text still line end) ≡ flat_map f (places_to text still line m)
quiet_behind text still line m end f high quiet =
    let whole : m + (end - m) ≡ end = omega arith in
    ap (λ k. flat_map f (places_to text still line k)) (sym whole)
    ∙ quiet_to text still line m (end - m) f (λ column low within. quiet column low (omega arith))

-- a column more, in a loop
pub column_next : (text : List ℕ) (still : Still) (line column : ℕ) (f : Place → List ℕ) → 1 ≤ column
    → flat_map f (places_to text still line (column - 1)) ++ cond (begins_on text still line column) (f (place_in line column)) [] ≡ flat_map f (places_to text still line (column + 1 - 1))
column_next text still line column f low =
    let here : suc (column - 1) ≡ column = omega arith in
    let next : column ≡ column + 1 - 1 = omega arith in
    ap (λ k. flat_map f (places_to text still line (column - 1)) ++ cond (begins_on text still line k) (f (place_in line k)) []) (sym here)
    ∙ sym (column_more text still line (column - 1) f)
    ∙ ap (λ k. flat_map f (places_to text still line k)) (here ∙ next)

-- ---- lines from which a text may have gone

pub stands_at : (text : List ℕ) (still : Still) (line column : ℕ) → 1 ≤ column → column ≤ length (row_on still line) → begins_on text still line column ≡ true
    → stands_so text still line (take (column - 1) (row_on still line)) ≡ true
unfolding stands_so
stands_at text still line column low high begins =
    let row = row_on still line in
    let left = take (column - 1) row in
    let long : length left ≡ column - 1 = length-take-le (column - 1) row (omega arith) in
    let next : length left + 1 ≡ column = omega arith in
    and_from (nat_lt (length left) (length row)) (pointwise nat_eq (take (length left) row) left && begins_on text still line (length left + 1))
    (lt-ltb (length left) (length row) (omega arith))
    (and_from (pointwise nat_eq (take (length left) row) left) (begins_on text still line (length left + 1))
    (ap (λ n. pointwise nat_eq (take n row) left) long ∙ itself left)
    (ap (begins_on text still line) next ∙ begins))

-- a place that isn't to the right of one that may have gone, with the same to the left, is no less
pub apart_is_no_less : (text : List ℕ) (one other : Still) (write : Place → List ℕ) (keep : List ℕ → Bool) (line there column : ℕ) (lost : List Place)
    → length other.rows ≡ 24 → 1 ≤ line → 1 ≤ there → there ≤ 25 → 1 ≤ column → column ≤ length (row_on one line) → begins_on text one line column ≡ true
    → AreLost text one (line + 1) other there lost → All (IsApart one (take (column - 1) (row_on one line))) lost
    → place_line text one other write keep (places_above text one line) (place_in line column) ≡ []
unfolding place_line count_above
apart_is_no_less text one other write keep line there column lost whole low low' high' left_low right begins are apart =
    let left = take (column - 1) (row_on one line) in
    let more = count_more text one line left low in
    let here = counted (stands_so text one line left) true (stands_at text one line column left_low right begins) in
    let level = are.counts left apart in
    let all = count_rises text other there 25 left low' high' in
    let is = count_all text other left whole in
    ap (λ b. cond b (cond (keep left) (write (place_in line column)) []) [])
    (lt-leb (count_left other (standing text other) left) (count_left one (places_above text one line) left) (omega (arith, more, here, level, all, is)))

-- a line more
kept_counts : (text : List ℕ) (one other : Still) (line next there end : ℕ) (left : List ℕ) → 1 ≤ line → 1 ≤ next → next ≤ there
    → AreKept text one line other there end → (end ≤ length left + 1 → length left < length (row_on one line) → left ≡ take (length left) (row_on one line) → ⊥)
    → count_above text one line left ≤ count_above text other next left
    → count_above text one (line + 1) left ≤ count_above text other (there + 1) left
unfolding stands_so
kept_counts text one other line next there end left low low' level kept apart before =
    let row = row_on one line in
    let row' = row_on other there in
    let n = length left in
    let column = n + 1 in
    let same = pointwise nat_eq (take n row) left in
    let more = count_more text one line left low in
    let more' = count_more text other there left (omega arith) in
    let rest = count_rises text other next there left low' level in
    elim (cases_Bool (stands_so text one line left)) [
      | inr none ↦ omega (arith, more, more', rest, before, counted (stands_so text one line left) false none)
      | inl stood ↦
          let parts = and_parts (nat_lt n (length row)) (same && begins_on text one line column) stood in
          let inner = and_parts same (begins_on text one line column) parts.1 in
          let within : n < length row = ltb-true n (length row) parts.0 in
          let is : take n row ≡ left = (slice_eq-Decides Decides-eqb (take n row) left same refl).0 inner.0 in
          let early : column < end = elim (cases_lt column end) [
            | inl lt ↦ lt
            | inr ge ↦ absurd (apart ge within (sym is))
          ] in
          let at : column - 1 ≡ n = omega arith in
          let there_too = kept column (omega arith) early (omega arith) inner.1 in
          let same' : take n row' ≡ left = ap (λ k. take k row') (sym at) ∙ sym there_too.left ∙ ap (λ k. take k row) at ∙ is in
          let stands : stands_so text other there left ≡ true =
          and_from (nat_lt n (length row')) (pointwise nat_eq (take n row') left && begins_on text other there column)
          (lt-ltb n (length row') (omega (arith, there_too.within)))
          (and_from (pointwise nat_eq (take n row') left) (begins_on text other there column)
          (ap (λ l. pointwise nat_eq l left) same' ∙ itself left) there_too.begins) in
          omega (arith, more, more', rest, before, counted (stands_so text one line left) true stood, counted (stands_so text other there left) true stands)
    ]

pub lost_none : (text : List ℕ) (one other : Still) → AreLost text one 1 other 1 []
lost_none text one other = record {
  few = omega arith;
  there_low = omega arith;
  there_high = omega arith;
  lines = All-nil IsOnScreen;
  counts = λ left apart. omega (arith, count_none text one left, count_none text other left);
}

pub lost_no_more : (text : List ℕ) (one other : Still) (line next there end : ℕ) (lost : List Place) → 1 ≤ line → 1 ≤ next → next ≤ there → there ≤ 24
    → length (row_on one line) < end → AreKept text one line other there end → AreLost text one line other next lost → AreLost text one (line + 1) other (there + 1) lost
lost_no_more text one other line next there end lost low low' level high past kept are = record {
  few = omega (arith, are.few);
  there_low = omega arith;
  there_high = omega arith;
  lines = are.lines;
  counts = λ left apart. kept_counts text one other line next there end left low low' level kept (λ e lt is. omega arith) (are.counts left apart);
}

pub lost_more : (text : List ℕ) (one other : Still) (line next there end : ℕ) (lost : List Place) → 1 ≤ line → line ≤ 24 → 1 ≤ end → 1 ≤ next → next ≤ there → there ≤ 24
    → AreKept text one line other there end → AreLost text one line other next lost → AreLost text one (line + 1) other (there + 1) (lost ++ place_in line end ∷ [])
lost_more text one other line next there end lost low high some low' level under kept are =
    let place = place_in line end in
    record {
      few = omega (arith, are.few, length_push lost place);
      there_low = omega arith;
      there_high = omega arith;
      lines = All-push IsOnScreen lost place are.lines (low, high, some);
      counts = λ left apart.
          kept_counts text one other line next there end left low low' level kept
          (λ e lt is. subst (IsApart one left) (get_or_push lost place place (length lost) refl) (apart (length lost) place (omega (arith, length_push lost place))) e is)
          (are.counts left (λ k d lt. subst (IsApart one left) (get_or_append_left lost (place ∷ []) d k lt) (apart k d (omega (arith, length_push lost place)))));
    }

-- a line that no line of the other screen is taken for, by a column before which nothing stands in it
pub lost_alone : (text : List ℕ) (one other : Still) (line next column : ℕ) (lost : List Place) → 1 ≤ line → line ≤ 24 → 1 ≤ column
    → ((k : ℕ) → 1 ≤ k → k < column → begins_on text one line k ≡ false)
    → AreLost text one line other next lost → AreLost text one (line + 1) other next (lost ++ place_in line column ∷ [])
unfolding stands_so
lost_alone text one other line next column lost low high some none are =
    let place = place_in line column in
    let row = row_on one line in
    record {
      few = omega (arith, are.few, length_push lost place);
      there_low = are.there_low;
      there_high = are.there_high;
      lines = All-push IsOnScreen lost place are.lines (low, high, some);
      counts = λ left apart.
          let n = length left in
          let same = pointwise nat_eq (take n row) left in
          let here : IsApart one left place =
          subst (IsApart one left) (get_or_push lost place place (length lost) refl) (apart (length lost) place (omega (arith, length_push lost place))) in
          let absent : stands_so text one line left ≡ false =
          false_from_ne_true (stands_so text one line left) (λ stood.
          let inner = and_parts same (begins_on text one line (n + 1)) (and_parts (nat_lt n (length row)) (same && begins_on text one line (n + 1)) stood).1 in
          elim (cases_lt (n + 1) column) [
            | inl before ↦ false≢true (sym (none (n + 1) (omega arith) before) ∙ inner.1)
            | inr behind ↦ here behind (sym ((slice_eq-Decides Decides-eqb (take n row) left same refl).0 inner.0))
          ]) in
          let before = are.counts left (λ k d lt. subst (IsApart one left) (get_or_append_left lost (place ∷ []) d k lt) (apart k d (omega (arith, length_push lost place)))) in
          omega (arith, before, count_more text one line left low, counted (stands_so text one line left) false absent);
    }

-- a line in which the text doesn't stand
pub lost_nothing : (text : List ℕ) (one other : Still) (line next : ℕ) (lost : List Place) → 1 ≤ line
    → ((k : ℕ) → 1 ≤ k → k ≤ length (row_on one line) → begins_on text one line k ≡ false)
    → AreLost text one line other next lost → AreLost text one (line + 1) other next lost
unfolding stands_so
lost_nothing text one other line next lost low none are =
    let row = row_on one line in
    record {
      few = omega (arith, are.few);
      there_low = are.there_low;
      there_high = are.there_high;
      lines = are.lines;
      counts = λ left apart.
          let n = length left in
          let same = pointwise nat_eq (take n row) left in
          let absent : stands_so text one line left ≡ false =
          false_from_ne_true (stands_so text one line left) (λ stood.
          let parts = and_parts (nat_lt n (length row)) (same && begins_on text one line (n + 1)) stood in
          let inner = and_parts same (begins_on text one line (n + 1)) parts.1 in
          let within : n < length row = ltb-true n (length row) parts.0 in
          false≢true (sym (none (n + 1) (omega arith) (omega (arith, within))) ∙ inner.1)) in
          omega (arith, are.counts left apart, count_more text one line left low, counted (stands_so text one line left) false absent);
    }

-- ---- columns

abbrev begins_in_lines : List ℕ → List (List ℕ) → ℕ → Bool
begins_in_lines text rows column = begins text (line_text_from rows) column

-- where so many characters of two rows are the same, a text that ends in them stands in both
pub front_kept : (text : List ℕ) (one other : Still) (line there same column : ℕ) → length one.rows ≡ 24 → length other.rows ≡ 24 → 1 ≤ line → line ≤ 24 → 1 ≤ there → there ≤ 24
    → take same (row_on one line) ≡ take same (row_on other there) → same ≤ length (row_on one line) → same ≤ length (row_on other there)
    → 1 ≤ column → column ≤ same + 1 - max (length text) 1 → begins_on text one line column ≡ true → IsKept text one line other there column
front_kept text one other line there same column whole whole' low high low' high' alike fits fits' left right begins =
    let row = row_on one line in
    let row' = row_on other there in
    let within : column - 1 + length text ≤ same = omega arith in
    let short : column - 1 ≤ same = omega arith in
    record {
      within = omega arith;
      begins =
          ap (λ l. begins_in_lines text l column) (texts_at other there whole' low' high')
          ∙ sym (front_alike text row row' same (drop line (row_texts one)) (drop there (row_texts other)) column fits fits' alike within)
          ∙ ap (λ l. begins_in_lines text l column) (sym (texts_at one line whole low high))
          ∙ begins;
      left = sym (take-take (column - 1) same row short) ∙ ap (take (column - 1)) alike ∙ take-take (column - 1) same row' short;
    }

-- a row that ends its line, and that the other screen has too, keeps all its places
pub ended_kept : (text : List ℕ) (one other : Still) (line there end : ℕ) → length one.rows ≡ 24 → length other.rows ≡ 24 → 1 ≤ line → line ≤ 24 → 1 ≤ there → there ≤ 24
    → one.wide ≡ other.wide → row_at one.rows line ≡ row_at other.rows there → ends_line (row_on one line) ≡ true → AreKept text one line other there end
ended_kept text one other line there end whole whole' low high low' high' wide same ends column left right within stands =
    let row = row_on one line in
    let row' = row_on other there in
    let alike : row ≡ row' = ap (λ w. row_text w (row_at one.rows line)) wide ∙ ap (row_text other.wide) same in
    let here : line_text_from (drop (line - 1) (row_texts one)) ≡ row =
    ap line_text_from (texts_at one line whole low high) ∙ sym (line_ends row (drop line (row_texts one)) ends) in
    let here' : line_text_from (drop (there - 1) (row_texts other)) ≡ row' =
    ap line_text_from (texts_at other there whole' low' high') ∙ sym (line_ends row' (drop there (row_texts other)) (ap ends_line (sym alike) ∙ ends)) in
    record {
      within = omega (arith, ap length alike, within);
      begins = ap (λ l. begins text l column) (here' ∙ sym alike ∙ sym here) ∙ stands;
      left = ap (take (column - 1)) alike;
    }

-- where a text begins nowhere in a row, whatever stands behind it, it begins nowhere in the line
pub none_begun : (text : List ℕ) (still : Still) (line column : ℕ) → length still.rows ≡ 24 → 1 ≤ line → line ≤ 24
    → ((rest : List ℕ) → begins text (row_on still line ++ rest) column ≡ false) → begins_on text still line column ≡ false
none_begun text still line column whole low high none =
    let row = row_on still line in
    let rows = drop line (row_texts still) in
    ap (λ l. begins text (line_text_from l) column) (texts_at still line whole low high)
    ∙ ap (λ l. begins text l column) (line_is row rows)
    ∙ none (cond (ends_line row) [] (line_text_from rows))

-- a column more
pub kept_more : (text : List ℕ) (one : Still) (line : ℕ) (other : Still) (there end : ℕ) → AreKept text one line other there end
    → (begins_on text one line end ≡ true → IsKept text one line other there end) → AreKept text one line other there (end + 1)
kept_more text one line other there end before here column low high within begins = elim (cases_lt column end) [
  | inl lt ↦ before column low lt within begins
  | inr ge ↦
      let at : end ≡ column = omega arith in
      subst (IsKept text one line other there) at (here (ap (begins_on text one line) at ∙ begins))
]

-- two rows that differ in a character have no longer front in common
pub longer_differs : (one other : List Cell) (at k : ℕ) (d e : Cell) → at < length one → at < length other
    → (character (get_or one at d).glyph ≡ character (get_or other at e).glyph → ⊥) → at < k → take k (characters one) ≡ take k (characters other) → ⊥
longer_differs one other at k d e lt lt' differs high same =
    let read : Cell → ℕ = λ cell. character cell.glyph in
    differs
    (sym (get_or-map read one at d 0 lt) ∙ sym (get_or-take k (characters one) at 0 high) ∙ ap (λ (l : List ℕ). get_or l at 0) same
    ∙ get_or-take k (characters other) at 0 high ∙ get_or-map read other at e 0 lt')

pub longer_ends : (one other : List Cell) (k : ℕ) → length other < k → k ≤ length one → take k (characters one) ≡ take k (characters other) → ⊥
longer_ends one other k short high same =
    let read : Cell → ℕ = λ cell. character cell.glyph in
    omega (arith, ap length same, length-take k (characters one), length-take k (characters other), length-map one read, length-map other read)

-- a left part of a line that differs from the line of a place in less
pub apart_behind : (one : Still) (line column : ℕ) (place : Place) → 1 ≤ column → column ≤ length (row_on one line)
    → (place.column ≤ column → take (column - 1) (row_on one line) ≡ take (column - 1) (row_on one place.line) → ⊥)
    → IsApart one (take (column - 1) (row_on one line)) place
apart_behind one line column place low high differs near same =
    let row = row_on one line in
    let long : length (take (column - 1) row) ≡ column - 1 = length-take-le (column - 1) row (omega arith) in
    differs (omega (arith, near, long)) (same ∙ ap (λ n. take n (row_on one place.line)) long)

-- ---- lines that differ

pub differ_back : (one other : Still) (lines : List ℕ) → DifferIn lines one other → DifferIn lines other one
differ_back one other lines differ line low high none = sym (differ line low high none)

-- a line more that differs, or doesn't
pub listed_one : (lines : List ℕ) (line k : ℕ) → list_any (λ n. nat_eq n k) (lines ++ line ∷ []) ≡ false → (list_any (λ n. nat_eq n k) lines ≡ false) × (k ≡ line → ⊥)
listed_one [] line k none = (refl, λ e. false≢true (sym (or_parts (nat_eq line k) false none).0 ∙ eq-eqb line k (sym e)))
listed_one (x ∷ xs) line k none =
    let parts = or_parts (nat_eq x k) (list_any (λ n. nat_eq n k) (xs ++ line ∷ [])) none in
    let rest = listed_one xs line k parts.1 in
    (or_from (nat_eq x k) (list_any (λ n. nat_eq n k) xs) parts.0 rest.0, rest.1)

-- ---- the line of a place

neither : (b : Bool) → ◌≡◌ {A = List ℕ} (cond b [] []) []
neither true = refl
neither false = refl

pub told : (text : List ℕ) (one other : Still) (write : Place → List ℕ) (keep : List ℕ → Bool) (before : List Place) (place : Place)
    → nat_le (count_left other (standing text other) (left_of one place)) (count_left one before (left_of one place)) ≡ true → keep (left_of one place) ≡ true
    → write place ≡ place_line text one other write keep before place
unfolding place_line
told text one other write keep before place less kept =
    sym (ap (λ b. cond b (cond (keep (left_of one place)) (write place) []) []) less ∙ ap (λ b. cond b (write place) []) kept)

pub no_less : (text : List ℕ) (one other : Still) (write : Place → List ℕ) (keep : List ℕ → Bool) (before : List Place) (place : Place)
    → nat_le (count_left other (standing text other) (left_of one place)) (count_left one before (left_of one place)) ≡ false
    → [] ≡ place_line text one other write keep before place
unfolding place_line
no_less text one other write keep before place none =
    sym (ap (λ b. cond b (cond (keep (left_of one place)) (write place) []) []) none)

pub not_kept : (text : List ℕ) (one other : Still) (write : Place → List ℕ) (keep : List ℕ → Bool) (before : List Place) (place : Place)
    → keep (left_of one place) ≡ false → [] ≡ place_line text one other write keep before place
unfolding place_line
not_kept text one other write keep before place none =
    let less = nat_le (count_left other (standing text other) (left_of one place)) (count_left one before (left_of one place)) in
    sym (ap (λ b. cond less (cond b (write place) []) []) none ∙ neither less)

-- ---- what stood at an end

-- what stands in a line stands on the screen
pub not_lone : (text : List ℕ) (still : Still) (line : ℕ) (left : List ℕ) → length still.rows ≡ 24 → 1 ≤ line → line ≤ 24
    → stands_so text still line left ≡ true → is_lone still (standing text still) left ≡ false
not_lone text still line left whole low high stands =
    let one = counted (stands_so text still line left) true stands in
    let more = count_more text still line left low in
    let rest = count_rises text still (line + 1) 25 left (omega arith) (omega arith) in
    let all = count_all text still left whole in
    ne_eqb (count_left still (standing text still) left) 0 (λ e. omega (arith, e, one, more, rest, all))

-- and so does what stands in the line of another one whose row ends its line, and is the same
pub ended_not_lone : (text : List ℕ) (one other : Still) (line there column : ℕ) → length one.rows ≡ 24 → length other.rows ≡ 24 → 1 ≤ line → line ≤ 24 → 1 ≤ there → there ≤ 24
    → one.wide ≡ other.wide → row_at one.rows line ≡ row_at other.rows there → ends_line (row_on one line) ≡ true
    → 1 ≤ column → column ≤ length (row_on one line) → begins_on text one line column ≡ true
    → is_lone other (standing text other) (take (column - 1) (row_on one line)) ≡ false
ended_not_lone text one other line there column whole whole' low high low' high' wide same ends left right begins =
    let kept = ended_kept text one other line there (column + 1) whole whole' low high low' high' wide same ends column left (omega arith) right begins in
    ap (is_lone other (standing text other)) kept.left
    ∙ not_lone text other there (take (column - 1) (row_on other there)) whole' low' high' (stands_at text other there column left kept.within kept.begins)

-- where no left part passes the test nothing is written
none_pass : (text : List ℕ) (one other : Still) (write : Place → List ℕ) (keep : List ℕ → Bool) (n : ℕ) → n ≤ 24
    → ((line : ℕ) → 1 ≤ line → line ≤ 24 → NonePasses text one keep line) → lines_by text one other write keep (places_above text one (n + 1)) ≡ []
none_pass text one other write keep zero high none = lines_none text one other write keep
none_pass text one other write keep (suc n) high none =
    let line = suc n in
    let above = places_above text one line in
    let f = place_line text one other write keep above in
    let next : n + 1 ≡ line = omega arith in
    lines_more text one other write keep line (omega arith)
    ∙ ap (λ l. l ++ flat_map f (places_to text one line (length (row_on one line))))
    (ap (λ k. lines_by text one other write keep (places_above text one k)) (sym next) ∙ none_pass text one other write keep n (omega arith) none)
    ∙ quiet_behind text one line 0 (length (row_on one line)) f (omega arith)
    (λ column low within begins. sym (not_kept text one other write keep above (place_in line column) (none line (omega arith) high column (omega arith) within begins)))

pub none_told : (text : List ℕ) (one other : Still) (write : Place → List ℕ) (keep : List ℕ → Bool) → length one.rows ≡ 24
    → ((line : ℕ) → 1 ≤ line → line ≤ 24 → NonePasses text one keep line) → [] ≡ lines_by text one other write keep (standing text one)
none_told text one other write keep whole none =
    sym (ap (lines_by text one other write keep) (sym (all_above text one whole)) ∙ none_pass text one other write keep 24 (omega arith) none)

-- ---- the lines of find

pub less_are : (text : List ℕ) (sign index due len : ℕ) (one other : Still)
    → lines_by text one other (found_line sign index due len one) (λ left. true) (standing text one) ≡ less_lines sign index due len one (standing text one) other (standing text other)
unfolding lines_by place_line
less_are text sign index due len one other = refl

pub passed_are : (text : List ℕ) (index due len : ℕ) (first last one other : Still)
    → lines_by text one other (found_line 126 index due len one) (λ left. is_lone first (standing text first) left && is_lone last (standing text last) left) (standing text one)
    ≡ passed_lines index due len first (standing text first) last (standing text last) one (standing text one) other (standing text other)
unfolding lines_by place_line
passed_are text index due len first last one other = refl
