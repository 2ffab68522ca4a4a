-- Fields and lines of a text, cut off at the front.
use Rattle.std.proofs.Common.{◌≡◌, ℕ, suc, ◌+◌, ◌-◌, ◌<◌, ◌≤◌, ◌==◌, Bool, true, false, not, cond, List, [], ◌∷◌, length, get_or, take, drop, filter, nat_lt, nat_eq, refl, ap, sym, ◌∙◌, arith, one-add, add-one, length-take, drop-cons, inl, inr, ◌⊎◌}
use Rattle.std.specs.List.{slice_split, prefix_len, position_or_len, before_first, after_first, All}
use Rattle.std.proofs.Math.ListN.{drop_of_length-le}
use Rattle.std.proofs.lemmas.Bool.{cases_lt, lt-ltb}
use Rattle.std.proofs.lemmas.Bool.Decides.{nat_tests}
use Rattle.std.proofs.lemmas.List.{take_rest, drop-drop}
use Rattle.std.proofs.lemmas.List.Splits.{slice_split_none, slice_split_first, length-slice_split}
use Rattle.std.proofs.lemmas.List.Sums.{prefix_len-le-length, fails_before_first, passes_at_first}
use Rattle.std.proofs.lemmas.Grind.{common_steps}
use Rattle.tape_core.specs.Text.{fields, is_blank, lines_of, without_empty_last}

-- a blank in front changes no field
pub fields_blank : (b : ℕ) (bs : List ℕ) → is_blank b ≡ true → fields (b ∷ bs) ≡ fields bs
fields_blank b bs h = rw h refl

trimmed_step : (b : ℕ) (bs : List ℕ) (t : Bool) → is_blank b ≡ t → fields bs ≡ fields (drop (prefix_len is_blank bs) bs)
    → fields (b ∷ bs) ≡ fields (drop (cond t (1 + prefix_len is_blank bs) 0) (b ∷ bs))
trimmed_step b bs true h e = fields_blank b bs h ∙ e ∙ rw one-add refl
trimmed_step b bs false h e = refl

-- nor do all blanks in front
pub fields_trimmed : (text : List ℕ) → fields text ≡ fields (drop (prefix_len is_blank text) text)
fields_trimmed [] = refl
fields_trimmed (b ∷ bs) = trimmed_step b bs (is_blank b) refl (fields_trimmed bs)

front_step : (b : ℕ) (bs : List ℕ) (t : Bool) → is_blank b ≡ t → prefix_len is_blank (drop (prefix_len is_blank bs) bs) ≡ 0
    → prefix_len is_blank (drop (cond t (1 + prefix_len is_blank bs) 0) (b ∷ bs)) ≡ 0
front_step b bs true h e = rw one-add e
front_step b bs false h e = rw h refl

-- what is left behind the blanks in front begins with none
pub trimmed_front : (text : List ℕ) → prefix_len is_blank (drop (prefix_len is_blank text) text) ≡ 0
trimmed_front [] = refl
trimmed_front (b ∷ bs) = front_step b bs (is_blank b) refl (trimmed_front bs)

-- a list without an element that passes is its own front
pub before_none : (p : ℕ → Bool) (xs : List ℕ) → length xs ≤ position_or_len p xs → (before_first p xs ≡ xs) × (slice_split p xs ≡ xs ∷ [])
before_none p xs h =
    let le = prefix_len-le-length (λ x. not (p x)) xs in
    let fails : All (λ x. p x ≡ false) xs = λ k d lt. fails_before_first p xs k d (omega arith) in
    (grind (arith, common_steps), slice_split_none p xs fails)

some_step : (b : ℕ) (bs : List ℕ) (t : Bool) → cond t (1 + prefix_len is_blank bs) 0 ≡ 0 → 0 < cond (not t) (1 + position_or_len is_blank bs) 0
some_step b bs true h = absurd (omega arith)
some_step b bs false h = omega arith

-- a text that doesn't begin with a blank has something before its first one
some_front : (text : List ℕ) → 0 < length text → prefix_len is_blank text ≡ 0 → 0 < position_or_len is_blank text
some_front [] some none = absurd (omega arith)
some_front (b ∷ bs) some none = some_step b bs (is_blank b) none

some_before : (text : List ℕ) → 0 < length text → prefix_len is_blank text ≡ 0 → nat_lt 0 (length (before_first is_blank text)) ≡ true
some_before text some none =
    let at = some_front text some none in
    let le = prefix_len-le-length (λ b. not (is_blank b)) text in
    lt-ltb 0 (length (before_first is_blank text)) (omega (arith, length-take (position_or_len is_blank text) text))

-- from the first blank on
fields_after : (text : List ℕ) → position_or_len is_blank text < length text
    → fields (drop (position_or_len is_blank text) text) ≡ fields (after_first is_blank text)
fields_after text h =
    let cut = drop-cons text (position_or_len is_blank text) 0 h in
    ap fields cut ∙ fields_blank (get_or text (position_or_len is_blank text) 0) (drop (suc (position_or_len is_blank text)) text) (passes_at_first is_blank text 0 h) ∙ ap (λ n. fields (drop n text)) (sym (add-one (position_or_len is_blank text)))

word_split : (text : List ℕ)
    → (position_or_len is_blank text < length text) ⊎ (length text ≤ position_or_len is_blank text)
    → nat_lt 0 (length (before_first is_blank text)) ≡ true
    → fields text ≡ before_first is_blank text ∷ fields (drop (position_or_len is_blank text) text)
word_split text (inl h) some =
    ap (filter (λ piece. nat_lt 0 (length piece))) (slice_split_first is_blank text 0 h) ∙ rw (some, fields_after text h) refl
word_split text (inr h) some =
    let whole = before_none is_blank text h in
    let none : drop (position_or_len is_blank text) text ≡ [] = drop_of_length-le text h in
    ap (filter (λ piece. nat_lt 0 (length piece))) whole.1 ∙ ap (λ xs. filter (λ piece. nat_lt 0 (length piece)) (xs ∷ [])) (sym whole.0) ∙ rw (some, none) refl

-- a field is what stands before the first blank
pub fields_word : (text : List ℕ) → 0 < length text → prefix_len is_blank text ≡ 0
    → fields text ≡ before_first is_blank text ∷ fields (drop (position_or_len is_blank text) text)
fields_word text some none = word_split text (cases_lt _ _) (some_before text some none)

-- only the last piece may be dropped
pub kept_piece : (piece : List ℕ) (more : List (List ℕ)) → 0 < length more → without_empty_last (piece ∷ more) ≡ piece ∷ without_empty_last more
kept_piece piece [] h = absurd (omega arith)
kept_piece piece (next ∷ more) h = refl

-- what stands behind the byte at a place
pub behind : (xs : List ℕ) (n : ℕ) → take (length (drop n xs) - 1) (drop 1 (drop n xs)) ≡ drop (n + 1) xs
behind xs n = take_rest (drop n xs) 1 ∙ drop-drop 1 n xs

-- a line is what stands before the first LF
pub lines_first : (text : List ℕ) → position_or_len (λ b. b == 10) text < length text
    → lines_of text ≡ before_first (λ b. b == 10) text ∷ lines_of (after_first (λ b. b == 10) text)
lines_first text h =
    let some = length-slice_split (λ b. b == 10) (after_first (λ b. b == 10) text) in
    let more : 0 < length (slice_split (λ b. b == 10) (after_first (λ b. b == 10) text)) = omega arith in
    ap without_empty_last (slice_split_first (λ b. b == 10) text 0 h) ∙ kept_piece _ _ more

pub lines_last : (text : List ℕ) → 0 < length text → length text ≤ position_or_len (λ b. b == 10) text
    → lines_of text ≡ before_first (λ b. b == 10) text ∷ lines_of []
lines_last text some h =
    let whole = before_none (λ b. b == 10) text h in
    let long : nat_eq (length text) 0 ≡ false = grind (arith, nat_tests) in
    ap without_empty_last whole.1 ∙ rw (long, whole.0) refl
