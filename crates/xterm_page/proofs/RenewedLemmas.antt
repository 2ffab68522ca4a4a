-- The lines that are told as changed, in a list.
use Rattle.std.proofs.Common.{◌≡◌, ◌≢◌, ℕ, zero, suc, ◌+◌, ◌-◌, ◌<◌, ◌≤◌, Bool, true, false, not, cond, List, None, Option, Some, [], ◌∷◌, ◌++◌, filter, length, map, get_or, take, refl, ap, ap₂, sym, ◌∙◌, add-zero, append_assoc, arith, append-nil, inl, inr, length-append}
use Rattle.std.specs.Prelude.{◌&&◌, ◌||◌, ◌==◌}
use Rattle.std.specs.List.{flat_map, range_with_len}
use Rattle.std.proofs.lemmas.Bool.{cases_Bool, cases_eq, cases_lt, false≢true}
use Rattle.std.proofs.lemmas.Bool.Decides.{nat_tests}
use Rattle.std.proofs.lemmas.List.{get_or-map, length-map, map-append, take_more}
use Rattle.std.proofs.lemmas.List.Concat.{flat_map-append, get_or-flat_map}
use Rattle.std.proofs.lemmas.List.Elements.{All-head}
use Rattle.std.proofs.lemmas.List.Folds.{length-flat_map-take}
use Rattle.std.proofs.lemmas.List.FromFn.{get_or-map-range_with_len, length-map-range_with_len}
use Rattle.sheet.specs.Cells.{Cell}
use Rattle.sheet.specs.Grid.{is_touched, row_at}
use Rattle.xterm_rows.proofs.RangeLemmas.{range_split}
use Rattle.xterm_print.proofs.KeptLemmas.{filter_none, passing_more, passing_none}
use Rattle.xterm_page.specs.Entries.{line_of}
use Rattle.xterm_page.specs.Parts.{AreLines, CameUp, IsWithin, come_told, holds, is_renewed, renewed, renewed_lines, renewed_to, told, told_lines, told_of}
use Rattle.xterm_page.specs.declared.kept.Block.{Block}
use Rattle.xterm_page.specs.declared.kept.Renewal.{Renewal}
use Rattle.xterm_page.specs.declared.kept.Renewal.TheVariants.{Line, Moved}
use Rattle.xterm_page.specs.declared.kept.Renewed.{Renewed}
use Rattle.xterm_page.specs.Same.{same_row}
use Rattle.xterm_page.proofs.SameLemmas.{row_itself}

-- ---- how they are told

-- what is told of a line
abbrev pub line_told : ℕ → List (List Cell) → List (List Cell) → ℕ → ℕ × Option ℕ
line_told lines before after line = (line, line_of lines before (row_at after line))

mapped_if : (f : ℕ → ℕ × Option ℕ) (line : ℕ) (here : Bool) → cond here (f line ∷ []) [] ≡ map f (cond here (line ∷ []) [])
mapped_if f line true = refl
mapped_if f line false = refl

-- one line more
pub renewed_more : (origins : List ℕ) (lines : ℕ) (before after : List (List Cell)) (line : ℕ) (here : Bool) (old new : List (ℕ × Option ℕ))
    → 1 ≤ line → here ≡ is_renewed origins (row_at before line) (row_at after line) line
    → old ≡ renewed_to (line - 1) origins lines before after → new ≡ old ++ cond here (line_told lines before after line ∷ []) []
    → new ≡ renewed_to (line + 1 - 1) origins lines before after
renewed_more origins lines before after line here old new low is so_far more =
    let f = line_told lines before after in
    let p : ℕ → Bool = λ k. is_renewed origins (row_at before k) (row_at after k) k in
    let was = filter p (range_with_len 1 (line - 1)) in
    let now = passing_more p line here was (was ++ cond here (line ∷ []) []) low is refl refl in
    more ∙ ap (λ l. l ++ cond here (f line ∷ []) []) so_far
    ∙ ap (λ l. map f was ++ l) (mapped_if f line here)
    ∙ sym (map-append f was (cond here (line ∷ []) []))
    ∙ ap (map f) now

-- the lines up to another, of which none was touched
pub renewed_none : (origins : List ℕ) (lines : ℕ) (before after : List (List Cell)) (line next : ℕ) → 1 ≤ line → line ≤ next
    → ((k : ℕ) → line ≤ k → k < next → is_touched origins k ≡ false)
    → renewed_to (line - 1) origins lines before after ≡ renewed_to (next - 1) origins lines before after
renewed_none origins lines before after line next low high none =
    let p : ℕ → Bool = λ k. is_renewed origins (row_at before k) (row_at after k) k in
    let all : line - 1 + (next - line) ≡ next - 1 = omega (arith, low, high) in
    ap (map (line_told lines before after))
    (sym (passing_none p (line - 1) (next - line) (λ k from below.
    ap (λ b. b && not (same_row (row_at before k) (row_at after k))) (none k (omega (arith, from, low)) (omega (arith, below, all, low, high)))))
    ∙ ap (λ n. filter p (range_with_len 1 n)) all)

-- where the rows are those of before, no line differs
not_renewed : (origins : List ℕ) (before after : List (List Cell)) (k : ℕ) → after ≡ before
    → is_renewed origins (row_at before k) (row_at after k) k ≡ false
not_renewed origins before after k same =
    ap (λ b. is_touched origins k && not b) (ap (λ rows. same_row (row_at before k) (row_at rows k)) same ∙ row_itself (row_at before k))
    ∙ elim (cases_Bool (is_touched origins k)) [
      | inl t ↦ rw t refl
      | inr f ↦ rw f refl
    ]

-- so where a line differs, the rows are others ..
pub renewed_apart : (origins : List ℕ) (before after : List (List Cell)) (k : ℕ)
    → is_renewed origins (row_at before k) (row_at after k) k ≡ true → after ≡ before → ⊥
renewed_apart origins before after k here same = false≢true (sym (not_renewed origins before after k same) ∙ here)

-- .. and where some lines are told
pub some_renewed : (origins : List ℕ) (lines : ℕ) (before after : List (List Cell)) (to : ℕ) (all : List (ℕ × Option ℕ))
    → all ≡ renewed_to to origins lines before after → 0 < length all → after ≡ before → ⊥
some_renewed origins lines before after to all is some same =
    let p : ℕ → Bool = λ k. is_renewed origins (row_at before k) (row_at after k) k in
    let none = filter_none p (λ k. not_renewed origins before after k same) (range_with_len 1 to) in
    omega (arith, some, ap length is, ap (λ l. length (map (line_told lines before after) l)) none)

-- some are told of each renewal
one_told : (lines : ℕ) (one : Renewal) → IsWithin lines one → 0 < length (told one)
one_told lines (Line line r) within = omega arith
one_told lines (Moved block) within =
    let come : ℕ → ℕ × Option ℕ = λ line. (line, Some (line + block.shift)) in
    omega (arith, within.some, length-map-range_with_len come block.from (block.end - block.from))

pub some_told : (lines : ℕ) (changed : List Renewal) → AreLines lines changed → 0 < length changed → 0 < length (flat_map told changed)
some_told lines [] are some = absurd (omega (arith, some))
some_told lines (one ∷ changed) are some =
    omega (arith, one_told lines one (All-head (IsWithin lines) one changed are), length-append (told one) (flat_map told changed))

-- lines that came up by as many
renewed_come : (origins : List ℕ) (lines : ℕ) (before after : List (List Cell)) (shift n from : ℕ) (old : List (ℕ × Option ℕ))
    → 1 ≤ from → CameUp origins lines before after from (from + n) shift → old ≡ renewed_to (from - 1) origins lines before after
    → old ++ map (λ line. (line, Some (line + shift))) (range_with_len from n) ≡ renewed_to (from + n - 1) origins lines before after
renewed_come origins lines before after shift zero from old low came is =
    append-nil old ∙ is ∙ ap (λ m. renewed_to (m - 1) origins lines before after) (sym (add-zero from))
renewed_come origins lines before after shift (suc n) from old low came is =
    let one : ℕ × Option ℕ = (from, Some (from + shift)) in
    let rest : List (ℕ × Option ℕ) = map (λ line. (line, Some (line + shift))) (range_with_len (from + 1) n) in
    let here = came from (omega arith) (omega arith) in
    let first = renewed_more origins lines before after from true old (old ++ one ∷ []) low (sym here.0) is
    (ap (λ (o : Option ℕ). old ++ (from, o) ∷ []) (sym here.1)) in
    let next : from + 1 + n ≡ from + suc n = omega arith in
    sym (append_assoc old (one ∷ []) rest)
    ∙ renewed_come origins lines before after shift n (from + 1) (old ++ one ∷ []) (omega arith)
    (λ line above below. came line (omega (arith, above)) (omega (arith, below))) first
    ∙ ap (λ m. renewed_to (m - 1) origins lines before after) next

-- one line more, and those behind it that came up
pub renewed_pushed : (origins : List ℕ) (lines : ℕ) (before after : List (List Cell)) (line end shift : ℕ) (was : Option ℕ) (old new : List (ℕ × Option ℕ))
    → 1 ≤ line → line < end → is_renewed origins (row_at before line) (row_at after line) line ≡ true → line_of lines before (row_at after line) ≡ was
    → CameUp origins lines before after (line + 1) end shift → old ≡ renewed_to (line - 1) origins lines before after
    → new ≡ old ++ ((line, was) ∷ come_told (line + 1) end shift) → new ≡ renewed_to (end - 1) origins lines before after
renewed_pushed origins lines before after line end shift was old new low apart here is came so_far more =
    let n = end - (line + 1) in
    let one : ℕ × Option ℕ = (line, was) in
    let all : line + 1 + n ≡ end = omega (arith, apart) in
    let first = renewed_more origins lines before after line true old (old ++ one ∷ []) low (sym here) so_far
    (ap (λ (o : Option ℕ). old ++ (line, o) ∷ []) (sym is)) in
    more ∙ sym (append_assoc old (one ∷ []) (come_told (line + 1) end shift))
    ∙ renewed_come origins lines before after shift n (line + 1) (old ++ one ∷ []) (omega arith)
    (λ k above below. came k above (omega (arith, below, all))) first
    ∙ ap (λ m. renewed_to (m - 1) origins lines before after) all

-- where nothing is told of a row, it doesn't differ
pub told_none : (result : Option Renewed) (here : Bool) (was : Option ℕ) → ((renewed : Renewed) → result ≡ Some renewed → ⊥)
    → told_of result ≡ cond here (Some was) None → here ≡ false
told_none (Some renewed) here was none is = absurd (none renewed refl)
told_none None false was none is = refl
told_none None true was none is = absurd (cc)

-- texts of elements, and of one more
pub texts_taken : {X : Type 0} (text : X → List ℕ) (xs : List X) (at : ℕ) (d : X) → at < length xs
    → flat_map text (take (at + 1) xs) ≡ flat_map text (take at xs) ++ text (get_or xs at d)
texts_taken text xs at d within =
    ap (flat_map text) (take_more xs at d within) ∙ flat_map-append text (take at xs) (get_or xs at d ∷ [])
    ∙ ap (λ t. flat_map text (take at xs) ++ t) (append-nil (text (get_or xs at d)))

-- texts of numbers one behind another, in two parts
pub texts_split : (text : ℕ → List ℕ) (from mid end : ℕ) → from ≤ mid → mid ≤ end → flat_map text (range_with_len from (end - from))
    ≡ flat_map text (range_with_len from (mid - from)) ++ flat_map text (range_with_len mid (end - mid))
texts_split text from mid end low high =
    let all : end - from ≡ mid - from + (end - mid) = omega (arith, low, high) in
    let there : from + (mid - from) ≡ mid = omega (arith, low) in
    ap (λ n. flat_map text (range_with_len from n)) all ∙ ap (flat_map text) (range_split from (mid - from) (end - mid))
    ∙ flat_map-append text (range_with_len from (mid - from)) (range_with_len (from + (mid - from)) (end - mid))
    ∙ ap (λ n. flat_map text (range_with_len from (mid - from)) ++ flat_map text (range_with_len n (end - mid))) there

-- texts of the elements of lists
pub texts_joined : {X Y : Type 0} (text : Y → List ℕ) (f : X → List Y) (xs : List X) → flat_map text (flat_map f xs) ≡ flat_map (λ x. flat_map text (f x)) xs
texts_joined text f [] = refl
texts_joined text f (x ∷ xs) =
    flat_map-append text (f x) (flat_map f xs) ∙ ap (λ l. flat_map text (f x) ++ l) (texts_joined text f xs)

-- ---- which they are

-- the lines of which something is told
names_of : (g : ℕ → Option ℕ) (xs : List ℕ) → map (λ (o : ℕ × Option ℕ). o.0) (map (λ line. (line, g line)) xs) ≡ xs
names_of g [] = refl
names_of g (x ∷ xs) = ap (λ l. x ∷ l) (names_of g xs)

one_named : (one : Renewal) → map (λ (o : ℕ × Option ℕ). o.0) (told one) ≡ told_lines one
one_named (Line line r) = refl
one_named (Moved block) = names_of (λ line. Some (line + block.shift)) (range_with_len block.from (block.end - block.from))

all_named : (changed : List Renewal) → map (λ (o : ℕ × Option ℕ). o.0) (flat_map told changed) ≡ flat_map told_lines changed
all_named [] = refl
all_named (one ∷ changed) =
    map-append (λ (o : ℕ × Option ℕ). o.0) (told one) (flat_map told changed) ∙ ap₂ (λ (a b : List ℕ). a ++ b) (one_named one) (all_named changed)

pub renewed_named : (origins : List ℕ) (lines : ℕ) (before after : List (List Cell)) (changed : List Renewal)
    → flat_map told changed ≡ renewed origins lines before after → flat_map told_lines changed ≡ renewed_lines lines origins before after
renewed_named origins lines before after changed is =
    sym (all_named changed) ∙ ap (map (λ (o : ℕ × Option ℕ). o.0)) is
    ∙ names_of (λ line. line_of lines before (row_at after line)) (renewed_lines lines origins before after)

-- what is told of a line that came up
pub came_told : (origins : List ℕ) (lines : ℕ) (before after : List (List Cell)) (changed : List Renewal) (at : ℕ) (d : Renewal) (block : Block) (k : ℕ)
    → flat_map told changed ≡ renewed origins lines before after → at < length changed → get_or changed at d ≡ Moved block
    → block.from ≤ k → k < block.end → line_of lines before (row_at after k) ≡ Some (k + block.shift)
came_told origins lines before after changed at d block k is within one low high =
    let f = line_told lines before after in
    let come : ℕ → ℕ × Option ℕ = λ line. (line, Some (line + block.shift)) in
    let names = renewed_lines lines origins before after in
    let nothing : ℕ × Option ℕ = (0, None) in
    let n = block.end - block.from in
    let j = k - block.from in
    let i = length (flat_map told (take at changed)) + j in
    let long : length (told (get_or changed at d)) ≡ n = ap (λ x. length (told x)) one ∙ length-map-range_with_len come block.from n in
    let inside : j < length (told (get_or changed at d)) = omega (arith, low, high, long) in
    let here : block.from + j ≡ k = omega (arith, low) in
    let count : length (flat_map told changed) ≡ length names = ap length is ∙ length-map names f in
    let below : i < length names = omega (arith, inside, length-flat_map-take told changed at d within, count) in
    let same : come k ≡ f (get_or names i 0) =
    sym (get_or-map-range_with_len come block.from n j k nothing (omega (arith, low, high)) here)
    ∙ ap (λ x. get_or (told x) j nothing) (sym one) ∙ sym (get_or-flat_map told changed at j d nothing within inside)
    ∙ ap (λ l. get_or l i nothing) is ∙ get_or-map f names i 0 nothing below in
    ap (λ m. line_of lines before (row_at after m)) (ap (λ (o : ℕ × Option ℕ). o.0) same) ∙ sym (ap (λ (o : ℕ × Option ℕ). o.1) same)

-- ---- numbers among others

pub holds_append : (k : ℕ) (xs ys : List ℕ) → holds k (xs ++ ys) ≡ (holds k xs || holds k ys)
holds_append k [] ys = refl
holds_append k (x ∷ xs) ys = elim (cases_Bool (x == k)) [
  | inl t ↦ rw t refl
  | inr f ↦ rw f (holds_append k xs ys)
]

pub itself_is : (k : ℕ) → (k == k) ≡ true
itself_is k = grind (arith, nat_tests)

pub other_is : (x k : ℕ) → x ≢ k → (x == k) ≡ false
other_is x k apart = grind (arith, nat_tests)

-- the first of them
pub holds_first : (x k : ℕ) (xs : List ℕ) → x ≡ k → holds k (x ∷ xs) ≡ true
holds_first x k xs e = ap (λ b. b || holds k xs) (ap (λ m. x == m) (sym e) ∙ itself_is x)

pub holds_rest : (x k : ℕ) (xs : List ℕ) → x ≢ k → holds k (x ∷ xs) ≡ holds k xs
holds_rest x k xs ne = ap (λ b. b || holds k xs) (other_is x k ne)

-- numbers one behind another
pub in_range : (k a n : ℕ) → a ≤ k → k < a + n → holds k (range_with_len a n) ≡ true
in_range k a zero low high = absurd (omega (arith, low, high))
in_range k a (suc n) low high = elim (cases_eq a k) [
  | inl e ↦ holds_first a k (range_with_len (a + 1) n) e
  | inr ne ↦ holds_rest a k (range_with_len (a + 1) n) ne ∙ in_range k (a + 1) n (omega (arith, low, ne)) (omega (arith, high))
]

pub before_range : (k a n : ℕ) → k < a → holds k (range_with_len a n) ≡ false
before_range k a zero low = refl
before_range k a (suc n) low = holds_rest a k (range_with_len (a + 1) n) (omega (arith, low)) ∙ before_range k (a + 1) n (omega (arith, low))

pub behind_range : (k a n : ℕ) → a + n ≤ k → holds k (range_with_len a n) ≡ false
behind_range k a zero high = refl
behind_range k a (suc n) high = holds_rest a k (range_with_len (a + 1) n) (omega (arith, high)) ∙ behind_range k (a + 1) n (omega (arith, high))

-- none that is filtered stands before the first
none_before : (p : ℕ → Bool) (k a n : ℕ) → k < a → holds k (filter p (range_with_len a n)) ≡ false
none_before p k a zero low = refl
none_before p k a (suc n) low =
    let rest = none_before p k (a + 1) n (omega (arith, low)) in
    elim (cases_Bool (p a)) [
      | inl t ↦ rw t (holds_rest a k (filter p (range_with_len (a + 1) n)) (omega (arith, low)) ∙ rest)
      | inr f ↦ rw f rest
    ]

-- among those that are filtered stand those that pass
pub holds_filtered : (p : ℕ → Bool) (k a n : ℕ) → a ≤ k → k < a + n → holds k (filter p (range_with_len a n)) ≡ p k
holds_filtered p k a zero low high = absurd (omega (arith, low, high))
holds_filtered p k a (suc n) low high = elim (cases_eq a k) [
  | inl e ↦ elim (cases_Bool (p a)) [
    | inl t ↦ rw t (holds_first a k (filter p (range_with_len (a + 1) n)) e ∙ sym t ∙ ap p e)
    | inr f ↦ rw f (none_before p k (a + 1) n (omega (arith, e)) ∙ sym f ∙ ap p e)
  ]
  | inr ne ↦
      let rest = holds_filtered p k (a + 1) n (omega (arith, low, ne)) (omega (arith, high)) in
      elim (cases_Bool (p a)) [
        | inl t ↦ rw t (holds_rest a k (filter p (range_with_len (a + 1) n)) ne ∙ rest)
        | inr f ↦ rw f rest
      ]
]

pub or_false : (b : Bool) → (b || false) ≡ b
or_false true = refl
or_false false = refl

pub or_true : (b : Bool) → (b || true) ≡ true
or_true true = refl
or_true false = refl

-- those that stand before one of them are less
pub before_one : (p : ℕ → Bool) (n a y k : ℕ) (xs ys : List ℕ) → filter p (range_with_len a n) ≡ xs ++ y ∷ ys → holds k xs ≡ true → k < y
before_one p n a y k [] ys is here = absurd (false≢true here)
before_one p zero a y k (x ∷ xs) ys is here =
    let none : x ∷ (xs ++ y ∷ ys) ≡ [] = sym is in
    absurd (cc none)
before_one p (suc n) a y k (x ∷ xs) ys is here = elim (cases_Bool (p a)) [
  | inl t ↦
      let rest = filter p (range_with_len (a + 1) n) in
      let split : a ∷ rest ≡ x ∷ (xs ++ y ∷ ys) = rw t at is in
      let first : a ≡ x = cc split in
      let more : rest ≡ xs ++ y ∷ ys = cc split in
      elim (cases_eq x k) [
        | inl e ↦ elim (cases_lt a y) [
          | inl below ↦ omega (arith, first, e, below)
          | inr above ↦
              let among : holds y rest ≡ true = ap (holds y) more ∙ holds_append y xs (y ∷ ys)
              ∙ ap (λ b. holds y xs || b) (holds_first y y ys refl) ∙ or_true (holds y xs) in
              absurd (false≢true (sym (none_before p y (a + 1) n (omega (arith, above))) ∙ among))
        ]
        | inr ne ↦ before_one p n (a + 1) y k xs ys more (sym (holds_rest x k xs ne) ∙ here)
      ]
  | inr f ↦ before_one p n (a + 1) y k (x ∷ xs) ys (rw f at is) here
]
