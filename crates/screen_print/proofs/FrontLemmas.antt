-- Which rows begin with a left part, and where a text stands behind it.
use Rattle.std.proofs.Common.{◌≡◌, ℕ, ◌+◌, ◌-◌, ◌<◌, ◌≤◌, Bool, true, false, List, ◌++◌, ◌&&◌, length, get_or, replicate, set, take, drop, nat_eq, nat_lt, refl, ap, sym, ◌∙◌, subst, arith, inl, inr}
use Rattle.std.specs.Cmp.Lexicographic.{pointwise}
use Rattle.std.proofs.lemmas.Bool.{and_left, and_right, false_from_ne_true, false≢true, cases_eq, cases_lt, le-leb, le-ltb, lt-leb, lt-ltb}
use Rattle.std.proofs.lemmas.Bool.Decides.{Decides-eqb}
use Rattle.std.proofs.lemmas.Slice.Eq.{slice_eq-Decides}
use Rattle.std.proofs.lemmas.List.{get_or-replicate, get_or-set_other, get_or-set_same, length-map, length-take-le, drop-map, take-map, take-take, take_all}
use Rattle.std.proofs.Math.Seq.{take-add}
use Rattle.vt_screen.specs.declared.cell.Cell.{Cell}
use Rattle.screen_rows.specs.Glyphs.{character}
use Rattle.screen_rows.specs.RowText.{characters}
use Rattle.screen_print.specs.declared.standing.Place.{Place}
use Rattle.screen_print.specs.ByLine.{AreKnown, IsCommon, IsKnown, begins_on, row_on, stands_so}
use Rattle.screen_print.specs.FindLines.{begins, left_of}
use Rattle.screen_print.specs.Stills.{Still}
use Rattle.screen_print.proofs.QuietLemmas.{itself}

-- ---- left parts

unequal : (one other : List ℕ) → (one ≡ other → ⊥) → pointwise nat_eq one other ≡ false
unequal one other differs =
    false_from_ne_true (pointwise nat_eq one other) (λ same. differs ((slice_eq-Decides Decides-eqb one other (pointwise nat_eq one other) refl).0 same))

pub so_past : (text : List ℕ) (still : Still) (line : ℕ) (left : List Cell) → length (row_on still line) ≤ length left → false ≡ stands_so text still line (characters left)
unfolding stands_so
so_past text still line left past =
    let read : Cell → ℕ = λ cell. character cell.glyph in
    let row = row_on still line in
    let chars = characters left in
    sym (and_left (nat_lt (length chars) (length row)) (pointwise nat_eq (take (length chars) row) chars && begins_on text still line (length chars + 1))
    (le-ltb (length chars) (length row) (omega (arith, past, length-map left read))))

pub so_none : (text : List ℕ) (still : Still) (line : ℕ) (left : List Cell) → begins_on text still line (length left + 1) ≡ false
    → false ≡ stands_so text still line (characters left)
unfolding stands_so
so_none text still line left none =
    let read : Cell → ℕ = λ cell. character cell.glyph in
    let row = row_on still line in
    let chars = characters left in
    let long : length chars ≡ length left = length-map left read in
    sym (and_right (nat_lt (length chars) (length row)) (pointwise nat_eq (take (length chars) row) chars && begins_on text still line (length chars + 1))
    (and_right (pointwise nat_eq (take (length chars) row) chars) (begins_on text still line (length chars + 1))
    (ap (λ n. begins_on text still line (n + 1)) long ∙ none)))

pub so_unlike : (text : List ℕ) (still : Still) (line : ℕ) (cells left : List Cell) → characters cells ≡ row_on still line
    → (take (length left) (characters cells) ≡ take (length left) (characters left) → ⊥) → false ≡ stands_so text still line (characters left)
unfolding stands_so
so_unlike text still line cells left is differs =
    let read : Cell → ℕ = λ cell. character cell.glyph in
    let row = row_on still line in
    let chars = characters left in
    let long : length chars ≡ length left = length-map left read in
    sym (and_right (nat_lt (length chars) (length row)) (pointwise nat_eq (take (length chars) row) chars && begins_on text still line (length chars + 1))
    (and_left (pointwise nat_eq (take (length chars) row) chars) (begins_on text still line (length chars + 1))
    (unequal (take (length chars) row) chars
    (λ same. differs (ap (take (length left)) is ∙ ap (λ n. take n row) (sym long) ∙ same ∙ sym (take_all (length left) chars (omega (arith, long))))))))

pub so_alike : (text : List ℕ) (still : Still) (line : ℕ) (cells left : List Cell) (here : Bool) → length left < length (row_on still line) → characters cells ≡ row_on still line
    → take (length left) (characters cells) ≡ take (length left) (characters left) → here ≡ begins_on text still line (length left + 1) → here ≡ stands_so text still line (characters left)
unfolding stands_so
so_alike text still line cells left here within is alike begins =
    let read : Cell → ℕ = λ cell. character cell.glyph in
    let row = row_on still line in
    let chars = characters left in
    let long : length chars ≡ length left = length-map left read in
    let front : take (length chars) row ≡ chars =
    ap (λ n. take n row) long ∙ ap (take (length left)) (sym is) ∙ alike ∙ take_all (length left) chars (omega (arith, long)) in
    let same : pointwise nat_eq (take (length chars) row) chars ≡ true = ap (λ l. pointwise nat_eq l chars) front ∙ itself chars in
    begins ∙ ap (λ n. begins_on text still line (n + 1)) (sym long)
    ∙ ap (λ b. b && begins_on text still line (length chars + 1)) (sym same)
    ∙ ap (λ b. b && (pointwise nat_eq (take (length chars) row) chars && begins_on text still line (length chars + 1))) (sym (lt-ltb (length chars) (length row) (omega (arith, within, long))))

-- cells that are read alike, and more of them
pub alike_behind : (one other : List Cell) (at n : ℕ) → take at (characters one) ≡ take at (characters other)
    → characters (take n (drop at one)) ≡ characters (take n (drop at other)) → take (at + n) (characters one) ≡ take (at + n) (characters other)
alike_behind one other at n before here =
    let read : Cell → ℕ = λ cell. character cell.glyph in
    let part : (cells : List Cell) → take n (drop at (characters cells)) ≡ characters (take n (drop at cells)) =
    λ cells. ap (take n) (drop-map read at cells) ∙ take-map read n (drop at cells) in
    take-add at n (characters one)
    ∙ ap (λ l. l ++ take n (drop at (characters one))) before
    ∙ ap (λ l. take at (characters other) ++ l) (part one ∙ here ∙ sym (part other))
    ∙ sym (take-add at n (characters other))

-- a place that isn't told, since its left part stands at an end
pub not_both : (a b : Bool) → (a && b) ≡ false → a ≡ true → b ≡ false
not_both true b none is = none
not_both false b none is = absurd (false≢true is)

pub left_is : (still : Still) (place : Place) (cells : List Cell) → characters cells ≡ row_on still place.line → characters (take (place.column - 1) cells) ≡ left_of still place
left_is still place cells same =
    sym (take-map (λ (cell : Cell). character cell.glyph) (place.column - 1) cells) ∙ ap (take (place.column - 1)) same

-- ---- fronts in common

-- cells that are read alike so far, and no further
pub in_common : (row : List ℕ) (cells other : List Cell) (len : ℕ) → characters other ≡ row → take len (characters cells) ≡ take len (characters other)
    → ((k : ℕ) → len < k → k ≤ length cells → take k (characters cells) ≡ take k (characters other) → ⊥) → IsCommon row (characters cells) len
in_common row cells other len is same most n high =
    let read : Cell → ℕ = λ cell. character cell.glyph in
    let chars = characters cells in
    let long = length-map cells read in
    elim (cases_lt len n) [
      | inl gt ↦
          unequal (take n row) (take n chars) (λ e. most n gt (omega (arith, high, long)) (sym (ap (take n) is ∙ e)))
          ∙ sym (lt-leb n len gt)
      | inr le ↦
          ap (λ l. pointwise nat_eq l (take n chars)) (ap (take n) (sym is) ∙ sym (take-take n len (characters other) le) ∙ ap (take n) (sym same) ∙ take-take n len chars le)
          ∙ itself (take n chars)
          ∙ sym (le-leb n len le)
    ]

-- a line that was compared
pub known_set : (still : Still) (end line : ℕ) (these lens : List ℕ) (len : ℕ) → 1 ≤ line → line ≤ length lens → IsKnown (row_on still line) these len
    → AreKnown still end these lens → AreKnown still end these (set lens (line - 1) len)
known_set still end line these lens len low high here before k from to = elim (cases_eq k line) [
  | inl e ↦ subst (λ m. IsKnown (row_on still m) these (get_or (set lens (line - 1) len) (m - 1) 0)) (sym e)
      (subst (IsKnown (row_on still line) these) (sym (get_or-set_same lens (line - 1) len 0 (omega arith))) here)
  | inr ne ↦
      subst (IsKnown (row_on still k) these) (sym (get_or-set_other lens (line - 1) (k - 1) len 0 (λ e. ne (omega (arith, e, from, low)))))
      (before k from to)
]

-- none is known
pub none_known : (still : Still) (end : ℕ) (these : List ℕ) → end ≤ 25 → AreKnown still end these (replicate 24 255)
none_known still end these high k from to known = absurd (known (get_or-replicate 24 (k - 1) 255 0 (omega arith)))

-- a column at which the text doesn't stand
pub behind_none : (text : List ℕ) (still : Still) (line : ℕ) (these : List ℕ) (column : ℕ) → 1 ≤ column → column ≤ length these
    → begins_on text still line column ≡ false → false ≡ stands_so text still line (take (column - 1) these)
unfolding stands_so
behind_none text still line these column low high none =
    let row = row_on still line in
    let left = take (column - 1) these in
    let long : length left ≡ column - 1 = length-take-le (column - 1) these (omega arith) in
    let next : length left + 1 ≡ column = omega (arith, long, low) in
    sym (and_right (nat_lt (length left) (length row)) (pointwise nat_eq (take (length left) row) left && begins_on text still line (length left + 1))
    (and_right (pointwise nat_eq (take (length left) row) left) (begins_on text still line (length left + 1))
    (ap (begins_on text still line) next ∙ none)))

-- a row of which less is in common than stands left of a column
pub behind_less : (text : List ℕ) (still : Still) (line : ℕ) (these : List ℕ) (len column : ℕ) → 1 ≤ column → column ≤ length these → IsCommon (row_on still line) these len
    → len < column - 1 → false ≡ stands_so text still line (take (column - 1) these)
unfolding stands_so
behind_less text still line these len column low high common less =
    let row = row_on still line in
    let left = take (column - 1) these in
    let long : length left ≡ column - 1 = length-take-le (column - 1) these (omega arith) in
    sym (and_right (nat_lt (length left) (length row)) (pointwise nat_eq (take (length left) row) left && begins_on text still line (length left + 1))
    (and_left (pointwise nat_eq (take (length left) row) left) (begins_on text still line (length left + 1))
    (ap (λ n. pointwise nat_eq (take n row) left) long ∙ common (column - 1) (omega arith) ∙ lt-leb (column - 1) len less)))

-- a row that ends left of a column
pub behind_past : (text : List ℕ) (still : Still) (line : ℕ) (these : List ℕ) (column : ℕ) → 1 ≤ column → column ≤ length these
    → length (row_on still line) < column → false ≡ stands_so text still line (take (column - 1) these)
unfolding stands_so
behind_past text still line these column low high past =
    let row = row_on still line in
    let left = take (column - 1) these in
    let long : length left ≡ column - 1 = length-take-le (column - 1) these (omega arith) in
    sym (and_left (nat_lt (length left) (length row)) (pointwise nat_eq (take (length left) row) left && begins_on text still line (length left + 1))
    (le-ltb (length left) (length row) (omega (arith, long, past, low))))

-- another one
pub behind_same : (text : List ℕ) (still : Still) (line : ℕ) (these : List ℕ) (len column : ℕ) (here : Bool) → 1 ≤ column → column ≤ length these → IsCommon (row_on still line) these len
    → column - 1 ≤ len → column ≤ length (row_on still line) → here ≡ begins_on text still line column → here ≡ stands_so text still line (take (column - 1) these)
unfolding stands_so
behind_same text still line these len column here low high common near within is =
    let row = row_on still line in
    let left = take (column - 1) these in
    let long : length left ≡ column - 1 = length-take-le (column - 1) these (omega arith) in
    let next : length left + 1 ≡ column = omega (arith, long, low) in
    let same : pointwise nat_eq (take (length left) row) left ≡ true =
    ap (λ n. pointwise nat_eq (take n row) left) long ∙ common (column - 1) (omega arith) ∙ le-leb (column - 1) len near in
    is ∙ sym (ap (begins_on text still line) next)
    ∙ ap (λ b. b && begins_on text still line (length left + 1)) (sym same)
    ∙ ap (λ b. b && (pointwise nat_eq (take (length left) row) left && begins_on text still line (length left + 1))) (sym (lt-ltb (length left) (length row) (omega (arith, long, within, low))))
