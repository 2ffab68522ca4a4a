-- Characters of several bytes that stand one behind the other, and what putting them comes to.
use Rattle.std.proofs.Common.{◌≡◌, ℕ, ◌+◌, ◌-◌, ◌≤◌, Bool, true, false, List, [], ◌∷◌, ◌++◌, length, take, drop, refl, sym, ap, subst, ◌∙◌, arith}
use Rattle.std.specs.Prelude.{Option, None, Some, unwrap_or, if◌then◌else◌, not, ◌&&◌, ◌==◌}
use Rattle.std.proofs.lemmas.List.{length-drop, take_rest}
use Rattle.std.proofs.lemmas.Bool.Decides.{nat_tests}
use Rattle.characters.specs.Utf8.{Spells}
use Rattle.characters.specs.Width.{width}
use Rattle.xterm_term.specs.Ahead.{is_narrow}
use Rattle.xterm_term.specs.Console.{Console, forgotten}
use Rattle.xterm_term.specs.Puts.{all_put, columns_of, is_c1, put, put_by_width}
use Rattle.xterm_term.specs.Spelled.{PutsSpelled}
use Rattle.xterm_term.specs.Seen.{Seen}
use Rattle.xterm_term.proofs.Idle.{Brings}
use Rattle.xterm_term.proofs.Runs.{put_others}
use Rattle.xterm_term.proofs.Letters.{all_put_on, letters_left, spelled_alone, spelled_in_parts}

-- ---- characters whose columns are known

by_test : (b : Bool) (character width_ columns : ℕ) (s : Console) → (if b then None else Some width_) ≡ Some columns
    → (if b then forgotten s else put_by_width width_ character s) ≡ put_by_width columns character s
by_test true character width_ columns s is = absurd cc
by_test false character width_ columns s is = ap (λ (o : Option ℕ). put_by_width (unwrap_or o 0) character s) is

pub known_put : (character columns : ℕ) (s : Console) → columns_of character ≡ Some columns → put character s ≡ put_by_width columns character s
unfolding put
known_put character columns s is = by_test (is_c1 character) character (width character) columns s is

by_none : (b : Bool) (character width_ : ℕ) (s : Console) → (if b then None else Some width_) ≡ None
    → (if b then forgotten s else put_by_width width_ character s) ≡ forgotten s
by_none true character width_ s is = refl
by_none false character width_ s is = absurd cc

pub none_put : (character : ℕ) (s : Console) → columns_of character ≡ None → put character s ≡ forgotten s
unfolding put
none_put character s is = by_none (is_c1 character) character (width character) s is

one_by_test : (b : Bool) (width_ : ℕ) → (if b then None else Some width_) ≡ Some 1 → (not b && (width_ == 1)) ≡ true
one_by_test true width_ is = absurd cc
one_by_test false width_ is = grind (arith, nat_tests)

pub one_is_narrow : (character : ℕ) → columns_of character ≡ Some 1 → is_narrow character ≡ true
one_is_narrow character is = one_by_test (is_c1 character) (width character) is

narrow_by_test : (b : Bool) (width_ : ℕ) → (not b && (width_ == 1)) ≡ true → Some 1 ≡ (if b then None else Some width_)
narrow_by_test true width_ is = absurd cc
narrow_by_test false width_ is = let same : 1 ≡ width_ = grind (arith, nat_tests) in ap Some same

pub narrow_is_one : (character : ℕ) → is_narrow character ≡ true → Some 1 ≡ columns_of character
narrow_is_one character is = narrow_by_test (is_c1 character) (width character) is

-- ---- characters behind others

-- one behind the first bytes is within them all
pub within_more : (bytes : List ℕ) (at : ℕ) (n : ℕ) → at ≤ length bytes → n ≤ length (drop at bytes) → at + n ≤ length bytes
within_more bytes at n within more = let long = length-drop at bytes in omega (arith, long)

-- ---- what is put

pub puts_none : (bytes : List ℕ) (s t : Console) → t ≡ s → PutsSpelled (take 0 bytes) s t
puts_none bytes s t same = ([], refl, same)

pub puts_one : (bytes : List ℕ) (character : ℕ) (s t : Console) → Spells bytes character → t ≡ put character s → PutsSpelled bytes s t
puts_one bytes character s t spells told = (character ∷ [], spelled_alone bytes character spells, told)

pub puts_on : (bytes : List ℕ) (at n : ℕ) (s t u : Console) → PutsSpelled (take at bytes) s t → PutsSpelled (take n (drop at bytes)) t u
    → PutsSpelled (take (at + n) bytes) s u
puts_on bytes at n s t u one other = (
  one.0 ++ other.0,
  spelled_in_parts bytes at n one.0 other.0 one.1 other.1,
  other.2 ∙ ap (all_put other.0) one.2 ∙ sym (all_put_on one.0 other.0 s),
)

-- the same of the slice of the bytes behind
pub puts_behind : (bytes : List ℕ) (at n : ℕ) (s t u : Console) → PutsSpelled (take at bytes) s t
    → PutsSpelled (take n (take (length bytes - at) (drop at bytes))) t u → PutsSpelled (take (at + n) bytes) s u
puts_behind bytes at n s t u one other =
    puts_on bytes at n s t u one (subst (λ (l : List ℕ). PutsSpelled (take n l) t u) (take_rest bytes at) other)

-- ---- what it is for a terminal

-- a first character, and as many bytes of those behind it
pub first_puts : (bytes : List ℕ) (len n first : ℕ) (s t : Console) → Spells (take len bytes) first
    → PutsSpelled (take n (take (length bytes - len) (drop len bytes))) (put first s) t → PutsSpelled (take (len + n) bytes) s t
first_puts bytes len n first s t spells puts =
    puts_behind bytes len n s (put first s) t (puts_one (take len bytes) first s (put first s) spells refl) puts

pub first_brings : (before now_ : Seen) (bytes : List ℕ) (len n first : ℕ) (t : Console) → before ≡ now_ → now_.console.title ≡ false
    → Spells (take len bytes) first → PutsSpelled (take n (take (length bytes - len) (drop len bytes))) (put first before.console) t
    → Brings before.console t (take (len + n) bytes)
first_brings before now_ bytes len n first t same title spells puts =
    let all = first_puts bytes len n first before.console t spells puts in
    letters_left before now_ (take (len + n) bytes) all.0 t same title all.1 all.2

pub first_titled : (before now_ : Seen) (bytes : List ℕ) (len n first : ℕ) (t : Console) → before ≡ now_ → now_.console.title ≡ false
    → Spells (take len bytes) first → PutsSpelled (take n (take (length bytes - len) (drop len bytes))) (put first before.console) t → t.title ≡ false
first_titled before now_ bytes len n first t same title spells puts =
    let all = first_puts bytes len n first before.console t spells puts in
    ap (λ (s : Console). s.title) all.2 ∙ all_titled all.0 before.console ∙ ap (λ (s : Seen). s.console.title) same ∙ title
  where
    all_titled : (characters : List ℕ) (s : Console) → (all_put characters s).title ≡ s.title
    all_titled [] s = refl
    all_titled (character ∷ characters) s = all_titled characters (put character s) ∙ (put_others character s).title
