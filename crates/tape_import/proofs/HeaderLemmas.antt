-- A header is one line.
use Rattle.std.proofs.Common.{◌≡◌, ℕ, ℤ, pos, negsuc, suc, ◌+◌, ◌/◌, ◌%◌, ◌^◌, ◌<◌, ◌≤◌, All, Bool, true, false, not, List, [], ◌∷◌, ◌++◌, length, codes, cond, Option, Some, None, IfSome, nat_eq, refl, ap, sym, ◌∙◌, arith, append_assoc, length-append, subst, inl, inr}
use Rattle.std.specs.Fmt.{decimal}
use Rattle.std.specs.List.{AllPass, list_all, position_or_len}
use Rattle.std.proofs.lemmas.Bool.{cases_eq, eq-eqb, ne_eqb}
use Rattle.std.proofs.lemmas.Bool.Decides.{nat_tests}
use Rattle.std.proofs.lemmas.List.Elements.{All-append, All-cons, All-get_or, All-nil, All-weaker}
use Rattle.std.proofs.lemmas.List.Folds.{position_or_len_push}
use Rattle.std.proofs.lemmas.List.Sums.{AllPass-from_list_all, position_or_len_is}
use Rattle.jiff.specs.Types.{Date}
use Rattle.jiff.specs.Words.{date_text}
use Rattle.tape_core.specs.Tape.{IsHeader}
use Rattle.tape_core.proofs.ReadBackLemmas.{decimal_digits, digits_unbroken}
use Rattle.tape_import.specs.declared.facts.Facts.{Facts}
use Rattle.tape_import.specs.declared.facts.Size.{Size}
use Rattle.tape_import.specs.Dates.{TellsDate, clock_text, two_digits}
use Rattle.tape_import.specs.Facts.{IsHeaderOf, is_term_byte, size_text, term_text, told_text}
use Rattle.tape_import.specs.Kept.{CanBeTold, IsSize}

-- pieces that are added one behind another
pub date_grouped : (day clock zone : List ℕ) → ((day ++ 32 ∷ []) ++ clock) ++ zone ≡ day ++ 32 ∷ clock ++ zone
date_grouped day clock zone = simp append_assoc

-- no byte of the text ends a line
abbrev pub IsUnbroken : List ℕ → Type 0
IsUnbroken text = All (λ b. nat_eq b 10 ≡ false) text

joined : (xs ys : List ℕ) → IsUnbroken xs → IsUnbroken ys → IsUnbroken (xs ++ ys)
joined xs ys p q = All-append (λ b. nat_eq b 10 ≡ false) xs ys p q

before : (b : ℕ) (xs : List ℕ) → nat_eq b 10 ≡ false → IsUnbroken xs → IsUnbroken (b ∷ xs)
before b xs p q = All-cons (λ b. nat_eq b 10 ≡ false) b xs p q

none : IsUnbroken []
none = All-nil (λ b. nat_eq b 10 ≡ false)

negated : (b : Bool) → not b ≡ true → b ≡ false
negated true h = sym h
negated false h = refl

literal : (text : List ℕ) → list_all (λ b. not (nat_eq b 10)) text ≡ true → IsUnbroken text
literal text h =
    All-weaker (λ b. not (nat_eq b 10) ≡ true) (λ b. nat_eq b 10 ≡ false) (λ b is. negated (nat_eq b 10) is) text
    (AllPass-from_list_all (λ b. not (nat_eq b 10)) text h)

from_48 : (b : ℕ) → 48 ≤ b → nat_eq b 10 ≡ false
from_48 b h = grind (arith, nat_tests)

term_byte_unbroken : (b : ℕ) → is_term_byte b ≡ true → nat_eq b 10 ≡ false
term_byte_unbroken b h = elim (cases_eq b 10) [
  | inl is ↦ let wrong : false ≡ true = subst (λ n. is_term_byte n ≡ true) is h in cc
  | inr other ↦ ne_eqb b 10 other
]

-- a text without an LF, and one behind it
one_line : (front : List ℕ) → IsUnbroken front → IsHeader (front ++ 10 ∷ [])
one_line front is =
    let feed : ℕ → Bool = λ b. nat_eq b 10 in
    let at : position_or_len feed front ≡ length front =
    position_or_len_is feed front (length front) 0 (omega arith) (λ k lt. All-get_or (λ b. nat_eq b 10 ≡ false) front k 0 lt is) (λ lt. absurd (omega arith)) in
    let place : position_or_len feed (front ++ 10 ∷ []) ≡ length front + 0 =
    position_or_len_push feed front 10 ∙ ap (λ n. cond (nat_eq n (length front)) (length front + 0) n) at
    ∙ ap (λ b. cond b (length front + 0) (length front)) (eq-eqb (length front) (length front) refl) in
    omega (arith, place, length-append front (10 ∷ []))

-- the parts of a date
two_unbroken : (n : ℕ) → IsUnbroken (two_digits n)
two_unbroken n = before (48 + n / 10) ((48 + n % 10) ∷ []) (from_48 (48 + n / 10) (omega arith)) (before (48 + n % 10) [] (from_48 (48 + n % 10) (omega arith)) none)

four_unbroken : (n : ℕ) → IsUnbroken (two_digits (n / 100) ++ two_digits (n % 100))
four_unbroken n = joined (two_digits (n / 100)) (two_digits (n % 100)) (two_unbroken (n / 100)) (two_unbroken (n % 100))

day_unbroken : (month day : ℕ) → IsUnbroken (45 ∷ two_digits month ++ 45 ∷ two_digits day)
day_unbroken month day =
    before 45 (two_digits month ++ 45 ∷ two_digits day) refl
    (joined (two_digits month) (45 ∷ two_digits day) (two_unbroken month) (before 45 (two_digits day) refl (two_unbroken day)))

year_unbroken : (date : Date) (year : ℤ) → date.year ≡ year → IsUnbroken (date_text date)
year_unbroken date (pos n) is =
    rw is (joined (two_digits (n / 100) ++ two_digits (n % 100)) (45 ∷ two_digits date.month ++ 45 ∷ two_digits date.day) (four_unbroken n) (day_unbroken date.month date.day))
year_unbroken date (negsuc n) is =
    let four = joined (codes "-00") (two_digits (suc n / 100) ++ two_digits (suc n % 100)) (literal (codes "-00") refl) (four_unbroken (suc n)) in
    rw is (joined (codes "-00" ++ two_digits (suc n / 100) ++ two_digits (suc n % 100)) (45 ∷ two_digits date.month ++ 45 ∷ two_digits date.day) four
    (day_unbroken date.month date.day))

clock_unbroken : (second : ℕ) → IsUnbroken (clock_text second)
clock_unbroken second =
    let last = before 58 (two_digits (second % 60)) refl (two_unbroken (second % 60)) in
    let minute = joined (two_digits (second / 60 % 60)) (58 ∷ two_digits (second % 60)) (two_unbroken (second / 60 % 60)) last in
    joined (two_digits (second / 3600)) (58 ∷ two_digits (second / 60 % 60) ++ 58 ∷ two_digits (second % 60)) (two_unbroken (second / 3600))
    (before 58 (two_digits (second / 60 % 60) ++ 58 ∷ two_digits (second % 60)) refl minute)

date_unbroken : (second : Option ℕ) (text : List ℕ) → TellsDate second text → IsUnbroken text
date_unbroken None text is = subst IsUnbroken (sym is) (literal (codes "unknown") refl)
date_unbroken (Some second) text is =
    let clock : List ℕ = clock_text (second % 86400) in
    let day : IsUnbroken (date_text is.date) = year_unbroken is.date is.date.year refl in
    let both : IsUnbroken (date_text is.date ++ (32 ∷ clock)) = joined (date_text is.date) (32 ∷ clock) day (before 32 clock refl (clock_unbroken (second % 86400))) in
    subst IsUnbroken (sym is.spelled) (joined (date_text is.date ++ (32 ∷ clock)) (codes "+00:00") both (literal (codes "+00:00") refl))

-- what stands behind it
decimal_unbroken : (n : ℕ) → n < 2 ^ 64 → IsUnbroken (decimal n)
decimal_unbroken n h = digits_unbroken (decimal n) (decimal_digits n h)

term_unbroken : (term : List ℕ) → AllPass is_term_byte term → IsUnbroken (term_text term)
term_unbroken term is =
    let name : IsUnbroken term = All-weaker (λ b. is_term_byte b ≡ true) (λ b. nat_eq b 10 ≡ false) term_byte_unbroken term is in
    joined (codes "TERM=" ++ (34 ∷ term)) (34 ∷ []) (joined (codes "TERM=") (34 ∷ term) (literal (codes "TERM=") refl) (before 34 term refl name)) (literal (34 ∷ []) refl)

size_unbroken : (size : Size) → IsSize size → IsUnbroken (size_text size)
size_unbroken size is =
    let columns : IsUnbroken (34 ∷ decimal size.columns) = before 34 (decimal size.columns) refl (decimal_unbroken size.columns (omega (arith, is.columns))) in
    let lines : IsUnbroken (34 ∷ decimal size.lines) = before 34 (decimal size.lines) refl (decimal_unbroken size.lines (omega (arith, is.lines))) in
    let first : List ℕ = codes "COLUMNS=" ++ (34 ∷ decimal size.columns) in
    let second : List ℕ = first ++ (34 ∷ codes " LINES=") in
    let to_columns : IsUnbroken first = joined (codes "COLUMNS=") (34 ∷ decimal size.columns) (literal (codes "COLUMNS=") refl) columns in
    let to_name : IsUnbroken second = joined first (34 ∷ codes " LINES=") to_columns (literal (34 ∷ codes " LINES=") refl) in
    joined (second ++ (34 ∷ decimal size.lines)) (34 ∷ []) (joined second (34 ∷ decimal size.lines) to_name lines) (literal (34 ∷ []) refl)

closed : (text : List ℕ) → IsUnbroken text → IsUnbroken (text ++ codes "]")
closed text is = joined text (codes "]") is (literal (codes "]") refl)

opened : (text : List ℕ) → IsUnbroken text → IsUnbroken (codes " [" ++ text)
opened text is = joined (codes " [") text (literal (codes " [") refl) is

told_unbroken : (term : Option (List ℕ)) (size : Option Size) → IfSome term (AllPass is_term_byte) → IfSome size IsSize → IsUnbroken (told_text term size)
told_unbroken None None t s = none
told_unbroken (Some term) None t s = closed (codes " [" ++ term_text term) (opened (term_text term) (term_unbroken term t))
told_unbroken None (Some size) t s = closed (codes " [" ++ size_text size) (opened (size_text size) (size_unbroken size s))
told_unbroken (Some term) (Some size) t s =
    let name : IsUnbroken (codes " [" ++ term_text term) = opened (term_text term) (term_unbroken term t) in
    let behind : IsUnbroken (32 ∷ size_text size) = before 32 (size_text size) refl (size_unbroken size s) in
    closed ((codes " [" ++ term_text term) ++ (32 ∷ size_text size)) (joined (codes " [" ++ term_text term) (32 ∷ size_text size) name behind)

-- a header is a line
pub header_line : (facts : Facts) (header : List ℕ) → CanBeTold facts → IsHeaderOf facts header → IsHeader header
header_line facts header can is =
    let started : List ℕ = codes "Script started on " in
    let told : List ℕ = told_text facts.term facts.size in
    let dated : IsUnbroken (started ++ is.date) = joined started is.date (literal started refl) (date_unbroken facts.date is.date is.dated) in
    let whole : IsUnbroken ((started ++ is.date) ++ told) =
    joined (started ++ is.date) told dated (told_unbroken facts.term facts.size can.term can.size) in
    subst IsHeader (sym is.spelled) (one_line ((started ++ is.date) ++ told) whole)
