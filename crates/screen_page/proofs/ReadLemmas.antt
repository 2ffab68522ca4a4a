-- Reading what was written, piece by piece.
use Rattle.std.proofs.Common.{◌≡◌, ℕ, ◌^◌, ◌<◌, ◌≤◌, All, true, List, [], ◌∷◌, ◌++◌, append_assoc, append-nil, ap, sym, refl, subst, ◌∙◌, arith, decimal, get_or, length, inl, inr}
use Rattle.std.specs.Char.{is_ascii_digit}
use Rattle.std.specs.List.{AllPass, flat_map}
use Rattle.std.proofs.lemmas.Bool.{cases_eq}
use Rattle.std.proofs.lemmas.Bool.Decides.{nat_tests}
use Rattle.std.proofs.lemmas.Fmt.{decimal_is_IsNumeral}
use Rattle.std.proofs.lemmas.List.{get_or_default, length-append}
use Rattle.std.proofs.lemmas.List.Elements.{All-append, All-cons, All-head, All-tail}
use Rattle.std.proofs.lemmas.Str.{encode_ascii}
use Rattle.std.proofs.lemmas.Str.Parse.{digit_at}
use Rattle.tape_core.specs.Law.{SecondsReadBack}
use Rattle.tape_core.specs.Seconds.{IsSeconds, last_moment}
use Rattle.tape_core.specs.Written.{seconds_form}
use Rattle.screen_rows.specs.SameRows.{size_number}
use Rattle.screen_page.specs.Entries.{Change, Was, Is, ShownRow, ShownRun}
use Rattle.screen_page.specs.EntryText.{run_text, string_byte, string_text}
use Rattle.screen_page.specs.Law.{IsShortRun}
use Rattle.screen_page.specs.Reading.{Item, Figure, Text, Field, Number, Inner, Place, InRow, Digits, Chars, Reading, at, closed, ended, opened, plain_byte, read_byte, read_bytes, text_byte, with_number, with_text}

-- ---- between values

-- a reading between values, a number before it not yet ended
pub record Stands (reading : Reading) (place : Place) : Type 0 where
  pub there : Place
  pub digits : List ℕ
  pub is : reading ≡ at there (Digits digits)
  pub ends : ended there digits ≡ place

abbrev pub Reads : List ℕ → Place → Place → Type 0
Reads text from to = (reading : Reading) → Stands reading from → Stands (read_bytes reading text) to

pub read_append : (reading : Reading) (one other : List ℕ) → read_bytes reading (one ++ other) ≡ read_bytes (read_bytes reading one) other
read_append reading [] other = refl
read_append reading (byte ∷ one) other = read_append (read_byte reading.place reading.piece byte) one other

pub reads_both : (one other : List ℕ) (a b c : Place) → Reads one a b → Reads other b c → Reads (one ++ other) a c
reads_both one other a b c first second = λ reading stands.
    subst (λ r. Stands r c) (sym (read_append reading one other)) (second (read_bytes reading one) (first reading stands))

comma_at : (reading : Reading) (place : Place) (text : List ℕ) → Stands reading place
    → read_bytes reading (44 ∷ text) ≡ read_bytes (at place (Digits [])) text
comma_at reading place text stands =
    ap (λ (r : Reading). read_bytes (read_byte r.place r.piece 44) text) stands.is
    ∙ ap (λ p. read_bytes (at p (Digits [])) text) stands.ends

lf_at : (reading : Reading) (place : Place) (text : List ℕ) → Stands reading place
    → read_bytes reading (10 ∷ text) ≡ read_bytes (at place (Digits [])) text
lf_at reading place text stands =
    ap (λ (r : Reading). read_bytes (read_byte r.place r.piece 10) text) stands.is
    ∙ ap (λ p. read_bytes (at p (Digits [])) text) stands.ends

open_at : (reading : Reading) (place : Place) (text : List ℕ) → Stands reading place
    → read_bytes reading (91 ∷ text) ≡ read_bytes (at (opened place) (Digits [])) text
open_at reading place text stands =
    ap (λ (r : Reading). read_bytes (read_byte r.place r.piece 91) text) stands.is
    ∙ ap (λ p. read_bytes (at (opened p) (Digits [])) text) stands.ends

pub close_at : (reading : Reading) (place : Place) → Stands reading place → read_bytes reading (93 ∷ []) ≡ at (closed place) (Digits [])
close_at reading place stands =
    ap (λ (r : Reading). read_byte r.place r.piece 93) stands.is ∙ ap (λ p. at (closed p) (Digits [])) stands.ends

pub stands_at : (place : Place) → Stands (at place (Digits [])) place
stands_at place = record { there = place; digits = []; is = refl; ends = refl }

pub reads_comma : (place : Place) → Reads (44 ∷ []) place place
reads_comma place = λ reading stands. subst (λ r. Stands r place) (sym (comma_at reading place [] stands)) (stands_at place)

pub reads_lf : (place : Place) → Reads (10 ∷ []) place place
reads_lf place = λ reading stands. subst (λ r. Stands r place) (sym (lf_at reading place [] stands)) (stands_at place)

pub reads_open : (place : Place) → Reads (91 ∷ []) place (opened place)
reads_open place = λ reading stands. subst (λ r. Stands r (opened place)) (sym (open_at reading place [] stands)) (stands_at (opened place))

pub reads_close : (place : Place) → Reads (93 ∷ []) place (closed place)
reads_close place = λ reading stands. subst (λ r. Stands r (closed place)) (sym (close_at reading place stands)) (stands_at (closed place))

-- ---- numbers

-- digits and points, one at least
abbrev pub IsNumber : List ℕ → Type 0
IsNumber digits = (0 < length digits) × All (λ b. (46 ≤ b) × (b ≤ 57)) digits

number_byte : (place : Place) (digits : List ℕ) (byte : ℕ) → (46 ≤ byte) × (byte ≤ 57)
    → plain_byte place digits byte ≡ at place (Digits (digits ++ byte ∷ []))
number_byte place digits byte is = grind (arith, nat_tests)

number_bytes : (place : Place) (front digits : List ℕ) → All (λ b. (46 ≤ b) × (b ≤ 57)) digits
    → read_bytes (at place (Digits front)) digits ≡ at place (Digits (front ++ digits))
number_bytes place front [] all = ap (λ l. at place (Digits l)) (sym (append-nil front))
number_bytes place front (byte ∷ digits) all =
    ap (λ r. read_bytes r digits) (number_byte place front byte (All-head (λ b. (46 ≤ b) × (b ≤ 57)) byte digits all))
    ∙ number_bytes place (front ++ byte ∷ []) digits (All-tail (λ b. (46 ≤ b) × (b ≤ 57)) byte digits all)
    ∙ ap (λ l. at place (Digits l)) (append_assoc front (byte ∷ []) digits)

number_ends : (place : Place) (digits : List ℕ) → 0 < length digits → ended place digits ≡ with_number place digits
number_ends place [] some = absurd (omega arith)
number_ends place (digit ∷ digits) some = refl

pub reads_number : (place : Place) (digits : List ℕ) → IsNumber digits → Reads (44 ∷ digits) place (with_number place digits)
reads_number place digits number = λ reading stands. record {
  there = place;
  digits = digits;
  is = comma_at reading place digits stands ∙ number_bytes place [] digits number.1;
  ends = number_ends place digits number.0;
}

pub reads_first : (place : Place) (digits : List ℕ) → IsNumber digits → Reads (91 ∷ digits) place (with_number (opened place) digits)
reads_first place digits number = λ reading stands. record {
  there = opened place;
  digits = digits;
  is = open_at reading place digits stands ∙ number_bytes (opened place) [] digits number.1;
  ends = number_ends (opened place) digits number.0;
}

pub number_text : (n : ℕ) → n < 2 ^ 64 → IsNumber (decimal n)
number_text n small =
    let numeral = (decimal_is_IsNumeral n small).0 in
    (numeral.0, λ k d lt. let digit = digit_at (decimal n) k numeral.1 lt in rw (get_or_default (decimal n) k d 0 lt) (omega (arith, digit.0), digit.1))

-- the digits of a number in seconds
digits_of : (text : List ℕ) → AllPass is_ascii_digit text → All (λ b. (46 ≤ b) × (b ≤ 57)) text
digits_of text all = λ k d lt. let digit : is_ascii_digit (get_or text k d) ≡ true = all k d lt in grind (arith, nat_tests)

spelled_number : (text : List ℕ) (us : ℕ) → IsSeconds text us → IsNumber text
spelled_number text us is = elim is.spelled [
  | inl e ↦ rw e.0 (is.some, digits_of is.whole is.whole_digits)
  | inr e ↦ rw e (
    omega (arith, is.some, length-append is.whole (46 ∷ is.decimals)),
    All-append (λ b. (46 ≤ b) × (b ≤ 57)) is.whole (46 ∷ is.decimals) (digits_of is.whole is.whole_digits)
        (All-cons (λ b. (46 ≤ b) × (b ≤ 57)) 46 is.decimals (omega arith, omega arith) (digits_of is.decimals is.decimal_digits)),
  )
]

pub seconds_number : SecondsReadBack → (us : ℕ) → us ≤ last_moment → IsNumber (seconds_form us)
seconds_number seconds us low = spelled_number (seconds_form us) us (seconds.spelled us (omega (arith, low)))

-- ---- strings

text_one : (place : Place) (text : List ℕ) (byte : ℕ)
    → read_bytes (at place (Chars text)) (string_byte byte) ≡ at place (Chars (text ++ byte ∷ []))
text_one place text byte = elim (cases_eq byte 34) [
  | inl e ↦ rw e refl
  | inr n ↦ elim (cases_eq byte 92) [
    | inl e ↦ rw e refl
    | inr m ↦ elim (cases_eq byte 60) [
      | inl e ↦ rw e (ap (λ l. at place (Chars (text ++ l))) (encode_ascii 60 (omega arith)))
      | inr k ↦
          let plain : string_byte byte ≡ byte ∷ [] = grind (arith, nat_tests) in
          let read : text_byte place text byte ≡ at place (Chars (text ++ byte ∷ [])) = grind (arith, nat_tests) in
          ap (read_bytes (at place (Chars text))) plain ∙ read
    ]
  ]
]

text_bytes : (place : Place) (front text : List ℕ)
    → read_bytes (at place (Chars front)) (flat_map string_byte text) ≡ at place (Chars (front ++ text))
text_bytes place front [] = ap (λ l. at place (Chars l)) (sym (append-nil front))
text_bytes place front (byte ∷ text) =
    read_append (at place (Chars front)) (string_byte byte) (flat_map string_byte text)
    ∙ ap (λ r. read_bytes r (flat_map string_byte text)) (text_one place front byte)
    ∙ text_bytes place (front ++ byte ∷ []) text
    ∙ ap (λ l. at place (Chars l)) (append_assoc front (byte ∷ []) text)

pub reads_text : (place : Place) (text : List ℕ) → Reads (44 ∷ string_text text) place (with_text place text)
reads_text place text = λ reading stands. record {
  there = with_text place text;
  digits = [];
  is =
      comma_at reading place (string_text text) stands
      ∙ read_append (at place (Chars [])) (flat_map string_byte text) (34 ∷ [])
      ∙ ap (λ r. read_bytes r (34 ∷ [])) (text_bytes place [] text);
  ends = refl;
}

-- ---- rows and changes

abbrev pub run_items : ShownRun → List Item
run_items run = Figure (decimal run.kind) ∷ Text run.characters ∷ []

abbrev pub row_items : ShownRow → List Item
row_items row = Figure (decimal (size_number row.size)) ∷ flat_map run_items row.runs

abbrev pub change_fields : ℕ × Change → List Field
change_fields (line, Was other) = Number (decimal line) ∷ Number (decimal other) ∷ []
change_fields (line, Is row) = Number (decimal line) ∷ Inner (row_items row) ∷ []

reads_run : (entries : List (List Field)) (fields : List Field) (items : List Item) (run : ShownRun) → IsShortRun run
    → Reads (run_text run) (InRow entries fields items) (InRow entries fields (items ++ run_items run))
reads_run entries fields items run short =
    let kind = decimal run.kind in
    subst (λ l. Reads (run_text run) (InRow entries fields items) (InRow entries fields l))
    (append_assoc items (Figure kind ∷ []) (Text run.characters ∷ []))
    (reads_both (44 ∷ kind) (44 ∷ string_text run.characters) (InRow entries fields items) (InRow entries fields (items ++ Figure kind ∷ [])) (InRow entries fields ((items ++ Figure kind ∷ []) ++ Text run.characters ∷ []))
    (reads_number (InRow entries fields items) kind (number_text run.kind short))
    (reads_text (InRow entries fields (items ++ Figure kind ∷ [])) run.characters))

pub reads_runs : (entries : List (List Field)) (fields : List Field) (items : List Item) (runs : List ShownRun) → All IsShortRun runs
    → Reads (flat_map run_text runs) (InRow entries fields items) (InRow entries fields (items ++ flat_map run_items runs))
reads_runs entries fields items [] short = λ reading stands. subst (λ l. Stands reading (InRow entries fields l)) (sym (append-nil items)) stands
reads_runs entries fields items (run ∷ runs) short =
    subst (λ l. Reads (flat_map run_text (run ∷ runs)) (InRow entries fields items) (InRow entries fields l))
    (append_assoc items (run_items run) (flat_map run_items runs))
    (reads_both (run_text run) (flat_map run_text runs) (InRow entries fields items) (InRow entries fields (items ++ run_items run)) (InRow entries fields ((items ++ run_items run) ++ flat_map run_items runs))
    (reads_run entries fields items run (All-head IsShortRun run runs short))
    (reads_runs entries fields (items ++ run_items run) runs (All-tail IsShortRun run runs short)))
