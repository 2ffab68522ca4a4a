-- Characters as they stand in a string, and a cell character by character.
use Rattle.std.proofs.Common.{◌≡◌, ◌≢◌, ℕ, ◌+◌, ◌-◌, ◌<◌, ◌≤◌, List, [], ◌∷◌, ◌++◌, encode_utf8, length, get_or, take, drop, ap, sym, ◌∙◌, arith, append-nil, append_assoc, subst, false, inl, inr}
use Rattle.std.specs.List.{flat_map}
use Rattle.std.proofs.lemmas.Bool.{cases_lt}
use Rattle.std.proofs.lemmas.Bool.Decides.{nat_tests}
use Rattle.std.proofs.lemmas.List.{drop-drop, get_or-drop, take_more}
use Rattle.std.proofs.lemmas.List.Concat.{flat_map-append}
use Rattle.std.proofs.lemmas.Str.{encode_ascii}
use Rattle.std.proofs.Math.Seq.{take-add}
use Rattle.sheet.specs.declared.cell.Kind.TheVariants.{Narrow}
use Rattle.sheet.specs.declared.rendition.Colour.TheVariants.{Default}
use Rattle.sheet.specs.declared.rendition.Rendition.{Rendition}
use Rattle.sheet.specs.Cells.{Cell, blank, covered_kind, is_covered}
use Rattle.xterm_rows.specs.RowText.{printed}
use Rattle.xterm_rows.specs.Letters.{AreLetters, IsLetter}
use Rattle.xterm_rows.specs.Runs.{begins, cell_behind}
use Rattle.xterm_rows.proofs.LetterLemmas.{none_begin}
use Rattle.xterm_rows.proofs.TextLemmas.{printed_open}
use Rattle.screen_page.specs.EntryText.{comma_number, string_byte}
use Rattle.screen_page.proofs.StringLemmas.{narrow_character, wide_character}
use Rattle.xterm_page.specs.EntryText.{numbers_text}
use Rattle.xterm_page.specs.Plain.{IsPlain, string_of}

plain_byte : (byte : ℕ) → byte ≢ 34 → byte ≢ 92 → byte ≢ 60 → string_byte byte ≡ byte ∷ []
plain_byte byte quote slash less = grind (arith, nat_tests)

-- a character that isn't escaped stands for itself
pub plain_character : (c : ℕ) → c ≢ 34 → c ≢ 92 → c ≢ 60 → encode_utf8 c ≡ flat_map string_byte (encode_utf8 c)
plain_character c quote slash less = elim (cases_lt c 128) [
  | inl low ↦ encode_ascii c low ∙ sym (plain_byte c quote slash less) ∙ sym (narrow_character c low)
  | inr high ↦ sym (wide_character c high)
]

-- a cell that holds such a character alone
pub plain_cell : (cell : Cell) → cell.kind ≡ Narrow → cell.marks ≡ [] → cell.character < 128 → cell.character ≢ 34
    → cell.character ≢ 92 → cell.character ≢ 60 → IsPlain cell
unfolding is_covered
plain_cell cell kind alone low quote slash less =
    let c = cell.character in
    let few : length cell.marks ≤ 0 = omega (arith, ap (λ (marks : List ℕ). length marks) alone) in
    let one : printed cell ≡ encode_utf8 c = sym (printed_open cell 0 (ap covered_kind kind) few) ∙ append-nil (encode_utf8 c) in
    record {
      low = low;
      text = ap (flat_map string_byte) one ∙ sym (plain_character c quote slash less) ∙ encode_ascii c low;
    }

-- cells in two parts
pub string_split : (cells : List Cell) (n m : ℕ) → string_of (take (n + m) cells) ≡ string_of (take n cells) ++ string_of (take m (drop n cells))
string_split cells n m =
    ap string_of (take-add n m cells)
    ∙ ap (flat_map string_byte) (flat_map-append printed (take n cells) (take m (drop n cells)))
    ∙ flat_map-append string_byte (flat_map printed (take n cells)) (flat_map printed (take m (drop n cells)))

-- the same of those from a place on
pub string_on : (cells : List Cell) (at end count : ℕ) → at ≤ end
    → string_of (take (end + count - at) (drop at cells)) ≡ string_of (take (end - at) (drop at cells)) ++ string_of (take count (drop end cells))
string_on cells at end count low =
    let parts : end + count - at ≡ end - at + count = omega (arith, low) in
    let there : at + (end - at) ≡ end = omega (arith, low) in
    ap (λ n. string_of (take n (drop at cells))) parts
    ∙ string_split (drop at cells) (end - at) count
    ∙ ap (λ l. string_of (take (end - at) (drop at cells)) ++ string_of (take count l)) (drop-drop (end - at) at cells ∙ ap (λ n. drop n cells) there)

-- among letters from a place on no run begins
pub letters_go_on : (r : Rendition) (cells : List Cell) (at count : ℕ) → AreLetters r (drop at cells) 0 count
    → (k : ℕ) → at < k → k < at + count → begins cells k ≡ false
letters_go_on r cells at count are =
    none_begin r cells at (at + count) (λ k low high.
    let there : at + (k - at) ≡ k = omega (arith, low) in
    subst (IsLetter r) (get_or-drop at cells (k - at) (blank Default) ∙ ap (cell_behind cells) there) (are (k - at) (omega arith) (omega (arith, low, high))))

-- one element more, as a string has it
pub text_more : {X : Type 0} (f : X → List ℕ) (xs : List X) (n : ℕ) (d : X) → n < length xs
    → flat_map string_byte (flat_map f (take (n + 1) xs)) ≡ flat_map string_byte (flat_map f (take n xs)) ++ flat_map string_byte (f (get_or xs n d))
text_more f xs n d below =
    let told = flat_map f (take n xs) in
    let more = f (get_or xs n d) in
    ap (λ l. flat_map string_byte (flat_map f l)) (take_more xs n d below)
    ∙ ap (flat_map string_byte) (flat_map-append f (take n xs) (get_or xs n d ∷ []) ∙ ap (λ t. told ++ t) (append-nil more))
    ∙ flat_map-append string_byte told more

-- ---- runs

-- the numbers of a run, by how many go out
pub three_numbers : (kind ink paper : ℕ) → paper ≢ 0 → numbers_text kind ink paper ≡ comma_number kind ++ comma_number ink ++ comma_number paper
unfolding numbers_text
three_numbers kind ink paper some = grind (arith, nat_tests)

pub two_numbers : (kind ink paper : ℕ) → paper ≡ 0 → ink ≢ 0 → numbers_text kind ink paper ≡ comma_number kind ++ comma_number ink
unfolding numbers_text
two_numbers kind ink paper none some = grind (arith, nat_tests)

pub one_number : (kind ink paper : ℕ) → paper ≡ 0 → ink ≡ 0 → kind ≢ 0 → numbers_text kind ink paper ≡ comma_number kind
unfolding numbers_text
one_number kind ink paper none none' some = grind (arith, nat_tests)

pub no_numbers : (kind ink paper : ℕ) → paper ≡ 0 → ink ≡ 0 → kind ≡ 0 → numbers_text kind ink paper ≡ []
unfolding numbers_text
no_numbers kind ink paper none none' none'' = grind (arith, nat_tests)

-- a run's numbers, and its string behind a comma
pub run_parts : (numbers characters : List ℕ)
    → ((numbers ++ (44 ∷ 34 ∷ [])) ++ characters) ++ (34 ∷ []) ≡ numbers ++ (44 ∷ (34 ∷ (characters ++ (34 ∷ []))))
run_parts numbers characters =
    append_assoc (numbers ++ (44 ∷ 34 ∷ [])) characters (34 ∷ []) ∙ append_assoc numbers (44 ∷ 34 ∷ []) (characters ++ (34 ∷ []))
