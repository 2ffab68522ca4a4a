-- Lines that came up by one, as they are written.
use Rattle.std.proofs.Common.{◌≡◌, ℕ, zero, suc, ◌+◌, ◌*◌, ◌-◌, ◌<◌, ◌≤◌, List, ◌∷◌, ◌++◌, drop, length, take, ap, ap₂, sym, ◌∙◌, arith, append_assoc, refl}
use Rattle.std.proofs.lemmas.Fmt.{decimal_digit}
use Rattle.std.proofs.lemmas.List.{drop_at, length-append, take_at}
use Rattle.itoa.proofs.Decimal.{decimal_two}
use Rattle.screen_page.specs.EntryText.{comma_number}
use Rattle.xterm_rows.proofs.RangeLemmas.{no_texts, texts_more}
use Rattle.xterm_page.specs.Parts.{come_text}
use Rattle.xterm_page.proofs.RenewedLemmas.{texts_split}

-- a line, and the one behind it
abbrev with_next : ℕ → List ℕ
with_next line = comma_number line ++ comma_number (line + 1)

two_bytes : (n : ℕ) → n < 10 → length (comma_number n) ≡ 2
two_bytes n low = ap (λ (l : List ℕ). length (44 ∷ l)) (decimal_digit n low)

three_bytes : (n : ℕ) → 10 ≤ n → n < 100 → length (comma_number n) ≡ 3
three_bytes n low high = ap (λ (l : List ℕ). length (44 ∷ l)) (decimal_two n low high)

-- how many bytes those before the next line take
place_more : (line place first second : ℕ) → 1 ≤ line → length (come_text 1 line 1) ≡ place → length (comma_number line) ≡ first → length (comma_number (line + 1)) ≡ second
    → length (come_text 1 (line + 1) 1) ≡ place + (first + second)
place_more line place first second low is own next =
    ap length (texts_more with_next 1 line low) ∙ length-append (come_text 1 line 1) (with_next line)
    ∙ ap₂ (λ a b. a + b) is (length-append (comma_number line) (comma_number (line + 1)) ∙ ap₂ (λ a b. a + b) own next)

-- .. before a line of one digit
pub place_low : (n line : ℕ) → line ≡ n + 1 → line < 10 → length (come_text 1 line 1) ≡ 4 * line - 4
place_low zero line is low =
    let first : line ≡ 1 = omega (arith, is) in
    ap (λ l. length (come_text 1 l 1)) first ∙ ap length (sym (no_texts with_next 1)) ∙ ap (λ l. 4 * l - 4) (sym first)
place_low (suc n) line is low =
    let above = line - 1 in
    let there : above + 1 ≡ line = omega (arith, is) in
    let before = place_low n above (omega (arith, is)) (omega (arith, low)) in
    let sum : 4 * above - 4 + (2 + 2) ≡ 4 * line - 4 = omega (arith, is) in
    ap (λ l. length (come_text 1 l 1)) (sym there)
    ∙ place_more above (4 * above - 4) 2 2 (omega (arith, is)) before (two_bytes above (omega (arith, low))) (two_bytes (above + 1) (omega (arith, low, is))) ∙ sum

-- .. and of two
pub place_high : (n line : ℕ) → line ≡ n + 10 → line ≤ 99 → length (come_text 1 line 1) ≡ 6 * line - 23
place_high zero line is high =
    let first : line ≡ 9 + 1 = omega (arith, is) in
    let nine : 9 < 10 = omega arith in
    ap (λ l. length (come_text 1 l 1)) first
    ∙ place_more 9 32 2 3 (omega arith) (place_low 8 9 refl nine) (two_bytes 9 nine) (three_bytes 10 (omega arith) (omega arith)) ∙ omega (arith, is)
place_high (suc n) line is high =
    let above = line - 1 in
    let there : above + 1 ≡ line = omega (arith, is) in
    let before = place_high n above (omega (arith, is)) (omega (arith, high)) in
    let sum : 6 * above - 23 + (3 + 3) ≡ 6 * line - 23 = omega (arith, is) in
    ap (λ l. length (come_text 1 l 1)) (sym there)
    ∙ place_more above (6 * above - 23) 3 3 (omega (arith, is)) before (three_bytes above (omega (arith, is)) (omega (arith, high))) (three_bytes (above + 1) (omega (arith, is)) (omega (arith, high, is))) ∙ sum

-- ---- those from one line to before another

module _ (from end : ℕ) (low : 1 ≤ from) (apart : from ≤ end) (high : end ≤ 99) where
  abbrev front : List ℕ
  front = come_text 1 from 1

  abbrev part : List ℕ
  part = come_text from end 1

  abbrev back : List ℕ
  back = come_text end 99 1

  to_end : come_text 1 end 1 ≡ front ++ part
  to_end = texts_split with_next 1 from end low apart

  to_last : come_text 1 99 1 ≡ come_text 1 end 1 ++ back
  to_last = texts_split with_next 1 end 99 (omega (arith, low, apart)) high

  end_place : length (come_text 1 end 1) ≡ length front + length part
  end_place = ap length to_end ∙ length-append front part

  pub places_apart : length front ≤ length (come_text 1 end 1)
  places_apart = omega (arith, end_place)

  pub place_within : length (come_text 1 end 1) ≤ length (come_text 1 99 1)
  place_within = let whole = ap length to_last ∙ length-append (come_text 1 end 1) back in omega (arith, whole)

  pub part_between : take (length (come_text 1 end 1) - length front) (drop (length front) (come_text 1 99 1)) ≡ part
  part_between =
      let all = to_last ∙ ap (λ l. l ++ back) to_end ∙ append_assoc front part back in
      let count : length (come_text 1 end 1) - length front ≡ length part = omega (arith, end_place) in
      ap₂ (λ n l. take n l) count (ap (drop (length front)) all ∙ drop_at front (part ++ back) (length front) refl) ∙ take_at part back (length part) refl
