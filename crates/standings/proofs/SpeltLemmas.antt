-- Characters in UTF-8, of which some are a byte each.
use Rattle.std.proofs.Common.{◌≡◌, ◌==◌, ℕ, zero, suc, true, ◌+◌, ◌-◌, ◌<◌, ◌≤◌, List, [], ◌∷◌, ◌++◌, drop, encode_utf8, length, slice_index_or, take, refl, ap, ap₂, sym, ◌∙◌, arith}
use Rattle.std.specs.List.{flat_map, suffix_len}
use Rattle.std.proofs.lemmas.List.{drop-take, take-append-drop, take-take}
use Rattle.std.proofs.lemmas.List.Concat.{flat_map-append}
use Rattle.std.proofs.lemmas.List.Sums.{suffix_len-take_yes}
use Rattle.std.proofs.lemmas.Str.{encode_ascii}

-- the first characters, and some behind them
pub spelt_split : (chars : List ℕ) (at end : ℕ) → at ≤ end
    → flat_map encode_utf8 (take end chars) ≡ flat_map encode_utf8 (take at chars) ++ flat_map encode_utf8 (take (end - at) (drop at chars))
spelt_split chars at end low =
    let behind : at + (end - at) ≡ end = omega arith in
    ap (flat_map encode_utf8)
    (sym (take-append-drop at (take end chars))
    ∙ ap₂ (λ l m. l ++ m) (take-take at end chars low) (ap (λ n. drop at (take n chars)) (sym behind) ∙ drop-take at (end - at) chars))
    ∙ flat_map-append encode_utf8 (take at chars) (take (end - at) (drop at chars))

-- as many bytes, each of which is its character
pub spelt : (chars bytes : List ℕ) → length bytes ≡ length chars
    → ((k : ℕ) → k < length chars → slice_index_or chars k 0 < 128)
    → ((k : ℕ) → k < length chars → slice_index_or bytes k 0 ≡ slice_index_or chars k 0)
    → bytes ≡ flat_map encode_utf8 chars
spelt [] [] count small same = refl
spelt [] (b ∷ bytes) count small same = absurd (omega (arith, count))
spelt (c ∷ chars) [] count small same = absurd (omega (arith, count))
spelt (c ∷ chars) (b ∷ bytes) count small same =
    let low : c < 128 = small 0 (omega arith) in
    let here : b ≡ c = same 0 (omega arith) in
    let rest : bytes ≡ flat_map encode_utf8 chars = spelt chars bytes (omega (arith, count)) (λ k lt. small (suc k) (omega (arith, lt))) (λ k lt. same (suc k) (omega (arith, lt))) in
    ap₂ (λ x l. x ∷ l) here rest ∙ ap (λ l. l ++ flat_map encode_utf8 chars) (sym (encode_ascii c low))

-- spaces at the end of the first characters
pub spaces_passed : (chars : List ℕ) (n m : ℕ) → n + m ≤ length chars → ((k : ℕ) → k < m → slice_index_or chars (n + k) 0 ≡ 32)
    → suffix_len (λ c. c == 32) (take (n + m) chars) ≡ m + suffix_len (λ c. c == 32) (take n chars)
spaces_passed chars n zero within are =
    let none : n + 0 ≡ n = omega arith in
    omega (arith, ap (λ k. suffix_len (λ c. c == 32) (take k chars)) none)
spaces_passed chars n (suc m) within are =
    let last : n + suc m - 1 ≡ n + m = omega arith in
    let here : (slice_index_or chars (n + suc m - 1) 0 == 32) ≡ true = ap (λ k. slice_index_or chars k 0 == 32) last ∙ ap (λ x. x == 32) (are m (omega arith)) in
    let rest = spaces_passed chars n m (omega (arith, within)) (λ k lt. are k (omega (arith, lt))) in
    omega (
      arith,
      suffix_len-take_yes (λ c. c == 32) chars (n + suc m) 0 (omega arith) within here,
      ap (λ k. suffix_len (λ c. c == 32) (take k chars)) last,
      rest,
    )
