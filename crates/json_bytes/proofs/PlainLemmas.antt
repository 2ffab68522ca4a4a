-- Runs of bytes that stand by themselves, seen 16 lanes at a time through the mask of the other bytes.
use Rattle.std.proofs.Common.{◌≡◌, ℕ, ◌+◌, ◌%◌, ◌^◌, ◌<◌, ◌≤◌, Bool, not, bit_or, cond, eqb, ltb, List, [], ◌∷◌, map, length, drop, refl, sym, ap, ap₂, ◌∙◌, arith, w8, Fits}
use Rattle.std.specs.Prelude.{replicate}
use Rattle.std.specs.List.{prefix_len}
use Rattle.std.proofs.lemmas.Bool.{agree_below_at, eq-eqb, ne_eqb}
use Rattle.std.proofs.lemmas.Bool.Decides.{nat_tests}
use Rattle.std.proofs.lemmas.Simd.{zip2_of_maps, zip2_splat, map-map, mask_l-mod, chunk-drop, length-chunk, leading_from_mask_l, trailing_mask_l}
use Rattle.std.proofs.lemmas.List.{length-map, length-drop}
use Rattle.std.proofs.lemmas.List.Folds.{prefix_len-append}
use Rattle.std.proofs.lemmas.List.Sums.{prefix_len-le-length}
use lib.Lanes.{zip2, chunk, mask_l, top, Each1}
use lib.Count.{count_trailing_zeros}
use Rattle.json_bytes.specs.Strings.{is_other, is_plain}

-- ---- the mask

abbrev below : ℕ → ℕ → ℕ
below a b = cond (ltb a b) 255 0

abbrev equal : ℕ → ℕ → ℕ
equal a b = cond (eqb a b) 255 0

-- what the vector operations make of one byte
abbrev lane_of : ℕ → ℕ
lane_of b = bit_or (bit_or (below b 32) (equal b 34)) (equal b 92)

abbrev test_of : ℕ → Bool
test_of b = top 7 (lane_of b)

each_byte : (lanes : List ℕ) → Each1 (Fits w8) lanes → map test_of lanes ≡ map is_other lanes
each_byte [] fits = refl
each_byte (b ∷ rest) fits = ap₂ (λ first tail. first ∷ tail) (agree_below_at test_of is_other 256 b refl fits.0.fits) (each_byte rest fits.1)

pub others_mask : (lanes : List ℕ) → length lanes ≡ 16 → Each1 (Fits w8) lanes
    → mask_l (map (top 7) (zip2 bit_or (zip2 bit_or (zip2 below lanes (replicate 16 32)) (zip2 equal lanes (replicate 16 34))) (zip2 equal lanes (replicate 16 92)))) % 2 ^ 64
    ≡ mask_l (map is_other lanes)
others_mask lanes long fits =
    let quotes = zip2_of_maps bit_or (λ b. below b 32) (λ b. equal b 34) lanes (zip2_splat below lanes 16 32 long) (zip2_splat equal lanes 16 34 long) in
    let all = zip2_of_maps bit_or (λ b. bit_or (below b 32) (equal b 34)) (λ b. equal b 92) lanes quotes (zip2_splat equal lanes 16 92 long) in
    ap (λ values. mask_l (map (top 7) values) % 2 ^ 64) all
    ∙ ap (λ tests. mask_l tests % 2 ^ 64) (map-map (top 7) lane_of lanes ∙ each_byte lanes fits)
    ∙ mask_l-mod (map is_other lanes) 64 (omega (arith, length-map lanes is_other))

-- ---- the run

pub run_bound : (bytes : List ℕ) (from : ℕ) → from ≤ length bytes → from + prefix_len is_plain (drop from bytes) ≤ length bytes
run_bound bytes from within = omega (arith, prefix_len-le-length is_plain (drop from bytes), length-drop from bytes)

same_run : (bytes : List ℕ) → prefix_len is_plain bytes ≡ prefix_len (λ byte. not (is_other byte)) bytes
same_run [] = refl
same_run (byte ∷ rest) = grind (arith, nat_tests, same_run rest)

all_plain : (bytes : List ℕ) → prefix_len (λ byte. not (is_other byte)) bytes ≡ length bytes → mask_l (map is_other bytes) ≡ 0
all_plain [] is = refl
all_plain (byte ∷ rest) is = grind (arith, nat_tests, all_plain rest, prefix_len-le-length (λ other. not (is_other other)) rest)

split : (bytes : List ℕ) (from n : ℕ) → prefix_len is_plain (drop from bytes)
    ≡ cond (eqb (prefix_len is_plain (chunk from n bytes)) (length (chunk from n bytes)))
    (length (chunk from n bytes) + prefix_len is_plain (drop (from + n) bytes)) (prefix_len is_plain (chunk from n bytes))
split bytes from n = ap (prefix_len is_plain) (chunk-drop from n bytes) ∙ prefix_len-append is_plain (chunk from n bytes) (drop (from + n) bytes)

-- the run goes on through a piece whose mask is empty
pub run_through : (bytes : List ℕ) (from n : ℕ) → from + n ≤ length bytes → mask_l (map is_other (chunk from n bytes)) ≡ 0
    → prefix_len is_plain (drop from bytes) ≡ n + prefix_len is_plain (drop (from + n) bytes)
run_through bytes from n room none =
    let piece = chunk from n bytes in
    let rest = prefix_len is_plain (drop (from + n) bytes) in
    split bytes from n ∙ ap (λ b. cond b (length piece + rest) (prefix_len is_plain piece))
    (eq-eqb _ _ (same_run piece ∙ leading_from_mask_l is_other piece none))
    ∙ ap (λ k. k + rest) (length-chunk from n bytes room)

-- it stops at the lowest bit of a mask that isn't empty
pub run_stops : (bytes : List ℕ) (from n : ℕ) → from + n ≤ length bytes → n ≤ 64 → 0 < mask_l (map is_other (chunk from n bytes))
    → prefix_len is_plain (drop from bytes) ≡ count_trailing_zeros 64 (mask_l (map is_other (chunk from n bytes)))
run_stops bytes from n room short some =
    let piece = chunk from n bytes in
    let rest = prefix_len is_plain (drop (from + n) bytes) in
    split bytes from n
    ∙ ap (λ b. cond b (length piece + rest) (prefix_len is_plain piece))
    (ne_eqb _ _ (λ (whole : prefix_len is_plain piece ≡ length piece). omega (arith, all_plain piece (sym (same_run piece) ∙ whole))))
    ∙ same_run piece ∙ sym (trailing_mask_l is_other 64 piece (omega (arith, length-chunk from n bytes room)) some)

-- and in lanes alone
pub lanes_through : (lanes : List ℕ) → length lanes ≡ 16 → mask_l (map is_other lanes) ≡ 0 → 16 ≡ prefix_len is_plain lanes
lanes_through lanes long none = omega (arith, same_run lanes, leading_from_mask_l is_other lanes none)

pub lanes_stop : (lanes : List ℕ) → length lanes ≡ 16 → 0 < mask_l (map is_other lanes)
    → count_trailing_zeros 64 (mask_l (map is_other lanes)) ≡ prefix_len is_plain lanes
lanes_stop lanes long some = trailing_mask_l is_other 64 lanes (omega arith) some ∙ sym (same_run lanes)

pub lanes_bound : (lanes : List ℕ) → length lanes ≡ 16 → prefix_len is_plain lanes ≤ 16
lanes_bound lanes long = omega (arith, prefix_len-le-length is_plain lanes)
