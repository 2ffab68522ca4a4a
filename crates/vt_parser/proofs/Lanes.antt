-- Runs of graphic characters, seen 16 lanes at a time through the mask of the other bytes.
use Rattle.std.proofs.Common.{◌≡◌, ℕ, ◌+◌, ◌-◌, ◌%◌, ◌^◌, ◌<◌, ◌≤◌, Bool, not, cond, eqb, leb, List, [], ◌∷◌, map, length, drop, refl, sym, ap, ap₂, ◌∙◌, arith, w8, Fits}
use Rattle.std.specs.Prelude.{replicate}
use Rattle.std.specs.List.{prefix_len}
use Rattle.std.proofs.lemmas.Bool.{agree_below_at, eq-eqb, ne_eqb}
use Rattle.std.proofs.lemmas.Bool.Decides.{nat_tests}
use Rattle.std.proofs.lemmas.Simd.{zip2_splat, zip2_splat_left, map-map, mask_l-mod, chunk-drop, length-chunk, leading_from_mask_l, trailing_mask_l}
use Rattle.std.proofs.lemmas.List.{length-map, length-drop}
use Rattle.std.proofs.lemmas.List.Folds.{prefix_len-append}
use Rattle.std.proofs.lemmas.List.Sums.{prefix_len-le-length}
use lib.Lanes.{zip2, chunk, mask_l, top, Each1}
use lib.Count.{count_trailing_zeros}
use Rattle.vt_parser.specs.Syntax.{is_graphic}
use Rattle.vt_parser.specs.Ahead.{is_other}

-- ---- the mask

abbrev less_wrapping : ℕ → ℕ → ℕ
less_wrapping a b = (a + (256 - b)) % 256

abbrev at_most : ℕ → ℕ → ℕ
at_most a b = cond (leb a b) 255 0

-- what the vector operations make of one byte
abbrev test_of : ℕ → Bool
test_of byte = top 7 (at_most 95 (less_wrapping byte 32))

each_byte : (lanes : List ℕ) → Each1 (Fits w8) lanes → map test_of lanes ≡ map is_other lanes
each_byte [] fits = refl
each_byte (byte ∷ rest) fits = ap₂ (λ first tail. first ∷ tail) (agree_below_at test_of is_other 256 byte refl fits.0.fits) (each_byte rest fits.1)

pub others_mask : (lanes : List ℕ) → length lanes ≡ 16 → Each1 (Fits w8) lanes
    → mask_l (map (top 7) (zip2 at_most (replicate 16 95) (zip2 less_wrapping lanes (replicate 16 32)))) % 2 ^ 64 ≡ mask_l (map is_other lanes)
others_mask lanes long fits =
    let shifted = zip2_splat less_wrapping lanes 16 32 long in
    let compared =
    zip2_splat_left at_most 95 16 (map (λ byte. less_wrapping byte 32) lanes) (length-map lanes (λ byte. less_wrapping byte 32) ∙ long)
    ∙ map-map (at_most 95) (λ byte. less_wrapping byte 32) lanes in
    let tested = map-map (top 7) (λ byte. at_most 95 (less_wrapping byte 32)) lanes ∙ each_byte lanes fits in
    ap (λ values. mask_l (map (top 7) (zip2 at_most (replicate 16 95) values)) % 2 ^ 64) shifted
    ∙ ap (λ values. mask_l (map (top 7) values) % 2 ^ 64) compared
    ∙ ap (λ tests. mask_l tests % 2 ^ 64) tested
    ∙ mask_l-mod (map is_other lanes) 64 (omega (arith, length-map lanes is_other))

-- ---- the run

pub run_bound : (bytes : List ℕ) (from : ℕ) → from ≤ length bytes → from + prefix_len is_graphic (drop from bytes) ≤ length bytes
run_bound bytes from within = omega (arith, prefix_len-le-length is_graphic (drop from bytes), length-drop from bytes)

same_run : (bytes : List ℕ) → prefix_len is_graphic bytes ≡ prefix_len (λ byte. not (is_other byte)) bytes
same_run [] = refl
same_run (byte ∷ rest) = grind (arith, nat_tests, same_run rest)

all_graphic : (bytes : List ℕ) → prefix_len (λ byte. not (is_other byte)) bytes ≡ length bytes → mask_l (map is_other bytes) ≡ 0
all_graphic [] is = refl
all_graphic (byte ∷ rest) is = grind (arith, nat_tests, all_graphic rest, prefix_len-le-length (λ other. not (is_other other)) rest)

split : (bytes : List ℕ) (from n : ℕ) → prefix_len is_graphic (drop from bytes)
    ≡ cond (eqb (prefix_len is_graphic (chunk from n bytes)) (length (chunk from n bytes)))
    (length (chunk from n bytes) + prefix_len is_graphic (drop (from + n) bytes)) (prefix_len is_graphic (chunk from n bytes))
split bytes from n = ap (prefix_len is_graphic) (chunk-drop from n bytes) ∙ prefix_len-append is_graphic (chunk from n bytes) (drop (from + n) bytes)

-- the run goes on through a piece whose mask is empty
pub run_through : (bytes : List ℕ) (from n : ℕ) → from + n ≤ length bytes → mask_l (map is_other (chunk from n bytes)) ≡ 0
    → prefix_len is_graphic (drop from bytes) ≡ n + prefix_len is_graphic (drop (from + n) bytes)
run_through bytes from n room none =
    let piece = chunk from n bytes in
    let rest = prefix_len is_graphic (drop (from + n) bytes) in
    split bytes from n ∙ ap (λ b. cond b (length piece + rest) (prefix_len is_graphic piece))
    (eq-eqb _ _ (same_run piece ∙ leading_from_mask_l is_other piece none))
    ∙ ap (λ k. k + rest) (length-chunk from n bytes room)

-- it stops at the lowest bit of a mask that isn't empty
pub run_stops : (bytes : List ℕ) (from n : ℕ) → from + n ≤ length bytes → n ≤ 64 → 0 < mask_l (map is_other (chunk from n bytes))
    → prefix_len is_graphic (drop from bytes) ≡ count_trailing_zeros 64 (mask_l (map is_other (chunk from n bytes)))
run_stops bytes from n room short some =
    let piece = chunk from n bytes in
    let rest = prefix_len is_graphic (drop (from + n) bytes) in
    split bytes from n
    ∙ ap (λ b. cond b (length piece + rest) (prefix_len is_graphic piece))
    (ne_eqb _ _ (λ (whole : prefix_len is_graphic piece ≡ length piece). omega (arith, all_graphic piece (sym (same_run piece) ∙ whole))))
    ∙ same_run piece ∙ sym (trailing_mask_l is_other 64 piece (omega (arith, length-chunk from n bytes room)) some)
