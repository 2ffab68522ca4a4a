-- How long printed glyphs are.
use Rattle.std.proofs.Common.{◌≡◌, ℕ, ◌<◌, ◌≤◌, length, encode_utf8, slice_index, nat_lt, true, refl, arith}
use Rattle.std.specs.List.{AllPass}
use Rattle.std.proofs.lemmas.Bool.{ltb-true}
use Rattle.std.proofs.lemmas.Bool.Decides.{nat_tests}
use Rattle.std.proofs.lemmas.List.Sums.{AllPass-from_list_all}
use Rattle.std.proofs.lemmas.List.Elements.{All-get_or}
use Rattle.std.proofs.lemmas.Str.{length-encode}
use Rattle.screen_rows.specs.Glyphs.{special_graphics}

-- a character below 65,536 takes at most three bytes
pub length-encode_utf8_le : (c : ℕ) → c < 65536 → length (encode_utf8 c) ≤ 3
length-encode_utf8_le c low = rw (length-encode c) (grind (arith, nat_tests))

-- the special graphics are such characters
pub special_graphics_low : (glyph : ℕ) → glyph < 32 → slice_index special_graphics glyph < 65536
special_graphics_low glyph within =
    let all : AllPass (λ c. nat_lt c 65536) special_graphics = AllPass-from_list_all (λ c. nat_lt c 65536) special_graphics refl in
    ltb-true _ 65536 (All-get_or (λ c. nat_lt c 65536 ≡ true) special_graphics glyph 0 within all)
