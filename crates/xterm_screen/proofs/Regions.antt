-- The cursor stays inside the margins as characters are shown.
use Rattle.std.proofs.Common.{ℕ, ◌+◌, Bool, false, List, [], ◌∷◌, min, arith}
use Rattle.std.specs.Prelude.{◌==◌, ◌&&◌, nat_lt}
use Rattle.std.proofs.lemmas.Bool.Decides.{nat_tests}
use Rattle.sheet.specs.declared.rendition.Colour.{Colour}
use Rattle.sheet.specs.declared.rendition.Rendition.{Rendition}
use Rattle.xterm_screen.specs.Picture.{Picture, Sound, IsInRegion}
use Rattle.xterm_screen.specs.Moves.{on_line, moved_to_left}
use Rattle.xterm_screen.specs.Scrolls.{indexed, lines_raised}
use Rattle.xterm_screen.specs.Puts.{next_line, wrap_taken, width, overhangs, made_ready, room_made, character_written, advanced, character_put, shown, run_shown}
use Rattle.xterm_screen.proofs.Soundness.{by_test, either_picture, sound_moved_to_left, sound_wrap_taken, sound_shown}

inside_indexed : (paper : Colour) (p : Picture) → Sound p → IsInRegion p → IsInRegion (indexed paper p)
inside_indexed paper p sound inside =
    by_test IsInRegion (p.line == p.bottom) (on_line p.line (lines_raised 1 p.top p.bottom paper p)) (on_line (min (p.line + 1) p.lines) p)
    (λ e. record { below_top = inside.below_top; above_bottom = inside.above_bottom })
    (λ e. record { below_top = omega (arith, inside.below_top, sound.line_high); above_bottom = grind (arith, nat_tests, inside.above_bottom) })

inside_next_line : (paper : Colour) (p : Picture) → Sound p → IsInRegion p → IsInRegion (next_line paper p)
inside_next_line paper p sound inside =
    inside_indexed paper (moved_to_left p) (sound_moved_to_left p sound) (record { below_top = inside.below_top; above_bottom = inside.above_bottom })

inside_wrap_taken : (paper : Colour) (p : Picture) → Sound p → IsInRegion p → IsInRegion (wrap_taken paper p)
inside_wrap_taken paper p sound inside = either_picture IsInRegion p.wrap (next_line paper p) p (inside_next_line paper p sound inside) inside

inside_made_ready : (wide autowrap : Bool) (paper : Colour) (p : Picture) → Sound p → IsInRegion p → IsInRegion (made_ready wide autowrap paper p)
inside_made_ready wide autowrap paper p sound inside =
    let q = wrap_taken paper p in
    let inside_q = inside_wrap_taken paper p sound inside in
    either_picture IsInRegion (autowrap && overhangs wide q) (next_line paper q) q (inside_next_line paper q (sound_wrap_taken paper p sound) inside_q) inside_q

inside_room_made : (inserting wide : Bool) (paper : Colour) (p : Picture) → IsInRegion p → IsInRegion (room_made inserting wide paper p)
inside_room_made inserting wide paper p inside =
    either_picture IsInRegion inserting _ p (record { below_top = inside.below_top; above_bottom = inside.above_bottom }) inside

inside_advanced : (by : ℕ) (autowrap : Bool) (p : Picture) → IsInRegion p → IsInRegion (advanced by autowrap p)
inside_advanced by autowrap p inside =
    either_picture IsInRegion (nat_lt p.columns (p.column + by)) _ _
    (record { below_top = inside.below_top; above_bottom = inside.above_bottom })
    (record { below_top = inside.below_top; above_bottom = inside.above_bottom })

pub inside_shown : (wide : Bool) (rendition : Rendition) (autowrap inserting : Bool) (character : ℕ) (p : Picture) → Sound p → IsInRegion p
    → IsInRegion (shown character wide rendition autowrap inserting p)
inside_shown wide rendition autowrap inserting character p sound inside =
    let q = made_ready wide autowrap rendition.paper p in
    let inside_q = inside_made_ready wide autowrap rendition.paper p sound inside in
    let made = room_made inserting wide rendition.paper q in
    let inside_made = inside_room_made inserting wide rendition.paper q inside_q in
    either_picture IsInRegion (overhangs wide q) q (character_put character wide rendition autowrap inserting q) inside_q
    (inside_advanced (width wide) autowrap (character_written character wide rendition made)
    (record { below_top = inside_made.below_top; above_bottom = inside_made.above_bottom }))

pub inside_run_shown : (rendition : Rendition) (autowrap inserting : Bool) (characters : List ℕ) (p : Picture) → Sound p → IsInRegion p
    → IsInRegion (run_shown characters rendition autowrap inserting p)
inside_run_shown rendition autowrap inserting [] p sound inside = inside
inside_run_shown rendition autowrap inserting (character ∷ characters) p sound inside =
    inside_run_shown rendition autowrap inserting characters _
    (sound_shown false rendition autowrap inserting character p sound)
    (inside_shown false rendition autowrap inserting character p sound inside)
