-- The cursor stays inside the margins.
use Rattle.std.proofs.Common.{ℕ, ◌+◌, ◌-◌, ◌≤◌, Bool, true, List, arith}
use Rattle.std.specs.Prelude.{if◌then◌else◌, ◌==◌}
use Rattle.std.proofs.lemmas.Bool.Decides.{nat_tests}
use Rattle.vt_screen.specs.declared.cell.Cell.{Cell}
use Rattle.vt_screen.specs.Attributes.{Attributes}
use Rattle.vt_screen.specs.declared.cell.Row.{Row}
use Rattle.vt_screen.specs.CellEdits.{room_made, shown_inserting}
use Rattle.vt_screen.specs.Cells.{row_at}
use Rattle.vt_screen.specs.Picture.{Picture, Sound, IsInRegion, right_margin}
use Rattle.vt_screen.specs.Moves.{on_line, stepped_up, stepped_down, moved_to_left, placed, moved_home, put_back}
use Rattle.vt_screen.specs.Scrolls.{indexed, reverse_indexed, scrolled_up, scrolled_down, is_in_region, lines_deleted, lines_inserted}
use Rattle.vt_screen.specs.Puts.{put, wrap_taken, shown, with_row, with_cell}
use Rattle.vt_screen.specs.Lines.{are_margins, margins_set}
use Rattle.vt_screen.proofs.Soundness.{either_picture, by_test, sound_moved_to_left, sound_room_made, sound_wrap_taken}

on_line_inside : (p : Picture) (line : ℕ) → p.top ≤ line → line ≤ p.bottom → IsInRegion (on_line line p)
on_line_inside p line below above = record { below_top = below; above_bottom = above }

module _ (p : Picture) (sound : Sound p) where
  pub inside_moved_home : IsInRegion (moved_home true p)
  inside_moved_home = record { below_top = omega arith; above_bottom = omega (arith, sound.apart) }

  pub inside_placed : (line column : ℕ) → IsInRegion (placed line column true p)
  inside_placed line column = record { below_top = omega (arith, sound.apart); above_bottom = omega arith }

  pub inside_put_back : (line column : ℕ) (wrap autowrap : Bool) → IsInRegion (put_back line column wrap true autowrap p)
  inside_put_back line column wrap autowrap = record { below_top = omega arith; above_bottom = omega (arith, sound.apart) }

  module _ (inside : IsInRegion p) where
    pub inside_stepped_up : (n : ℕ) → IsInRegion (stepped_up n p)
    inside_stepped_up n = on_line_inside p _ (grind (arith, nat_tests, inside.below_top)) (grind (arith, nat_tests, inside.below_top, inside.above_bottom))

    pub inside_stepped_down : (n : ℕ) → IsInRegion (stepped_down n p)
    inside_stepped_down n = on_line_inside p _ (grind (arith, nat_tests, inside.below_top, inside.above_bottom)) (grind (arith, nat_tests, inside.above_bottom))

    pub inside_indexed : IsInRegion (indexed p)
    inside_indexed =
        by_test IsInRegion (p.line == p.bottom) (on_line p.line (record p { rows = scrolled_up 1 p.top p.bottom p.rows })) (if p.line == 24 then on_line 24 p else on_line (p.line + 1) p)
        (λ e. record { below_top = inside.below_top; above_bottom = inside.above_bottom })
        (λ e. by_test IsInRegion (p.line == 24) (on_line 24 p) (on_line (p.line + 1) p)
        (λ f. on_line_inside p 24 (omega (arith, sound.apart, sound.bottom_high)) (grind (arith, nat_tests, inside.above_bottom, sound.bottom_high)))
        (λ f. on_line_inside p (p.line + 1) (omega (arith, inside.below_top)) (grind (arith, nat_tests, inside.above_bottom))))

    pub inside_reverse_indexed : IsInRegion (reverse_indexed p)
    inside_reverse_indexed =
        by_test IsInRegion (p.line == p.top) (on_line p.line (record p { rows = scrolled_down 1 p.top p.bottom p.rows })) (if p.line == 1 then on_line 1 p else on_line (p.line - 1) p)
        (λ e. record { below_top = inside.below_top; above_bottom = inside.above_bottom })
        (λ e. by_test IsInRegion (p.line == 1) (on_line 1 p) (on_line (p.line - 1) p)
        (λ f. on_line_inside p 1 (grind (arith, nat_tests, inside.below_top, sound.top_low)) (omega (arith, sound.top_low, sound.apart)))
        (λ f. on_line_inside p (p.line - 1) (grind (arith, nat_tests, inside.below_top)) (omega (arith, inside.above_bottom))))

    inside_lines : (b : Bool) (rows : List Row) → IsInRegion (if b then moved_to_left (record p { rows = rows }) else p)
    inside_lines b rows = either_picture IsInRegion b (moved_to_left (record p { rows = rows })) p (record { below_top = inside.below_top; above_bottom = inside.above_bottom }) inside

    pub inside_lines_deleted : (n : ℕ) → IsInRegion (lines_deleted n p)
    inside_lines_deleted n = inside_lines (is_in_region p) (scrolled_up n p.line p.bottom p.rows)

    pub inside_lines_inserted : (n : ℕ) → IsInRegion (lines_inserted n p)
    inside_lines_inserted n = inside_lines (is_in_region p) (scrolled_down n p.line p.bottom p.rows)

    pub inside_room_made : IsInRegion (room_made p)
    inside_room_made = record { below_top = inside.below_top; above_bottom = inside.above_bottom }

    pub inside_put : (cell : Cell) (autowrap : Bool) → IsInRegion (put cell autowrap p)
    inside_put cell autowrap =
        let rows = with_row p.line (with_cell p.column cell (row_at p.rows p.line)) p.rows in
        either_picture IsInRegion (p.column == right_margin p p.line) (record p { rows = rows; wrap = autowrap }) (record p { rows = rows; column = p.column + 1 })
        (record { below_top = inside.below_top; above_bottom = inside.above_bottom })
        (record { below_top = inside.below_top; above_bottom = inside.above_bottom })

    pub inside_margins_set : (top bottom : ℕ) → IsInRegion (margins_set top bottom true p)
    inside_margins_set top bottom =
        by_test IsInRegion (are_margins top bottom) (moved_home true (record p { top = top; bottom = bottom })) p
        (λ e. record { below_top = omega arith; above_bottom = grind (arith, nat_tests) })
        (λ e. inside)

pub inside_wrap_taken : (p : Picture) → Sound p → IsInRegion p → IsInRegion (wrap_taken p)
inside_wrap_taken p sound inside =
    either_picture IsInRegion p.wrap (indexed (moved_to_left p)) p
    (inside_indexed (moved_to_left p) (sound_moved_to_left p sound) (record { below_top = inside.below_top; above_bottom = inside.above_bottom }))
    inside

pub inside_shown : (glyph : ℕ) (rendition : Attributes) (autowrap : Bool) (p : Picture) → Sound p → IsInRegion p
    → IsInRegion (shown glyph rendition autowrap p)
inside_shown glyph rendition autowrap p sound inside =
    inside_put (wrap_taken p) (sound_wrap_taken p sound) (inside_wrap_taken p sound inside) (record { glyph = glyph; rendition = rendition }) autowrap

pub inside_shown_inserting : (glyph : ℕ) (rendition : Attributes) (autowrap : Bool) (p : Picture) → Sound p
    → IsInRegion p → IsInRegion (shown_inserting glyph rendition autowrap p)
inside_shown_inserting glyph rendition autowrap p sound inside =
    let taken = sound_wrap_taken p sound in
    inside_put (room_made (wrap_taken p)) (sound_room_made (wrap_taken p) taken) (inside_room_made (wrap_taken p) taken (inside_wrap_taken p sound inside)) (record { glyph = glyph; rendition = rendition }) autowrap
