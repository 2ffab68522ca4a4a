-- The whole cast, chunk by chunk.
use Rattle.std.proofs.Common.{◌≡◌, ℕ, ◌<◌, ◌≤◌, All, Bool, List, [], ◌∷◌, ◌++◌, append_assoc, ap, sym, refl, ◌∙◌, arith}
use Rattle.std.specs.List.{flat_map, range_with_len}
use Rattle.std.proofs.lemmas.List.Elements.{All-filter}
use Rattle.std.proofs.lemmas.List.FromFn.{get_or-range_with_len, length-range_with_len}
use Rattle.std.proofs.lemmas.List.Concat.{flat_map-append}
use Rattle.tape_core.specs.Due.{indices}
use Rattle.tape_core.specs.Tape.{Tape}
use Rattle.vt_term.specs.declared.profile.Profile.{Profile}
use Rattle.screen_print.specs.Stills.{Still}
use Rattle.screen_print.specs.Walk.{whole_text}
use Rattle.vt_screen.specs.declared.cell.Row.{Row}
use Rattle.vt_screen.specs.Attributes.{plain}
use Rattle.vt_screen.specs.Cells.{row_at}
use Rattle.vt_screen.specs.Picture.{Picture, columns}
use Rattle.screen_print.specs.EscapedText.{rendition_set_text}
use Rattle.screen_rows.specs.Texts.{text_where}
use Rattle.screen_rows.specs.SameRows.{changed_lines, is_changed}
use Rattle.screen_rows.specs.Runs.{runs_of}
use Rattle.screen_cast.specs.Drawn.{cursor_text, drawn_text, ground_text, line_text, row_opening, row_text, run_text}
use Rattle.screen_cast.specs.Json.{json, json_byte}
use Rattle.screen_cast.specs.Parts.{line_part, row_front, row_part, row_rest, run_part}
use Rattle.screen_cast.specs.Cast.{cast_text, chunk_text, event_line, header_line}
use Rattle.screen_cast.specs.Events.{events_at, outputs, resizes}
use Rattle.screen_cast.proofs.JsonLemmas.{joined_twice}

-- the events of a chunk, of both kinds
pub chunk_is : (index due : ℕ) (before after : Still)
    → flat_map event_line (resizes due before after) ++ flat_map event_line (outputs due before after) ≡ chunk_text index due before after
unfolding chunk_text
chunk_is index due before after = sym (flat_map-append event_line (resizes due before after) (outputs due before after))

-- the lines of a cast, and what the walk writes
pub cast_is : (profile : Profile) (tape : Tape) → cast_text profile tape ≡ header_line ++ whole_text chunk_text profile tape
unfolding cast_text whole_text chunk_text
cast_is profile tape = ap (λ t. header_line ++ t) (joined_twice event_line (events_at profile tape) (indices tape.chunks))

-- a row, part by part
row_is : (width : ℕ) (reversed : Bool) (line : ℕ) (row : Row) → row_part width reversed line row ≡ json (row_text width reversed line row)
unfolding row_front row_rest row_text json
row_is width reversed line row =
    let opening = row_opening line in
    let runs = flat_map (run_text reversed row) (runs_of row) in
    let parts = flat_map (run_part reversed row) (runs_of row) in
    let ground = text_where reversed (ground_text width row) in
    let closing = rendition_set_text plain in
    sym (flat_map-append json_byte (opening ++ runs ++ ground) closing
    ∙ ap (λ t. t ++ json closing) (flat_map-append json_byte (opening ++ runs) ground)
    ∙ ap (λ t. t ++ json ground ++ json closing) (flat_map-append json_byte opening runs)
    ∙ ap (λ t. json opening ++ t ++ json ground ++ json closing) (joined_twice json_byte (run_text reversed row) (runs_of row))
    ∙ append_assoc (json opening ++ parts) (json ground) (json closing))

-- what a picture shows, reversed or not
abbrev pub shown : Picture → Bool → Still
shown p reversed = record { wide = p.wide; rows = p.rows; reversed = reversed; line = p.line; column = p.column }

line_is : (p : Picture) (reversed : Bool) (line : ℕ) → line_part p reversed line ≡ json (line_text (shown p reversed) line)
unfolding line_part
line_is p reversed line = row_is (columns p.wide) reversed line (row_at p.rows line)

lines_are : (p : Picture) (reversed : Bool) (lines : List ℕ) → flat_map (line_part p reversed) lines ≡ json (flat_map (line_text (shown p reversed)) lines)
unfolding json
lines_are p reversed [] = refl
lines_are p reversed (line ∷ lines) =
    let text = line_text (shown p reversed) in
    ap (λ t. t ++ flat_map (line_part p reversed) lines) (line_is p reversed line)
    ∙ ap (λ t. json (text line) ++ t) (lines_are p reversed lines)
    ∙ sym (flat_map-append json_byte (text line) (flat_map text lines))

-- what is drawn of a screen, part by part
pub drawn_is : (p : Picture) (reversed : Bool) (lines : List ℕ)
    → flat_map (line_part p reversed) lines ++ json (cursor_text p.rows p.line p.column) ≡ json (drawn_text (shown p reversed) lines)
unfolding drawn_text json
drawn_is p reversed lines =
    let place = cursor_text p.rows p.line p.column in
    let text = line_text (shown p reversed) in
    ap (λ t. t ++ json place) (lines_are p reversed lines) ∙ sym (flat_map-append json_byte (flat_map text lines) place)

-- lines that differ are lines of a screen
pub lines_within : (before after : List Row) → All (λ line. (1 ≤ line) × (line ≤ 24)) (changed_lines before after)
unfolding changed_lines
lines_within before after =
    All-filter (is_changed before after) (λ line. (1 ≤ line) × (line ≤ 24)) (range_with_len 1 24)
    (λ k d within.
    let few : k < 24 = omega (arith, within, length-range_with_len 1 24) in
    rw (get_or-range_with_len 1 24 k d few) (omega arith, omega arith))
