-- Glyphs of graphic bytes, written one after another.
use Rattle.std.proofs.Common.{◌≡◌, ℕ, ◌≤◌, List, ◌++◌, map, take, drop, sym, ap, ◌∙◌}
use Rattle.std.specs.Prelude.{All}
use Rattle.std.proofs.lemmas.List.{map-append, take-append-drop}
use Rattle.std.proofs.lemmas.List.Sums.{fold-append}
use Rattle.std.proofs.lemmas.List.Elements.{All-map, All-weaker}
use Rattle.vt_screen.specs.Picture.{Picture}
use Rattle.vt_screen.specs.Puts.{shown}
use Rattle.vt_term.specs.declared.sets.CharacterSet.{CharacterSet}
use Rattle.vt_term.specs.Sets.{glyph_of}
use Rattle.vt_term.specs.Console.{Console}
use Rattle.vt_term.specs.Effect.{glyphs_written}
use Rattle.vt_term.specs.Printing.{GlyphsAreWritten}
use Rattle.vt_term.proofs.Safe.{glyph_high}

pub glyphs_high : (set : CharacterSet) (bytes : List ℕ) → All (λ byte. byte ≤ 126) bytes → All (λ glyph. glyph ≤ 126) (map (glyph_of set) bytes)
glyphs_high set bytes high =
    All-map (λ glyph. glyph ≤ 126) (glyph_of set) bytes
    (All-weaker (λ byte. byte ≤ 126) (λ byte. glyph_of set byte ≤ 126) (glyph_high set) bytes high)

-- outside insert mode
pub glyphs_are_written : GlyphsAreWritten
glyphs_are_written s glyphs reset = simp reset

glyphs_written-append : (first second : List ℕ) (s : Console) → glyphs_written (first ++ second) s ≡ glyphs_written second (glyphs_written first s)
glyphs_written-append first second s =
    ap (λ (p : Picture). let t : Console = record s { picture = p } in t)
    (fold-append (λ q glyph. shown glyph s.rendition s.modes.autowrap q) s.picture first second)

-- the step of a loop that writes a front and goes on with the rest
pub front_written : (set : CharacterSet) (n : ℕ) (bytes front back : List ℕ) (s t u : Console) → front ≡ take n bytes → back ≡ drop n bytes
    → t ≡ glyphs_written (map (glyph_of set) front) s → glyphs_written (map (glyph_of set) bytes) s ≡ u → glyphs_written (map (glyph_of set) back) t ≡ u
front_written set n bytes front back s t u is_front is_back written all =
    rw (written, is_back, is_front)
    (sym (glyphs_written-append (map (glyph_of set) (take n bytes)) (map (glyph_of set) (drop n bytes)) s)
    ∙ ap (λ (l : List ℕ). glyphs_written l s) (sym (map-append (glyph_of set) (take n bytes) (drop n bytes)) ∙ ap (map (glyph_of set)) (take-append-drop n bytes))
    ∙ all)
