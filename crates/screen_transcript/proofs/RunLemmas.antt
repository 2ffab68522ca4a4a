-- Characters that are put on ground, one after another.
use Rattle.std.proofs.Common.{◌≡◌, ℕ, ◌+◌, ◌<◌, ◌≤◌, Bool, true, false, List, [], ◌∷◌, ◌++◌, length, refl, sym, ap, ◌∙◌, subst, append-nil, arith}
use Rattle.std.specs.Prelude.{Option, Some, if◌then◌else◌}
use Rattle.std.specs.List.{list_all}
use Rattle.std.proofs.lemmas.Bool.{and_parts, ne_eqb}
use Rattle.vt_parser.specs.declared.commands.Command.{Command}
use Rattle.vt_parser.specs.declared.commands.Command.TheVariants.{Show}
use Rattle.vt_parser.specs.Syntax.{is_graphic}
use Rattle.vt_parser.specs.Step.{command_of}
use Rattle.vt_parser.proofs.LawLemmas.{graphic_is_shown}
use Rattle.vt_screen.specs.declared.cell.Cell.{Cell}
use Rattle.vt_screen.specs.declared.cell.Row.{Row}
use Rattle.vt_screen.specs.Attributes.{Attributes}
use Rattle.vt_screen.specs.CellEdits.{moved_right, room_made}
use Rattle.vt_screen.specs.Cells.{row_at}
use Rattle.vt_screen.specs.Picture.{Picture, margin_of, right_margin}
use Rattle.vt_screen.specs.Puts.{put, with_cell, with_row, wrap_taken}
use Rattle.vt_screen.proofs.Soundness.{row_put}
use Rattle.vt_term.specs.declared.modes.Modes.{Modes}
use Rattle.vt_term.specs.Console.{Console, effect_of}
use Rattle.vt_term.specs.Effect.{effect, glyph_for, put_by}
use Rattle.vt_term.specs.Term.{mode_of}
use Rattle.screen_transcript.specs.Leaving.{at_put, leaving, rows_of}
use Rattle.screen_transcript.specs.Transcribed.{Transcribed, left, left_at, leaving_by, play_on, step_on}
use Rattle.screen_transcript.proofs.CommandLemmas.{given_home, made}

-- ---- what one does to the picture before the right margin

record Beside (p q : Picture) : Type 0 where
  line : q.line ≡ p.line
  wrap : q.wrap ≡ false
  column : q.column ≡ p.column + 1
  margin : right_margin q q.line ≡ right_margin p p.line

module _ (autowrap : Bool) (p : Picture) (wrap : p.wrap ≡ false) (low : 1 ≤ p.line) (high : p.line ≤ 24) where
  put_beside : (cell : Cell) → p.column < right_margin p p.line → Beside p (put cell autowrap p)
  put_beside cell lt =
      let row = with_cell p.column cell (row_at p.rows p.line) in
      let written : Picture = record p { rows = with_row p.line row p.rows; column = p.column + 1 } in
      let is : put cell autowrap p ≡ written = rw (ne_eqb p.column (right_margin p p.line) (λ e. absurd (omega (arith, e, lt)))) refl in
      subst (Beside p) (sym is) (record {
        line = refl;
        wrap = wrap;
        column = refl;
        margin = ap (λ (r : Row). margin_of p.wide r.size) (row_put p.line row p.rows low high);
      })

  -- in insert mode room is made first
  room_margin : right_margin (room_made p) p.line ≡ right_margin p p.line
  room_margin =
      ap (λ (r : Row). margin_of p.wide r.size)
      (row_put p.line (moved_right p.column (right_margin p p.line) (row_at p.rows p.line)) p.rows low high)

roomy : (autowrap : Bool) (cell : Cell) (p : Picture) → p.wrap ≡ false → 1 ≤ p.line → p.line ≤ 24 → p.column < right_margin p p.line
    → Beside p (put cell autowrap (room_made p))
roomy autowrap cell p wrap low high lt =
    let margin = room_margin autowrap p wrap low high in
    let there = put_beside autowrap (room_made p) wrap low high cell (omega (arith, lt, margin)) in
    record { line = there.line; wrap = there.wrap; column = there.column; margin = there.margin ∙ margin }

beside : (modes : Modes) (rendition : Attributes) (glyph : ℕ) (p : Picture) → p.wrap ≡ false → 1 ≤ p.line → p.line ≤ 24
    → p.column < right_margin p p.line → Beside p (put_by modes rendition glyph p)
beside modes rendition glyph p wrap low high lt = by_mode modes.insert
  where
    cell : Cell
    cell = record { glyph = glyph; rendition = rendition }

    taken : wrap_taken p ≡ p
    taken = rw wrap refl

    by_mode : (insert : Bool) → Beside p (if insert then put cell modes.autowrap (room_made (wrap_taken p)) else put cell modes.autowrap (wrap_taken p))
    by_mode true = subst (λ (q : Picture). Beside p (put cell modes.autowrap (room_made q))) (sym taken) (roomy modes.autowrap cell p wrap low high lt)
    by_mode false = subst (λ (q : Picture). Beside p (put cell modes.autowrap q)) (sym taken) (put_beside modes.autowrap p wrap low high cell lt)

-- ---- no row leaves at them

-- what a character on ground comes to
given : (s : Console) (byte : ℕ) → is_graphic byte ≡ true → command_of s.modes.mode [] byte ≡ Some (Show byte)
given s byte graphic = (graphic_is_shown s.modes.mode byte graphic).0

shown_picture : (s : Console) (r : List ℕ) (h : Bool) (byte : ℕ) → is_graphic byte ≡ true
    → (step_on (made s [] r h) byte).term.console.picture ≡ put_by s.modes s.rendition (glyph_for s byte) s.picture
unfolding effect
shown_picture s r h byte graphic = ap (λ (c : Option Command). (effect_of effect c s).picture) (given s byte graphic)

none_at : (s : Console) (r : List ℕ) (h : Bool) (byte : ℕ) → is_graphic byte ≡ true → s.picture.wrap ≡ false
    → rows_of (leaving_by (command_of s.modes.mode [] byte) h s.picture) s.picture ≡ []
unfolding leaving
none_at s r h byte graphic wrap =
    ap (λ (c : Option Command). rows_of (leaving_by c h s.picture) s.picture) (given s byte graphic) ∙ rw wrap refl

stays_on_ground : (x : Transcribed) (byte : ℕ) → x.term.pending ≡ [] → is_graphic byte ≡ true → (step_on x byte).term.pending ≡ []
stays_on_ground x byte ground graphic =
    subst (λ (p : List ℕ). (step_on (made x.term.console p x.term.reports x.home) byte).term.pending ≡ []) (sym ground)
    ((graphic_is_shown (mode_of x.term) byte graphic).1)

-- a character on ground, where no wrap is pending
one_leaves : (x : Transcribed) (byte : ℕ) → x.term.pending ≡ [] → is_graphic byte ≡ true → x.term.console.picture.wrap ≡ false → left_at x byte ≡ []
one_leaves x byte ground graphic wrap =
    let s = x.term.console in
    subst (λ (p : List ℕ). rows_of (leaving_by (command_of (mode_of x.term) p byte) x.home s.picture) s.picture ≡ []) (sym ground)
    (none_at s x.term.reports x.home byte graphic wrap)

one_beside : (x : Transcribed) (byte : ℕ) → x.term.pending ≡ [] → is_graphic byte ≡ true → x.term.console.picture.wrap ≡ false
    → 1 ≤ x.term.console.picture.line → x.term.console.picture.line ≤ 24
    → x.term.console.picture.column < right_margin x.term.console.picture x.term.console.picture.line
    → Beside x.term.console.picture (step_on x byte).term.console.picture
one_beside x byte ground graphic wrap low high lt =
    let s = x.term.console in
    let q : (step_on x byte).term.console.picture ≡ put_by s.modes s.rendition (glyph_for s byte) s.picture =
    subst (λ (p : List ℕ). (step_on (made s p x.term.reports x.home) byte).term.console.picture ≡ put_by s.modes s.rendition (glyph_for s byte) s.picture)
    (sym ground) (shown_picture s x.term.reports x.home byte graphic) in
    subst (Beside s.picture) (sym q) (beside s.modes s.rendition (glyph_for s byte) s.picture wrap low high lt)

pub none_leaves : (x : Transcribed) (bytes : List ℕ) → x.term.pending ≡ [] → list_all is_graphic bytes ≡ true
    → x.term.console.picture.wrap ≡ false → 1 ≤ x.term.console.picture.line → x.term.console.picture.line ≤ 24
    → x.term.console.picture.column + length bytes ≤ right_margin x.term.console.picture x.term.console.picture.line + 1 → left x bytes ≡ []
unfolding left
none_leaves x [] ground graphic wrap low high room = refl
none_leaves x (byte ∷ []) ground graphic wrap low high room =
    append-nil (left_at x byte) ∙ one_leaves x byte ground (and_parts (is_graphic byte) true graphic).0 wrap
none_leaves x (byte ∷ next ∷ rest) ground graphic wrap low high room =
    let parts = and_parts (is_graphic byte) (list_all is_graphic (next ∷ rest)) graphic in
    let there = one_beside x byte ground parts.0 wrap low high (omega (arith, room)) in
    ap (λ l. l ++ left (step_on x byte) (next ∷ rest)) (one_leaves x byte ground parts.0 wrap)
    ∙ none_leaves (step_on x byte) (next ∷ rest) (stays_on_ground x byte ground parts.0) parts.1 there.wrap
    (omega (arith, there.line, low)) (omega (arith, there.line, high)) (omega (arith, there.column, there.margin, room))

-- at a wrap that is pending a row may leave
pub wrap_leaves : (x : Transcribed) (byte : ℕ) → x.term.pending ≡ [] → is_graphic byte ≡ true
    → left x (byte ∷ []) ≡ rows_of (at_put x.term.console.picture) x.term.console.picture
unfolding left leaving
wrap_leaves x byte ground graphic =
    let s = x.term.console in
    append-nil (rows_of (leaving_by (command_of (mode_of x.term) x.term.pending byte) x.home s.picture) s.picture)
    ∙ ap (λ (p : List ℕ). rows_of (leaving_by (command_of (mode_of x.term) p byte) x.home s.picture) s.picture) ground
    ∙ ap (λ (c : Option Command). rows_of (leaving_by c x.home s.picture) s.picture) (given s byte graphic)

-- ---- they leave the ground to what comes next, which comes elsewhere

pub record Ends (x : Transcribed) : Type 0 where
  pub ground : x.term.pending ≡ []
  pub home : x.home ≡ false

pub run_ends : (x : Transcribed) (byte : ℕ) (rest : List ℕ) → x.term.pending ≡ [] → list_all is_graphic (byte ∷ rest) ≡ true
    → Ends (play_on x (byte ∷ rest))
unfolding play_on
run_ends x byte [] ground graphic =
    let s = x.term.console in
    let first = (and_parts (is_graphic byte) true graphic).0 in
    record {
      ground = stays_on_ground x byte ground first;
      home = subst (λ (p : List ℕ). (step_on (made s p x.term.reports x.home) byte).home ≡ false) (sym ground)
          (given_home s [] x.term.reports x.home byte (Show byte) (given s byte first));
    }
run_ends x byte (next ∷ rest) ground graphic =
    let parts = and_parts (is_graphic byte) (list_all is_graphic (next ∷ rest)) graphic in
    run_ends (step_on x byte) next rest (stays_on_ground x byte ground parts.0) parts.1
