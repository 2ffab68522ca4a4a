-- What the text of what is saved brings.
use Rattle.std.proofs.Common.{◌≡◌, ℕ, ◌+◌, ◌-◌, ◌≤◌, Bool, true, false, List, [], ◌∷◌, ◌++◌, refl, sym, ap, ap₂, subst, ◌∙◌, arith}
use Rattle.std.proofs.Math.Dec.{lit≤}
use Rattle.std.specs.Prelude.{codes, min, not, if◌then◌else◌, Option, Some, None}
use Rattle.vt_parser.specs.declared.commands.Mode.{Mode}
use Rattle.vt_parser.specs.declared.commands.Mode.TheVariants.{Ansi}
use Rattle.vt_parser.specs.Syntax.{escape}
use Rattle.vt_screen.specs.declared.cell.Cell.{Cell}
use Rattle.vt_screen.specs.declared.cell.Row.{Row}
use Rattle.vt_screen.specs.declared.cell.Size.{Size}
use Rattle.vt_screen.specs.declared.cell.Size.TheVariants.{Single, Double}
use Rattle.vt_screen.specs.Attributes.{Attributes, plain}
use Rattle.vt_screen.specs.Cells.{row_at}
use Rattle.vt_screen.specs.Lines.{resized}
use Rattle.vt_screen.specs.Moves.{placed}
use Rattle.vt_screen.specs.Picture.{Picture, reset, margin_of}
use Rattle.vt_screen.specs.Puts.{with_cell, with_row}
use Rattle.vt_screen.proofs.Answers.{put_there}
use Rattle.vt_screen.proofs.Soundness.{row_put}
use Rattle.vt_term.specs.declared.profile.Profile.{Profile}
use Rattle.vt_term.specs.declared.saved.Saved.{Saved}
use Rattle.vt_term.specs.declared.sets.CharacterSet.{CharacterSet}
use Rattle.vt_term.specs.declared.sets.CharacterSet.TheVariants.{Ascii, Uk, SpecialGraphics}
use Rattle.vt_term.specs.declared.sets.Slot.{Slot}
use Rattle.vt_term.specs.declared.sets.Slot.TheVariants.{G0, G1}
use Rattle.vt_term.specs.Console.{Console, IsSavedWell, first_modes, reset_console}
use Rattle.vt_term.specs.Controls.{invoked}
use Rattle.vt_term.specs.Effect.{effect}
use Rattle.vt_term.specs.Printing.{Brings}
use Rattle.vt_term.proofs.Printed.{nothing_brings, characters_bring, controls_bring, designations_bring, escapes_bring, private_sequences_bring}
use Rattle.screen_rows.specs.Texts.{text_where}
use Rattle.screen_print.specs.EscapedText.{placed_text}
use Rattle.screen_print.proofs.Redrawn.{digit_texts, one_param, brings_as, goes_brings, rendition_set_brings}
use Rattle.screen_state.specs.StateText.{set_byte, slot_byte, sets_text, in_force_text, kept_text, saved_text}
use Rattle.screen_state.proofs.Below.{below, joined}
use Rattle.screen_state.proofs.Stops.{empty, empty_margin}

-- ---- sets

-- one set
first_set_brings : (s : Console) (set : CharacterSet) → s.modes.mode ≡ Ansi
    → Brings s (escape ∷ 40 ∷ set_byte set ∷ []) (record s { sets = record s.sets { g0 = set } })
first_set_brings s Ascii ansi = designations_bring s 40 66 ansi refl refl refl
first_set_brings s Uk ansi = designations_bring s 40 65 ansi refl refl refl
first_set_brings s SpecialGraphics ansi = designations_bring s 40 48 ansi refl refl refl

second_set_brings : (s : Console) (set : CharacterSet) → s.modes.mode ≡ Ansi
    → Brings s (escape ∷ 41 ∷ set_byte set ∷ []) (record s { sets = record s.sets { g1 = set } })
second_set_brings s Ascii ansi = designations_bring s 41 66 ansi refl refl refl
second_set_brings s Uk ansi = designations_bring s 41 65 ansi refl refl refl
second_set_brings s SpecialGraphics ansi = designations_bring s 41 48 ansi refl refl refl

-- which is invoked
pub slot_brings : (s : Console) (slot : Slot) → s.modes.mode ≡ Ansi
    → Brings s (slot_byte slot ∷ []) (record s { sets = record s.sets { invoked = slot } })
unfolding effect
slot_brings s G0 ansi = brings_as s (controls_bring s 15 refl) refl (ap (λ (m : Mode). invoked G0 m s) ansi)
slot_brings s G1 ansi = brings_as s (controls_bring s 14 refl) refl (ap (λ (m : Mode). invoked G1 m s) ansi)

-- all three
sets_bring : (s : Console) (g0 g1 : CharacterSet) (slot : Slot) → s.modes.mode ≡ Ansi
    → Brings s (sets_text g0 g1 slot) (record s { sets = record s.sets { g0 = g0; g1 = g1; invoked = slot } })
sets_bring s g0 g1 slot ansi =
    let one : Console = record s { sets = record s.sets { g0 = g0 } } in
    let two : Console = record s { sets = record s.sets { g0 = g0; g1 = g1 } } in
    joined (joined (first_set_brings s g0 ansi) (second_set_brings one g1 ansi)) (slot_brings two slot ansi)

-- .. and a rendition
pub in_force_brings : (s : Console) (rendition : Attributes) (g0 g1 : CharacterSet) (slot : Slot) → s.modes.mode ≡ Ansi
    → Brings s (in_force_text rendition g0 g1 slot) (record s { rendition = rendition; sets = record s.sets { g0 = g0; g1 = g1; invoked = slot } })
in_force_brings s rendition g0 g1 slot ansi =
    let styled : Console = record s { rendition = rendition } in
    joined (rendition_set_brings below s rendition ansi) (sets_bring styled g0 g1 slot ansi)

-- ---- the cursor that is saved

-- the console on the way: DECOM and the picture aren't the first ones
abbrev pub keeping : Profile → Bool → Picture → Console
keeping profile origin p = record (reset_console profile) { picture = p; modes = record first_modes { origin = origin } }

-- the console that is left
abbrev pub saving : Profile → Picture → Bool → Attributes → CharacterSet → CharacterSet → Slot → Option Saved → Console
saving profile p origin rendition g0 g1 slot saved = record (reset_console profile) {
  picture = p;
  modes = record first_modes { origin = origin };
  rendition = rendition;
  sets = record { g0 = g0; g1 = g1; invoked = slot; vt52_graphics = false };
  saved = saved;
}

-- a line of double width, or a single one
abbrev width : Bool → Size
width double = if double then Double else Single

-- the cursor on a screen with these rows
abbrev at : List Bool → ℕ → Bool → List Row → ℕ → Bool → Picture
at tabs line wide rows column wrap = record (empty wide column tabs) { rows = rows; line = line; wrap = wrap }

-- a wrap is pending at the margin of such a line
abbrev wrapped_text : Bool → Bool → Saved → List ℕ
wrapped_text narrow double saved =
    text_where narrow (escape ∷ codes "[?3l") ++ text_where saved.origin (escape ∷ codes "[?6h") ++ placed_text saved.line saved.column
    ++ text_where double (escape ∷ codes "#6") ++ codes " "
    ++ in_force_text saved.rendition saved.g0 saved.g1 saved.invoked ++ escape ∷ codes "7"

high_column : (wide : Bool) (column : ℕ) → column ≤ (if wide then 132 else 80) → column ≤ 132
high_column true column within = within
high_column false column within = omega arith

module _ (profile : Profile) (tabs : List Bool) (from : ℕ) where
  narrows : (narrow : Bool)
      → (to : ℕ) × Brings (keeping profile false (empty true from tabs)) (text_where narrow (escape ∷ codes "[?3l")) (keeping profile false (empty (not narrow) to tabs))
  narrows true =
      let s = keeping profile false (empty true from tabs) in
      (1, brings_as s (private_sequences_bring s (3 ∷ []) 108 refl (one_param 3 (lit≤ tt)) refl) (simp digit_texts refl) refl)
  narrows false = (from, nothing_brings _)

  counts : (wide : Bool) (column : ℕ) (origin : Bool)
      → (to : ℕ) × Brings (keeping profile false (empty wide column tabs)) (text_where origin (escape ∷ codes "[?6h")) (keeping profile origin (empty wide to tabs))
  counts wide column true =
      let s = keeping profile false (empty wide column tabs) in
      (1, brings_as s (private_sequences_bring s (6 ∷ []) 104 refl (one_param 6 (lit≤ tt)) refl) (simp digit_texts refl) refl)
  counts wide column false = (column, nothing_brings _)

  module _ (line : ℕ) (low : 1 ≤ line) (high : line ≤ 24) where
    goes_there : (wide : Bool) (from column : ℕ) (origin : Bool) → column ≤ (if wide then 132 else 80)
        → placed line column origin (empty wide from tabs) ≡ at tabs line wide reset.rows column false
    goes_there wide from column true within =
        let fits : column ≤ margin_of wide (row_at reset.rows (min (1 + (line - 1)) 24)).size = omega (arith, empty_margin wide (min (1 + (line - 1)) 24) (omega arith) (omega arith)) in
        ap₂ (λ (l k : ℕ). let p : Picture = record (empty wide k tabs) { line = l } in p) (omega arith) (omega arith)
    goes_there wide from column false within =
        let fits : column ≤ margin_of wide (row_at reset.rows (min line 24)).size = omega (arith, empty_margin wide (min line 24) (omega arith) (omega arith)) in
        ap₂ (λ (l k : ℕ). let p : Picture = record (empty wide k tabs) { line = l } in p) (omega arith) (omega arith)

    -- .. to its place
    placed_there_brings : (narrow : Bool) (column : ℕ) (origin : Bool) → 1 ≤ column → column ≤ (if not narrow then 132 else 80)
        → Brings (keeping profile false (empty true from tabs))
        (text_where narrow (escape ∷ codes "[?3l") ++ text_where origin (escape ∷ codes "[?6h") ++ placed_text line column)
        (keeping profile origin (at tabs line (not narrow) reset.rows column false))
    placed_there_brings narrow column origin left within =
        let one = narrows narrow in
        let two = counts (not narrow) one.0 origin in
        let there = at tabs line (not narrow) reset.rows column false in
        joined (joined one.1 two.1)
        (goes_brings below (keeping profile origin (empty (not narrow) two.0 tabs)) line column origin there refl refl low (omega arith) left (high_column (not narrow) column within)
        (goes_there (not narrow) two.0 column origin within))

    doubles : (wide double : Bool) (column : ℕ) (origin : Bool) → column ≡ margin_of wide (width double)
        → (rows : List Row) × (column ≡ margin_of wide (row_at rows line).size)
        × Brings (keeping profile origin (at tabs line wide reset.rows column false)) (text_where double (escape ∷ codes "#6")) (keeping profile origin (at tabs line wide rows column false))
    doubles wide true column origin is =
        let s = keeping profile origin (at tabs line wide reset.rows column false) in
        let row = resized wide Double (row_at reset.rows line) in
        let rows = with_row line row reset.rows in
        let there : row_at rows line ≡ row = row_put line row reset.rows low high in (
          rows,
          is ∙ sym (ap (λ (r : Row). margin_of wide r.size) there),
          brings_as s (designations_bring s 35 54 refl refl refl refl) refl
              (ap (λ (k : ℕ). keeping profile origin (at tabs line wide rows k false)) (omega arith)),
        )
    doubles wide false column origin is =
        (reset.rows, is ∙ sym (empty_margin wide line low high), nothing_brings _)

    -- a space at the margin
    spaces : (wide : Bool) (rows : List Row) (column : ℕ) (origin : Bool) → column ≡ margin_of wide (row_at rows line).size
        → (after : List Row) × Brings (keeping profile origin (at tabs line wide rows column false)) (codes " ") (keeping profile origin (at tabs line wide after column true))
    spaces wide rows column origin is =
        let s = keeping profile origin (at tabs line wide rows column false) in
        let cell : Cell = record { glyph = 32; rendition = plain } in (
          with_row line (with_cell column cell (row_at rows line)) rows,
          brings_as s (characters_bring s (32 ∷ []) refl) refl
              (sym (ap (λ (p : Picture). keeping profile origin p) (put_there s.picture cell true is))),
        )

    -- what is saved from where the cursor stands
    abbrev Saves : Saved → Bool → List Row → List ℕ → Type 0
    Saves saved wide rows text =
        Brings (keeping profile false (empty true from tabs))
        (text ++ in_force_text saved.rendition saved.g0 saved.g1 saved.invoked ++ escape ∷ codes "7")
        (saving profile (at tabs line wide rows saved.column saved.wrap) saved.origin saved.rendition saved.g0 saved.g1 saved.invoked (Some (record saved { line = line })))

    saves : (saved : Saved) (wide : Bool) (rows : List Row) (text : List ℕ)
        → Brings (keeping profile false (empty true from tabs)) text (keeping profile saved.origin (at tabs line wide rows saved.column saved.wrap))
        → Saves saved wide rows text
    saves saved wide rows text brings =
        let p = at tabs line wide rows saved.column saved.wrap in
        let s0 = keeping profile saved.origin p in
        let s2 = saving profile p saved.origin saved.rendition saved.g0 saved.g1 saved.invoked None in
        joined (joined brings
        (in_force_brings s0 saved.rendition saved.g0 saved.g1 saved.invoked refl))
        (escapes_bring s2 55 refl refl refl refl refl)

    -- what a text leaves
    abbrev Keeps : List ℕ → Saved → Type 0
    Keeps text saved =
        (wide : Bool) × (rows : List Row)
        × Brings (keeping profile false (empty true from tabs)) text
        (saving profile (at tabs line wide rows saved.column saved.wrap) saved.origin saved.rendition saved.g0 saved.g1 saved.invoked (Some (record saved { line = line })))

    -- no wrap is pending
    unwrapped : (saved : Saved) → 1 ≤ saved.column → saved.column ≤ 132
        → Keeps (kept_text (record saved { line = line; wrap = false })) (record saved { wrap = false })
    unwrapped saved left within =
        let kept : Saved = record saved { wrap = false } in
        let there = placed_there_brings false saved.column saved.origin left within in
        let sized = joined there (nothing_brings (keeping profile saved.origin (at tabs line true reset.rows saved.column false))) in
        let spaced = joined sized (nothing_brings (keeping profile saved.origin (at tabs line true reset.rows saved.column false))) in
        (true, reset.rows, saves kept true reset.rows _ spaced)

    wrapped : (narrow double : Bool) (saved : Saved) → 1 ≤ saved.column → saved.column ≤ (if not narrow then 132 else 80)
        → saved.column ≡ margin_of (not narrow) (width double)
        → Keeps (wrapped_text narrow double (record saved { line = line })) (record saved { wrap = true })
    wrapped narrow double saved left within is =
        let kept : Saved = record saved { wrap = true } in
        let wide = not narrow in
        let there = placed_there_brings narrow saved.column saved.origin left within in
        let sized = doubles wide double saved.column saved.origin is in
        let spaced = spaces wide sized.0 saved.column saved.origin sized.1 in
        (wide, spaced.0, saves kept wide spaced.0 _ (joined (joined there sized.2) spaced.1))

-- ---- any save

-- a saved wrap stands at the right margin of some line (ours)
abbrev pub IsSavedWrap : Option Saved → Type 0
IsSavedWrap None = Unit {0}
IsSavedWrap (Some saved) = saved.wrap ≡ true → (wide : Bool) × (size : Size) × (saved.column ≡ margin_of wide size)

module _ (profile : Profile) (tabs : List Bool) (from : ℕ) where
  module _ (saved : Saved) (low : 1 ≤ saved.line) (high : saved.line ≤ 24) where
    abbrev KeepsIt : Saved → Type 0
    KeepsIt kept = Keeps profile tabs from saved.line low high (kept_text kept) kept

    at_margin : (wide : Bool) (size : Size) → saved.column ≡ margin_of wide size → KeepsIt (record saved { wrap = true })
    at_margin true Single is = subst (λ (k : ℕ). KeepsIt (record saved { wrap = true; column = k })) (sym is) (wrapped profile tabs from saved.line low high false false (record saved { column = 132 }) (lit≤ tt) (lit≤ tt) refl)
    at_margin false Single is = subst (λ (k : ℕ). KeepsIt (record saved { wrap = true; column = k })) (sym is) (wrapped profile tabs from saved.line low high true false (record saved { column = 80 }) (lit≤ tt) (lit≤ tt) refl)
    at_margin true _ is = subst (λ (k : ℕ). KeepsIt (record saved { wrap = true; column = k })) (sym is) (wrapped profile tabs from saved.line low high false true (record saved { column = 66 }) (lit≤ tt) (lit≤ tt) refl)
    at_margin false _ is = subst (λ (k : ℕ). KeepsIt (record saved { wrap = true; column = k })) (sym is) (wrapped profile tabs from saved.line low high true true (record saved { column = 40 }) (lit≤ tt) (lit≤ tt) refl)

    by_wrap : (wrap : Bool) → saved.wrap ≡ wrap → 1 ≤ saved.column → saved.column ≤ 132 → IsSavedWrap (Some saved) → KeepsIt (record saved { wrap = wrap })
    by_wrap true is left within wraps = let at_last = wraps is in at_margin at_last.0 at_last.1 at_last.2
    by_wrap false is left within wraps = unwrapped profile tabs from saved.line low high saved left within

  -- the text of what is saved leaves some picture, which has the stops, and what a save takes
  abbrev pub SavedBrings : Option Saved → Type 0
  SavedBrings saved =
      (p : Picture) × (p.tabs ≡ tabs) × (origin : Bool) × (rendition : Attributes) × (g0 : CharacterSet) × (g1 : CharacterSet) × (slot : Slot)
      × Brings (keeping profile false (empty true from tabs)) (saved_text saved) (saving profile p origin rendition g0 g1 slot saved)

  pub saved_brings : (saved : Option Saved) → IsSavedWell saved → IsSavedWrap saved → SavedBrings saved
  saved_brings None well wraps = (empty true from tabs, refl, false, plain, Ascii, Ascii, G0, nothing_brings _)
  saved_brings (Some saved) well wraps =
      let kept = by_wrap saved well.0 well.1 saved.wrap refl well.2 well.3 wraps in
      (at tabs saved.line kept.0 kept.1 saved.column saved.wrap, refl, saved.origin, saved.rendition, saved.g0, saved.g1, saved.invoked, kept.2)
