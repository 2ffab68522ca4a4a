-- Lines that move between margins, told before they do.
use Rattle.std.proofs.Common.{◌≡◌, ℕ, zero, suc, ◌<◌, ◌≤◌, Bool, true, false, List, [], ◌∷◌, length, take, refl, sym, ap, subst, ◌∙◌, nat_le, nat_eq, arith}
use Rattle.std.specs.Prelude.{Option, if◌then◌else◌}
use Rattle.std.proofs.lemmas.Bool.Decides.{nat_tests}
use Rattle.std.proofs.lemmas.List.{append-nil}
use Rattle.vt_parser.specs.Forms.{bracket, is_whole, meaning, numbers}
use Rattle.vt_parser.specs.Law.{ControlIsGiven}
use Rattle.vt_parser.specs.Step.{command_of, context_of, pending_after}
use Rattle.vt_parser.specs.Syntax.{escape, is_within}
use Rattle.sheet.specs.declared.rendition.Colour.{Colour}
use Rattle.sheet.specs.Cells.{Cell}
use Rattle.sheet.specs.Grid.{blank_row, scrolled_down, scrolled_up}
use Rattle.xterm_screen.specs.Picture.{Picture}
use Rattle.xterm_screen.specs.Scrolls.{lines_deleted, lines_inserted, reverse_indexed}
use Rattle.xterm_term.specs.Ahead.{IsPlace, MovesWithin}
use Rattle.xterm_term.specs.Console.{Console, forgotten}
use Rattle.xterm_term.specs.Controls.{Control, control_effect}
use Rattle.xterm_term.specs.Effect.{effect, reply}
use Rattle.xterm_term.specs.Law.{LawsBelow}
use Rattle.xterm_term.specs.Rows.{effect_of}
use Rattle.xterm_term.specs.Seen.{Seen, Shows}
use Rattle.xterm_term.specs.Term.{Outcome, Term, play, step}
use Rattle.xterm_term.proofs.Ahead.{feed_raises, line_feed_named, line_feed_within}
use Rattle.xterm_term.proofs.Idle.{control_brings}
use Rattle.xterm_term.proofs.Ran.{at_ground}
use Rattle.xterm_term.proofs.Runs.{on_ground, stepped}
use Rattle.xterm_term.proofs.Taken.{begun, behind, read_here}

-- the rows of a picture once lines moved
abbrev pub moved_rows : Bool → ℕ → ℕ → Colour → Picture → List (List Cell)
moved_rows down top bottom paper p =
    if down then scrolled_down 1 top bottom (blank_row p.columns paper) p.rows else scrolled_up 1 top bottom (blank_row p.columns paper) p.rows

-- bytes move these lines of a console with nothing pending
record MovesHere (s : Console) (bytes : List ℕ) (top bottom : ℕ) (down : Bool) : Type 0 where
  before : (reports : List ℕ) (count : ℕ) → count < length bytes → (play (on_ground s reports) (take count bytes)).console.picture ≡ s.picture
  rows : (reports : List ℕ) → (play (on_ground s reports) bytes).console.picture.rows ≡ moved_rows down top bottom s.rendition.paper s.picture

-- so they do where it is shown
moves_shown : LawsBelow → (seen : Seen) (x : Term) (bytes : List ℕ) (line top bottom first : ℕ) (down : Bool) → IsPlace seen line top bottom → Shows seen x
    → 1 ≤ first → first ≤ bottom → MovesHere seen.console bytes first bottom down → MovesWithin x bytes first bottom down
moves_shown laws seen x bytes line top bottom first down place shows low order here =
    subst (λ (y : Term). MovesWithin y bytes first bottom down) (sym (at_ground laws seen x shows place.state place.character))
    (record { low = low; order = order; high = place.high; before = here.before x.reports; rows = here.rows x.reports })

-- ---- a line feed on the bottom margin

nothing_before : (x : Term) (byte count : ℕ) → count < length (byte ∷ []) → (play x (take count (byte ∷ []))).console.picture ≡ x.console.picture
unfolding play
nothing_before x byte zero less = refl
nothing_before x byte (suc count) less = absurd (omega arith)

feed_here : ControlIsGiven → (s : Console) (byte : ℕ) → s.title ≡ false → is_within 10 12 byte ≡ true → s.picture.line ≡ s.picture.bottom
    → MovesHere s (byte ∷ []) s.picture.top s.picture.bottom false
feed_here given s byte title feed at = record {
  before = λ reports count less. nothing_before (on_ground s reports) byte count less;
  rows = λ reports.
      ap (λ (y : Term). y.console.picture.rows) ((control_brings given s byte (line_feed_within byte feed) title).played reports)
      ∙ ap (λ (row : Option Control). (forgotten (effect_of control_effect row s)).picture.rows) (line_feed_named byte feed)
      ∙ feed_raises s.modes.newline s.rendition.paper s.picture at;
}

pub feed_moves : LawsBelow → ControlIsGiven → (seen : Seen) (x : Term) (byte line top bottom : ℕ) → IsPlace seen line top bottom → line ≡ bottom
    → is_within 10 12 byte ≡ true → Shows seen x → MovesWithin x (byte ∷ []) top bottom false
feed_moves laws given seen x byte line top bottom place at feed shows =
    let s : Console = seen.console in
    let here : MovesHere s (byte ∷ []) s.picture.top s.picture.bottom false = feed_here given s byte place.title feed (place.line_is ∙ at ∙ sym place.bottom_is) in
    moves_shown laws seen x (byte ∷ []) line top bottom top false place shows place.low place.order
    (subst (λ (t : ℕ). MovesHere s (byte ∷ []) t bottom false) place.top_is
    (subst (λ (b : ℕ). MovesHere s (byte ∷ []) s.picture.top b false) place.bottom_is here))

-- ---- a reverse index on the top margin

escape_before : (s : Console) (reports : List ℕ) (last count : ℕ) → s.title ≡ false → count < 2
    → (play (on_ground s reports) (take count (escape ∷ last ∷ []))).console.picture ≡ s.picture
unfolding play
escape_before s reports last zero title less = refl
escape_before s reports last (suc zero) title less = ap (λ (y : Term). y.console.picture) (begun s [] reports title).0
escape_before s reports last (suc (suc count)) title less = absurd (omega arith)

reversed : (s : Console) (reports : List ℕ) → s.title ≡ false
    → (step (behind s (escape ∷ []) reports) 77).console.picture ≡ reverse_indexed s.rendition.paper s.picture
unfolding command_of pending_after context_of is_whole meaning effect
reversed s reports title = ap (λ (o : Outcome). o.console.picture) (read_here s (escape ∷ []) 77 title refl)

-- at the top margin a reverse index moves the region down
reverse_lowers : (paper : Colour) (p : Picture) → p.line ≡ p.top → (reverse_indexed paper p).rows ≡ moved_rows true p.top p.bottom paper p
reverse_lowers paper p same = let is : nat_eq p.line p.top ≡ true = grind (arith, nat_tests) in simp is

reverse_here : (s : Console) → s.title ≡ false → s.picture.line ≡ s.picture.top → MovesHere s (escape ∷ 77 ∷ []) s.picture.top s.picture.bottom true
unfolding play
reverse_here s title at = record {
  before = λ reports count less. escape_before s reports 77 count title less;
  rows = λ reports.
      ap (λ (y : Term). (step y 77).console.picture.rows) (begun s [] reports title).0
      ∙ ap (λ (p : Picture). p.rows) (reversed s reports title) ∙ reverse_lowers s.rendition.paper s.picture at;
}

pub reverse_moves : LawsBelow → (seen : Seen) (x : Term) (line top bottom : ℕ) → IsPlace seen line top bottom → line ≡ top → Shows seen x
    → MovesWithin x (escape ∷ 77 ∷ []) top bottom true
reverse_moves laws seen x line top bottom place at shows =
    let s : Console = seen.console in
    let here : MovesHere s (escape ∷ 77 ∷ []) s.picture.top s.picture.bottom true = reverse_here s place.title (place.line_is ∙ at ∙ sym place.top_is) in
    moves_shown laws seen x (escape ∷ 77 ∷ []) line top bottom top true place shows place.low place.order
    (subst (λ (t : ℕ). MovesHere s (escape ∷ 77 ∷ []) t bottom true) place.top_is
    (subst (λ (b : ℕ). MovesHere s (escape ∷ 77 ∷ []) s.picture.top b true) place.bottom_is here))

-- ---- a line that is inserted or deleted

bracket_begun : (s : Console) (reports : List ℕ) → s.title ≡ false → step (behind s (escape ∷ []) reports) bracket ≡ behind s (escape ∷ bracket ∷ []) reports
unfolding command_of pending_after context_of is_whole meaning effect reply
bracket_begun s reports title =
    ap (λ (o : Outcome). stepped reports o) (read_here s (escape ∷ []) bracket title refl) ∙ ap (behind s (escape ∷ bracket ∷ [])) (append-nil reports)

bracket_before : (s : Console) (reports : List ℕ) (last count : ℕ) → s.title ≡ false → count < 3
    → (play (on_ground s reports) (take count (escape ∷ bracket ∷ last ∷ []))).console.picture ≡ s.picture
unfolding play
bracket_before s reports last zero title less = refl
bracket_before s reports last (suc zero) title less = ap (λ (y : Term). y.console.picture) (begun s [] reports title).0
bracket_before s reports last (suc (suc zero)) title less =
    ap (λ (y : Term). (step y bracket).console.picture) (begun s [] reports title).0
    ∙ ap (λ (y : Term). y.console.picture) (bracket_begun s reports title)
bracket_before s reports last (suc (suc (suc count))) title less = absurd (omega arith)

inserted : (s : Console) (reports : List ℕ) → s.title ≡ false
    → (step (behind s (escape ∷ bracket ∷ []) reports) 76).console.picture ≡ lines_inserted 1 s.rendition.paper s.picture
unfolding command_of pending_after context_of is_whole meaning numbers effect
inserted s reports title = ap (λ (o : Outcome). o.console.picture) (read_here s (escape ∷ bracket ∷ []) 76 title refl)

deleted : (s : Console) (reports : List ℕ) → s.title ≡ false
    → (step (behind s (escape ∷ bracket ∷ []) reports) 77).console.picture ≡ lines_deleted 1 s.rendition.paper s.picture
unfolding command_of pending_after context_of is_whole meaning numbers effect
deleted s reports title = ap (λ (o : Outcome). o.console.picture) (read_here s (escape ∷ bracket ∷ []) 77 title refl)

-- the final byte of an insertion, or of a deletion
abbrev final_of : Bool → ℕ
final_of inserts = if inserts then 76 else 77

-- what one does
abbrev edited : Bool → Colour → Picture → Picture
edited inserts paper p = if inserts then lines_inserted 1 paper p else lines_deleted 1 paper p

edit_shown : (inserts : Bool) (s : Console) (reports : List ℕ) → s.title ≡ false
    → (step (behind s (escape ∷ bracket ∷ []) reports) (final_of inserts)).console.picture ≡ edited inserts s.rendition.paper s.picture
edit_shown true s reports title = inserted s reports title
edit_shown false s reports title = deleted s reports title

-- between the margins it moves the lines from the cursor's on
edit_shifts : (inserts : Bool) (paper : Colour) (p : Picture) → p.top ≤ p.line → p.line ≤ p.bottom
    → (edited inserts paper p).rows ≡ moved_rows inserts p.line p.bottom paper p
edit_shifts true paper p below above =
    let low : nat_le p.top p.line ≡ true = grind (arith, nat_tests) in
    let high : nat_le p.line p.bottom ≡ true = grind (arith, nat_tests) in
    simp (low, high)
edit_shifts false paper p below above =
    let low : nat_le p.top p.line ≡ true = grind (arith, nat_tests) in
    let high : nat_le p.line p.bottom ≡ true = grind (arith, nat_tests) in
    simp (low, high)

edit_here : (s : Console) (inserts : Bool) → s.title ≡ false → s.picture.top ≤ s.picture.line → s.picture.line ≤ s.picture.bottom
    → MovesHere s (escape ∷ bracket ∷ final_of inserts ∷ []) s.picture.line s.picture.bottom inserts
unfolding play
edit_here s inserts title below above = record {
  before = λ reports count less. bracket_before s reports (final_of inserts) count title less;
  rows = λ reports.
      ap (λ (y : Term). (step (step y bracket) (final_of inserts)).console.picture.rows) (begun s [] reports title).0
      ∙ ap (λ (y : Term). (step y (final_of inserts)).console.picture.rows) (bracket_begun s reports title)
      ∙ ap (λ (p : Picture). p.rows) (edit_shown inserts s reports title) ∙ edit_shifts inserts s.rendition.paper s.picture below above;
}

pub edit_moves : LawsBelow → (seen : Seen) (x : Term) (inserts : Bool) (line top bottom : ℕ) → IsPlace seen line top bottom → top ≤ line → line ≤ bottom → Shows seen x
    → MovesWithin x (escape ∷ bracket ∷ final_of inserts ∷ []) line bottom inserts
edit_moves laws seen x inserts line top bottom place below above shows =
    let s : Console = seen.console in
    let bytes : List ℕ = escape ∷ bracket ∷ final_of inserts ∷ [] in
    let low = place.low in
    let at = place.line_is in
    let first = place.top_is in
    let last = place.bottom_is in
    let here : MovesHere s bytes s.picture.line s.picture.bottom inserts = edit_here s inserts place.title (omega (arith, below, at, first)) (omega (arith, above, at, last)) in
    moves_shown laws seen x bytes line top bottom line inserts place shows (omega (arith, low, below)) above
    (subst (λ (t : ℕ). MovesHere s bytes t bottom inserts) at
    (subst (λ (b : ℕ). MovesHere s bytes s.picture.line b inserts) last here))
