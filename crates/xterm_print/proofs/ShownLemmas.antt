-- Rows that are kept of a terminal, as it plays on.
use Rattle.std.proofs.Common.{◌≡◌, ℕ, ◌≤◌, List, ◌++◌, length, take, drop, ap, sym, ◌∙◌, subst, arith, append-nil}
use Rattle.std.proofs.lemmas.List.{drop_all, take_all}
use Rattle.sheet.specs.Cells.{Cell}
use Rattle.sheet.specs.Grid.{AreMarked}
use Rattle.xterm_screen.specs.Picture.{Picture, ScreenState, Sound, Tells as ScreenTells}
use Rattle.xterm_term.specs.declared.measure.Size.{Size}
use Rattle.standings.specs.Rows.{Row}
use Rattle.xterm_term.specs.Console.{IsSafe}
use Rattle.xterm_term.specs.Size.{IsSize}
use Rattle.xterm_term.specs.Law.{SizeStays, StaysSafe}
use Rattle.xterm_term.specs.Seen.{IsTerminal, Seen, Shows, Tells}
use Rattle.xterm_term.specs.Term.{play, reset_term}
use Rattle.xterm_print.specs.ChangeLines.{changed_lines, rows_by}
use Rattle.xterm_print.specs.Kept.{AreKept, FollowAll}
use Rattle.xterm_print.specs.FindRows.{rows_read, rows_shown}
use Rattle.xterm_print.specs.Moments.{reset_as}

-- a picture of the terminal that was played these bytes has their rows, and the size
record IsShown (p : Picture) (size : Size) (bytes : List ℕ) : Type 0 where
  rows : p.rows ≡ rows_by size bytes
  lines : p.lines ≡ size.lines
  columns : p.columns ≡ size.columns

shown : SizeStays → (p : Picture) (terminal : Seen) (size : Size) (bytes : List ℕ) → p ≡ terminal.console.picture
    → Shows terminal (play (reset_as size) bytes) → IsShown p size bytes
shown law p terminal size bytes is shows =
    let same : p ≡ (play (reset_as size) bytes).console.picture = is ∙ sym (ap (λ s. s.picture) shows.console) in
    let stays = law (reset_as size) bytes in
    record {
      rows = ap (λ (q : Picture). q.rows) same;
      lines = ap (λ (q : Picture). q.lines) same ∙ stays.lines;
      columns = ap (λ (q : Picture). q.columns) same ∙ stays.columns;
    }

-- its screen is told against what it is told against itself
pub screen_told : (s : ScreenState) (terminal : Seen) (before : List (List Cell)) → s.picture ≡ terminal.console.picture → s.origins ≡ terminal.origins
    → Tells before terminal → ScreenTells before s
screen_told s terminal before is came tells =
    subst (λ (rows : List (List Cell)). AreMarked before s.origins rows) (sym (ap (λ (p : Picture). p.rows) is))
    (subst (λ (origins : List ℕ). AreMarked before origins terminal.console.picture.rows) (sym came) tells)

-- rows that are kept follow those of before, as many as the picture has
followed : (p : Picture) (size : Size) (after before : List ℕ) (kept : List (List Cell)) → IsShown p size after → AreKept size kept before
    → FollowAll p.lines p.columns kept (rows_by size before)
followed p size after before kept here are =
    subst (λ n. FollowAll n p.columns kept (rows_by size before)) (sym here.lines)
    (subst (λ m. FollowAll size.lines m kept (rows_by size before)) (sym here.columns) are)

-- which lines differ from those that were kept
pub lines_told : SizeStays → (p : Picture) (terminal : Seen) (size : Size) (before after : List ℕ) (kept : List (List Cell)) (lines : List ℕ)
    → p ≡ terminal.console.picture → AreKept size kept before → Shows terminal (play (reset_as size) after)
    → (FollowAll p.lines p.columns kept (rows_by size before) → lines ≡ changed_lines p.lines (rows_by size before) p.rows)
    → lines ≡ changed_lines size.lines (rows_by size before) (rows_by size after)
lines_told law p terminal size before after kept lines is are shows told =
    let here = shown law p terminal size after is shows in
    told (followed p size after before kept here are) ∙ ap (λ n. changed_lines n (rows_by size before) p.rows) here.lines
    ∙ ap (changed_lines size.lines (rows_by size before)) here.rows

-- what is kept then
pub kept_on : SizeStays → (p : Picture) (terminal : Seen) (size : Size) (before after : List ℕ) (kept new : List (List Cell))
    → p ≡ terminal.console.picture → AreKept size kept before → Shows terminal (play (reset_as size) after)
    → (FollowAll p.lines p.columns kept (rows_by size before) → FollowAll p.lines p.columns new p.rows) → AreKept size new after
kept_on law p terminal size before after kept new is are shows caught =
    let here = shown law p terminal size after is shows in
    subst (λ rows. FollowAll size.lines size.columns new rows) here.rows
    (subst (λ m. FollowAll size.lines m new p.rows) here.columns
    (subst (λ n. FollowAll n p.columns new p.rows) here.lines (caught (followed p size after before kept here are))))

-- rows that are written back in place of as many
pub written_back : {X : Type 0} (n : ℕ) (new old : List X) → length new ≡ n → length old ≡ n → new ≡ take n (new ++ drop (length new) old)
written_back n new old long before =
    let past : length old ≤ length new = omega (arith, long, before) in
    let all : length new ≤ n = omega (arith, long) in
    sym (ap (λ l. take n (new ++ l)) (drop_all (length new) old past) ∙ ap (take n) (append-nil new) ∙ take_all n new all)

-- the rows in which a text is looked for
pub rows_told : SizeStays → (p : Picture) (terminal : Seen) (size : Size) (bytes : List ℕ) → p ≡ terminal.console.picture
    → Shows terminal (play (reset_as size) bytes) → rows_read p.lines p.rows ≡ rows_shown size bytes
rows_told law p terminal size bytes is shows =
    let here = shown law p terminal size bytes is shows in
    ap (λ n. rows_read n p.rows) here.lines ∙ ap (rows_read size.lines) here.rows

-- the rows of before were as many
pub rows_sized : SizeStays → ((columns lines : ℕ) → IsSize columns lines → IsSafe (reset_term columns lines).console) → StaysSafe
    → (p : Picture) (terminal : Seen) (size : Size) (before after : List ℕ) → p ≡ terminal.console.picture → IsTerminal terminal
    → Shows terminal (play (reset_as size) after) → length (rows_by size before) ≡ p.lines
rows_sized law first stays p terminal size before after is proper shows =
    let here = shown law p terminal size after is shows in
    let sound : Sound p = subst Sound (sym is) proper.safe.sound in
    let sized : IsSize size.columns size.lines = record {
      columns_low = omega (arith, sound.columns_low, here.columns);
      columns_high = omega (arith, sound.columns_high, here.columns);
      lines_low = omega (arith, sound.lines_low, here.lines);
      lines_high = omega (arith, sound.lines_high, here.lines);
    } in
    (stays (reset_as size) before (first size.columns size.lines sized)).sound.rows ∙ (law (reset_as size) before).lines ∙ sym here.lines

-- rows that were caught up with are those of now
pub caught_rows : SizeStays → (p : Picture) (terminal : Seen) (size : Size) (before after : List ℕ) → p ≡ terminal.console.picture
    → Shows terminal (play (reset_as size) after) → (old new : List Row) → old ≡ rows_shown size before
    → (old ≡ rows_read p.lines (rows_by size before) → new ≡ rows_read p.lines p.rows) → new ≡ rows_shown size after
caught_rows law p terminal size before after is shows old new was caught =
    let here = shown law p terminal size after is shows in
    caught (was ∙ ap (λ n. rows_read n (rows_by size before)) (sym here.lines)) ∙ rows_told law p terminal size after is shows
