-- How much of a chunk is played before a text is looked for again, and what its rows are then.
use Rattle.std.proofs.Common.{◌≡◌, ℕ, zero, suc, ◌+◌, ◌-◌, ◌<◌, ◌≤◌, List, [], ◌++◌, drop, get_or, length, take, refl, ap, ap₂, subst, sym, ◌∙◌, arith, inl, inr}
use Rattle.std.proofs.lemmas.List.{append-nil, get_or-drop, get_or-take, take-take}
use Rattle.sheet.specs.declared.rendition.Colour.TheVariants.{Default}
use Rattle.sheet.specs.Cells.{Cell, blank}
use Rattle.sheet.specs.Grid.{row_at}
use Rattle.standings.specs.Kept.{Keeps}
use Rattle.standings.specs.Rows.{row_below}
use Rattle.standings.specs.Standing.{standing}
use Rattle.standings.specs.Written.{rows_written}
use Rattle.standings.proofs.KeptLemmas.{keeps_same}
use Rattle.text_find.specs.declared.foretold.Foretold.{Foretold}
use Rattle.text_find.specs.declared.foretold.Foretold.TheVariants.{MovesUp, MovesWithin, Types, Writes}
use Rattle.text_find.specs.declared.foretold.Written.{Written}
use Rattle.text_find.specs.Foretold.{HasRoom, IsForetold, KeepsIn, foretold_rows, taken_by}
use Rattle.text_find.specs.Pieces.{AreQuiet}
use Rattle.xterm_screen.specs.Picture.{Picture, Sound}
use Rattle.xterm_term.specs.Law.{PlaysInParts, SizeStays}
use Rattle.xterm_term.specs.Term.{Term, play}
use Rattle.xterm_term.specs.declared.measure.Size.{Size}
use Rattle.xterm_rows.specs.Runs.{cell_behind}
use Rattle.xterm_print.specs.FindRows.{row_read, rows_read, rows_shown}
use Rattle.xterm_print.specs.Moments.{reset_as}
use Rattle.xterm_print.specs.Pieces.{IsQuiet, NoneBetween, StaysOn, WritesOver, left_of_cursor, rows_after, rows_behind}
use Rattle.xterm_print.proofs.FindRowLemmas.{count_read, read_at}
use Rattle.xterm_print.proofs.RunLemmas.{cursor_row}
use Rattle.xterm_term.proofs.Taken.{nothing_played}

-- the cursor's row, as it is read
pub row_behind : (x : Term) → Sound x.console.picture
    → row_below (rows_behind x [] 0) (x.console.picture.line - 1) ≡ row_read (cursor_row x) (row_at x.console.picture.rows (x.console.picture.line + 1))
row_behind x sound =
    let p = x.console.picture in
    ap (λ (y : Term). row_below (rows_read p.lines y.console.picture.rows) (p.line - 1)) (nothing_played x [] 0 refl)
    ∙ read_at p.lines p.rows p.line sound.line_low sound.line_high

-- it is one of those that are read
pub line_behind : (x : Term) → Sound x.console.picture → x.console.picture.line - 1 < length (rows_behind x [] 0)
line_behind x sound =
    omega (arith, count_read x.console.picture.lines (play x []).console.picture.rows, sound.line_low, sound.line_high)

-- a cell of those that are looked at
pub cell_within : (row : List Cell) (before m k : ℕ) → k < m → cell_behind (take m (drop before row)) k ≡ get_or row (before + k) (blank Default)
cell_within row before m k lt = get_or-take m (drop before row) k (blank Default) lt ∙ get_or-drop before row k (blank Default)

-- one byte, and bytes that show nothing but maybe the last
pub none_before_one : (x : Term) (text bytes : List ℕ) → NoneBetween text x bytes 1
none_before_one x text bytes none none' zero lt = none
none_before_one x text bytes none none' (suc k) lt = absurd (omega (arith, lt))

pub one_quiet : (x : Term) (text bytes : List ℕ) → IsQuiet text x bytes 1
one_quiet x text bytes = record { inside = λ count lt. absurd (omega (arith, lt)); last = inl refl }

pub unshown_between : (x : Term) (text bytes : List ℕ) (unshown n : ℕ) → n ≤ unshown + 1
    → ((count : ℕ) → count ≤ unshown → (play x (take count bytes)).console.picture ≡ x.console.picture) → NoneBetween text x bytes n
unshown_between x text bytes unshown n few same none none' k lt =
    let rows = λ (q : Picture). rows_read x.console.picture.lines q.rows in
    ap (λ (q : Picture). standing text (rows q)) (same k (omega (arith, lt, few)) ∙ sym (same 0 (omega arith))) ∙ none

pub unshown_quiet : (x : Term) (text bytes : List ℕ) (unshown n : ℕ) → n ≤ unshown + 1
    → ((count : ℕ) → count ≤ unshown → (play x (take count bytes)).console.picture ≡ x.console.picture) → IsQuiet text x bytes n
unshown_quiet x text bytes unshown n few same =
    let rows = λ (q : Picture). rows_read x.console.picture.lines q.rows in
    let start = λ (k : ℕ) (le : k ≤ unshown). ap rows (same k le ∙ sym (same 0 (omega arith))) in
    record {
      inside = λ count lt. keeps_same text (rows_behind x bytes count) (rows_behind x bytes (count + 1))
          (start count (omega (arith, lt, few)) ∙ sym (start (count + 1) (omega (arith, lt, few))));
      last = inl (start (n - 1) (omega (arith, few)));
    }

-- what is foretold of a run, by the rows of the term
pub run_foretold : (x : Term) (text bytes letters : List ℕ) (written : Written) → written.above ≡ x.console.picture.line - 1 → written.before ≡ length (left_of_cursor x)
    → Sound x.console.picture → WritesOver x bytes letters written.taken → StaysOn text x bytes written.taken
    → IsForetold text (rows_after x) [] bytes (Writes written) letters
run_foretold x text bytes letters written above before sound over stays =
    let rows = rows_behind x [] 0 in
    record {
      rows = over.rows ∙ ap₂ (λ a b. rows_written a b letters rows) (sym above) (sym before);
      room = (
        subst (λ n. n < length rows) (sym above) (line_behind x sound),
        subst (λ n. n + length letters ≤ length (row_below rows written.above).characters) (sym before)
            (subst (λ n. length (left_of_cursor x) + length letters ≤ length (row_below rows n).characters) (sym above) over.room),
      );
      keeps = stays;
    }

-- and of the first letter
pub letter_foretold : (x : Term) (text bytes letters : List ℕ) (taken : ℕ) (written : Written) → written.above ≡ x.console.picture.line - 1 → written.before ≡ length (left_of_cursor x)
    → Sound x.console.picture → taken ≡ 1 → WritesOver x (take 1 bytes) letters taken → IsForetold text (rows_after x) [] bytes (Types written) letters
letter_foretold x text bytes letters taken written above before sound one over =
    let rows = rows_behind x [] 0 in
    record {
      rows = ap (rows_after x) (sym (take-take 1 1 bytes (omega arith)) ∙ ap (λ n. take n (take 1 bytes)) (sym one))
          ∙ over.rows ∙ ap₂ (λ a b. rows_written a b letters rows) (sym above) (sym before);
      room = (
        subst (λ n. n < length rows) (sym above) (line_behind x sound),
        subst (λ n. n + length letters ≤ length (row_below rows written.above).characters) (sym before)
            (subst (λ n. length (left_of_cursor x) + length letters ≤ length (row_below rows n).characters) (sym above) over.room),
      );
      keeps = tt;
    }

-- ---- the rows that a finder tells of

pub after_is : SizeStays → PlaysInParts → (size : Size) (before played : List ℕ)
    → rows_shown size (before ++ played) ≡ rows_after (play (reset_as size) before) played
after_is size_law parts size before played =
    ap (λ (y : Term). rows_read size.lines y.console.picture.rows) (parts (reset_as size) before played)
    ∙ ap (λ n. rows_read n (play (play (reset_as size) before) played).console.picture.rows) (sym (size_law (reset_as size) before).lines)

pub none_told : SizeStays → PlaysInParts → (size : Size) (text before bytes : List ℕ) (taken : ℕ) → NoneBetween text (play (reset_as size) before) bytes taken
    → standing text (rows_shown size before) ≡ [] → standing text (rows_shown size (before ++ take taken bytes)) ≡ []
    → (count : ℕ) → count < taken → standing text (rows_shown size (before ++ take count bytes)) ≡ []
none_told size_law parts size text before bytes taken between none none' count lt =
    let at = λ (k : ℕ). after_is size_law parts size before (take k bytes) in
    ap (standing text) (at count)
    ∙ between (ap (standing text) (sym (at 0) ∙ ap (rows_shown size) (append-nil before)) ∙ none) (ap (standing text) (sym (at taken)) ∙ none') count lt

-- those before any byte
pub start_is : SizeStays → PlaysInParts → (size : Size) (before : List ℕ) → rows_shown size before ≡ rows_behind (play (reset_as size) before) [] 0
start_is size_law parts size before = ap (rows_shown size) (sym (append-nil before)) ∙ after_is size_law parts size before []

module _ (size_law : SizeStays) (parts : PlaysInParts) (size : Size) (text before bytes : List ℕ) where
  abbrev begun : Term
  begun = play (reset_as size) before

  keeps_told : (one other : ℕ) → Keeps text (rows_behind begun bytes one) (rows_behind begun bytes other)
      → Keeps text (rows_shown size (before ++ take one bytes)) (rows_shown size (before ++ take other bytes))
  keeps_told one other keeps =
      let at = λ (k : ℕ). after_is size_law parts size before (take k bytes) in
      subst (λ r. Keeps text r (rows_shown size (before ++ take other bytes))) (sym (at one)) (subst (Keeps text (rows_behind begun bytes one)) (sym (at other)) keeps)

  pub quiet_told : (taken : ℕ) → IsQuiet text begun bytes taken → AreQuiet text (rows_shown size) before bytes taken
  quiet_told taken quiet =
      let at = λ (k : ℕ). after_is size_law parts size before (take k bytes) in
      record {
        inside = λ count lt. keeps_told count (count + 1) (quiet.inside count lt);
        last = elim quiet.last [
          | inl same ↦ inl (at (taken - 1) ∙ same ∙ sym (at 0))
          | inr keeps ↦ inr (keeps_told (taken - 1) taken keeps)
        ];
      }

  keep_told : (foretold : Foretold) → KeepsIn text (rows_after begun) [] bytes foretold → KeepsIn text (rows_shown size) before bytes foretold
  keep_told (MovesUp columns) keeps = keeps
  keep_told (MovesWithin region) keeps = λ count lt.
      let at = λ (k : ℕ). after_is size_law parts size before (take k bytes) in
      at count ∙ keeps count lt ∙ sym (at 0)
  keep_told (Writes written) keeps = λ count lt. keeps_told count (count + 1) (keeps count lt)
  keep_told (Types written) keeps = keeps

  pub foretold_told : (foretold : Foretold) (letters : List ℕ) → IsForetold text (rows_after begun) [] bytes foretold letters
      → IsForetold text (rows_shown size) before bytes foretold letters
  foretold_told foretold letters is =
      let start = start_is size_law parts size before in
      record {
        rows = after_is size_law parts size before (take (taken_by foretold) bytes) ∙ is.rows ∙ ap (foretold_rows foretold letters) (sym start);
        room = subst (HasRoom foretold letters) (sym start) is.room;
        keeps = keep_told foretold is.keeps;
      }
