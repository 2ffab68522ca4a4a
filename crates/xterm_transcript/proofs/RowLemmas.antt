-- The rows of the main sheet, and the text of one.
use Rattle.std.proofs.Common.{◌≡◌, ℕ, ◌+◌, ◌-◌, ◌<◌, ◌≤◌, Bool, true, false, cond, not, ◌||◌, List, [], ◌∷◌, ◌++◌, length, take, drop, get_or, encode_utf8, subst, sym, ap, ◌∙◌, inl, inr, add-one, append-nil, refl, arith}
use Rattle.std.specs.Prelude.{Option, min}
use Rattle.std.specs.List.{flat_map, list_any}
use Rattle.std.proofs.Math.Seq.{take-add}
use Rattle.std.proofs.lemmas.Bool.{cases_Bool, cases_lt, false≢true}
use Rattle.std.proofs.lemmas.Bool.Decides.{nat_tests}
use Rattle.std.proofs.lemmas.Grind.{flat_map-append}
use Rattle.std.proofs.lemmas.List.{get_or-map, length-append, length-map, take-append-drop, take-take, take_all, take_more, take_rest}
use Rattle.std.proofs.lemmas.Str.{len_utf8_bounds, length-encode}
use Rattle.sheet.specs.Cells.{Cell, is_covered}
use Rattle.sheet.specs.Grid.{row_at}
use Rattle.sheet.specs.Table.{nth}
use Rattle.tape_core.specs.declared.devices.Watched.{Watched}
use Rattle.transcripts.specs.Told.{Back, Tells, TellsFront}
use Rattle.transcripts.specs.Transcript.{without_blank_end}
use Rattle.transcripts.proofs.RowLemmas.{end_blank, end_ink}
use Rattle.xterm_rows.specs.RowText.{printed, trimmed}
use Rattle.xterm_rows.proofs.TextLemmas.{printed_covered, printed_open}
use Rattle.xterm_screen.specs.Picture.{Picture, Sound}
use Rattle.xterm_screen.specs.Sheets.{main_rows}
use Rattle.xterm_term.specs.declared.measure.Size.{Size}
use Rattle.xterm_term.specs.Console.{Console}
use Rattle.xterm_term.specs.Seen.{IsTerminal}
use Rattle.xterm_transcript.specs.declared.transcriber.Transcriber.{Transcriber}
use Rattle.xterm_transcript.specs.Playing.{IsPlayed}
use Rattle.xterm_transcript.specs.Rows.{all_rows, first_rows, row_printed}
use Rattle.xterm_transcript.specs.Transcribed.{play_on, reset_of, standing_rows}

-- ---- row by row

either_long : (b : Bool) (rows other : List (List Cell)) (n : ℕ) → length rows ≡ n → length other ≡ n → length (cond b other rows) ≡ n
either_long true rows other n is too = too
either_long false rows other n is too = is

-- there are as many as lines
pub main_long : (p : Picture) → Sound p → length (main_rows p) ≡ p.lines
main_long p sound = either_long p.alternate p.rows p.other p.lines sound.rows sound.other

pub all_long : (p : Picture) → Sound p → length (all_rows p) ≡ p.lines
all_long p sound = length-map (main_rows p) row_printed ∙ main_long p sound

row_here : (rows : List (List Cell)) (line : ℕ) → row_at rows (line + 1) ≡ get_or rows line []
unfolding nth
row_here rows line = ap (row_at rows) (add-one line)

pub row_next : (p : Picture) (line : ℕ) → Sound p → line < p.lines
    → first_rows (line + 1) p ≡ first_rows line p ++ row_printed (row_at (main_rows p) (line + 1)) ∷ []
row_next p line sound lt =
    let long = main_long p sound in
    let all = all_long p sound in
    take_more (all_rows p) line [] (omega (arith, lt, all))
    ∙ ap (λ r. first_rows line p ++ r ∷ [])
    (get_or-map row_printed (main_rows p) line [] [] (omega (arith, lt, long)) ∙ ap row_printed (sym (row_here (main_rows p) line)))

-- one more that is blank, and one with ink
pub blank_next : (p : Picture) (line count : ℕ) → Sound p → line < p.lines → row_printed (row_at (main_rows p) (line + 1)) ≡ []
    → first_rows count p ≡ without_blank_end (first_rows line p) → first_rows count p ≡ without_blank_end (first_rows (line + 1) p)
blank_next p line count sound lt blank is =
    is ∙ sym (ap without_blank_end (row_next p line sound lt ∙ ap (λ r. first_rows line p ++ r ∷ []) blank) ∙ end_blank (first_rows line p))

inked_end : (rows : List (List ℕ)) (text : List ℕ) → 0 < length text → without_blank_end (rows ++ text ∷ []) ≡ rows ++ text ∷ []
inked_end rows [] some = absurd (omega arith)
inked_end rows (byte ∷ text) some = end_ink rows byte text

pub inked_next : (p : Picture) (line : ℕ) → Sound p → line < p.lines → 0 < length (row_printed (row_at (main_rows p) (line + 1)))
    → first_rows (line + 1) p ≡ without_blank_end (first_rows (line + 1) p)
inked_next p line sound lt some =
    let next = row_next p line sound lt in
    next ∙ sym (ap without_blank_end next ∙ inked_end (first_rows line p) (row_printed (row_at (main_rows p) (line + 1))) some)

-- the rows so far are a beginning of more of them
pub front_rows : {W : Type 0} {contents : W → Option (List ℕ)} {a b : Watched W} {x y : Back} (p : Picture) (line count : ℕ) → line ≤ count
    → Tells contents a x b y (first_rows line p) → TellsFront contents a x b y (first_rows count p)
front_rows p line count le told = record {
  front = first_rows line p;
  rest = drop line (first_rows count p);
  cut = sym (take-append-drop line (first_rows count p)) ∙ ap (λ l. l ++ drop line (first_rows count p)) (take-take line count (all_rows p) le);
  tells = told;
}

-- no more than all
pub most_rows : (p : Picture) (count n : ℕ) → Sound p → n ≡ min count p.lines → first_rows n p ≡ first_rows count p
most_rows p count n sound is = elim (cases_lt count p.lines) [
  | inl lt ↦ let same : n ≡ count = grind (arith, nat_tests, is, lt) in ap (λ k. first_rows k p) same
  | inr ge ↦
      let all = all_long p sound in
      let same : n ≡ p.lines = grind (arith, nat_tests, is, ge) in
      take_all n (all_rows p) (omega (arith, all, same)) ∙ sym (take_all count (all_rows p) (omega (arith, all, ge)))
]

-- ---- the text of a row

pub text_of_row : (row : List Cell) (cells : List Cell) → cells ≡ trimmed row → flat_map printed cells ≡ row_printed row
unfolding row_printed
text_of_row row cells is = ap (flat_map printed) is

-- a cell that isn't a right half has a text
pub uncovered_some : (cell : Cell) → is_covered cell ≡ false → 0 < length (printed cell)
uncovered_some cell uncovered =
    let text = printed_open cell (length cell.marks) uncovered (omega arith) in
    let first = length-encode cell.character in
    let some = (len_utf8_bounds cell.character).0 in
    let all = length-append (encode_utf8 cell.character) (flat_map encode_utf8 (take (length cell.marks) cell.marks)) in
    omega (arith, ap length text, first, some, all)

-- so cells have a text where one of them isn't, and else they have none
pub some_text : (cells : List Cell) → list_any (λ cell. not (is_covered cell)) cells ≡ true → 0 < length (flat_map printed cells)
some_text [] is = absurd cc
some_text (cell ∷ cells) is =
    let all = length-append (printed cell) (flat_map printed cells) in
    elim (cases_Bool (is_covered cell)) [
      | inl covered ↦
          let rest = some_text cells (ap (λ b. not b || (list_any (λ (c : Cell). not (is_covered c)) cells)) (sym covered) ∙ is) in
          omega (arith, all, rest)
      | inr uncovered ↦ let some = uncovered_some cell uncovered in omega (arith, all, some)
    ]

pub no_text : (cells : List Cell) → list_any (λ cell. not (is_covered cell)) cells ≡ false → flat_map printed cells ≡ []
no_text [] is = refl
no_text (cell ∷ cells) is = elim (cases_Bool (is_covered cell)) [
  | inl covered ↦
      ap (λ l. l ++ flat_map printed cells) (sym (printed_covered cell covered))
      ∙ no_text cells (ap (λ b. not b || (list_any (λ (c : Cell). not (is_covered c)) cells)) (sym covered) ∙ is)
  | inr uncovered ↦
      absurd (false≢true (sym is ∙ ap (λ b. not b || (list_any (λ (c : Cell). not (is_covered c)) cells)) uncovered))
]

-- the texts of one more
pub texts_more : {X : Type 0} (f : X → List ℕ) (xs : List X) (n : ℕ) (d : X) → n < length xs
    → flat_map f (take (n + 1) xs) ≡ flat_map f (take n xs) ++ f (get_or xs n d)
texts_more f xs n d lt =
    ap (flat_map f) (take_more xs n d lt) ∙ flat_map-append f (take n xs) (get_or xs n d ∷ [])
    ∙ ap (λ t. flat_map f (take n xs) ++ t) (append-nil (f (get_or xs n d)))

-- and of n more
pub texts_on : {X : Type 0} (f : X → List ℕ) (xs : List X) (at n : ℕ)
    → flat_map f (take at xs) ++ flat_map f (take n (take (length xs - at) (drop at xs))) ≡ flat_map f (take (at + n) xs)
texts_on f xs at n =
    ap (λ l. flat_map f (take at xs) ++ flat_map f (take n l)) (take_rest xs at)
    ∙ sym (ap (flat_map f) (take-add at n xs) ∙ flat_map-append f (take at xs) (take n (drop at xs)))

-- ---- the rows that stand

pub standing_is : (size : Size) (before : List ℕ) (now : Transcriber) (p : Picture) (n : ℕ) → IsPlayed now (play_on (reset_of size) before)
    → p ≡ now.terminal.console.picture → Sound p → n ≡ p.lines → first_rows n p ≡ standing_rows size before
unfolding standing_rows
standing_is size before now p n is same sound lines =
    take_all n (all_rows p) (omega (arith, all_long p sound, lines))
    ∙ ap all_rows (same ∙ sym (ap (λ (s : Console). s.picture) is.shows.console))

pub standing_at : (size : Size) (before : List ℕ) (now : Transcriber) (p : Picture) (n : ℕ) → IsPlayed now (play_on (reset_of size) before)
    → p ≡ now.terminal.console.picture → IsTerminal now.terminal → n ≡ p.lines → first_rows n p ≡ standing_rows size before
standing_at size before now p n is same terminal lines =
    standing_is size before now p n is same (subst Sound (sym same) terminal.safe.sound) lines
