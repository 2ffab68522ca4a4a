-- Where a screen lacks a part of a text, the text stands nowhere.
use Rattle.std.proofs.Common.{◌≡◌, ◌≢◌, ℕ, zero, suc, ◌+◌, ◌-◌, ◌<◌, ◌≤◌, Bool, true, false, ◌==◌, List, [], ◌∷◌, ◌++◌, length, get_or, drop, map, take, nat_eq, refl, ap, sym, ◌∙◌, subst, arith, inl, inr, cond, IfSome, None, Option, Some}
use Rattle.std.specs.Cmp.Lexicographic.{pointwise}
use Rattle.std.specs.List.{AllByRecursion, flat_map, range_with_len, starts_with}
use Rattle.std.proofs.lemmas.Bool.{and_parts, cases_Bool, cases_lt, both_ways, false_from_ne_true}
use Rattle.std.proofs.lemmas.Bool.Decides.{Decides-eqb}
use Rattle.std.proofs.lemmas.Slice.Eq.{slice_eq-Decides}
use Rattle.std.proofs.lemmas.List.{drop-append-le, drop-drop, length-drop, length-map, length-take, take-append-le, take_all}
use Rattle.vt_parser.specs.declared.commands.Mode.{Mode}
use Rattle.vt_parser.specs.declared.commands.Mode.TheVariants.{Ansi, Vt52 as Vt52Mode}
use Rattle.vt_parser.specs.declared.states.ParserState.{ParserState}
use Rattle.vt_parser.specs.declared.states.ParserState.TheVariants.{EscapeOne}
use Rattle.vt_parser.specs.View.{parser_view}
use Rattle.vt_parser.specs.Syntax.{is_graphic}
use Rattle.vt_parser.specs.declared.commands.Command.TheVariants.{Control}
use Rattle.std.proofs.Math.Seq.{take-add}
use Rattle.vt_term.specs.Console.{Console}
use Rattle.vt_term.specs.Effect.{effect, glyph_for, glyphs_shown}
use Rattle.vt_term.specs.Law.{PlaysInParts}
use Rattle.vt_term.specs.Printing.{Brings, CharactersBring, ControlsBring, NothingBrings, PartsBring, on_ground}
use Rattle.vt_screen.specs.declared.cell.Row.{Row}
use Rattle.vt_screen.specs.declared.cell.Size.{Size}
use Rattle.vt_screen.specs.Picture.{margin_of}
use Rattle.screen_rows.specs.Glyphs.{character}
use Rattle.vt_screen.specs.Cells.{blank_row, is_single, row_at}
use Rattle.vt_screen.specs.Table.{nth}
use Rattle.vt_term.specs.Term.{Term, play, sent}
use Rattle.chunk_walk.proofs.TextLemmas.{none_in}
use Rattle.screen_print.specs.declared.standing.Place.{Place}
use Rattle.screen_print.specs.EachByte.{byte_lines, chunk_lines, passed_lines, still_within}
use Rattle.screen_print.specs.FindLines.{begins, ends_line, less_lines, line_text_from, places_from, standing}
use Rattle.screen_print.specs.Skim.{IsKey, IsPart, LacksUpTo, Misses, NowhereIn, NowhereUpTo, ScreenLacks, half, is_text}
use Rattle.screen_print.specs.Stills.{Still, still_of}
use Rattle.screen_rows.specs.RowText.{row_text}
use Rattle.screen_print.proofs.QuietLemmas.{itself, window}

-- ---- lines

none_begins : (key rest : List ℕ) → 1 ≤ length key → rest ≡ [] → starts_with nat_eq rest key ≡ false
none_begins [] rest some e = absurd (omega arith)
none_begins (c ∷ key) rest some e = rw e refl

drop_past : (n : ℕ) (xs ys : List ℕ) → length xs ≤ n → drop n (xs ++ ys) ≡ drop (n - length xs) ys
drop_past n [] ys past = ap (λ m. drop m ys) (omega arith)
drop_past zero (x ∷ xs) ys past = absurd (omega arith)
drop_past (suc n) (x ∷ xs) ys past = drop_past n xs ys (omega arith) ∙ ap (λ m. drop m ys) (omega arith)

drop_none : (n : ℕ) (xs : List ℕ) → xs ≡ [] → drop n xs ≡ []
drop_none zero xs e = e
drop_none (suc n) [] e = refl
drop_none (suc n) (x ∷ xs) e = cc

-- what stands behind a front stands at the start of the rest
rest_starts : (w xs ys : List ℕ) → pointwise nat_eq w (take (length w) (xs ++ ys)) ≡ true → length xs ≤ length w → starts_with nat_eq ys (drop (length xs) w) ≡ true
rest_starts w [] ys h few = h
rest_starts [] (x ∷ xs) ys h few = absurd (omega arith)
rest_starts (c ∷ w) (x ∷ xs) ys h few =
    rest_starts w xs ys (and_parts (nat_eq c x) (pointwise nat_eq w (take (length w) (xs ++ ys))) h).1 (omega arith)

-- a row that misses a key, and is no shorter than it
abbrev pub Lone : List ℕ → List ℕ → Type 0
Lone key row = Misses key row × (40 ≤ length row)

-- what is behind less than half of a key starts no line
no_rest : (key : List ℕ) (rows : List (List ℕ)) (n : ℕ) → length key ≤ 40 → 1 ≤ n → n < half key → AllByRecursion (Lone key) rows → starts_with nat_eq (line_text_from rows) (drop n key) ≡ false
unfolding line_text_from
no_rest key [] n short low high none = none_begins (drop n key) [] (omega (arith, high, length-drop n key)) refl
no_rest key (row ∷ rows) n short low high none =
    let rest = cond (ends_line row) [] (line_text_from rows) in
    ap (pointwise nat_eq (drop n key)) (take-append-le (length (drop n key)) row rest (omega (arith, length-drop n key, none.0.1, short)))
    ∙ none.0.0.start n low high

-- where a key stands in no row nor two, it stands nowhere in a line of them
no_key : (key : List ℕ) (rows : List (List ℕ)) (n : ℕ) → 1 ≤ length key → length key ≤ 40 → AllByRecursion (Lone key) rows → starts_with nat_eq (drop n (line_text_from rows)) key ≡ false
unfolding line_text_from
no_key key [] n some short none = none_begins key (drop n []) some (drop_none n [] refl)
no_key key (row ∷ rows) n some short none =
    let rest = cond (ends_line row) [] (line_text_from rows) in
    elim (cases_lt (length row) (n + half key)) [
      | inr fits ↦
          let at : n + 1 - 1 ≡ n = omega arith in
          ap (λ m. starts_with nat_eq (drop m (row ++ rest)) key) (sym at) ∙ none.0.0.inside rest (n + 1) (omega arith) (omega (arith, fits, at))
      | inl near ↦ elim (cases_lt n (length row)) [
        | inl lt ↦
            let front = drop n row in
            let j : length front ≡ length row - n = length-drop n row in
            false_from_ne_true (starts_with nat_eq (drop n (row ++ rest)) key)
            (λ t.
            let joined = sym (ap (λ l. starts_with nat_eq l key) (drop-append-le n row rest (omega arith))) ∙ t in
            let behind = rest_starts key front rest joined (omega (arith, j, near)) in
            both_ways (starts_with nat_eq rest (drop (length front) key)) (rest_none (length front) (omega (arith, j)) (omega (arith, j, near))) behind)
        | inr past ↦
            ap (λ l. starts_with nat_eq l key) (drop_past n row rest past)
            ∙ elim (cases_Bool (ends_line row)) [
              | inl t ↦ rw t (none_begins key (drop (n - length row) []) some (drop_none (n - length row) [] refl))
              | inr f ↦ rw f (no_key key rows (n - length row) some short none.1)
            ]
      ]
    ]
  where
    rest_none : (n : ℕ) → 1 ≤ n → n < half key → starts_with nat_eq (cond (ends_line row) [] (line_text_from rows)) (drop n key) ≡ false
    rest_none n low high = elim (cases_Bool (ends_line row)) [
      | inl t ↦ rw t (none_begins (drop n key) [] (omega (arith, high, length-drop n key)) refl)
      | inr f ↦ rw f (no_rest key rows n short low high none.1)
    ]

-- a text that begins in a line has its parts there
part_begins : (key text line : List ℕ) (column : ℕ) → (part : IsPart key text) → begins text line column ≡ true → starts_with nat_eq (drop (column - 1 + part.0) line) key ≡ true
part_begins key text line column part h =
    let rest = drop (column - 1) line in
    let decided = slice_eq-Decides Decides-eqb text (take (length text) rest) (starts_with nat_eq rest text) refl in
    let whole : take (length text) rest ≡ take (length text) text = sym (decided.0 h) ∙ sym (take_all (length text) text (omega arith)) in
    let here : take (length key) (drop part.0 rest) ≡ key = window rest text part.0 (length key) (length text) part.1 whole ∙ part.2 in
    let there : drop part.0 rest ≡ drop (column - 1 + part.0) line = drop-drop part.0 (column - 1) line in
    ap (λ l. pointwise nat_eq key (take (length key) l)) (sym there) ∙ ap (pointwise nat_eq key) here ∙ itself key

no_text : (key text : List ℕ) (rows : List (List ℕ)) (column : ℕ) → 1 ≤ length key → length key ≤ 40 → IsPart key text → AllByRecursion (Lone key) rows
    → begins text (line_text_from rows) column ≡ false
no_text key text rows column some short part none =
    false_from_ne_true (begins text (line_text_from rows) column)
    (λ t. both_ways (starts_with nat_eq (drop (column - 1 + part.0) (line_text_from rows)) key) (no_key key rows (column - 1 + part.0) some short none)
    (part_begins key text (line_text_from rows) column part t))

no_places : (key text : List ℕ) (line : ℕ) (rows : List (List ℕ)) → 1 ≤ length key → length key ≤ 40 → IsPart key text → AllByRecursion (Lone key) rows → places_from text line rows ≡ []
unfolding places_from
no_places key text line [] some short part none = refl
no_places key text line (row ∷ rows) some short part none =
    rw (none_in (begins text (line_text_from (row ∷ rows))) 1 (length row) (λ column low high. no_text key text (row ∷ rows) column some short part none))
    (no_places key text (line + 1) rows some short part none.1)

-- ---- screens

rows_miss : (key : List ℕ) (wide : Bool) (rows : List Row) → ((k : ℕ) → k < length rows → Lone key (row_text wide (get_or rows k blank_row)))
    → AllByRecursion (Lone key) (map (row_text wide) rows)
rows_miss key wide [] each = tt
rows_miss key wide (row ∷ rows) each = (each zero (omega arith), rows_miss key wide rows (λ k lt. each (suc k) (omega arith)))

row_next : (rows : List Row) (k : ℕ) → row_at rows (k + 1) ≡ get_or rows k blank_row
unfolding nth
row_next rows k = ap (λ (i : ℕ). get_or rows i blank_row) (omega arith)

-- no row is shorter than 40 columns
margin_low : (wide : Bool) (size : Size) → 40 ≤ margin_of wide size
margin_low wide size = elim (cases_Bool (is_single size)) [
  | inl t ↦ elim (cases_Bool wide) [
    | inl w ↦ rw (t, w) (omega arith)
    | inr w ↦ rw (t, w) (omega arith)
  ]
  | inr f ↦ elim (cases_Bool wide) [
    | inl w ↦ rw (f, w) (omega arith)
    | inr w ↦ rw (f, w) (omega arith)
  ]
]

row_long : (wide : Bool) (row : Row) → length row.cells ≡ 132 → 40 ≤ length (row_text wide row)
row_long wide row whole =
    omega (arith, length-map (take (margin_of wide row.size) row.cells) (λ cell. character cell.glyph), length-take (margin_of wide row.size) row.cells, margin_low wide row.size)

pub lacks_nowhere : (key text : List ℕ) (x : Term) → IsKey key → IsPart key text → ScreenLacks key x.console.picture → standing text (still_of x.console) ≡ []
lacks_nowhere key text x good part lacks =
    let p = x.console.picture in
    no_places key text 1 (map (row_text p.wide) p.rows) good.some good.short part
    (rows_miss key p.wide p.rows (λ k lt. subst (λ (row : Row). Lone key (row_text p.wide row)) (row_next p.rows k)
    ((lacks.row (k + 1)).misses, row_long p.wide (row_at p.rows (k + 1)) (lacks.row (k + 1)).whole)))

pub lacks_all_nowhere : (key text : List ℕ) (x : Term) (bytes : List ℕ) → IsKey key → IsPart key text → LacksUpTo key x bytes (length bytes) → NowhereIn text x bytes
lacks_all_nowhere key text x bytes good part lacks count = elim (cases_lt count (length bytes)) [
  | inl lt ↦ lacks_nowhere key text (play x (take count bytes)) good part (lacks count (omega arith))
  | inr past ↦
      let all : take count bytes ≡ take (length bytes) bytes = take_all count bytes past ∙ sym (take_all (length bytes) bytes (omega arith)) in
      subst (λ b. standing text (still_of (play x b).console) ≡ []) (sym all) (lacks_nowhere key text (play x (take (length bytes) bytes)) good part (lacks (length bytes) (omega arith)))
]

-- ---- bytes that are taken a few at a time

pub play_on : PlaysInParts → (x : Term) (bytes : List ℕ) (at n : ℕ) → play x (take (at + n) bytes) ≡ play (play x (take at bytes)) (take n (drop at bytes))
play_on plays x bytes at n = ap (play x) (take-add at n bytes) ∙ plays x (take at bytes) (take n (drop at bytes))

pub lacks_on : PlaysInParts → (key : List ℕ) (x : Term) (bytes : List ℕ) (at n : ℕ) → LacksUpTo key x bytes at → LacksUpTo key (play x (take at bytes)) (drop at bytes) n → LacksUpTo key x bytes (at + n)
lacks_on plays key x bytes at n before more count high = elim (cases_lt at count) [
  | inl past ↦
      let j = count - at in
      let is : at + j ≡ count = omega arith in
      subst (λ (m : ℕ). ScreenLacks key (play x (take m bytes)).console.picture) is
      (subst (λ (y : Term). ScreenLacks key y.console.picture) (sym (play_on plays x bytes at j)) (more j (omega arith)))
  | inr within ↦ before count within
]

-- a text stands nowhere while a key is lacked, up to bytes after which it stands nowhere
pub nowhere_on : PlaysInParts → (key text : List ℕ) (x : Term) (bytes : List ℕ) (at n : ℕ) → IsKey key → IsPart key text → NowhereUpTo text x bytes at
    → LacksUpTo key (play x (take at bytes)) (drop at bytes) (n - 1) → standing text (still_within x bytes (at + n)) ≡ [] → NowhereUpTo text x bytes (at + n)
nowhere_on plays key text x bytes at n good part before more last count high = elim (cases_lt at count) [
  | inl past ↦ elim (cases_lt count (at + n)) [
    | inl lt ↦
        let j = count - at in
        let is : at + j ≡ count = omega arith in
        subst (λ (m : ℕ). standing text (still_within x bytes m) ≡ []) is
        (subst (λ (y : Term). standing text (still_of y.console) ≡ []) (sym (play_on plays x bytes at j))
        (lacks_nowhere key text (play (play x (take at bytes)) (take j (drop at bytes))) good part (more j (omega arith))))
    | inr all ↦
        let is : at + n ≡ count = omega arith in
        subst (λ (m : ℕ). standing text (still_within x bytes m) ≡ []) is last
  ]
  | inr within ↦ before count within
]

pub nowhere_start : (key text : List ℕ) (x : Term) (bytes : List ℕ) → IsKey key → IsPart key text → ScreenLacks key x.console.picture → NowhereUpTo text x bytes 0
unfolding play
nowhere_start key text x bytes good part lacks zero high = lacks_nowhere key text x good part lacks
nowhere_start key text x bytes good part lacks (suc count) high = absurd (omega arith)

-- what holds of what there is
pub if_some : {X : Type 0} (P Q : X → Type 0) (found : Option X) → IfSome found P → ((x : X) → P x → Q x) → IfSome found Q
if_some P Q None h f = tt
if_some P Q (Some x) h f = f x h

pub nowhere_all : (text : List ℕ) (x : Term) (bytes : List ℕ) (n : ℕ) → length bytes ≤ n → NowhereUpTo text x bytes n → NowhereIn text x bytes
nowhere_all text x bytes n high none count = elim (cases_lt n count) [
  | inl past ↦
      let all : take count bytes ≡ take n bytes = take_all count bytes (omega arith) ∙ sym (take_all n bytes high) in
      subst (λ b. standing text (still_of (play x b).console) ≡ []) (sym all) (none n (omega arith))
  | inr within ↦ none count within
]

pub lacks_start : (key : List ℕ) (x : Term) (bytes : List ℕ) → ScreenLacks key x.console.picture → LacksUpTo key x bytes 0
unfolding play
lacks_start key x bytes lacks zero high = lacks
lacks_start key x bytes lacks (suc count) high = absurd (omega arith)

pub lacks_one : (key : List ℕ) (x : Term) (bytes : List ℕ) → ScreenLacks key x.console.picture → ScreenLacks key (play x (take 1 bytes)).console.picture → LacksUpTo key x bytes 1
unfolding play
lacks_one key x bytes lacks after zero high = lacks
lacks_one key x bytes lacks after (suc zero) high = after
lacks_one key x bytes lacks after (suc (suc count)) high = absurd (omega arith)

pub take_one : (bytes : List ℕ) (d : ℕ) → 0 < length bytes → take 1 bytes ≡ get_or bytes 0 d ∷ []
take_one [] d some = absurd (omega arith)
take_one (byte ∷ bytes) d some = refl

-- ---- text on ground

one_brings : CharactersBring → ControlsBring → (s : Console) (byte : ℕ) → is_text byte ≡ true → (t : Console) × Brings s (byte ∷ []) t
one_brings characters controls s byte is = elim (cases_Bool (is_graphic byte)) [
  | inl g ↦ (glyphs_shown (glyph_for s byte ∷ []) s, characters s (byte ∷ []) (rw g refl))
  | inr f ↦ (effect (Control byte) s, controls s byte (rw f at is))
]

text_brings : NothingBrings → PartsBring → CharactersBring → ControlsBring → (s : Console) (bytes : List ℕ) → AllByRecursion (λ byte. is_text byte ≡ true) bytes → (t : Console) × Brings s bytes t
text_brings nothing parts characters controls s [] all = (s, nothing s)
text_brings nothing parts characters controls s (byte ∷ bytes) all =
    let first = one_brings characters controls s byte all.0 in
    let rest = text_brings nothing parts characters controls first.0 bytes all.1 in
    (rest.0, parts s first.0 rest.0 (byte ∷ []) bytes first.1 rest.1)

pub text_sends : NothingBrings → PartsBring → CharactersBring → ControlsBring → (x : Term) (bytes : List ℕ) → x.pending ≡ [] → AllByRecursion (λ byte. is_text byte ≡ true) bytes → sent x bytes ≡ []
text_sends nothing parts characters controls x bytes ground all =
    let with_pending : List ℕ → Term = λ pending. record { console = x.console; pending = pending; reports = x.reports } in
    let is : x ≡ on_ground x.console x.reports = ap with_pending ground in
    subst (λ (y : Term). sent y bytes ≡ []) (sym is) ((text_brings nothing parts characters controls x.console bytes all).1.silent x.reports)

-- ---- lines that are written

none_passed : (index due len : ℕ) (first last : Still) (firsts lasts : List Place) (one other : Still) (places others : List Place)
    → places ≡ [] → passed_lines index due len first firsts last lasts one places other others ≡ []
none_passed index due len first last firsts lasts one other places others e = rw e refl

none_less : (sign index due len : ℕ) (one other : Still) (places others : List Place) → places ≡ [] → less_lines sign index due len one places other others ≡ []
none_less sign index due len one other places others e = rw e refl

nothing_each : (f : ℕ → List ℕ) (a n : ℕ) → ((i : ℕ) → f i ≡ []) → flat_map f (range_with_len a n) ≡ []
nothing_each f a zero h = refl
nothing_each f a (suc n) h = rw (h a) (nothing_each f (a + 1) n h)

-- nothing is written of a chunk in which the text stands nowhere
pub nowhere_lines : (text : List ℕ) (index due : ℕ) (x : Term) (bytes : List ℕ) → NowhereIn text x bytes → chunk_lines text index due x bytes ≡ []
nowhere_lines text index due x bytes none =
    let first = still_within x bytes 0 in
    let last = still_within x bytes (length bytes) in
    let firsts = standing text first in
    let lasts = standing text last in
    rw (
      none_less 45 index due (length text) first last firsts lasts (none 0),
      none_less 43 index due (length text) last first lasts firsts (none (length bytes)),
      nothing_each (byte_lines text index due first firsts last lasts x bytes) 0 (length bytes)
          (λ count. none_passed index due (length text) first last firsts lasts (still_within x bytes count) (still_within x bytes (count + 1))
          (standing text (still_within x bytes count)) (standing text (still_within x bytes (count + 1))) (none count)),
    ) refl

-- ---- what is pending

-- what shows no ESC # has none pending
unmarked_ansi : (state : ParserState) (pending : List ℕ) → parser_view Ansi pending ≡ Some state → (state ≡ EscapeOne 35 → ⊥) → drop 1 pending ≢ 35 ∷ []
unfolding parser_view
unmarked_ansi state [] shows apart e = cc
unmarked_ansi state (a ∷ []) shows apart e = cc
unmarked_ansi state (a ∷ b ∷ c ∷ rest) shows apart e = cc
unmarked_ansi state (a ∷ b ∷ []) shows apart e =
    let is : b ≡ 35 = cc e in
    let shown = rw is at shows in
    elim (cases_Bool (a == 27)) [
      | inl t ↦ let known = rw t at shown in apart (cc known)
      | inr f ↦ let known = rw f at shown in cc
    ]

unmarked_vt52 : (state : ParserState) (pending : List ℕ) → parser_view Vt52Mode pending ≡ Some state → drop 1 pending ≢ 35 ∷ []
unfolding parser_view
unmarked_vt52 state [] shows e = cc
unmarked_vt52 state (a ∷ []) shows e = cc
unmarked_vt52 state (a ∷ b ∷ c ∷ rest) shows e = cc
unmarked_vt52 state (a ∷ b ∷ []) shows e =
    let is : b ≡ 35 = cc e in
    let shown = rw is at shows in
    elim (cases_Bool (a == 27)) [
      | inl t ↦ let known = rw t at shown in cc
      | inr f ↦ let known = rw f at shown in cc
    ]

pub unmarked : (mode : Mode) (state : ParserState) (pending : List ℕ) → parser_view mode pending ≡ Some state → (state ≡ EscapeOne 35 → ⊥) → drop 1 pending ≢ 35 ∷ []
unmarked Ansi state pending shows apart = unmarked_ansi state pending shows apart
unmarked Vt52Mode state pending shows apart = unmarked_vt52 state pending shows
