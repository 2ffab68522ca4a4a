-- Characters that go over the blank rest of a row: a text that doesn't end in a space stays wherever it stands.
use Rattle.std.proofs.Common.{◌≡◌, ◌≢◌, ℕ, zero, suc, ◌+◌, ◌-◌, ◌<◌, ◌≤◌, Bool, true, false, ◌==◌, All, List, [], ◌∷◌, ◌++◌, append-nil, cond, drop, get_or, length, nat_eq, set, take, ap, refl, subst, sym, ◌∙◌, arith, inl, inr, if◌then◌else◌}
use Rattle.std.specs.List.{starts_with}
use Rattle.std.proofs.lemmas.Bool.{cases_Bool, cases_eq, cases_lt, eq-eqb, ne_eqb}
use Rattle.std.proofs.lemmas.Bool.Decides.{Decides-eqb}
use Rattle.std.proofs.lemmas.Slice.Eq.{slice_eq-Decides}
use Rattle.std.proofs.lemmas.List.{get_or-append_right, get_or-drop, get_or-set_other, get_or-take, get_or_default, get_or_past, length-drop, length-set, length-take, take-set, take-take}
use Rattle.std.proofs.Math.Seq.{take-append-add}
use Rattle.vt_parser.specs.Syntax.{is_graphic}
use Rattle.vt_screen.specs.declared.cell.Cell.{Cell}
use Rattle.vt_screen.specs.declared.cell.Row.{Row}
use Rattle.vt_screen.specs.Attributes.{Attributes}
use Rattle.vt_screen.specs.Cells.{blank, cell_at, row_at}
use Rattle.vt_screen.specs.Picture.{Picture, Sound, margin_of, right_margin}
use Rattle.vt_screen.specs.Puts.{shown, with_cell, with_row}
use Rattle.vt_term.specs.Console.{Console, IsSafe, on_picture}
use Rattle.vt_term.specs.Effect.{glyph_for}
use Rattle.vt_term.specs.Law.{PlaysInParts}
use Rattle.vt_term.specs.Printing.{CharactersBring, GlyphsAreWritten, on_ground}
use Rattle.vt_term.specs.Term.{Term, play}
use Rattle.screen_rows.specs.Glyphs.{character}
use Rattle.screen_rows.specs.RowText.{row_text}
use Rattle.screen_print.specs.ByLine.{AreKept, row_on}
use Rattle.screen_print.specs.EachByte.{still_within}
use Rattle.screen_print.specs.FindLines.{begins, ends_line, line_text_from, row_texts}
use Rattle.screen_print.specs.Fresh.{EndsInInk, IsBlankFor, IsFresh, Keeps}
use Rattle.screen_print.specs.Stills.{Still, still_of}
use Rattle.screen_print.proofs.EachByteLemmas.{play_more}
use Rattle.screen_print.proofs.FindLemmas.{no_texts, texts_at}
use Rattle.screen_print.proofs.FreeLemmas.{cell_text, other_cell, row_char, row_here, row_long}
use Rattle.screen_print.proofs.QuietLemmas.{begins_alike, line_is}
use Rattle.screen_print.proofs.SkimRows.{nth_next, row_told}

-- ---- lines

-- another line begins as one does up to where that is blank to its end
pub record Leads (d : ℕ) (one other : List ℕ) : Type 0 where
  pub front : take d one ≡ take d other
  pub blank : (j : ℕ) → d ≤ j → get_or one j 32 ≡ 32

leads_alike : (one other : List ℕ) → other ≡ one → Leads (length one) one other
leads_alike one other same = record {
  front = ap (take (length one)) (sym same);
  blank = λ j past. get_or_past one j 32 past;
}

leads_behind : (front one other : List ℕ) (d : ℕ) → Leads d one other → Leads (length front + d) (front ++ one) (front ++ other)
leads_behind front one other d leads = record {
  front = take-append-add front one d ∙ ap (λ l. front ++ l) leads.front ∙ sym (take-append-add front other d);
  blank = λ j past. get_or-append_right front one (length front) j 32 refl (omega (arith, past)) ∙ leads.blank (j - length front) (omega (arith, past));
}

leads_moved : (d : ℕ) (one one' other other' : List ℕ) → one ≡ one' → other ≡ other' → Leads d one' other' → Leads d one other
leads_moved d one one' other other' a b leads = subst (λ l. Leads d l other) (sym a) (subst (Leads d one') (sym b) leads)

-- the last character of a text that begins in a line
last_begun : (text line : List ℕ) (column : ℕ) → 1 ≤ length text → begins text line column ≡ true
    → get_or line (column - 1 + (length text - 1)) 32 ≡ get_or text (length text - 1) 32
last_begun text line column some here =
    let n = length text in
    let rest = drop (column - 1) line in
    let is : text ≡ take n rest = (slice_eq-Decides Decides-eqb text (take n rest) (starts_with nat_eq rest text) refl).0 here in
    sym (ap (λ (l : List ℕ). get_or l (n - 1) 32) is ∙ get_or-take n rest (n - 1) 32 (omega (arith, some)) ∙ get_or-drop (column - 1) line (n - 1) 32)

-- so the text ends before the blank rest, and begins in the other line too
begins_too : (text one other : List ℕ) (d column : ℕ) → EndsInInk text → Leads d one other → begins text one column ≡ true
    → (column - 1 + length text ≤ d) × (begins text other column ≡ true)
begins_too text one other d column ink leads here =
    let within : column - 1 + length text ≤ d =
    elim (cases_lt d (column - 1 + length text)) [
      | inl past ↦ absurd (ink.last (sym (last_begun text one column ink.some here) ∙ leads.blank (column - 1 + (length text - 1)) (omega (arith, ink.some, past))))
      | inr fits ↦ fits
    ] in
    (within, sym (begins_alike text one other column d within leads.front) ∙ here)

-- ---- screens

-- a row that is blank from a place on, and another with something written there, that ends with a space
pub record IsWritten (d : ℕ) (one other : List ℕ) : Type 0 where
  pub leads : Leads d one other
  pub long : length other ≡ length one
  pub within : d < length one
  pub ends : ends_line other ≡ true

-- two screens of which such a row differs, and no other
pub record Writes (at d : ℕ) (one other : Still) : Type 0 where
  pub whole : length one.rows ≡ 24
  pub whole_too : length other.rows ≡ 24
  pub low : 1 ≤ at
  pub high : at ≤ 24
  pub here : IsWritten d (row_on one at) (row_on other at)
  pub others : (line : ℕ) → 1 ≤ line → line ≤ 24 → line ≢ at → row_on other line ≡ row_on one line

abbrev line_from : Still → ℕ → List ℕ
line_from still line = line_text_from (drop (line - 1) (row_texts still))

line_at : (still : Still) (line : ℕ) → length still.rows ≡ 24 → 1 ≤ line → line ≤ 24
    → line_from still line ≡ row_on still line ++ cond (ends_line (row_on still line)) [] (line_from still (line + 1))
line_at still line whole low high =
    let row = row_on still line in
    let next : line ≡ line + 1 - 1 = omega arith in
    ap line_text_from (texts_at still line whole low high) ∙ line_is row (drop line (row_texts still))
    ∙ ap (λ n. row ++ cond (ends_line row) [] (line_text_from (drop n (row_texts still)))) next

line_ended : (still : Still) (line : ℕ) → length still.rows ≡ 24 → 1 ≤ line → line ≤ 24 → ends_line (row_on still line) ≡ true → line_from still line ≡ row_on still line
line_ended still line whole low high ends =
    let row = row_on still line in
    line_at still line whole low high ∙ ap (λ b. row ++ cond b [] (line_from still (line + 1))) ends ∙ append-nil row

line_on : (still : Still) (line : ℕ) (row : List ℕ) → length still.rows ≡ 24 → 1 ≤ line → line ≤ 24 → row_on still line ≡ row → ends_line row ≡ false
    → line_from still line ≡ row ++ line_from still (line + 1)
line_on still line row whole low high is ends =
    line_at still line whole low high
    ∙ ap (λ r. r ++ cond (ends_line r) [] (line_from still (line + 1))) is
    ∙ ap (λ b. row ++ cond b [] (line_from still (line + 1))) ends

no_line : (still : Still) (line : ℕ) → length still.rows ≡ 24 → line ≡ 25 → line_from still line ≡ []
unfolding line_text_from
no_line still line whole is = rw (no_texts still (line - 1) whole (omega (arith, is))) refl

module _ (at d : ℕ) (one other : Still) (w : Writes at d one other) where
  lines_here : Leads d (line_from one at) (line_from other at)
  lines_here =
      let row = row_on one at in
      let ends : ends_line row ≡ true = eq-eqb (get_or row (length row - 1) 32) 32 (w.here.leads.blank (length row - 1) (omega (arith, w.here.within))) in
      leads_moved d (line_from one at) row (line_from other at) (row_on other at)
      (line_ended one at w.whole w.low w.high ends) (line_ended other at w.whole_too w.low w.high w.here.ends) w.here.leads

  -- whatever rows stand above it
  lines_lead : (n line : ℕ) → line + n ≡ 25 → 1 ≤ line → (e : ℕ) × Leads e (line_from one line) (line_from other line)
  lines_lead zero line is low =
      let none = no_line one line w.whole (omega (arith, is)) in
      let none_too = no_line other line w.whole_too (omega (arith, is)) in
      (length (line_from one line), leads_alike (line_from one line) (line_from other line) (none_too ∙ sym none))
  lines_lead (suc n) line is low = elim (cases_eq line at) [
    | inl e ↦ (d, subst (λ k. Leads d (line_from one k) (line_from other k)) (sym e) lines_here)
    | inr apart ↦
        let high : line ≤ 24 = omega (arith, is) in
        let row = row_on one line in
        let same : row_on other line ≡ row = w.others line low high apart in
        elim (cases_Bool (ends_line row)) [
          | inl t ↦ (
            length row,
            leads_moved (length row) (line_from one line) row (line_from other line) (row_on other line)
                (line_ended one line w.whole low high t) (line_ended other line w.whole_too low high (ap ends_line same ∙ t)) (leads_alike row (row_on other line) same),
          )
          | inr f ↦
              let rest = lines_lead n (line + 1) (omega (arith, is)) (omega arith) in (
                length row + rest.0,
                leads_moved (length row + rest.0) (line_from one line) (row ++ line_from one (line + 1)) (line_from other line) (row ++ line_from other (line + 1))
                    (line_on one line row w.whole low high refl f) (line_on other line row w.whole_too low high same f)
                    (leads_behind row (line_from one (line + 1)) (line_from other (line + 1)) rest.0 rest.1),
              )
        ]
  ]

  module _ (text : List ℕ) (ink : EndsInInk text) where
    kept_here : AreKept text one at other at (length (row_on one at) + 1)
    kept_here column low under within begun =
        let row = row_on one at in
        let row' = row_on other at in
        let both = begins_too text (line_from one at) (line_from other at) d column ink lines_here begun in
        let short : column - 1 ≤ d = omega (arith, both.0) in
        record {
          within = omega (arith, within, w.here.long);
          begins = both.1;
          left = sym (take-take (column - 1) d row short) ∙ ap (take (column - 1)) w.here.leads.front ∙ take-take (column - 1) d row' short;
        }

    kept_else : (line : ℕ) → 1 ≤ line → line ≤ 24 → line ≢ at → AreKept text one line other line (length (row_on one line) + 1)
    kept_else line low_line high apart column low under within begun =
        let same = w.others line low_line high apart in
        let lead = lines_lead (25 - line) line (omega (arith, high)) low_line in
        record {
          within = omega (arith, within, ap length same);
          begins = (begins_too text (line_from one line) (line_from other line) lead.0 column ink lead.1 begun).1;
          left = ap (take (column - 1)) (sym same);
        }

    pub writes_keep : Keeps text one other
    writes_keep = record {
      whole = w.whole;
      whole_too = w.whole_too;
      kept = λ line low high. elim (cases_eq line at) [
        | inl e ↦ subst (λ k. AreKept text one k other k (length (row_on one k) + 1)) (sym e) kept_here
        | inr apart ↦ kept_else line low high apart
      ];
    }

-- ---- characters

-- the picture after a cell is written before the right margin
abbrev written : Cell → Picture → Picture
written cell p = record p { rows = with_row p.line (with_cell p.column cell (row_at p.rows p.line)) p.rows; column = p.column + 1 }

shown_is : (glyph : ℕ) (rendition : Attributes) (autowrap : Bool) (p : Picture) → p.wrap ≡ false → p.column ≢ right_margin p p.line
    → shown glyph rendition autowrap p ≡ written (record { glyph = glyph; rendition = rendition }) p
shown_is glyph rendition autowrap p wrap apart = rw wrap (rw (ne_eqb p.column (right_margin p p.line) apart) refl)

module _ (p : Picture) (cell : Cell) (n : ℕ) (sound : Sound p) (margin : right_margin p p.line ≤ 132) (free : IsBlankFor p (suc n)) where
  abbrev row : Row
  row = row_at p.rows p.line

  abbrev new : Row
  new = with_cell p.column cell row

  here : row_at (written cell p).rows p.line ≡ new
  here = row_here p.line new p.rows sound.line_low sound.line_high

  other_rows : (line : ℕ) → 1 ≤ line → line ≤ 24 → line ≢ p.line → row_at (written cell p).rows line ≡ row_at p.rows line
  other_rows line low high apart =
      let is : line - 1 + 1 ≡ line = omega (arith, low) in
      row_told (λ k. if k == p.line then new else row_at p.rows k) line (omega (arith, low, high))
      ∙ rw (ne_eqb (line - 1 + 1) p.line (λ e. apart (sym is ∙ e))) (ap (row_at p.rows) is)

  text_written : IsWritten (p.column - 1) (row_text p.wide row) (row_text p.wide (row_at (written cell p).rows p.line))
  text_written =
      let text = row_text p.wide row in
      let at = p.column - 1 in
      let c = character cell.glyph in
      let whole = (sound.row p.line).cells in
      let long : length text ≡ right_margin p p.line = row_long p.wide row whole margin in
      let within : at < length text = omega (arith, long, free.room, sound.column_low) in
      let is : at + 1 ≡ p.column = omega (arith, sound.column_low) in
      let after : row_text p.wide (row_at (written cell p).rows p.line) ≡ set text at c =
      ap (row_text p.wide) here ∙ subst (λ k. row_text p.wide (with_cell k cell row) ≡ set text at c) is
      (cell_text p.wide row at cell whole margin (omega (arith, free.room, sound.column_low))) in
      let blank : (j : ℕ) → at ≤ j → get_or text j 32 ≡ 32 =
      λ j low. elim (cases_lt j (length text)) [
        | inl lt ↦
            get_or_default text j 32 0 lt ∙ row_char p.wide row j whole lt
            ∙ ap character (free.blank (j + 1) (omega (arith, low)) (omega (arith, lt, long)))
        | inr past ↦ get_or_past text j 32 past
      ] in
      let last : length text - 1 ≢ at = λ e. absurd (omega (arith, e, long, free.room, sound.column_low)) in
      record {
        leads = record { front = sym (ap (take at) after ∙ take-set text at c); blank = blank };
        long = ap length after ∙ length-set text at c;
        within = within;
        ends =
            ap ends_line after
            ∙ eq-eqb (get_or (set text at c) (length (set text at c) - 1) 32) 32
            (ap (λ m. get_or (set text at c) (m - 1) 32) (length-set text at c) ∙ get_or-set_other text at (length text - 1) c 32 last ∙ blank (length text - 1) (omega (arith, within)));
      }

  blank_for : IsBlankFor (written cell p) n
  blank_for =
      let same : right_margin (written cell p) p.line ≡ right_margin p p.line = ap (λ (r : Row). margin_of p.wide r.size) here in
      record {
        wrap = free.wrap;
        room = omega (arith, same, free.room);
        blank = λ column from to.
            ap (λ (r : Row). (cell_at r column).glyph) here
            ∙ ap (λ (c : Cell). c.glyph) (other_cell row p.column column cell (omega (arith, from)) (omega (arith, to, same, margin)) (λ e. absurd (omega (arith, e, from))))
            ∙ free.blank column (omega (arith, from)) (omega (arith, to, same));
      }

-- what the code finds is blank
pub is_blank_for : (p : Picture) (cells : List Cell) (len : ℕ) → p.wrap ≡ false → cells ≡ take (right_margin p p.line) (row_at p.rows p.line).cells
    → length cells ≡ right_margin p p.line → 1 ≤ p.column → p.column ≤ right_margin p p.line → len ≤ length cells - 1 - (p.column - 1)
    → ((k : ℕ) → k < length (drop (p.column - 1) cells) → (get_or (drop (p.column - 1) cells) k blank).glyph ≡ 32) → IsBlankFor p len
is_blank_for p cells len wrap are long low high few spaces =
    let row = row_at p.rows p.line in
    let m = right_margin p p.line in
    let at = p.column - 1 in
    record {
      wrap = wrap;
      room = omega (arith, few, long, low, high);
      blank = λ column from to.
          let k = column - 1 in
          let j = k - at in
          let is : k + 1 ≡ column = omega (arith, from, low) in
          let there : at + j ≡ k = omega (arith, from, low) in
          let within : k < m = omega (arith, from, low, to) in
          let cell_is : cell_at row column ≡ get_or (drop at cells) j blank =
          ap (cell_at row) (sym is) ∙ nth_next blank row.cells k ∙ sym (get_or-take m row.cells k blank within)
          ∙ ap (λ l. get_or l k blank) (sym are) ∙ ap (λ i. get_or cells i blank) (sym there) ∙ sym (get_or-drop at cells j blank) in
          ap (λ (c : Cell). c.glyph) cell_is ∙ spaces j (omega (arith, within, there, long, length-drop at cells));
    }

-- ---- bytes

-- what a byte comes to that is put so
one_played : CharactersBring → GlyphsAreWritten → (y : Term) (byte n : ℕ) → IsFresh y (suc n) → is_graphic byte ≡ true
    → play y (byte ∷ []) ≡ on_ground (on_picture (written (record { glyph = glyph_for y.console byte; rendition = y.console.rendition })) y.console) y.reports
one_played characters glyphs y byte n fresh graphic =
    let s = y.console in
    let glyph = glyph_for s byte in
    let p = s.picture in
    let with_pending : List ℕ → Term = λ pending. record { console = s; pending = pending; reports = y.reports } in
    let is : y ≡ on_ground s y.reports = ap with_pending fresh.ground in
    let with_picture : Picture → Term = λ (q : Picture). on_ground (record s { picture = q }) y.reports in
    ap (λ (z : Term). play z (byte ∷ [])) is ∙ (characters s (byte ∷ []) (rw graphic refl)).played y.reports
    ∙ ap (λ (t : Console). on_ground t y.reports) (glyphs s (glyph ∷ []) fresh.over)
    ∙ ap with_picture (shown_is glyph s.rendition s.modes.autowrap p fresh.rest.wrap (λ e. absurd (omega (arith, e, fresh.rest.room))))

module _ (characters : CharactersBring) (glyphs : GlyphsAreWritten) (plays : PlaysInParts)
    (safes : (x : Term) (bytes : List ℕ) → IsSafe x.console → IsSafe (play x bytes).console)
    (margins : (p : Picture) (line : ℕ) → right_margin p line ≤ 132)
    (x : Term) (safe : IsSafe x.console) (bytes : List ℕ) (n : ℕ) (fresh : IsFresh x n) (graphic : All (λ byte. is_graphic byte ≡ true) (take n bytes)) (within : n ≤ length bytes) where
  graphic_at : (count : ℕ) → count < n → is_graphic (get_or bytes count 0) ≡ true
  graphic_at count lt =
      ap is_graphic (sym (get_or-take n bytes count 0 lt)) ∙ graphic count 0 (omega (arith, lt, within, length-take n bytes))

  -- up to so many of them there is room for the others
  fresh_at : (count : ℕ) → count ≤ n → IsFresh (play x (take count bytes)) (n - count)
  unfolding play
  fresh_at zero few = let all : n ≡ n - 0 = omega arith in subst (IsFresh x) all fresh
  fresh_at (suc count) few =
      let y = play x (take count bytes) in
      let byte = get_or bytes count 0 in
      let left : suc (n - suc count) ≡ n - count = omega (arith, few) in
      let now : IsFresh y (suc (n - suc count)) = subst (IsFresh y) (sym left) (fresh_at count (omega (arith, few))) in
      let next : count + 1 ≡ suc count = omega arith in
      let s = y.console in
      let cell : Cell = record { glyph = glyph_for s byte; rendition = s.rendition } in
      subst (λ m. IsFresh (play x (take m bytes)) (n - suc count)) next
      (subst (λ (z : Term). IsFresh z (n - suc count))
      (sym (one_played characters glyphs y byte (n - suc count) now (graphic_at count (omega (arith, few)))) ∙ play_more plays x bytes count (omega (arith, few, within)))
      (record {
        ground = refl;
        over = now.over;
        rest = blank_for s.picture cell (n - suc count) (safes x (take count bytes) safe).sound (margins s.picture s.picture.line) now.rest;
      }))

  -- at each of them a text stays that doesn't end in a space
  pub fresh_keeps : (text : List ℕ) → EndsInInk text → (count : ℕ) → count < n → Keeps text (still_within x bytes count) (still_within x bytes (count + 1))
  fresh_keeps text ink count lt =
      let y = play x (take count bytes) in
      let byte = get_or bytes count 0 in
      let k = n - count - 1 in
      let left : n - count ≡ suc k = omega (arith, lt) in
      let now : IsFresh y (suc k) = subst (IsFresh y) left (fresh_at count (omega (arith, lt))) in
      let s = y.console in
      let p = s.picture in
      let cell : Cell = record { glyph = glyph_for s byte; rendition = s.rendition } in
      let sound = (safes x (take count bytes) safe).sound in
      let after : on_ground (on_picture (written cell) s) y.reports ≡ play x (take (count + 1) bytes) =
      sym (one_played characters glyphs y byte k now (graphic_at count lt)) ∙ play_more plays x bytes count (omega (arith, lt, within)) in
      let z : Term = on_ground (on_picture (written cell) s) y.reports in
      let whole : length (written cell p).rows ≡ 24 =
      subst (λ (t : Term). length t.console.picture.rows ≡ 24) (sym after) (safes x (take (count + 1) bytes) safe).sound.rows in
      subst (λ (t : Term). Keeps text (still_within x bytes count) (still_of t.console)) after
      (writes_keep p.line (p.column - 1) (still_of s) (still_of z.console)
      (record {
        whole = sound.rows;
        whole_too = whole;
        low = sound.line_low;
        high = sound.line_high;
        here = text_written p cell k sound (margins p p.line) now.rest;
        others = λ line low high apart. ap (row_text p.wide) (other_rows p cell k sound (margins p p.line) now.rest line low high apart);
      }) text ink)
