-- A character is put over itself, with its marks.
use Rattle.std.proofs.Common.{◌≡◌, ◌⊎◌, ℕ, ◌+◌, ◌-◌, ◌<◌, ◌≤◌, Bool, true, false, List, [], ◌∷◌, ◌++◌, length, min, encode_utf8, refl, sym, ap, ap₂, inl, inr, ◌∙◌, lit<, arith, append-nil, append_assoc}
use Rattle.std.proofs.Math.Dec.{lit≤}
use Rattle.std.specs.Prelude.{Option, Some, None, if◌then◌else◌, ◌==◌, ◌&&◌, ◌||◌, nat_le, nat_lt}
use Rattle.std.specs.List.{flat_map, AllByRecursion}
use Rattle.std.proofs.lemmas.Bool.{cases_Bool, cases_eq, cases_lt, false≢true}
use Rattle.std.proofs.lemmas.Bool.Decides.{nat_tests}
use Rattle.std.proofs.lemmas.List.{length-append}
use Rattle.std.proofs.lemmas.Str.{encode_ascii}
use Rattle.characters.specs.Law.{AsciiIsNarrow}
use Rattle.characters.specs.Utf8.{Spells}
use Rattle.characters.specs.Width.{width}
use Rattle.vt_parser.specs.Syntax.{is_graphic}
use Rattle.sheet.specs.declared.rendition.Colour.{Colour}
use Rattle.sheet.specs.declared.rendition.Colour.TheVariants.{Default}
use Rattle.sheet.specs.declared.rendition.Rendition.{Rendition}
use Rattle.sheet.specs.Cells.{Cell, blank, cell_at, covering, is_covered, is_wide, lettered, with_mark}
use Rattle.sheet.specs.Edits.{character_column, deleted, inserted, mark_added, moved_right, put as letter_put, taken_out, written}
use Rattle.sheet.specs.Grid.{row_at, with_row}
use Rattle.sheet.specs.Halves.{Whole, mended, parted}
use Rattle.sheet.specs.Table.{table}
use Rattle.xterm_screen.specs.Picture.{Picture}
use Rattle.xterm_screen.specs.Puts.{advanced, character_put, character_written, mark_column, overhangs, room_made, width as columns_of}
use Rattle.xterm_rows.specs.RowText.{characters, printed}
use Rattle.xterm_term.specs.declared.sets.CharacterSet.{CharacterSet}
use Rattle.xterm_term.specs.Console.{Console}
use Rattle.xterm_term.specs.Puts.{is_c1, put}
use Rattle.xterm_term.specs.Sets.{character_of, set_in_use}
use Rattle.xterm_term.specs.Term.{play}
use Rattle.xterm_term.proofs.Idle.{character_brings}
use Rattle.xterm_term.proofs.Runs.{on_ground, run_played}
use Rattle.xterm_escaped.specs.EscapedText.{text_where}
use Rattle.xterm_escaped.proofs.Cells.{LawsBelow}
use Rattle.xterm_escaped.proofs.DrawsAgain.{digit_alone}
use Rattle.xterm_escaped.proofs.Drawn.{blank_narrow, blank_open, cell_outside, end_of, letter_of, marked, marked_at, marked_covered, mended_whole, one_more, own_marks, whole_marked}
use Rattle.xterm_escaped.proofs.Led.{ended}
use Rattle.xterm_escaped.proofs.Redrawing.{IsLetter, IsMark, row_there, row_twice}
use Rattle.xterm_escaped.proofs.RowDrawn.{end_within}
use Rattle.xterm_escaped.proofs.Shown.{by_columns, by_none, drawing, not_dropped, ready, room}
use Rattle.xterm_escaped.proofs.Tables.{length-table, nth-table, table_ext, table_is}
use Rattle.xterm_state.specs.StateText.{taken_out_text}
use Rattle.xterm_state.proofs.Brings.{Brings, Goes, Settles, brings_as, goes_nowhere, goes_on, gone, sequence_brings, settled}

-- ---- the row

-- outside the character nothing changes
abbrev Beside : ℕ → List Cell → List Cell → Type 0
Beside at row other = (k : ℕ) → 1 ≤ k → k ≤ length row → (k < at) ⊎ (end_of at row < k) → cell_at other k ≡ cell_at row k

module _ (row : List Cell) (whole : Whole row) (at : ℕ) (low : 1 ≤ at) (high : at ≤ length row) (open_ : is_covered (cell_at row at) ≡ false)
    (covers : is_wide (cell_at row at) ≡ true → cell_at row (at + 1) ≡ covering (cell_at row at).rendition) where
  abbrev cell : Cell
  cell = cell_at row at

  abbrev end : ℕ
  end = end_of at row

  -- it is written over itself
  pub over : (other : List Cell) → length other ≡ length row → Beside at row other
      → letter_put at cell.character (is_wide cell) cell.rendition other ≡ marked at [] row
  over other long beside =
      ap (mended cell.rendition.paper) same ∙ mended_whole cell.rendition.paper (marked at [] row) (whole_marked at [] row whole low high)
    where
      here : (k : ℕ) → 1 ≤ k → k ≤ length row → (if k == at then lettered cell.character (is_wide cell) cell.rendition
          else (if is_wide cell && k == at + 1 then covering cell.rendition else cell_at other k))
          ≡ (if k == at then record cell { marks = [] } else cell_at row k)
      here k k_low k_high =
          let letter = letter_of cell open_ in
          elim (cases_eq k at) [
            | inl e ↦ (let test : (k == at) ≡ true = grind (arith, nat_tests) in simp test letter)
            | inr ne ↦ (let apart : (k == at) ≡ false = grind (arith, nat_tests) in elim (cases_Bool (is_wide cell)) [
              | inl wide ↦ (let ends : end ≡ at + 1 = ap (λ b. if b then at + 1 else at) wide in elim (cases_eq k (at + 1)) [
                | inl next ↦ (let test : (k == at + 1) ≡ true = grind (arith, nat_tests) in simp (apart, wide, test) (sym (covers wide) ∙ ap (cell_at row) (sym next)))
                | inr other_ ↦ (let test : (k == at + 1) ≡ false = grind (arith, nat_tests) in
                    simp (apart, wide, test) (beside k k_low k_high (elim (cases_lt k at) [ inl before ↦ inl before | inr past ↦ inr (omega arith) ])))
              ])
              | inr narrow ↦ (let ends : end ≡ at = ap (λ b. if b then at + 1 else at) narrow in
                  simp (apart, narrow) (beside k k_low k_high (elim (cases_lt k at) [ inl before ↦ inl before | inr past ↦ inr (omega arith) ])))
            ])
          ]

      same : written at cell.character (is_wide cell) cell.rendition other ≡ marked at [] row
      same =
          ap (λ n. table n (λ k. if k == at then lettered cell.character (is_wide cell) cell.rendition
          else (if is_wide cell && k == at + 1 then covering cell.rendition else cell_at other k))) long
          ∙ table_ext (length row) _ _ here

  -- ---- taken out, and room made for it

  abbrev wide : ℕ
  wide = columns_of (is_wide cell)

  end_is : end + 1 ≡ at + wide
  end_is = elim (cases_Bool (is_wide cell)) [ inl w ↦ grind (arith, nat_tests) | inr n ↦ grind (arith, nat_tests) ]

  wide_low : 1 ≤ wide
  wide_low = elim (cases_Bool (is_wide cell)) [ inl w ↦ grind (arith, nat_tests) | inr n ↦ grind (arith, nat_tests) ]

  end_narrow : is_wide (cell_at row end) ≡ false
  unfolding is_wide covering
  end_narrow = elim (cases_Bool (is_wide cell)) [
    | inl w ↦ ap (λ b. is_wide (cell_at row (if b then at + 1 else at))) w ∙ ap is_wide (covers w)
    | inr n ↦ ap (λ b. is_wide (cell_at row (if b then at + 1 else at))) n ∙ n
  ]

  next_open : is_covered (cell_at row (at + wide)) ≡ false
  next_open = ap (λ k. is_covered (cell_at row k)) (sym end_is) ∙ whole end ∙ end_narrow

  before_narrow : is_wide (cell_at row (at - 1)) ≡ false
  before_narrow =
      let next : at - 1 + 1 ≡ at = omega arith in sym (whole (at - 1)) ∙ ap (λ k. is_covered (cell_at row k)) next ∙ open_

  not_parted : (border : ℕ) (paper : Colour) → is_covered (cell_at row border) ≡ false → parted border paper row ≡ row
  not_parted border paper free =
      table_ext (length row) _ (cell_at row) (λ k k_low k_high. ap (λ b. if b && (k == border || k + 1 == border) then blank paper else cell_at row k) free)
      ∙ sym (table_is (blank Default) row)

  module _ (paper : Colour) where
    abbrev drawn_in : ℕ → Cell
    drawn_in k = if nat_le at k then (if nat_le (k + wide) (length row) then cell_at row (k + wide) else blank paper) else cell_at row k

    abbrev out : List Cell
    out = taken_out wide at paper row

    abbrev from : ℕ → ℕ
    from k = if nat_le at k then k + wide else k

    from_there : (k : ℕ) → at ≤ k → from k ≡ k + wide
    from_there k past = let test : nat_le at k ≡ true = grind (arith, nat_tests) in ap (λ b. if b then k + wide else k) test

    from_here : (k : ℕ) → k < at → from k ≡ k
    from_here k before = let test : nat_le at k ≡ false = grind (arith, nat_tests) in ap (λ b. if b then k + wide else k) test

    -- what stands there, but for what blank cell comes in
    out_kind : (kind : Cell → Bool) → kind (blank paper) ≡ false → kind (blank Default) ≡ false → (k : ℕ) → kind (cell_at out k) ≡ kind (cell_at row (from k))
    out_kind kind none default k =
        let reach = wide_low in
        elim (cases_lt (length row) k) [
          | inl past ↦ (let long = length-table (length row) drawn_in in
              ap kind (cell_outside out k (λ some. omega arith)) ∙ default
              ∙ sym (ap (λ j. kind (cell_at row j)) (from_there k (omega arith)) ∙ ap kind (cell_outside row (k + wide) (λ some. omega arith)) ∙ default))
          | inr inside ↦ elim (cases_lt k at) [
            | inl before ↦ elim (cases_lt 0 k) [
              | inl some ↦ (let test : nat_le at k ≡ false = grind (arith, nat_tests) in
                  ap kind (nth-table (blank Default) (length row) drawn_in k some inside ∙ simp test) ∙ ap (λ j. kind (cell_at row j)) (sym (from_here k before)))
              | inr never ↦ (
                  ap kind (cell_outside out k (λ some. absurd (omega arith))) ∙ sym (ap (λ j. kind (cell_at row j)) (from_here k before) ∙ ap kind (cell_outside row k (λ some. absurd (omega arith)))))
            ]
            | inr there ↦ (let test : nat_le at k ≡ true = grind (arith, nat_tests) in
                let read = nth-table (blank Default) (length row) drawn_in k (omega arith) inside in
                elim (cases_lt (length row) (k + wide)) [
                  | inl gone_ ↦ (let none_left : nat_le (k + wide) (length row) ≡ false = grind (arith, nat_tests) in
                      ap kind (read ∙ simp (test, none_left)) ∙ none
                      ∙ sym (ap (λ j. kind (cell_at row j)) (from_there k there) ∙ ap kind (cell_outside row (k + wide) (λ some. gone_)) ∙ default))
                  | inr left ↦ (let some_left : nat_le (k + wide) (length row) ≡ true = grind (arith, nat_tests) in
                      ap kind (read ∙ simp (test, some_left)) ∙ ap (λ j. kind (cell_at row j)) (sym (from_there k there)))
                ])
          ]
        ]

    whole_out : Whole out
    whole_out k =
        out_kind is_covered (blank_open paper) (blank_open Default) (k + 1) ∙ next ∙ sym (out_kind is_wide (blank_narrow paper) (blank_narrow Default) k)
      where
        next : is_covered (cell_at row (from (k + 1))) ≡ is_wide (cell_at row (from k))
        next = elim (cases_lt k at) [
          | inl before ↦ elim (cases_lt (k + 1) at) [
            | inl still_ ↦ ap (λ j. is_covered (cell_at row j)) (from_here (k + 1) still_) ∙ whole k ∙ ap (λ j. is_wide (cell_at row j)) (sym (from_here k before))
            | inr here_ ↦ (let e : k + 1 ≡ at = omega arith in let f : k ≡ at - 1 = omega arith in
                ap (λ j. is_covered (cell_at row j)) (from_there (k + 1) here_ ∙ ap (λ j. j + wide) e) ∙ next_open
                ∙ sym (ap (λ j. is_wide (cell_at row j)) (from_here k before ∙ f) ∙ before_narrow))
          ]
          | inr past ↦ (let e : k + 1 + wide ≡ k + wide + 1 = omega arith in
              ap (λ j. is_covered (cell_at row j)) (from_there (k + 1) (omega arith) ∙ e) ∙ whole (k + wide) ∙ ap (λ j. is_wide (cell_at row j)) (sym (from_there k past)))
        ]

    pub deleted_is : deleted wide at paper row ≡ out
    deleted_is =
        let one = not_parted at paper open_ in
        ap (λ r. mended paper (taken_out wide at paper (parted (at + wide) paper r))) one
        ∙ ap (λ r. mended paper (taken_out wide at paper r)) (not_parted (at + wide) paper next_open)
        ∙ mended_whole paper out whole_out

    -- room is made where it was
    abbrev come : ℕ → Cell
    come k = if nat_le at k then (if nat_le (at + wide) k then cell_at out (k - wide) else blank paper) else cell_at out k

    abbrev back : List Cell
    back = moved_right wide at paper out

    long_out : length out ≡ length row
    long_out = length-table (length row) drawn_in

    long_back : length back ≡ length row
    long_back = length-table (length out) come ∙ long_out

    back_before : (k : ℕ) → 1 ≤ k → k ≤ length row → k < at → cell_at back k ≡ cell_at row k
    back_before k k_low k_high before =
        let test : nat_le at k ≡ false = grind (arith, nat_tests) in
        let long = long_out in
        nth-table (blank Default) (length out) come k k_low (omega arith) ∙ simp test (nth-table (blank Default) (length row) drawn_in k k_low k_high ∙ simp test)

    back_behind : (k : ℕ) → k ≤ length row → at + wide ≤ k → cell_at back k ≡ cell_at row k
    back_behind k k_high past =
        let reach = wide_low in
        let long = long_out in
        let one : nat_le at k ≡ true = grind (arith, nat_tests) in
        let two : nat_le (at + wide) k ≡ true = grind (arith, nat_tests) in
        let there : nat_le at (k - wide) ≡ true = grind (arith, nat_tests) in
        let e : k - wide + wide ≡ k = omega arith in
        let some_left : nat_le (k - wide + wide) (length row) ≡ true = ap (λ j. nat_le j (length row)) e ∙ grind (arith, nat_tests) in
        nth-table (blank Default) (length out) come k (omega arith) (omega arith)
        ∙ simp (one, two) (nth-table (blank Default) (length row) drawn_in (k - wide) (omega arith) (omega arith) ∙ simp (there, some_left) (ap (cell_at row) e))

    back_between : (k : ℕ) → k ≤ length row → at ≤ k → k < at + wide → cell_at back k ≡ blank paper
    back_between k k_high past before =
        let long = long_out in
        let one : nat_le at k ≡ true = grind (arith, nat_tests) in
        let two : nat_le (at + wide) k ≡ false = grind (arith, nat_tests) in
        nth-table (blank Default) (length out) come k (omega arith) (omega arith) ∙ simp (one, two)

    -- what stands there then
    abbrev IsLike : (kind : Cell → Bool) → ℕ → Type 0
    IsLike kind k = kind (cell_at back k) ≡ (if nat_le at k && nat_lt k (at + wide) then false else kind (cell_at row k))

    back_kind : (kind : Cell → Bool) → kind (blank paper) ≡ false → (k : ℕ) → IsLike kind k
    back_kind kind none k =
        let reach = wide_low in let fits = end_is in
        elim (cases_lt (length row) k) [
          | inl past ↦ (let long = long_back in
              elim (cases_Bool (nat_le at k && nat_lt k (at + wide))) [
                | inl between ↦ absurd (within between past)
                | inr apart ↦ ap kind (cell_outside back k (λ some. omega arith) ∙ sym (cell_outside row k (λ some. past))) ∙ sym (ap (λ b. if b then false else kind (cell_at row k)) apart)
              ])
          | inr inside ↦ elim (cases_lt k at) [
            | inl before ↦ (let apart : (nat_le at k && nat_lt k (at + wide)) ≡ false = grind (arith, nat_tests) in
                elim (cases_lt 0 k) [
                  | inl some ↦ ap kind (back_before k some inside before) ∙ sym (ap (λ b. if b then false else kind (cell_at row k)) apart)
                  | inr never ↦ ap kind (cell_outside back k (λ some. absurd (omega arith)) ∙ sym (cell_outside row k (λ some. absurd (omega arith)))) ∙ sym (ap (λ b. if b then false else kind (cell_at row k)) apart)
                ])
            | inr there ↦ elim (cases_lt k (at + wide)) [
              | inl short ↦ (let between : (nat_le at k && nat_lt k (at + wide)) ≡ true = grind (arith, nat_tests) in
                  ap kind (back_between k inside there short) ∙ none ∙ sym (ap (λ b. if b then false else kind (cell_at row k)) between))
              | inr behind_ ↦ (let apart : (nat_le at k && nat_lt k (at + wide)) ≡ false = grind (arith, nat_tests) in
                  ap kind (back_behind k inside behind_) ∙ sym (ap (λ b. if b then false else kind (cell_at row k)) apart))
            ]
          ]
        ]
      where
        end_within : end ≤ length row
        end_within = elim (cases_Bool (is_wide cell)) [
          | inl w ↦ elim (cases_lt at (length row)) [
            | inl less ↦ (let e : end ≡ at + 1 = ap (λ b. if b then at + 1 else at) w in omega arith)
            | inr all ↦ absurd (false≢true (sym (ap is_covered (cell_outside row (at + 1) (λ some. omega arith)) ∙ blank_open Default) ∙ whole at ∙ w))
          ]
          | inr n ↦ (let e : end ≡ at = ap (λ b. if b then at + 1 else at) n in omega arith)
        ]

        within : (nat_le at k && nat_lt k (at + wide)) ≡ true → length row < k → ⊥
        within between past =
            let e = end_is in let f = end_within in let g : k < at + wide = grind (arith, nat_tests) in omega arith

    whole_back : Whole back
    whole_back k =
        let right = back_kind is_covered (blank_open paper) (k + 1) in
        let left = back_kind is_wide (blank_narrow paper) k in
        let reach = wide_low in
        elim (cases_lt k at) [
          | inl before ↦ (let out_left : (nat_le at k && nat_lt k (at + wide)) ≡ false = grind (arith, nat_tests) in
              elim (cases_lt (k + 1) at) [
                | inl still_ ↦ (let out_right : (nat_le at (k + 1) && nat_lt (k + 1) (at + wide)) ≡ false = grind (arith, nat_tests) in
                    right ∙ ap (λ b. if b then false else is_covered (cell_at row (k + 1))) out_right ∙ whole k ∙ sym (left ∙ ap (λ b. if b then false else is_wide (cell_at row k)) out_left))
                | inr here_ ↦ (let in_right : (nat_le at (k + 1) && nat_lt (k + 1) (at + wide)) ≡ true = grind (arith, nat_tests) in let f : k ≡ at - 1 = omega arith in
                    right ∙ ap (λ b. if b then false else is_covered (cell_at row (k + 1))) in_right
                    ∙ sym (left ∙ ap (λ b. if b then false else is_wide (cell_at row k)) out_left ∙ ap (λ j. is_wide (cell_at row j)) f ∙ before_narrow))
              ])
          | inr past ↦ elim (cases_lt k (at + wide)) [
            | inl short ↦ (let in_left : (nat_le at k && nat_lt k (at + wide)) ≡ true = grind (arith, nat_tests) in
                elim (cases_lt (k + 1) (at + wide)) [
                  | inl more ↦ (let in_right : (nat_le at (k + 1) && nat_lt (k + 1) (at + wide)) ≡ true = grind (arith, nat_tests) in
                      right ∙ ap (λ b. if b then false else is_covered (cell_at row (k + 1))) in_right ∙ sym (left ∙ ap (λ b. if b then false else is_wide (cell_at row k)) in_left))
                  | inr last ↦ (let out_right : (nat_le at (k + 1) && nat_lt (k + 1) (at + wide)) ≡ false = grind (arith, nat_tests) in let f : k + 1 ≡ at + wide = omega arith in
                      right ∙ ap (λ b. if b then false else is_covered (cell_at row (k + 1))) out_right ∙ ap (λ j. is_covered (cell_at row j)) f ∙ next_open
                      ∙ sym (left ∙ ap (λ b. if b then false else is_wide (cell_at row k)) in_left))
                ])
            | inr behind_ ↦ (let out_left : (nat_le at k && nat_lt k (at + wide)) ≡ false = grind (arith, nat_tests) in
                let out_right : (nat_le at (k + 1) && nat_lt (k + 1) (at + wide)) ≡ false = grind (arith, nat_tests) in
                right ∙ ap (λ b. if b then false else is_covered (cell_at row (k + 1))) out_right ∙ whole k ∙ sym (left ∙ ap (λ b. if b then false else is_wide (cell_at row k)) out_left))
          ]
        ]

    pub inserted_is : inserted wide at paper out ≡ back
    inserted_is = mended_whole paper back whole_back

    pub back_beside : Beside at row back
    back_beside k k_low k_high (inl before) = back_before k k_low k_high before
    back_beside k k_low k_high (inr past) = let e = end_is in back_behind k k_high (omega arith)

-- .. and then its marks join it, by its last column or its first
marked_at_first : (row : List Cell) (at : ℕ) → 1 ≤ at → at ≤ length row → is_covered (cell_at row at) ≡ false → (marks : List ℕ) (column : ℕ) → column ≡ at
    → character_column column (marked at marks row) ≡ at
marked_at_first row at low high open_ marks column here =
    let covered = marked_covered at marks row at low high in
    let test : is_covered (cell_at (marked at marks row) column) ≡ false = ap (λ j. is_covered (cell_at (marked at marks row) j)) here ∙ covered ∙ open_ in
    ap (λ b. if b then column - 1 else column) test ∙ here

marked_at_column : (row : List Cell) → Whole row → (at : ℕ) → 1 ≤ at → at ≤ length row → is_covered (cell_at row at) ≡ false → (marks : List ℕ) (column : ℕ)
    → (column ≡ end_of at row) ⊎ (column ≡ at) → character_column column (marked at marks row) ≡ at
marked_at_column row whole at low high open_ marks column (inr here) = marked_at_first row at low high open_ marks column here
marked_at_column row whole at low high open_ marks column (inl last) = elim (cases_Bool (is_wide (cell_at row at))) [
  | inl two ↦ (let e : column ≡ at + 1 = last ∙ ap (λ b. if b then at + 1 else at) two in
      let covered = marked_covered at marks row (at + 1) low high in
      let test : is_covered (cell_at (marked at marks row) column) ≡ true = ap (λ j. is_covered (cell_at (marked at marks row) j)) e ∙ covered ∙ whole at ∙ two in
      ap (λ b. if b then column - 1 else column) test ∙ omega arith)
  | inr narrow ↦ marked_at_first row at low high open_ marks column (last ∙ ap (λ b. if b then at + 1 else at) narrow)
]

mark_joins : (row : List Cell) (at : ℕ) → 1 ≤ at → at ≤ length row → (marks : List ℕ) (mark column : ℕ) → character_column column (marked at marks row) ≡ at → length marks < 2
    → mark_added column mark (marked at marks row) ≡ marked at (marks ++ mark ∷ []) row
mark_joins row at low high marks mark column is few =
    ap₂ (λ n c. table n (λ k. if k == c then with_mark mark (cell_at (marked at marks row) k) else cell_at (marked at marks row) k)) (length-table (length row) _) is
    ∙ table_ext (length row) _ _ (λ k k_low k_high.
    let was = marked_at at marks row k low high in
    elim (cases_eq k at) [
      | inl e ↦ (let test : (k == at) ≡ true = grind (arith, nat_tests) in
          ap (λ b. if b then with_mark mark (cell_at (marked at marks row) k) else cell_at (marked at marks row) k) test
          ∙ ap (with_mark mark) (was ∙ ap (λ b. if b then record (cell_at row at) { marks = marks } else cell_at row k) test)
          ∙ one_more (cell_at row at) marks mark few
          ∙ sym (ap (λ b. if b then record (cell_at row at) { marks = marks ++ mark ∷ [] } else cell_at row k) test))
      | inr ne ↦ (let test : (k == at) ≡ false = grind (arith, nat_tests) in
          ap (λ b. if b then with_mark mark (cell_at (marked at marks row) k) else cell_at (marked at marks row) k) test
          ∙ was ∙ ap (λ b. if b then record (cell_at row at) { marks = marks } else cell_at row k) test
          ∙ sym (ap (λ b. if b then record (cell_at row at) { marks = marks ++ mark ∷ [] } else cell_at row k) test))
    ])

own_row : (line : ℕ) (rows : List (List Cell)) → with_row line (row_at rows line) rows ≡ rows
own_row line rows =
    table_ext (length rows) _ (row_at rows) (λ k low high. elim (cases_eq k line) [
      | inl e ↦ (let test : (k == line) ≡ true = grind (arith, nat_tests) in ap (λ b. if b then row_at rows line else row_at rows k) test ∙ ap (row_at rows) (sym e))
      | inr ne ↦ (let test : (k == line) ≡ false = grind (arith, nat_tests) in ap (λ b. if b then row_at rows line else row_at rows k) test)
    ])
    ∙ sym (table_is [] rows)

-- ---- characters

-- a character that its UTF-8 gives in this set
abbrev pub IsGiven : CharacterSet → ℕ → Type 0
IsGiven set character = ((is_graphic character ≡ true) × (character_of set character ≡ character)) ⊎ Spells (encode_utf8 character) character

below_128 : (byte : ℕ) → is_graphic byte ≡ true → byte < 128
below_128 byte is = grind (arith, nat_tests)

-- exactly what one plays to
given_played : LawsBelow → (s : Console) (character : ℕ) → s.title ≡ false → IsGiven (set_in_use s.sets) character → Goes s (encode_utf8 character) (put character s)
given_played laws s character title (inl is) = record {
  played = λ reports.
      ap (λ text. play (on_ground s reports) text) (encode_ascii character (below_128 character is.0))
      ∙ (run_played laws.graphic s reports (character ∷ []) (let graphic = is.0 in simp graphic) title).0
      ∙ ap (λ c. on_ground (put c s) reports) is.1;
}
given_played laws s character title (inr spells) = record { played = λ reports. (character_brings s (encode_utf8 character) character title spells).played reports }

ap_moved : (p : Picture) {column other : ℕ} {wrap instead : Bool} → column ≡ other → wrap ≡ instead
    → (let q : Picture = record p { column = column; wrap = wrap } in q) ≡ record p { column = other; wrap = instead }
ap_moved p a b = cc

pub advanced_to : (by last : ℕ) (autowrap : Bool) (p : Picture) → p.wrap ≡ false → p.column + by ≡ last + 1 → last ≤ p.columns
    → advanced by autowrap p ≡ record p { column = min p.columns (last + 1); wrap = (last == p.columns) && autowrap }
advanced_to by last autowrap p wrap next within = elim (cases_eq last p.columns) [
  | inl e ↦
      (let past : nat_lt p.columns (p.column + by) ≡ true = grind (arith, nat_tests) in
      let same : (last == p.columns) ≡ true = grind (arith, nat_tests) in
      ap (λ b. if b then record p { column = p.columns; wrap = autowrap } else record p { column = p.column + by }) past
      ∙ ap_moved p (omega arith) (sym (ap (λ b. b && autowrap) same)))
  | inr ne ↦
      (let inside : nat_lt p.columns (p.column + by) ≡ false = grind (arith, nat_tests) in
      let apart : (last == p.columns) ≡ false = grind (arith, nat_tests) in
      ap (λ b. if b then record p { column = p.columns; wrap = autowrap } else record p { column = p.column + by }) inside
      ∙ ap_moved p (omega arith) (wrap ∙ sym (ap (λ b. b && autowrap) apart)))
]

-- the cursor behind a column, where the wrap is pending at the last one while characters wrap
abbrev pub put_behind : Console → List (List Cell) → ℕ → ℕ → Rendition → Console
put_behind c rows line last r = drawing c rows line (min c.picture.columns (last + 1)) ((last == c.picture.columns) && c.modes.autowrap) r

-- the rows in which it is written
abbrev pub rows_made : Bool → Bool → ℕ → ℕ → Colour → List (List Cell) → List (List Cell)
rows_made inserting wide line at paper rows =
    if inserting then with_row line (inserted (columns_of wide) at paper (row_at rows line)) rows else rows

pub made_is : (inserting wide : Bool) (p : Picture) (paper : Colour) → room_made inserting wide paper p ≡ record p { rows = rows_made inserting wide p.line p.column paper p.rows }
made_is true two p paper = refl
made_is false two p paper = refl

letter_put_there : (c : Console) (rows : List (List Cell)) (line at last : ℕ) (r : Rendition) (character : ℕ) (wide : Bool) (l : Option ℕ)
    → is_c1 character ≡ false → width character ≡ columns_of wide → at + columns_of wide ≡ last + 1 → last ≤ c.picture.columns
    → put character (ended l (drawing c rows line at false r))
    ≡ ended (Some character) (put_behind c
    (with_row line (letter_put at character wide r (row_at (rows_made c.modes.insert wide line at r.paper rows) line)) (rows_made c.modes.insert wide line at r.paper rows)) line last r)
letter_put_there c rows line at last r character wide l no_c1 width_is next within =
    let s : Console = ended l (drawing c rows line at false r) in
    let p : Picture = s.picture in
    let over : overhangs wide p ≡ false = room wide at c.picture.columns (omega arith) in
    let made : Picture = record p { rows = rows_made c.modes.insert wide line at r.paper rows } in
    by_columns wide character s no_c1 width_is
    ∙ ap₂ (λ (q : Picture) (b : Bool). let u : Console = record s { picture = q; last = (if b then None else Some character) } in u)
    (ap (λ (q : Picture). if overhangs wide q then q else character_put character wide r c.modes.autowrap c.modes.insert q) (ready wide p refl over c.modes.autowrap r.paper)
    ∙ ap (λ b. if b then p else character_put character wide r c.modes.autowrap c.modes.insert p) over
    ∙ ap (λ (q : Picture). advanced (columns_of wide) c.modes.autowrap (character_written character wide r q)) (made_is c.modes.insert wide p r.paper)
    ∙ advanced_to (columns_of wide) last c.modes.autowrap (character_written character wide r made) refl next within)
    (not_dropped wide p refl over c.modes.autowrap r.paper)

mark_put_there : (s : Console) (mark column : ℕ) → is_c1 mark ≡ false → width mark ≡ 0 → mark_column s.picture ≡ column → 1 ≤ column
    → put mark s ≡ record s { picture = record s.picture { rows = with_row s.picture.line (mark_added column mark (row_at s.picture.rows s.picture.line)) s.picture.rows } }
mark_put_there s mark column no_c1 none is low =
    let p : Picture = s.picture in
    let there : (mark_column p == 0) ≡ false = grind (arith, nat_tests) in
    by_none mark s no_c1 none
    ∙ ap (λ b. let u : Console = record s { picture = (if b then p else record p { rows = with_row p.line (mark_added (mark_column p) mark (row_at p.rows p.line)) p.rows }) } in u) there
    ∙ ap (λ k. let u : Console = record s { picture = record p { rows = with_row p.line (mark_added k mark (row_at p.rows p.line)) p.rows } } in u) is

no_width : AsciiIsNarrow → (mark : ℕ) → width mark ≡ 0 → is_graphic mark ≡ true → ⊥
no_width ascii mark none graphic = let one = ascii mark graphic in omega (arith, none, one)

mark_given : AsciiIsNarrow → (set : CharacterSet) (mark : ℕ) → IsMark mark → IsGiven set mark
mark_given ascii set mark is = elim is.typed [
  | inl graphic ↦ absurd (no_width ascii mark is.none graphic)
  | inr spells ↦ inr spells
]

-- ---- the whole character

module _ (laws : LawsBelow) (ascii : AsciiIsNarrow) (c : Console) (title : c.title ≡ false) (rows : List (List Cell)) (line : ℕ) (line_low : 1 ≤ line) (line_high : line ≤ length rows)
    (whole : Whole (row_at rows line)) (full : length (row_at rows line) ≡ c.picture.columns) (at : ℕ) (low : 1 ≤ at) (high : at ≤ length (row_at rows line))
    (open_ : is_covered (cell_at (row_at rows line) at) ≡ false)
    (covers : is_wide (cell_at (row_at rows line) at) ≡ true → cell_at (row_at rows line) (at + 1) ≡ covering (cell_at (row_at rows line) at).rendition)
    (letter : IsLetter (cell_at (row_at rows line) at)) (given : IsGiven (set_in_use c.sets) (cell_at (row_at rows line) at).character) where
  abbrev row : List Cell
  row = row_at rows line

  abbrev it : Cell
  it = cell_at row at

  abbrev last : ℕ
  last = end_of at row

  last_high : last ≤ c.picture.columns
  last_high = let within = end_within row at whole high in omega arith

  last_next : at + columns_of (is_wide it) ≡ last + 1
  last_next = sym (end_is row whole at low high open_ covers)

  -- with these marks in it, and the cursor behind it
  abbrev there : List ℕ → Console
  there marks = ended (Some it.character) (put_behind c (with_row line (marked at marks row) rows) line last it.rendition)

  abbrev start : List (List Cell) → Console
  start rs = drawing c rs line at false it.rendition

  written_there : (rs : List (List Cell)) (l : Option ℕ)
      → with_row line (letter_put at it.character (is_wide it) it.rendition (row_at (rows_made c.modes.insert (is_wide it) line at it.rendition.paper rs) line))
      (rows_made c.modes.insert (is_wide it) line at it.rendition.paper rs) ≡ with_row line (marked at [] row) rows
      → put it.character (ended l (start rs)) ≡ there []
  written_there rs l same =
      letter_put_there c rs line at last it.rendition it.character (is_wide it) l letter.no_c1 letter.columns last_next last_high
      ∙ ap (λ r. ended (Some it.character) (put_behind c r line last it.rendition)) same

  -- in place of itself
  letter_over : (inserting : Bool) → c.modes.insert ≡ inserting → Settles (start rows) (text_where inserting (taken_out_text (is_wide it)) ++ encode_utf8 it.character) (there [])
  letter_over false replaces = record {
    played = λ l reports.
        (given_played laws (ended l (start rows)) it.character title given).played reports
        ∙ ap (λ (s : Console). on_ground s reports) (written_there rows l
        (ap (λ b. with_row line (letter_put at it.character (is_wide it) it.rendition (row_at (rows_made b (is_wide it) line at it.rendition.paper rows) line)) (rows_made b (is_wide it) line at it.rendition.paper rows)) replaces
        ∙ ap (λ r. with_row line r rows) (over row whole at low high open_ covers row refl (λ k k_low k_high where_. refl))));
  }
  letter_over true inserts =
      let paper = it.rendition.paper in
      let w = columns_of (is_wide it) in
      let cut : List (List Cell) = with_row line (deleted w at paper row) rows in
      let cut_high : line ≤ length cut = (let long = length-table (length rows) (λ k. if k == line then deleted w at paper row else row_at rows k) in omega arith) in
      let moved : List Cell = inserted w at paper (deleted w at paper row) in
      let back_is : moved ≡ back row whole at low high open_ covers paper =
      ap (inserted w at paper) (deleted_is row whole at low high open_ covers paper) ∙ inserted_is row whole at low high open_ covers paper in
      let taken : Brings (start rows) (taken_out_text (is_wide it)) (start cut) = taken_out_brings (is_wide it) refl in
      settled taken (record {
        played = λ l reports.
            (given_played laws (ended l (start cut)) it.character title given).played reports
            ∙ ap (λ (s : Console). on_ground s reports) (written_there cut l
            (ap (λ b. with_row line (letter_put at it.character (is_wide it) it.rendition (row_at (rows_made b (is_wide it) line at paper cut) line)) (rows_made b (is_wide it) line at paper cut)) inserts
            ∙ ap (λ r. with_row line (letter_put at it.character (is_wide it) it.rendition (row_at (with_row line (inserted w at paper r) cut) line)) (with_row line (inserted w at paper r) cut))
            (row_there line (deleted w at paper row) rows line_low line_high)
            ∙ ap (λ r. with_row line (letter_put at it.character (is_wide it) it.rendition r) (with_row line moved cut)) (row_there line moved cut line_low cut_high)
            ∙ row_twice line (letter_put at it.character (is_wide it) it.rendition moved) moved cut
            ∙ row_twice line (letter_put at it.character (is_wide it) it.rendition moved) (deleted w at paper row) rows
            ∙ ap (λ r. with_row line r rows) (ap (letter_put at it.character (is_wide it) it.rendition) back_is
            ∙ over row whole at low high open_ covers (back row whole at low high open_ covers paper) (long_back row whole at low high open_ covers paper) (back_beside row whole at low high open_ covers paper))));
      })
    where
      cells_are : (wide : Bool) → wide ≡ is_wide it → min (columns_of wide) (c.picture.columns + 1 - at) ≡ columns_of wide
      cells_are wide is = let e = last_next in let f = last_high in let g : columns_of wide ≡ columns_of (is_wide it) = ap columns_of is in omega arith

      taken_out_brings : (wide : Bool) → wide ≡ is_wide it → Brings (start rows) (taken_out_text wide) (start (with_row line (deleted (columns_of wide) at it.rendition.paper row) rows))
      taken_out_brings true is =
          let s : Console = start rows in
          let u : Console = start (with_row line (deleted (min 2 (c.picture.columns + 1 - at)) at it.rendition.paper row) rows) in
          brings_as (sequence_brings laws s u 2 80 (50 ∷ []) (digit_alone 2 (lit< tt)) (lit≤ tt) title refl (λ l. refl) (λ l. refl)) refl
          (ap (λ n. start (with_row line (deleted n at it.rendition.paper row) rows)) (cells_are true is))
      taken_out_brings false is =
          let s : Console = start rows in
          let u : Console = start (with_row line (deleted (min 1 (c.picture.columns + 1 - at)) at it.rendition.paper row) rows) in
          brings_as (sequence_brings laws s u 1 80 (49 ∷ []) (digit_alone 1 (lit< tt)) (lit≤ tt) title refl (λ l. refl) (λ l. refl)) refl
          (ap (λ n. start (with_row line (deleted n at it.rendition.paper row) rows)) (cells_are false is))

  -- where marks go
  abbrev pub MarksGo : ℕ → Type 0
  MarksGo column = (1 ≤ column) × ((column ≡ last) ⊎ (column ≡ at))

  goes_to : (c.modes.autowrap ≡ false → last ≡ c.picture.columns → is_wide it ≡ false → ⊥)
      → MarksGo (if (last == c.picture.columns) && c.modes.autowrap then min c.picture.columns (last + 1) else min c.picture.columns (last + 1) - 1)
  goes_to never =
      let high_ = last_high in
      let low_ : at ≤ last = (elim (cases_Bool (is_wide it)) [ inl w ↦ grind (arith, nat_tests) | inr n ↦ grind (arith, nat_tests) ]) in
      elim (cases_eq last c.picture.columns) [
        | inl e ↦ (let same : (last == c.picture.columns) ≡ true = grind (arith, nat_tests) in elim (cases_Bool c.modes.autowrap) [
          | inl wraps ↦ (let there_ : (if (last == c.picture.columns) && c.modes.autowrap then min c.picture.columns (last + 1) else min c.picture.columns (last + 1) - 1) ≡ last
              = ap₂ (λ b d. if b && d then min c.picture.columns (last + 1) else min c.picture.columns (last + 1) - 1) same wraps ∙ omega arith in
              (omega arith, inl there_))
          | inr stays ↦ elim (cases_Bool (is_wide it)) [
            | inl w ↦ (let ends : last ≡ at + 1 = ap (λ b. if b then at + 1 else at) w in
                let there_ : (if (last == c.picture.columns) && c.modes.autowrap then min c.picture.columns (last + 1) else min c.picture.columns (last + 1) - 1) ≡ at
                = ap₂ (λ b d. if b && d then min c.picture.columns (last + 1) else min c.picture.columns (last + 1) - 1) same stays ∙ omega arith in
                (omega arith, inr there_))
            | inr n ↦ absurd (never stays e n)
          ]
        ])
        | inr ne ↦ (let apart : (last == c.picture.columns) ≡ false = grind (arith, nat_tests) in
            let there_ : (if (last == c.picture.columns) && c.modes.autowrap then min c.picture.columns (last + 1) else min c.picture.columns (last + 1) - 1) ≡ last
            = ap (λ b. if b && c.modes.autowrap then min c.picture.columns (last + 1) else min c.picture.columns (last + 1) - 1) apart ∙ omega arith in
            (omega arith, inl there_))
      ]

  marks_follow : (column : ℕ) → mark_column (there []).picture ≡ column → MarksGo column → (todo done : List ℕ) → AllByRecursion IsMark todo → length done + length todo ≤ 2
      → Goes (there done) (flat_map encode_utf8 todo) (there (done ++ todo))
  marks_follow column is goes [] done are few = record { played = λ reports. (goes_nowhere (there done)).played reports ∙ ap (λ m. on_ground (there m) reports) (sym (append-nil done)) }
  marks_follow column is goes (mark ∷ todo) done are few =
      let mark_is = are.0 in
      let done_row = marked at done row in
      let column_is = marked_at_column row whole at low high open_ done column goes.1 in
      let joins : put mark (there done) ≡ there (done ++ mark ∷ []) =
      mark_put_there (there done) mark column mark_is.no_c1 mark_is.none is goes.0
      ∙ ap (λ r. ended (Some it.character) (put_behind c (with_row line (mark_added column mark r) (with_row line done_row rows)) line last it.rendition)) (row_there line done_row rows line_low line_high)
      ∙ ap (λ rs. ended (Some it.character) (put_behind c rs line last it.rendition)) (row_twice line (mark_added column mark done_row) done_row rows)
      ∙ ap (λ r. ended (Some it.character) (put_behind c (with_row line r rows) line last it.rendition)) (mark_joins row at low high done mark column column_is (omega arith)) in
      let one = given_played laws (there done) mark title (mark_given ascii (set_in_use c.sets) mark mark_is) in
      let longer = length-append done (mark ∷ []) in
      let rest = marks_follow column is goes todo (done ++ mark ∷ []) are.1 (omega arith) in
      let first : Goes (there done) (encode_utf8 mark) (there (done ++ mark ∷ [])) = record { played = λ reports. one.played reports ∙ ap (λ (s : Console). on_ground s reports) joins } in
      let both = goes_on first rest in
      record { played = λ reports. both.played reports ∙ ap (λ m. on_ground (there m) reports) (append_assoc done (mark ∷ []) todo) }

  all_marks : (marks : List ℕ) → it.marks ≡ marks → (c.modes.autowrap ≡ false → last ≡ c.picture.columns → is_wide it ≡ false → it.marks ≡ []) → AllByRecursion IsMark marks → length marks ≤ 2
      → Goes (there []) (flat_map encode_utf8 marks) (there marks)
  all_marks [] is bare are few = goes_nowhere (there [])
  all_marks (mark ∷ marks) is bare are few =
      marks_follow _ refl (goes_to (λ stays ends narrow. (let none = bare stays ends narrow in let some = sym is ∙ none in cc))) (mark ∷ marks) [] are (omega arith)

  pub again_settles : (inserting : Bool) → c.modes.insert ≡ inserting → (c.modes.autowrap ≡ false → last ≡ c.picture.columns → is_wide it ≡ false → it.marks ≡ [])
      → Settles (start rows) (text_where inserting (taken_out_text (is_wide it)) ++ printed it) (ended (Some it.character) (put_behind c rows line last it.rendition))
  unfolding printed characters
  again_settles inserting is bare =
      let first = letter_over inserting is in
      let marks = all_marks it.marks refl bare letter.marks letter.few in
      let both = gone first marks in
      let taken = text_where inserting (taken_out_text (is_wide it)) in
      let text : (taken ++ encode_utf8 it.character) ++ flat_map encode_utf8 it.marks ≡ taken ++ flat_map encode_utf8 (if is_covered it then [] else it.character ∷ it.marks)
      = append_assoc taken (encode_utf8 it.character) (flat_map encode_utf8 it.marks)
      ∙ sym (ap (λ b. taken ++ flat_map encode_utf8 (if b then [] else it.character ∷ it.marks)) open_) in
      let same : there it.marks ≡ ended (Some it.character) (put_behind c rows line last it.rendition)
      = ap (λ r. ended (Some it.character) (put_behind c (with_row line r rows) line last it.rendition)) (own_marks at row)
      ∙ ap (λ rs. ended (Some it.character) (put_behind c rs line last it.rendition)) (own_row line rows) in
      record {
        played = λ l reports.
            ap (λ t. play (on_ground (ended l (start rows)) reports) t) (sym text) ∙ both.played l reports ∙ ap (λ (s : Console). on_ground s reports) same;
      }
