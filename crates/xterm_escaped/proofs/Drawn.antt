-- A row that is drawn on a blank one, character by character from column 1 on.
use Rattle.std.proofs.Common.{◌≡◌, ℕ, ◌+◌, ◌-◌, ◌<◌, ◌≤◌, Bool, true, false, List, [], ◌∷◌, ◌++◌, length, refl, sym, ap, ap₂, inl, inr, ◌∙◌, arith}
use Rattle.std.specs.Prelude.{if◌then◌else◌, ◌==◌, ◌&&◌, nat_le, nat_lt}
use Rattle.std.proofs.lemmas.Bool.{cases_eq, cases_lt, cases_Bool}
use Rattle.std.proofs.lemmas.Bool.Decides.{nat_tests}
use Rattle.sheet.specs.declared.rendition.Colour.{Colour}
use Rattle.sheet.specs.declared.rendition.Colour.TheVariants.{Default}
use Rattle.sheet.specs.declared.rendition.Rendition.{Rendition}
use Rattle.sheet.specs.declared.cell.Kind.{Kind}
use Rattle.sheet.specs.declared.cell.Kind.TheVariants.{Narrow, Wide, Covered}
use Rattle.sheet.specs.Table.{table}
use Rattle.sheet.specs.Cells.{Cell, blank, cell_at, covering, is_covered, is_wide, lettered, with_mark}
use Rattle.sheet.specs.Halves.{Whole, is_half, mended}
use Rattle.sheet.specs.Edits.{character_column, mark_added, put, written}
use Rattle.xterm_escaped.proofs.Tables.{length-table, nth-table, nth_none, nth_past, table_ext, table_is}

-- the cells up to a column, and blank ones right of it
abbrev pub cells_to : ℕ → List Cell → List Cell
cells_to last row = table (length row) (λ column. if nat_le column last then cell_at row column else blank Default)

-- the same row, with these marks in the cell of a column
abbrev pub marked : ℕ → List ℕ → List Cell → List Cell
marked at marks row = table (length row) (λ column. if column == at then record (cell_at row at) { marks = marks } else cell_at row column)

-- ---- what stands at a column

pub blank_narrow : (paper : Colour) → is_wide (blank paper) ≡ false
unfolding is_wide blank
blank_narrow paper = refl

pub blank_open : (paper : Colour) → is_covered (blank paper) ≡ false
unfolding is_covered blank
blank_open paper = refl

pub cell_outside : (row : List Cell) (k : ℕ) → (0 < k → length row < k) → cell_at row k ≡ blank Default
cell_outside row k out =
    elim (cases_lt 0 k) [
      | inl low ↦ nth_past (blank Default) row k (out low)
      | inr high ↦ (let none : k ≡ 0 = omega arith in ap (cell_at row) none ∙ nth_none (blank Default) row)
    ]

-- a table that has blank cells where the row has them
pub cell_there : (row : List Cell) (f : ℕ → Cell) (k : ℕ) → ((0 < k → length row < k) → f k ≡ blank Default) → cell_at (table (length row) f) k ≡ f k
cell_there row f k outside =
    let long = length-table (length row) f in
    elim (cases_lt (length row) k) [
      | inl past ↦ nth_past (blank Default) (table (length row) f) k (omega arith) ∙ sym (outside (λ low. past))
      | inr inside ↦ elim (cases_lt 0 k) [
        | inl low ↦ nth-table (blank Default) (length row) f k low inside
        | inr never ↦
            (let none : k ≡ 0 = omega arith in
            ap (cell_at (table (length row) f)) none ∙ nth_none (blank Default) (table (length row) f) ∙ sym (outside (λ low. absurd (omega arith))))
      ]
    ]

either_blank : (b : Bool) (cell : Cell) → cell ≡ blank Default → (if b then cell else blank Default) ≡ blank Default
either_blank true cell e = e
either_blank false cell e = refl

pub drawn_at : (last : ℕ) (row : List Cell) (k : ℕ) → cell_at (cells_to last row) k ≡ (if nat_le k last then cell_at row k else blank Default)
drawn_at last row k = cell_there row _ k (λ out. either_blank (nat_le k last) (cell_at row k) (cell_outside row k out))

pub marked_at : (at : ℕ) (marks : List ℕ) (row : List Cell) (k : ℕ) → 1 ≤ at → at ≤ length row
    → cell_at (marked at marks row) k ≡ (if k == at then record (cell_at row at) { marks = marks } else cell_at row k)
marked_at at marks row k low high = cell_there row _ k (λ out.
    let none = cell_outside row k out in
    elim (cases_lt 0 k) [
      | inl some ↦ (let past = out some in grind (arith, nat_tests))
      | inr never ↦ grind (arith, nat_tests)
    ])

-- ---- whole rows

-- a cut that parts no character leaves a row whole
pub whole_to : (last : ℕ) (row : List Cell) → Whole row → is_wide (cell_at row last) ≡ false → Whole (cells_to last row)
whole_to last row whole between k =
    ap is_covered (drawn_at last row (k + 1)) ∙ here ∙ ap is_wide (sym (drawn_at last row k))
  where
    here : is_covered (if nat_le (k + 1) last then cell_at row (k + 1) else blank Default) ≡ is_wide (if nat_le k last then cell_at row k else blank Default)
    here =
        let right = whole k in
        let open_ = blank_open Default in
        let narrow = blank_narrow Default in
        elim (cases_lt k last) [
          | inl inside ↦ grind (arith, nat_tests)
          | inr past ↦ elim (cases_eq k last) [
            | inl e ↦ (let same = ap (λ j. is_wide (cell_at row j)) e in grind (arith, nat_tests))
            | inr ne ↦ grind (arith, nat_tests)
          ]
        ]

same_wide : (cell : Cell) (marks : List ℕ) → is_wide (record cell { marks = marks }) ≡ is_wide cell
unfolding is_wide
same_wide cell marks = refl

same_covered : (cell : Cell) (marks : List ℕ) → is_covered (record cell { marks = marks }) ≡ is_covered cell
unfolding is_covered
same_covered cell marks = refl

chosen_wide : (b : Bool) (cell other : Cell) → is_wide cell ≡ is_wide other → is_wide (if b then cell else other) ≡ is_wide other
chosen_wide true cell other e = e
chosen_wide false cell other e = refl

chosen_covered : (b : Bool) (cell other : Cell) → is_covered cell ≡ is_covered other → is_covered (if b then cell else other) ≡ is_covered other
chosen_covered true cell other e = e
chosen_covered false cell other e = refl

pub marked_wide : (at : ℕ) (marks : List ℕ) (row : List Cell) (k : ℕ) → 1 ≤ at → at ≤ length row → is_wide (cell_at (marked at marks row) k) ≡ is_wide (cell_at row k)
marked_wide at marks row k low high =
    ap is_wide (marked_at at marks row k low high)
    ∙ elim (cases_eq k at) [
      | inl e ↦ chosen_wide (k == at) (record (cell_at row at) { marks = marks }) (cell_at row k) (same_wide (cell_at row at) marks ∙ ap (λ j. is_wide (cell_at row j)) (sym e))
      | inr ne ↦ (let apart : (k == at) ≡ false = grind (arith, nat_tests) in ap (λ b. is_wide (if b then record (cell_at row at) { marks = marks } else cell_at row k)) apart)
    ]

pub marked_covered : (at : ℕ) (marks : List ℕ) (row : List Cell) (k : ℕ) → 1 ≤ at → at ≤ length row → is_covered (cell_at (marked at marks row) k) ≡ is_covered (cell_at row k)
marked_covered at marks row k low high =
    ap is_covered (marked_at at marks row k low high)
    ∙ elim (cases_eq k at) [
      | inl e ↦ chosen_covered (k == at) (record (cell_at row at) { marks = marks }) (cell_at row k) (same_covered (cell_at row at) marks ∙ ap (λ j. is_covered (cell_at row j)) (sym e))
      | inr ne ↦ (let apart : (k == at) ≡ false = grind (arith, nat_tests) in ap (λ b. is_covered (if b then record (cell_at row at) { marks = marks } else cell_at row k)) apart)
    ]

pub whole_marked : (at : ℕ) (marks : List ℕ) (row : List Cell) → Whole row → 1 ≤ at → at ≤ length row → Whole (marked at marks row)
whole_marked at marks row whole low high k =
    marked_covered at marks row (k + 1) low high ∙ whole k ∙ sym (marked_wide at marks row k low high)

-- a whole row has nothing to mend
kept : (before cell after : Cell) (paper : Colour) → is_covered after ≡ is_wide cell → is_covered cell ≡ is_wide before
    → (if is_half before cell after then blank paper else cell) ≡ cell
kept before cell after paper right left = elim (cases_Bool (is_wide cell)) [
  | inl wide ↦ elim (cases_Bool (is_covered cell)) [ inl covered ↦ simp (wide, covered, right, sym left) | inr open_ ↦ simp (wide, open_, right) ]
  | inr narrow ↦ elim (cases_Bool (is_covered cell)) [ inl covered ↦ simp (narrow, covered, sym left) | inr open_ ↦ simp (narrow, open_) ]
]

pub mended_whole : (paper : Colour) (row : List Cell) → Whole row → mended paper row ≡ row
mended_whole paper row whole =
    table_ext (length row) _ (cell_at row) (λ k low high.
    let next : k - 1 + 1 ≡ k = omega arith in
    kept (cell_at row (k - 1)) (cell_at row k) (cell_at row (k + 1)) paper (whole k) (ap (λ j. is_covered (cell_at row j)) (sym next) ∙ whole (k - 1)))
    ∙ sym (table_is (blank Default) row)

-- ---- one character

-- the last column of the character that begins at a column
abbrev pub end_of : ℕ → List Cell → ℕ
end_of at row = if is_wide (cell_at row at) then at + 1 else at

by_kind : (kind : Kind) (character : ℕ) (rendition : Rendition) (marks : List ℕ)
    → is_covered (record { kind = kind; character = character; marks = marks; rendition = rendition }) ≡ false
    → lettered character (is_wide (record { kind = kind; character = character; marks = marks; rendition = rendition })) rendition
    ≡ record { kind = kind; character = character; marks = []; rendition = rendition }
unfolding lettered is_wide is_covered
by_kind Narrow character rendition marks open_ = refl
by_kind Wide character rendition marks open_ = refl
by_kind Covered character rendition marks open_ = absurd cc

-- its cell without marks
pub letter_of : (cell : Cell) → is_covered cell ≡ false → lettered cell.character (is_wide cell) cell.rendition ≡ record cell { marks = [] }
letter_of cell open_ = by_kind cell.kind cell.character cell.rendition cell.marks open_

pub covering_narrow : (rendition : Rendition) → is_wide (covering rendition) ≡ false
unfolding is_wide covering
covering_narrow rendition = refl

-- it is written behind those before it ..
pub letter_drawn : (at : ℕ) (row : List Cell) → Whole row → 1 ≤ at → at ≤ length row → is_covered (cell_at row at) ≡ false
    → (is_wide (cell_at row at) ≡ true → cell_at row (at + 1) ≡ covering (cell_at row at).rendition)
    → put at (cell_at row at).character (is_wide (cell_at row at)) (cell_at row at).rendition (cells_to (at - 1) row)
    ≡ cells_to (end_of at row) (marked at [] row)
letter_drawn at row whole low high open_ covers =
    let cell = cell_at row at in
    let bare = marked at [] row in
    let new = cells_to (end_of at row) bare in
    let old = cells_to (at - 1) row in
    let same : written at cell.character (is_wide cell) cell.rendition old ≡ new =
    ap (λ n. table n (λ column. if column == at then lettered cell.character (is_wide cell) cell.rendition
    else (if is_wide cell && column == at + 1 then covering cell.rendition else cell_at old column))) (length-table (length row) _)
    ∙ table_ext (length row) _ _ (λ k klow khigh. here k)
    ∙ ap (λ n. table n (λ column. if nat_le column (end_of at row) then cell_at bare column else blank Default)) (sym (length-table (length row) _)) in
    let narrow : is_wide (cell_at bare (end_of at row)) ≡ false = marked_wide at [] row (end_of at row) low high ∙ end_narrow in
    ap (mended cell.rendition.paper) same
    ∙ mended_whole cell.rendition.paper new (whole_to (end_of at row) bare (whole_marked at [] row whole low high) narrow)
  where
    end_narrow : is_wide (cell_at row (end_of at row)) ≡ false
    end_narrow = elim (cases_Bool (is_wide (cell_at row at))) [
      | inl wide ↦ (let e = covers wide in let c = covering_narrow (cell_at row at).rendition in
          ap (λ b. is_wide (cell_at row (if b then at + 1 else at))) wide ∙ ap is_wide e ∙ c)
      | inr narrow ↦ ap (λ b. is_wide (cell_at row (if b then at + 1 else at))) narrow ∙ narrow
    ]

    here : (k : ℕ) → (if k == at then lettered (cell_at row at).character (is_wide (cell_at row at)) (cell_at row at).rendition
        else (if is_wide (cell_at row at) && k == at + 1 then covering (cell_at row at).rendition else cell_at (cells_to (at - 1) row) k))
        ≡ (if nat_le k (end_of at row) then cell_at (marked at [] row) k else blank Default)
    here k =
        let letter = letter_of (cell_at row at) open_ in
        let drawn = drawn_at (at - 1) row k in
        let there = marked_at at [] row k low high in
        elim (cases_Bool (is_wide (cell_at row at))) [
          | inl wide ↦ (let covered = covers wide in
              elim (cases_eq k at) [
                | inl e ↦ grind (arith, nat_tests)
                | inr ne ↦ elim (cases_eq k (at + 1)) [
                  | inl next ↦ (let same = ap (cell_at row) next in grind (arith, nat_tests))
                  | inr other ↦ elim (cases_lt k at) [ inl before ↦ grind (arith, nat_tests) | inr behind ↦ grind (arith, nat_tests) ]
                ]
              ])
          | inr narrow ↦ elim (cases_eq k at) [
            | inl e ↦ grind (arith, nat_tests)
            | inr ne ↦ elim (cases_lt k at) [ inl before ↦ grind (arith, nat_tests) | inr behind ↦ grind (arith, nat_tests) ]
          ]
        ]

-- .. and then a mark joins it, ..
pub one_more : (cell : Cell) (marks : List ℕ) (mark : ℕ) → length marks < 2
    → with_mark mark (record cell { marks = marks }) ≡ record cell { marks = marks ++ mark ∷ [] }
unfolding with_mark
one_more cell marks mark few =
    let room : nat_lt (length marks) 2 ≡ true = grind (arith, nat_tests) in
    ap (λ b. let c : Cell = record cell { marks = (if b then marks ++ mark ∷ [] else marks) } in c) room

pub mark_drawn : (at mark : ℕ) (marks : List ℕ) (row : List Cell) → Whole row → 1 ≤ at → at ≤ length row → is_covered (cell_at row at) ≡ false
    → length marks < 2
    → mark_added (end_of at row) mark (cells_to (end_of at row) (marked at marks row)) ≡ cells_to (end_of at row) (marked at (marks ++ mark ∷ []) row)
mark_drawn at mark marks row whole low high open_ few =
    let now_ = cells_to (end_of at row) (marked at marks row) in
    ap₂ (λ n c. table n (λ column. if column == c then with_mark mark (cell_at now_ column) else cell_at now_ column))
    (length-table (length (marked at marks row)) _ ∙ length-table (length row) _) column_is
    ∙ table_ext (length row) _ _ (λ k klow khigh. here k)
    ∙ ap (λ n. table n (λ column. if nat_le column (end_of at row) then cell_at (marked at (marks ++ mark ∷ []) row) column else blank Default)) (sym (length-table (length row) _))
  where
    end_low : at ≤ end_of at row
    end_low = elim (cases_Bool (is_wide (cell_at row at))) [ inl wide ↦ grind (arith, nat_tests) | inr narrow ↦ grind (arith, nat_tests) ]

    column_is : character_column (end_of at row) (cells_to (end_of at row) (marked at marks row)) ≡ at
    column_is =
        let drawn = drawn_at (end_of at row) (marked at marks row) (end_of at row) in
        let inside : nat_le (end_of at row) (end_of at row) ≡ true = grind (arith, nat_tests) in
        let covered = marked_covered at marks row (end_of at row) low high in
        let kind : is_covered (cell_at (cells_to (end_of at row) (marked at marks row)) (end_of at row)) ≡ is_covered (cell_at row (end_of at row))
        = ap is_covered (drawn ∙ ap (λ b. if b then cell_at (marked at marks row) (end_of at row) else blank Default) inside) ∙ covered in
        ap (λ b. if b then end_of at row - 1 else end_of at row) kind
        ∙ elim (cases_Bool (is_wide (cell_at row at))) [
          | inl wide ↦ (let right = whole at in let e : end_of at row ≡ at + 1 = ap (λ b. if b then at + 1 else at) wide in
              let is : is_covered (cell_at row (end_of at row)) ≡ true = ap (λ j. is_covered (cell_at row j)) e ∙ right ∙ wide in
              ap (λ b. if b then end_of at row - 1 else end_of at row) is ∙ omega arith)
          | inr narrow ↦ (let e : end_of at row ≡ at = ap (λ b. if b then at + 1 else at) narrow in
              let is : is_covered (cell_at row (end_of at row)) ≡ false = ap (λ j. is_covered (cell_at row j)) e ∙ open_ in
              ap (λ b. if b then end_of at row - 1 else end_of at row) is ∙ e)
        ]

    here : (k : ℕ) → (if k == at then with_mark mark (cell_at (cells_to (end_of at row) (marked at marks row)) k)
        else cell_at (cells_to (end_of at row) (marked at marks row)) k)
        ≡ (if nat_le k (end_of at row) then cell_at (marked at (marks ++ mark ∷ []) row) k else blank Default)
    here k =
        let drawn = drawn_at (end_of at row) (marked at marks row) k in
        let was = marked_at at marks row k low high in
        let is = marked_at at (marks ++ mark ∷ []) row k low high in
        let more = one_more (cell_at row at) marks mark few in
        let reach = end_low in
        elim (cases_eq k at) [
          | inl e ↦ (let within : nat_le k (end_of at row) ≡ true = grind (arith, nat_tests) in let same : (k == at) ≡ true = grind (arith, nat_tests) in
              let cell : cell_at (cells_to (end_of at row) (marked at marks row)) k ≡ record (cell_at row at) { marks = marks }
              = drawn ∙ ap (λ b. if b then cell_at (marked at marks row) k else blank Default) within ∙ was
              ∙ ap (λ b. if b then record (cell_at row at) { marks = marks } else cell_at row k) same in
              ap (λ b. if b then with_mark mark (cell_at (cells_to (end_of at row) (marked at marks row)) k) else cell_at (cells_to (end_of at row) (marked at marks row)) k) same
              ∙ ap (with_mark mark) cell ∙ more
              ∙ sym (ap (λ b. if b then cell_at (marked at (marks ++ mark ∷ []) row) k else blank Default) within ∙ is
              ∙ ap (λ b. if b then record (cell_at row at) { marks = marks ++ mark ∷ [] } else cell_at row k) same))
          | inr ne ↦ (let apart : (k == at) ≡ false = grind (arith, nat_tests) in
              ap (λ b. if b then with_mark mark (cell_at (cells_to (end_of at row) (marked at marks row)) k) else cell_at (cells_to (end_of at row) (marked at marks row)) k) apart
              ∙ drawn
              ∙ ap (λ c. if nat_le k (end_of at row) then c else blank Default)
              (was ∙ ap (λ b. if b then record (cell_at row at) { marks = marks } else cell_at row k) apart
              ∙ sym (is ∙ ap (λ b. if b then record (cell_at row at) { marks = marks ++ mark ∷ [] } else cell_at row k) apart)))
        ]

-- .. and with all of its marks it is the row's own
pub own_marks : (at : ℕ) (row : List Cell) → marked at (cell_at row at).marks row ≡ row
own_marks at row =
    table_ext (length row) _ (cell_at row) (λ k low high. elim (cases_eq k at) [
      | inl e ↦ (let same : (k == at) ≡ true = grind (arith, nat_tests) in
          ap (λ b. if b then cell_at row at else cell_at row k) same ∙ ap (cell_at row) (sym e))
      | inr ne ↦ (let apart : (k == at) ≡ false = grind (arith, nat_tests) in ap (λ b. if b then cell_at row at else cell_at row k) apart)
    ])
    ∙ sym (table_is (blank Default) row)

-- ---- none and all

pub none_drawn : (row : List Cell) → table (length row) (λ _. blank Default) ≡ cells_to 0 row
none_drawn row = table_ext (length row) _ _ (λ k low high. grind (arith, nat_tests))

pub all_drawn : (last : ℕ) (row : List Cell) → ((k : ℕ) → last < k → k ≤ length row → cell_at row k ≡ blank Default) → cells_to last row ≡ row
all_drawn last row right =
    table_ext (length row) _ (cell_at row) (λ k low high. elim (cases_lt last k) [
      | inl past ↦ (let e = right k past high in grind (arith, nat_tests))
      | inr within ↦ grind (arith, nat_tests)
    ])
    ∙ sym (table_is (blank Default) row)
