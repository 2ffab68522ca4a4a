-- Names of slots that turn, rows that become blank, and where rows came from.
use Rattle.std.proofs.Common.{◌≡◌, ◌≢◌, ℕ, ◌+◌, ◌-◌, ◌<◌, ◌≤◌, ◌⊎◌, Bool, false, List, [], length, min, get_or, set, refl, sym, ap, ap₂, inl, inr, ◌∙◌, subst, arith, rules}
use Rattle.std.specs.Prelude.{if◌then◌else◌, ◌&&◌, nat_le, nat_lt}
use Rattle.std.specs.List.{RotatedLeft}
use Rattle.std.proofs.lemmas.Bool.{cases_eq, cases_lt}
use Rattle.std.proofs.lemmas.Bool.Decides.{nat_tests}
use Rattle.std.proofs.lemmas.List.{length-set, places, get_or-set_same, get_or-set_other}
use borrow.Rule.Slice.PartMut.{put_mid, mid_of}
use Rattle.sheet.specs.Cells.{Cell}
use Rattle.sheet.specs.declared.rendition.Colour.TheVariants.{Default}
use Rattle.sheet.specs.Table.{table}
use Rattle.sheet.specs.Cells.{blank, is_covered, is_wide}
use Rattle.sheet.specs.Halves.{Whole}
use Rattle.sheet.specs.Grid.{Grid, Told, lines_filled, no_origins, origin_of, row_at, row_of, unknown_from}
use Rattle.sheet.specs.Held.{Held, LinesFilled, Once, SlotsStayOrFill, Sound, grid_of, line_below, row_in, rows_of, slot_at, turned_up}
use Rattle.sheet.proofs.Tables.{length-table, nth-table, nth-table_any, nth_is, table_ext, is_table, get_or-set, nth-set}
use Rattle.sheet.proofs.Rows.{blank_narrow, blank_open}
use Rattle.sheet.proofs.Index.{known_high, known_low, row_there}

pub row_of_whole : (columns : ℕ) (cell : Cell) → is_wide cell ≡ false → is_covered cell ≡ false → Whole (row_of columns cell)
row_of_whole columns cell narrow uncovered k =
    let here = nth-table_any (blank Default) columns (λ _. cell) k in
    let next = nth-table_any (blank Default) columns (λ _. cell) (k + 1) in
    let n3 = blank_narrow Default in
    let n4 = blank_open Default in
    grind (arith, nat_tests)

-- the names as the code turns them
pub names_turned : (order part : List ℕ) (n top bottom : ℕ) → 1 ≤ top → top ≤ bottom → bottom ≤ length order
    → top + n ≤ bottom + 1 → length part ≡ length (mid_of (top - 1) (bottom - (top - 1)) order)
    → RotatedLeft (mid_of (top - 1) (bottom - (top - 1)) order) part (length (mid_of (top - 1) (bottom - (top - 1)) order)) n
    → put_mid (top - 1) (bottom - (top - 1)) order part ≡ turned_up n top bottom order
names_turned order part n top bottom low apart high room len rotated =
    let mid = mid_of (top - 1) (bottom - (top - 1)) order in
    let len_mid : length mid ≡ bottom - (top - 1) = search (rules, places) in
    is_table 0 (length order) _ (λ line. slot_at order (line_below n top bottom line)) (search (rules, places)) (λ line llow lhigh.
    let k = line - 1 in
    let source = line_below n top bottom line in
    let read : slot_at order source ≡ get_or order (source - 1) 0 = nth_is 0 order source (grind (arith, nat_tests)) in
    nth_is 0 _ line llow ∙ (elim (cases_lt k (top - 1)) [
      | inl above ↦ (let here : get_or (put_mid (top - 1) (bottom - (top - 1)) order part) k 0 ≡ get_or order k 0 = grind (arith, places) in
          let same : source - 1 ≡ k = grind (arith, nat_tests) in
          here ∙ ap (λ (i : ℕ). get_or order i 0) (sym same) ∙ sym read)
      | inr from ↦ elim (cases_lt k bottom) [
        | inl within ↦
            let here : get_or (put_mid (top - 1) (bottom - (top - 1)) order part) k 0 ≡ get_or part (k - (top - 1)) 0 = grind (arith, places) in
            elim (cases_lt (k - (top - 1) + n) (bottom - (top - 1))) [
              | inl stays ↦ (let turned = rotated.0 (k - (top - 1)) 0 (omega arith) in
                  let there : get_or mid (k - (top - 1) + n) 0 ≡ get_or order (k + n) 0 = grind (arith, places) in
                  let same : source - 1 ≡ k + n = grind (arith, nat_tests) in
                  here ∙ turned ∙ there ∙ ap (λ (i : ℕ). get_or order i 0) (sym same) ∙ sym read)
              | inr comes ↦ (let turned = rotated.1 (k - (top - 1)) 0 (omega arith) (omega arith) in
                  let there : get_or mid (k - (top - 1) + n - length mid) 0 ≡ get_or order (k + n - (bottom - (top - 1))) 0 = grind (arith, places) in
                  let same : source - 1 ≡ k + n - (bottom - (top - 1)) = grind (arith, nat_tests) in
                  here ∙ turned ∙ there ∙ ap (λ (i : ℕ). get_or order i 0) (sym same) ∙ sym read)
            ]
        | inr past ↦ (let here : get_or (put_mid (top - 1) (bottom - (top - 1)) order part) k 0 ≡ get_or order k 0 = grind (arith, places) in
            let same : source - 1 ≡ k = grind (arith, nat_tests) in
            here ∙ ap (λ (i : ℕ). get_or order i 0) (sym same) ∙ sym read)
      ]
    ]))

-- each line has a slot of its own still
module _ (order : List ℕ) (n top bottom : ℕ) (once : Once order) (low : 1 ≤ top) (room : top + n ≤ bottom + 1) (apart : top ≤ bottom) (high : bottom ≤ length order) where
  source_low : (k : ℕ) → 1 ≤ k → 1 ≤ line_below n top bottom k
  source_low k klow = grind (arith, nat_tests)

  source_high : (k : ℕ) → k ≤ length order → line_below n top bottom k ≤ length order
  source_high k khigh = grind (arith, nat_tests)

  source_once : (j k : ℕ) → line_below n top bottom j ≡ line_below n top bottom k → j ≡ k
  source_once j k same = grind (arith, nat_tests)

  pub slot_turned : (k : ℕ) → 1 ≤ k → k ≤ length order → slot_at (turned_up n top bottom order) k ≡ slot_at order (line_below n top bottom k)
  slot_turned k klow khigh = nth-table 0 (length order) (λ line. slot_at order (line_below n top bottom line)) k klow khigh

  pub once_turned : Once (turned_up n top bottom order)
  once_turned =
      let len : length (turned_up n top bottom order) ≡ length order = length-table (length order) _ in
      record {
        named = λ k.
            let any = nth-table_any 0 (length order) (λ line. slot_at order (line_below n top bottom line)) k in
            let there = once.named (line_below n top bottom k) in
            grind (arith, nat_tests);
        apart = λ j k jlow jhigh klow khigh same.
            let j_in : j ≤ length order = omega arith in
            let k_in : k ≤ length order = omega arith in
            source_once j k (once.apart (line_below n top bottom j) (line_below n top bottom k) (source_low j jlow) (source_high j j_in) (source_low k klow) (source_high k k_in)
            (sym (slot_turned j jlow j_in) ∙ same ∙ slot_turned k klow k_in));
      }

-- Rows that are filled, one line after another.
module _ (cell : Cell) (order : List ℕ) (old : List (List Cell)) (once : Once order) where
  pub filled_none : (first : ℕ) → LinesFilled first first cell order old old
  filled_none first k klow khigh = grind (arith, nat_tests)

  pub filled_more : (first line slot : ℕ) (was : List (List Cell)) (row new : List Cell) → 1 ≤ line → line ≤ length order → length was ≡ length order → first ≤ line
      → slot ≡ slot_at order line → row ≡ row_in was slot → new ≡ row_of (length row) cell
      → LinesFilled first line cell order old was → LinesFilled first (line + 1) cell order old (set was slot new)
  filled_more first line slot was row new low high len from is_slot is_row is_new filled k klow khigh =
      let before = filled k klow khigh in
      let inside : slot < length was = omega (arith, once.named line) in
      let written = get_or-set [] was slot new (slot_at order k) inside in
      elim (cases_eq k line) [
        | inl same ↦
            let e : slot_at order k ≡ slot = ap (slot_at order) same ∙ sym is_slot in
            let was_row : row ≡ row_in old (slot_at order k) = is_row ∙ ap (row_in was) (sym e) ∙ before ∙ grind (arith, nat_tests) in
            let now : new ≡ row_of (length (row_in old (slot_at order k))) cell = is_new ∙ ap (λ (r : List Cell). row_of (length r) cell) was_row in
            grind (arith, nat_tests)
        | inr other ↦
            let e : slot_at order k ≢ slot = λ f. other (once.apart k line klow khigh low high (f ∙ is_slot)) in
            grind (arith, nat_tests)
      ]

  pub stay_none : SlotsStayOrFill cell old old
  stay_none slot = inl refl

  pub stay_more : (was : List (List Cell)) (slot : ℕ) (row new : List Cell) → slot < length was → row ≡ row_in was slot → new ≡ row_of (length row) cell
      → SlotsStayOrFill cell old was → SlotsStayOrFill cell old (set was slot new)
  stay_more was slot row new inside is_row is_new stay at =
      elim (cases_eq at slot) [
        | inl same ↦
            let written : row_in (set was slot new) at ≡ new = ap (row_in (set was slot new)) same ∙ get_or-set_same was slot new [] inside in
            let row_at_slot : row ≡ row_in was at = is_row ∙ ap (row_in was) (sym same) in
            inr (written ∙ is_new ∙ ap (λ (m : ℕ). row_of m cell) (ap length row_at_slot ∙ same_length at (stay at)))
        | inr other ↦
            let written : row_in (set was slot new) at ≡ row_in was at = get_or-set_other was slot at new [] other in
            (elim (stay at) [ inl e ↦ inl (written ∙ e) | inr e ↦ inr (written ∙ e) ])
      ]
    where
      same_length : (at : ℕ) → (row_in was at ≡ row_in old at) ⊎ (row_in was at ≡ row_of (length (row_in old at)) cell) → length (row_in was at) ≡ length (row_in old at)
      same_length at (inl e) = ap length e
      same_length at (inr e) = ap length e ∙ length-table (length (row_in old at)) _

-- Lines whose origins are forgotten, one after another.
pub unknown_none : (first : ℕ) (origins : List ℕ) → origins ≡ unknown_from first first origins
unknown_none first origins = is_table 0 (length origins) _ _ refl (λ k low high. grind (arith, nat_tests))

pub unknown_more : (first line : ℕ) (origins was : List ℕ) → 1 ≤ line → line ≤ length origins → first ≤ line → was ≡ unknown_from first line origins
    → set was (line - 1) 0 ≡ unknown_from first (line + 1) origins
unknown_more first line origins was low high from is_was =
    let f : ℕ → ℕ = λ k. if nat_le first k && nat_lt k line then 0 else origin_of origins k in
    ap (λ (os : List ℕ). set os (line - 1) 0) is_was
    ∙ is_table 0 (length origins) _ _ (length-set (unknown_from first line origins) (line - 1) 0 ∙ length-table (length origins) f) (λ k klow khigh.
    let len = length-table (length origins) f in
    let was_there = nth-table 0 (length origins) f k klow khigh in
    let written = nth-set 0 (unknown_from first line origins) (line - 1) 0 k (omega arith) klow in
    grind (arith, nat_tests))

-- A scroll, as the body leaves it: names and origins that turned, and lines that are blank. The rows it leads to are told by line.
module _ (held : Held) (old : Grid) (sound : Sound held) (seen : grid_of held ≡ old) (turn top bottom first last : ℕ) (cell : Cell) (narrow : is_wide cell ≡ false) (uncovered : is_covered cell ≡ false)
    (low : 1 ≤ top) (apart : top ≤ bottom) (high : bottom ≤ old.lines) (room : top + turn ≤ bottom + 1)
    (order : List ℕ) (is_turned : order ≡ turned_up turn top bottom held.order)
    (slots : List (List Cell)) (blanked : LinesFilled first last cell order held.slots slots) (stay : SlotsStayOrFill cell held.slots slots)
    (origins : List ℕ) (is_origins : origins ≡ unknown_from first last (turned_up turn top bottom held.origins))
    (line_of : List Cell → List (List Cell) → ℕ → List Cell)
    (each : (empty : List Cell) (rows : List (List Cell)) (k : ℕ) → (if nat_le first k && nat_lt k last then empty else row_at rows (line_below turn top bottom k)) ≡ line_of empty rows k) where
  abbrev pub after : Held
  after = record { columns = held.columns; order = order; slots = slots; origins = origins }

  lines : old.lines ≡ length held.order
  lines = ap (λ (g : Grid). g.lines) (sym seen)

  row_count : length old.rows ≡ length held.order
  row_count = ap (λ (g : Grid). length g.rows) (sym seen) ∙ length-table (length held.order) (λ k. row_in held.slots (slot_at held.order k))

  same_lines : length order ≡ length held.order
  same_lines = ap length is_turned ∙ length-table (length held.order) _

  inside : bottom ≤ length held.order
  inside = omega (arith, lines)

  scrolled_at : (k : ℕ) → 1 ≤ k → k ≤ length held.order → row_in slots (slot_at order k) ≡ line_of (row_of held.columns cell) (rows_of held) k
  scrolled_at k klow khigh =
      let source = line_below turn top bottom k in
      let slow : 1 ≤ source = source_low held.order turn top bottom sound.once low room apart inside k klow in
      let shigh : source ≤ length held.order = source_high held.order turn top bottom sound.once low room apart inside k khigh in
      let name : slot_at order k ≡ slot_at held.order source = ap (λ (names : List ℕ). slot_at names k) is_turned ∙ slot_turned held.order turn top bottom sound.once low room apart inside k klow khigh in
      let there : row_in held.slots (slot_at order k) ≡ row_at (rows_of held) source = ap (row_in held.slots) name ∙ sym (row_there held source slow shigh) in
      let len : length (row_in held.slots (slot_at order k)) ≡ held.columns = ap (λ (s : ℕ). length (row_in held.slots s)) name ∙ sound.cells (slot_at held.order source) (sound.once.named source) in
      let empty : row_of (length (row_in held.slots (slot_at order k))) cell ≡ row_of held.columns cell = ap (λ (m : ℕ). row_of m cell) len in
      blanked k klow (omega (arith, same_lines))
      ∙ ap₂ (λ (e r : List Cell). if nat_le first k && nat_lt k last then e else r) empty there
      ∙ each (row_of held.columns cell) (rows_of held) k

  pub scrolled_rows : rows_of after ≡ table (length old.rows) (line_of (row_of old.columns cell) old.rows)
  scrolled_rows =
      ap (λ (m : ℕ). table m (λ k. row_in slots (slot_at order k))) same_lines
      ∙ table_ext (length held.order) _ _ scrolled_at
      ∙ sym (ap (λ (m : ℕ). table m (line_of (row_of held.columns cell) (rows_of held))) (length-table (length held.order) _))
      ∙ ap (λ (g : Grid). table (length g.rows) (line_of (row_of g.columns cell) g.rows)) seen

  length_turned : length (turned_up turn top bottom held.origins) ≡ length held.order
  length_turned = length-table (length held.origins) _ ∙ sound.origins

  length_origins : length origins ≡ length held.order
  length_origins = ap length is_origins ∙ length-table (length (turned_up turn top bottom held.origins)) _ ∙ length_turned

  pub scrolled_sound : length slots ≡ length held.slots → Sound after
  scrolled_sound len = record {
    columns_low = sound.columns_low;
    columns_high = sound.columns_high;
    lines_low = omega (arith, same_lines, sound.lines_low);
    lines_high = omega (arith, same_lines, sound.lines_high);
    slots = len ∙ sound.slots ∙ sym same_lines;
    origins = length_origins ∙ sym same_lines;
    once = subst Once (sym is_turned) (once_turned held.order turn top bottom sound.once low room apart inside);
    cells = λ slot below. cells_in slot (omega (arith, same_lines)) (stay slot);
    whole = λ slot below. whole_in slot (omega (arith, same_lines)) (stay slot);
  }
    where
      cells_in : (slot : ℕ) → slot < length held.order → (row_in slots slot ≡ row_in held.slots slot) ⊎ (row_in slots slot ≡ row_of (length (row_in held.slots slot)) cell) → length (row_in slots slot) ≡ held.columns
      cells_in slot below (inl e) = ap length e ∙ sound.cells slot below
      cells_in slot below (inr e) = ap length e ∙ length-table (length (row_in held.slots slot)) _ ∙ sound.cells slot below

      whole_in : (slot : ℕ) → slot < length held.order → (row_in slots slot ≡ row_in held.slots slot) ⊎ (row_in slots slot ≡ row_of (length (row_in held.slots slot)) cell) → Whole (row_in slots slot)
      whole_in slot below (inl e) = subst Whole (sym e) (sound.whole slot below)
      whole_in slot below (inr e) = subst Whole (sym e) (row_of_whole (length (row_in held.slots slot)) cell narrow uncovered)

  pub scrolled_told : (before : List (List Cell)) → Told before old → Told before (grid_of after)
  scrolled_told before told k known =
      let source = line_below turn top bottom k in
      let empty = row_of old.columns cell in
      let turned = turned_up turn top bottom held.origins in
      let klow : 1 ≤ k = known_low origins k known in
      let kin : k ≤ length held.order = omega (arith, known_high origins k known, length_origins) in
      let here : origin_of origins k ≡ (if nat_le first k && nat_lt k last then 0 else origin_of turned k) =
      ap (λ (os : List ℕ). origin_of os k) is_origins ∙ nth-table 0 (length turned) _ k klow (omega (arith, length_turned)) in
      let there : origin_of turned k ≡ origin_of held.origins source = nth-table 0 (length held.origins) (λ line. slot_at held.origins (line_below turn top bottom line)) k klow (omega (arith, sound.origins)) in
      let out : (nat_le first k && nat_lt k last) ≡ false = grind (arith, nat_tests) in
      let came : origin_of origins k ≡ origin_of old.origins source = here ∙ ap (λ (b : Bool). if b then 0 else origin_of turned k) out ∙ there ∙ ap (λ (g : Grid). origin_of g.origins source) seen in
      ap (λ (rows : List (List Cell)). row_at rows k) scrolled_rows
      ∙ nth-table [] (length old.rows) (line_of empty old.rows) k klow (omega (arith, row_count))
      ∙ sym (each empty old.rows k)
      ∙ ap (λ (b : Bool). if b then empty else row_at old.rows source) out
      ∙ told source (omega (arith, came)) ∙ ap (row_at before) (sym came)

-- what the lines become, up and down by a count: n, or all of the lines
module _ (n count top bottom : ℕ) (low : 1 ≤ top) (apart : top ≤ bottom) (few : count ≡ min n (bottom + 1 - top)) where
  abbrev pub line_up : List Cell → List (List Cell) → ℕ → List Cell
  line_up empty rows line = if nat_le top line && nat_le line bottom then (if nat_le (line + n) bottom then row_at rows (line + n) else empty) else row_at rows line

  abbrev pub line_down : List Cell → List (List Cell) → ℕ → List Cell
  line_down empty rows line = if nat_le top line && nat_le line bottom then (if nat_le (top + n) line then row_at rows (line - n) else empty) else row_at rows line

  pub each_up : (empty : List Cell) (rows : List (List Cell)) (k : ℕ) → (if nat_le (bottom + 1 - count) k && nat_lt k (bottom + 1) then empty else row_at rows (line_below count top bottom k)) ≡ line_up empty rows k
  each_up empty rows k = grind (arith, nat_tests)

  pub each_down : (empty : List Cell) (rows : List (List Cell)) (k : ℕ) → (if nat_le top k && nat_lt k (top + count) then empty else row_at rows (line_below (bottom + 1 - top - count) top bottom k)) ≡ line_down empty rows k
  each_down empty rows k = grind (arith, nat_tests)

-- as many lines as are seen
pub lines_of : (held : Held) (old : Grid) → grid_of held ≡ old → old.lines ≡ length held.order
lines_of held old seen = ap (λ (g : Grid). g.lines) (sym seen)

-- and as many rows
pub rows_counted : (held : Held) (old : Grid) → grid_of held ≡ old → length old.rows ≡ old.lines
rows_counted held old seen =
    ap (λ (g : Grid). length g.rows) (sym seen) ∙ length-table (length held.order) (λ k. row_in held.slots (slot_at held.order k)) ∙ ap (λ (g : Grid). g.lines) seen

pub length-turned : (n top bottom : ℕ) (order : List ℕ) → length (turned_up n top bottom order) ≡ length order
length-turned n top bottom order = length-table (length order) _

-- What lines become that are filled where they lie.
pub turned_none : (bottom : ℕ) (order : List ℕ) → order ≡ turned_up 0 1 bottom order
turned_none bottom order = is_table 0 (length order) order _ refl (λ k low high. grind (arith, nat_tests))

module _ (from to : ℕ) where
  abbrev pub line_filled : List Cell → List (List Cell) → ℕ → List Cell
  line_filled row rows line = if nat_le from line && nat_le line to then row else row_at rows line

  pub each_filled : (lines : ℕ) (row : List Cell) (rows : List (List Cell)) (k : ℕ) → (if nat_le from k && nat_lt k (to + 1) then row else row_at rows (line_below 0 1 lines k)) ≡ line_filled row rows k
  each_filled lines row rows k = grind (arith, nat_tests)

  module _ (held : Held) (old : Grid) (sound : Sound held) (seen : grid_of held ≡ old) (cell : Cell) (narrow : is_wide cell ≡ false) (uncovered : is_covered cell ≡ false)
      (slots : List (List Cell)) (filled : LinesFilled from (to + 1) cell held.order held.slots slots) (stay : SlotsStayOrFill cell held.slots slots)
      (origins : List ℕ) (is_origins : origins ≡ unknown_from from (to + 1) held.origins) where
    one : 1 ≤ old.lines
    one = omega (arith, lines_of held old seen, sound.lines_low)

    forgot : origins ≡ unknown_from from (to + 1) (turned_up 0 1 old.lines held.origins)
    forgot = is_origins ∙ ap (unknown_from from (to + 1)) (turned_none old.lines held.origins)

    pub filled_rows : rows_of (record { columns = held.columns; order = held.order; slots = slots; origins = origins }) ≡ lines_filled from to (row_of old.columns cell) old.rows
    filled_rows =
        scrolled_rows held old sound seen 0 1 old.lines from (to + 1) cell narrow uncovered (omega arith) one (omega arith) (omega (arith, one)) held.order (turned_none old.lines held.order)
        slots filled stay origins forgot line_filled (each_filled old.lines)

    pub filled_sound : length slots ≡ length held.slots → Sound (record { columns = held.columns; order = held.order; slots = slots; origins = origins })
    filled_sound =
        scrolled_sound held old sound seen 0 1 old.lines from (to + 1) cell narrow uncovered (omega arith) one (omega arith) (omega (arith, one)) held.order (turned_none old.lines held.order)
        slots filled stay origins forgot line_filled (each_filled old.lines)

    pub filled_told : (before : List (List Cell)) → Told before old → Told before (grid_of (record { columns = held.columns; order = held.order; slots = slots; origins = origins }))
    filled_told =
        scrolled_told held old sound seen 0 1 old.lines from (to + 1) cell narrow uncovered (omega arith) one (omega arith) (omega (arith, one)) held.order (turned_none old.lines held.order)
        slots filled stay origins forgot line_filled (each_filled old.lines)

-- all lines are filled
pub lines_all : (lines : ℕ) (row : List Cell) (rows : List (List Cell)) → length rows ≡ lines → lines_filled 1 lines row rows ≡ table lines (λ _. row)
lines_all lines row rows count =
    ap (λ (n : ℕ). table n (line_filled 1 lines row rows)) count
    ∙ table_ext lines _ _ (λ k low high. grind (arith, nat_tests))

-- no line's origin is known
pub unknown_all : (lines : ℕ) (origins : List ℕ) → length origins ≡ lines → unknown_from 1 (lines + 1) origins ≡ no_origins (length origins)
unknown_all lines origins count = table_ext (length origins) _ _ (λ k low high. grind (arith, nat_tests))
