-- Places around characters that were written over others.
use Rattle.std.proofs.Common.{◌≡◌, ℕ, suc, ◌+◌, ◌-◌, ◌<◌, ◌≤◌, false, List, [], ◌++◌, append_assoc, cond, drop, length, nat_eq, set, take, refl, ap, ap₂, subst, sym, ◌∙◌, arith, inl, inr}
use Rattle.std.specs.List.{starts_with}
use Rattle.std.proofs.lemmas.Bool.{cases_lt}
use Rattle.std.proofs.lemmas.List.{drop-append-le, drop-drop, drop-take, drop_at, get_or-append-add, get_or-set_other, get_or-set_same, get_or_append_left, length-append, length-drop, length-set, length-take, set-get_or, set-set, take-append-drop, take_at}
use Rattle.standings.specs.Near.{IsClear, IsCut, IsEarly, IsLate, places_part}
use Rattle.standings.specs.Rows.{Row, empty_row, row_below}
use Rattle.standings.specs.Spans.{places_along}
use Rattle.standings.specs.Standing.{begins, line_text, place_at, place_in, standing}
use Rattle.standings.specs.Written.{row_written, rows_written}
use Rattle.standings.specs.declared.place.Place.{Place}
use Rattle.standings.proofs.FrontLemmas.{IsRewritten, begins_before, begins_behind, drop_past, leads, line_here, rewritten}
use Rattle.standings.proofs.PlaceLemmas.{AllAre, along_parts, along_same, along_within, are_both, part_all, standing_along}
use Rattle.standings.proofs.RowLemmas.{part_parts}
use Rattle.standings.proofs.SpanLemmas.{first_none, line_above, line_below, never_here, part_alike, part_none, places_of, places_same, second_none}

-- ---- where a list of places is cut

early_late : (above before : ℕ) (place : Place) → IsEarly place above before → IsLate place above before → ⊥
early_late above before place early late =
    let same : place.above ≡ above = omega (arith, early.0, late.0) in
    omega (arith, early.1 same, late.1 same)

-- as many as are passed from the last one on are late
count_back : (above before c : ℕ) (a b : List Place) → AllAre (λ place. IsEarly place above before) a → AllAre (λ place. IsLate place above before) b → c ≤ length (a ++ b)
    → (0 < c → IsEarly (place_at (a ++ b) (c - 1)) above before) → ((k : ℕ) → c ≤ k → k < length (a ++ b) → IsLate (place_at (a ++ b) k) above before) → c ≡ length a
count_back above before c a b first second within early late = elim (cases_lt c (length a)) [
  | inl few ↦
      absurd (early_late above before (place_at a c) (first c few)
      (subst (λ place. IsLate place above before) (get_or_append_left a b (place_in 0 0) c few) (late c (omega arith) (omega (arith, few, length-append a b)))))
  | inr enough ↦ elim (cases_lt (length a) c) [
    | inr same ↦ omega arith
    | inl many ↦
        let i = c - 1 - length a in
        let at : length a + i ≡ c - 1 = omega arith in
        let there : i < length b = omega (arith, within, length-append a b, many) in
        absurd (early_late above before (place_at b i)
        (subst (λ place. IsEarly place above before) (get_or-append-add a b i (place_in 0 0)) (subst (λ m. IsEarly (place_at (a ++ b) m) above before) (sym at) (early (omega arith))))
        (second i there))
  ]
]

pub cut_end : (above start end c : ℕ) (front middle rest places : List Place) → IsCut above start end front middle rest → start ≤ end → places ≡ front ++ (middle ++ rest) → c ≤ length places
    → (0 < c → IsEarly (place_at places (c - 1)) above end) → ((k : ℕ) → c ≤ k → k < length places → IsLate (place_at places k) above end) → c ≡ length (front ++ middle)
cut_end above start end c front middle rest places is order split within early late =
    let parts = split ∙ sym (append_assoc front middle rest) in
    count_back above end c (front ++ middle) rest
    (are_both (λ place. IsEarly place above end) front middle (λ j lt. let here = is.early j lt in (here.0, λ same. omega (arith, here.1 same, order))) is.high) is.late
    (subst (λ l. c ≤ length l) parts within) (subst (λ l. 0 < c → IsEarly (place_at l (c - 1)) above end) parts early)
    (subst (λ l. (k : ℕ) → c ≤ k → k < length l → IsLate (place_at l k) above end) parts late)

pub cut_start : (above start end c : ℕ) (front middle rest places : List Place) → IsCut above start end front middle rest → places ≡ front ++ middle → c ≤ length places
    → (0 < c → IsEarly (place_at places (c - 1)) above start) → ((k : ℕ) → c ≤ k → k < length places → IsLate (place_at places k) above start) → c ≡ length front
cut_start above start end c front middle rest places is split within early late =
    count_back above start c front middle is.early is.low (subst (λ l. c ≤ length l) split within) (subst (λ l. 0 < c → IsEarly (place_at l (c - 1)) above start) split early)
    (subst (λ l. (k : ℕ) → c ≤ k → k < length l → IsLate (place_at l k) above start) split late)

-- ---- where only a part of a row differs

-- where a text stood, in three parts, and where it stands, of which only the second is another one
pub record IsNear (text : List ℕ) (one other : List Row) (above start end : ℕ) : Type 0 where
  pub front : List Place
  pub middle : List Place
  pub rest : List Place
  pub before : standing text one ≡ front ++ (middle ++ rest)
  pub after : standing text other ≡ front ++ (places_part text above (line_text (drop above other)) start (end - start) ++ rest)
  pub cut : IsCut above start end front middle rest

in_five : (a b c d e : List Place) → a ++ ((b ++ (c ++ d)) ++ e) ≡ (a ++ b) ++ (c ++ (d ++ e))
in_five a b c d e = simp append_assoc

in_parts : (text : List ℕ) (rows : List Row) (above start end m : ℕ) → above + suc m ≡ length rows → start ≤ end → end ≤ length (row_below rows above).characters
    → standing text rows ≡ (places_along text rows 0 above ++ places_part text above (line_text (drop above rows)) 0 start)
    ++ (places_part text above (line_text (drop above rows)) start (end - start)
    ++ (places_part text above (line_text (drop above rows)) end (length (row_below rows above).characters - end) ++ places_along text rows (above + 1) m))
in_parts text rows above start end m parts order within =
    let line = line_text (drop above rows) in
    let n = length (row_below rows above).characters in
    let w = end - start in
    let d = n - end in
    let a = places_along text rows 0 above in
    let b = places_part text above line 0 start in
    let c = places_part text above line start w in
    let e = places_along text rows (above + 1) m in
    let all : n ≡ start + (w + d) = omega arith in
    let there : start + w ≡ end = omega arith in
    let from : 0 + above ≡ above = omega arith in
    let first : 0 + start ≡ start = omega arith in
    let here : places_of text rows above ≡ b ++ (c ++ places_part text above line end d) =
    ap (places_part text above line 0) all ∙ part_parts text above line start (w + d) 0 ∙ ap (λ k. b ++ places_part text above line k (w + d)) first
    ∙ ap (λ l. b ++ l) (part_parts text above line w d start ∙ ap (λ k. c ++ places_part text above line k d) there) in
    standing_along text rows ∙ ap (places_along text rows 0) (sym parts) ∙ along_parts text rows above (suc m) 0 ∙ ap (λ k. a ++ places_along text rows k (suc m)) from
    ∙ ap (λ l. a ++ (l ++ e)) here ∙ in_five a b c (places_part text above line end d) e

near : (text : List ℕ) (one other : List Row) (above start end : ℕ) → IsRewritten above one other → above < length one → start ≤ end → end ≤ length (row_below one above).characters
    → length (row_below other above).characters ≡ length (row_below one above).characters
    → ((k : ℕ) → k < above → places_of text other k ≡ places_of text one k)
    → ((i : ℕ) → i < start → begins text (line_text (drop above other)) i ≡ begins text (line_text (drop above one)) i)
    → ((i : ℕ) → end ≤ i → begins text (line_text (drop above other)) i ≡ begins text (line_text (drop above one)) i) → IsNear text one other above start end
near text one other above start end is lt order within long over left right =
    let m = length one - (above + 1) in
    let parts : above + suc m ≡ length one = omega arith in
    let parts' : above + suc m ≡ length other = omega (arith, is.count) in
    let line = line_text (drop above one) in
    let line' = line_text (drop above other) in
    let n = length (row_below one above).characters in
    let a = places_along text one 0 above in
    let b = places_part text above line 0 start in
    let c = places_part text above line start (end - start) in
    let d = places_part text above line end (n - end) in
    let e = places_along text one (above + 1) m in
    let same_above = along_same text one other above 0 (λ k _ low. over k (omega (arith, low))) in
    let same_below = along_same text one other m (above + 1) (λ k high _.
    places_same text one other k (is.others k (λ e. omega arith))
    (line_below one other (length one) k (omega arith) is.count (λ i high'. is.others i (λ e. omega arith)))) in
    let same_left = part_alike text above line line' start 0 (λ i _ low. left i (omega (arith, low))) in
    let same_right = part_alike text above line line' (n - end) end (λ i high _. right i high) in
    let rows_above = along_within text one above 0 in
    let rows_below = along_within text one m (above + 1) in
    record {
      front = a ++ b;
      middle = c;
      rest = d ++ e;
      before = in_parts text one above start end m parts order within;
      after = in_parts text other above start end m parts' order (omega (arith, long))
          ∙ ap (λ k. (places_along text other 0 above ++ places_part text above line' 0 start)
          ++ (places_part text above line' start (end - start) ++ (places_part text above line' end (k - end) ++ places_along text other (above + 1) m))) long
          ∙ ap₂ (λ l r. l ++ (places_part text above line' start (end - start) ++ r)) (ap₂ (λ l r. l ++ r) same_above same_left) (ap₂ (λ l r. l ++ r) same_right same_below);
      cut = record {
        early = are_both (λ place. IsEarly place above start) a b
            (λ j low. (omega (arith, rows_above.to j low), λ same. absurd (omega (arith, rows_above.to j low, same))))
            (part_all (λ place. IsEarly place above start) text above line start 0 (λ i _ low. (omega arith, λ _. omega (arith, low))));
        low = part_all (λ place. IsLate place above start) text above line (end - start) start (λ i low _. (omega arith, λ _. low));
        high = part_all (λ place. IsEarly place above end) text above line (end - start) start (λ i _ high. (omega arith, λ _. omega (arith, high, order)));
        late = are_both (λ place. IsLate place above end) d e
            (part_all (λ place. IsLate place above end) text above line (n - end) end (λ i low _. (omega arith, λ _. low)))
            (λ j low. (omega (arith, rows_below.from j low), λ same. absurd (omega (arith, rows_below.from j low, same))));
      };
    }

-- ---- characters that were written

module _ (was : List Row) (above before : ℕ) (written : List ℕ) (lt : above < length was) (within : before + length written ≤ length (row_below was above).characters) where
  abbrev characters : List ℕ
  characters = (row_below was above).characters

  abbrev row : Row
  row = row_written before written (row_below was above)

  there : row_below (rows_written above before written was) above ≡ row
  there = get_or-set_same was above row empty_row lt

  over : IsRewritten above was (rows_written above before written was)
  over = record {
    count = length-set was above row;
    others = λ k apart. get_or-set_other was above k row empty_row apart;
    runs = ap (λ (r : Row). r.runs_on) there;
  }

  pub written_long : length (row_below (rows_written above before written was) above).characters ≡ length characters
  written_long =
      ap (λ (r : Row). length r.characters) there
      ∙ omega (
        arith,
        within,
        length-append (take before characters ++ written) (drop (before + length written) characters),
        length-append (take before characters) written,
        length-take before characters,
        length-drop (before + length written) characters,
      )

  abbrev more : List ℕ
  more = cond (row_below was above).runs_on (line_text (drop (above + 1) was)) []

  line_was : line_text (drop above was) ≡ characters ++ more
  line_was = line_here was was above characters (rewritten was above) refl

  line_now : line_text (drop above (rows_written above before written was)) ≡ ((take before characters ++ written) ++ drop (before + length written) characters) ++ more
  line_now = line_here was (rows_written above before written was) above row.characters over (ap (λ (r : Row). r.characters) there)

  -- a text that ends before them stays
  left_stays : (text : List ℕ) (i : ℕ) → i + length text ≤ before
      → begins text (line_text (drop above (rows_written above before written was))) i ≡ begins text (line_text (drop above was)) i
  left_stays text i ends =
      let pre = take before characters in
      let post = drop (before + length written) characters in
      ap (λ l. begins text l i) (line_now ∙ append_assoc (pre ++ written) post more ∙ append_assoc pre written (post ++ more))
      ∙ begins_before pre (written ++ (post ++ more)) (drop before characters ++ more) text i (omega (arith, ends, within, length-take before characters))
      ∙ ap (λ l. begins text l i) (sym (append_assoc pre (drop before characters) more) ∙ ap (λ l. l ++ more) (take-append-drop before characters) ∙ sym line_was)

  -- and one that begins behind them
  right_stays : (text : List ℕ) (i : ℕ) → before + length written ≤ i
      → begins text (line_text (drop above (rows_written above before written was))) i ≡ begins text (line_text (drop above was)) i
  right_stays text i past =
      let end = before + length written in
      let pre = take before characters in
      let post = drop end characters in
      let long : length (pre ++ written) ≡ end = omega (arith, within, length-append pre written, length-take before characters) in
      ap (λ l. begins text l i) (line_now ∙ append_assoc (pre ++ written) post more)
      ∙ begins_behind (pre ++ written) (take end characters) (post ++ more) text i (omega (arith, long, within, length-take end characters)) (omega (arith, long, past))
      ∙ ap (λ l. begins text l i) (sym (append_assoc (take end characters) post more) ∙ ap (λ l. l ++ more) (take-append-drop end characters) ∙ sym line_was)

  -- and one that begins in a row above and is short
  above_stays : (text : List ℕ) (k i : ℕ) → k < above → i < length (row_below was k).characters → length text ≤ before + 1
      → begins text (line_text (drop k (rows_written above before written was))) i ≡ begins text (line_text (drop k was)) i
  above_stays text k i low first few =
      let now = rows_written above before written was in
      let pre = take before characters in
      let post = drop (before + length written) characters in
      elim (leads was now now above (above - k) k (omega (arith, low)) over over) [
        | inr same ↦ ap (λ l. begins text l i) same.1
        | inl lead ↦
            let front = lead.front in
            let long : length (front ++ pre) ≡ length front + before = omega (arith, within, length-append front pre, length-take before characters) in
            let line : line_text (drop k now) ≡ (front ++ pre) ++ (written ++ (post ++ more)) =
            lead.second ∙ ap (λ l. front ++ l) (line_now ∙ append_assoc (pre ++ written) post more ∙ append_assoc pre written (post ++ more))
            ∙ sym (append_assoc front pre (written ++ (post ++ more))) in
            let line' : line_text (drop k was) ≡ (front ++ pre) ++ (drop before characters ++ more) =
            lead.first ∙ ap (λ l. front ++ l) (line_was ∙ ap (λ l. l ++ more) (sym (take-append-drop before characters)) ∙ append_assoc pre (drop before characters) more)
            ∙ sym (append_assoc front pre (drop before characters ++ more)) in
            ap (λ l. begins text l i) line
            ∙ begins_before (front ++ pre) (written ++ (post ++ more)) (drop before characters ++ more) text i (omega (arith, long, first, few, lead.long low))
            ∙ ap (λ l. begins text l i) (sym line')
      ]

  -- so where no text goes on in them from above, the places above stay
  above_same : (text : List ℕ) → IsClear was above before text → (k : ℕ) → k < above → places_of text (rows_written above before written was) k ≡ places_of text was k
  above_same text (inl few) k low =
      let now = rows_written above before written was in
      let row : row_below now k ≡ row_below was k = over.others k (λ e. omega arith) in
      let count = length (row_below was k).characters in
      ap (λ (r : Row). places_part text k (line_text (drop k now)) 0 (length r.characters)) row
      ∙ part_alike text k (line_text (drop k was)) (line_text (drop k now)) count 0 (λ i _ lt'. above_stays text k i low (omega (arith, lt')) few)
  above_same text (inr runs) k low =
      let now = rows_written above before written was in
      places_same text was now k (over.others k (λ e. omega arith))
      (line_above was now above (above - k - 1) k (omega arith) (λ i low'. over.others i (λ e. omega arith)) (runs (omega arith)))

  pub near_written : (text : List ℕ) (rows : List Row) (start end : ℕ) → rows ≡ rows_written above before written was → 0 < length text
      → start ≡ before - (length text - 1) → end ≡ before + length written → IsClear was above before text → IsNear text was rows above start end
  near_written text rows start end is some from to clear =
      subst (λ l. IsNear text was l above start end) (sym is)
      (near text was (rows_written above before written was) above start end over lt (omega (arith, from, to)) (omega (arith, to, within)) written_long
      (above_same text clear)
      (λ i low. left_stays text i (omega (arith, from, low, some)))
      (λ i high. right_stays text i (omega (arith, to, high))))

-- where it stood nowhere and begins at none of them, it stands nowhere
pub near_nothing : (text : List ℕ) (one other : List Row) (above start end : ℕ) → IsNear text one other above start end → start ≤ end → end ≤ length (row_below other above).characters
    → ((k : ℕ) → start ≤ k → k < end → (rest : List ℕ) → starts_with nat_eq (drop k (row_below other above).characters ++ rest) text ≡ false)
    → standing text one ≡ [] → standing text other ≡ []
near_nothing text one other above start end is order within none was =
    let parts = sym is.before ∙ was in
    let front : is.front ≡ [] = first_none is.front (is.middle ++ is.rest) parts in
    let rest : is.rest ≡ [] = second_none is.middle is.rest (second_none is.front (is.middle ++ is.rest) parts) in
    let nothing = part_none text above (line_text (drop above other)) (end - start) start (λ i low lt. never_here text other above i (omega arith) (none i low (omega arith))) in
    is.after ∙ ap₂ (λ a b. a ++ b) front (ap₂ (λ a b. a ++ b) nothing rest)

-- where it begins neither at what stands left of them nor at one of them, whatever comes behind
none_written : (characters letters text : List ℕ) (from before : ℕ) → from ≤ before → before + length letters ≤ length characters
    → ((k : ℕ) → k < length (take (before - from) (drop from characters)) → (rest : List ℕ)
    → starts_with nat_eq (drop k (take (before - from) (drop from characters)) ++ (letters ++ rest)) text ≡ false)
    → ((k : ℕ) → k < length letters → (rest : List ℕ) → starts_with nat_eq (drop k letters ++ (drop (before + length letters) characters ++ rest)) text ≡ false)
    → (k : ℕ) → from ≤ k → k < before + length letters → (rest : List ℕ)
    → starts_with nat_eq (drop k ((take before characters ++ letters) ++ drop (before + length letters) characters) ++ rest) text ≡ false
none_written characters letters text from before order within left right k low high rest =
    let pre = take before characters in
    let post = drop (before + length letters) characters in
    let long : length pre ≡ before = omega (arith, length-take before characters) in
    let split : (pre ++ letters) ++ post ≡ pre ++ (letters ++ post) = append_assoc pre letters post in
    elim (cases_lt k before) [
      | inl lt ↦
          let parts : from + (before - from) ≡ before = omega arith in
          let there : from + (k - from) ≡ k = omega arith in
          let cut : drop k pre ≡ drop (k - from) (take (before - from) (drop from characters)) =
          ap (λ n. drop n pre) (sym there) ∙ sym (drop-drop (k - from) from pre)
          ∙ ap (drop (k - from)) (ap (λ n. drop from (take n characters)) (sym parts) ∙ drop-take from (before - from) characters) in
          ap (λ l. starts_with nat_eq (l ++ rest) text)
          (ap (drop k) split ∙ drop-append-le k pre (letters ++ post) (omega arith) ∙ ap (λ l. l ++ (letters ++ post)) cut)
          ∙ ap (λ l. starts_with nat_eq l text)
          (append_assoc (drop (k - from) (take (before - from) (drop from characters))) (letters ++ post) rest
          ∙ ap (λ l. drop (k - from) (take (before - from) (drop from characters)) ++ l) (append_assoc letters post rest))
          ∙ left (k - from) (omega (arith, length-take (before - from) (drop from characters), length-drop from characters)) (post ++ rest)
      | inr ge ↦
          let past : k - length pre ≡ k - before = omega arith in
          ap (λ l. starts_with nat_eq (l ++ rest) text)
          (ap (drop k) split ∙ drop_past pre (letters ++ post) k (omega arith) ∙ ap (λ n. drop n (letters ++ post)) past
          ∙ drop-append-le (k - before) letters post (omega arith))
          ∙ ap (λ l. starts_with nat_eq l text) (append_assoc (drop (k - before) letters) post rest)
          ∙ right (k - before) (omega arith) rest
    ]

pub written_nothing : (was : List Row) (above before : ℕ) (letters text : List ℕ) (from : ℕ) → above < length was → before + length letters ≤ length (row_below was above).characters
    → 0 < length text → from ≡ before - (length text - 1) → IsClear was above before text
    → ((k : ℕ) → k < length (take (before - from) (drop from (row_below was above).characters)) → (rest : List ℕ)
    → starts_with nat_eq (drop k (take (before - from) (drop from (row_below was above).characters)) ++ (letters ++ rest)) text ≡ false)
    → ((k : ℕ) → k < length letters → (rest : List ℕ)
    → starts_with nat_eq (drop k letters ++ (drop (before + length letters) (row_below was above).characters ++ rest)) text ≡ false)
    → standing text was ≡ [] → standing text (rows_written above before letters was) ≡ []
written_nothing was above before letters text from lt within some is clear left right none =
    let rows = rows_written above before letters was in
    let end = before + length letters in
    let written = there was above before letters lt within in
    let near_is = near_written was above before letters lt within text rows from end refl some is refl clear in
    near_nothing text was rows above from end near_is (omega (arith, is)) (omega (arith, written_long was above before letters lt within, within))
    (λ k low high rest.
    ap (λ (r : Row). starts_with nat_eq (drop k r.characters ++ rest) text) written
    ∙ none_written (row_below was above).characters letters text from before (omega (arith, is)) within left right k low high rest) none

-- what stands there already
pub rows_same : (above before : ℕ) (letters : List ℕ) (rows : List Row) → letters ≡ take (length letters) (drop before (row_below rows above).characters)
    → rows_written above before letters rows ≡ rows
rows_same above before letters rows is =
    let row = row_below rows above in
    let pre = take before row.characters in
    let post = drop (before + length letters) row.characters in
    let rest : letters ++ post ≡ drop before row.characters =
    ap₂ (λ a b. a ++ b) is (sym (drop-drop (length letters) before row.characters)) ∙ take-append-drop (length letters) (drop before row.characters) in
    let same : row_written before letters row ≡ row =
    ap (λ l. record row { characters = l }) (append_assoc pre letters post ∙ ap (λ l. pre ++ l) rest ∙ take-append-drop before row.characters) in
    ap (set rows above) same ∙ set-get_or rows above empty_row

-- what was written over, written over it again
pub written_back : (before : ℕ) (letters was : List ℕ) (row : Row) → before + length letters ≤ length row.characters
    → was ≡ take (length letters) (drop before row.characters) → row_written before was (row_written before letters row) ≡ row
written_back before letters was row within is =
    let pre = take before row.characters in
    let post = drop (before + length letters) row.characters in
    let new = (pre ++ letters) ++ post in
    let long : length pre ≡ before = omega (arith, length-take before row.characters) in
    let many : length was ≡ length letters = omega (arith, ap length is, length-take (length letters) (drop before row.characters), length-drop before row.characters) in
    let front : take before new ≡ pre = ap (take before) (append_assoc pre letters post) ∙ take_at pre (letters ++ post) before long in
    let back : drop (before + length was) new ≡ post =
    ap (λ n. drop (before + n) new) many ∙ drop_at (pre ++ letters) post (before + length letters) (omega (arith, length-append pre letters)) in
    let rest : was ++ post ≡ drop before row.characters =
    ap₂ (λ a b. a ++ b) is (sym (drop-drop (length letters) before row.characters)) ∙ take-append-drop (length letters) (drop before row.characters) in
    ap (λ l. record row { characters = l })
    (ap₂ (λ a b. (a ++ was) ++ b) front back ∙ append_assoc pre was post ∙ ap (λ l. pre ++ l) rest ∙ take-append-drop before row.characters)

pub rows_back : (above before : ℕ) (letters was : List ℕ) (rows one : List Row) (last : Row) → above < length rows → before + length letters ≤ length (row_below rows above).characters
    → was ≡ take (length letters) (drop before (row_below rows above).characters) → one ≡ rows_written above before letters rows
    → last ≡ row_written before was (row_below one above) → set one above last ≡ rows
rows_back above before letters was rows one last lt within is there written =
    let row = row_below rows above in
    let back : last ≡ row =
    written ∙ ap (row_written before was) (ap (λ l. row_below l above) there ∙ get_or-set_same rows above (row_written before letters row) empty_row lt)
    ∙ written_back before letters was row within is in
    ap₂ (λ l r. set l above r) there back ∙ set-set rows above (row_written before letters row) row ∙ set-get_or rows above empty_row
