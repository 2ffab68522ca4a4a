-- Characters that are written over as many others, looked at in between.
use Rattle.std.proofs.Common.{◌≡◌, ◌≢◌, ℕ, zero, suc, ◌+◌, ◌-◌, ◌<◌, ◌≤◌, true, false, List, [], ◌++◌, append_assoc, append-nil, cond, drop, get_or, length, nat_eq, take, refl, ap, sym, ◌∙◌, arith, inl, inr, ◌⊎◌}
use Rattle.std.specs.List.{starts_with}
use Rattle.std.proofs.lemmas.Bool.{cases_Bool, cases_eq, cases_lt}
use Rattle.std.proofs.lemmas.Bool.Decides.{Decides-eqb}
use Rattle.std.proofs.lemmas.List.{drop-append-le, drop-drop, drop_all, drop_at, get_or-append-add, get_or-drop, get_or-take, get_or_append_left, length-append, length-drop, length-take-le, take-append-drop, take_all}
use Rattle.std.proofs.lemmas.List.Prefix.{front_fits, front_reads}
use Rattle.std.proofs.lemmas.Slice.Eq.{starts_is}
use Rattle.standings.specs.Rows.{Row, row_below}
use Rattle.standings.specs.Standing.{begins, line_text, standing}
use Rattle.standings.proofs.RowLemmas.{within_part}
use Rattle.standings.proofs.SpanLemmas.{all_before, all_none, line_at, line_below, line_step, none_at, none_before, places_of, places_same}

-- as many rows, the same but for the characters and the columns of the one below so many others
pub record IsRewritten (above : ℕ) (one other : List Row) : Type 0 where
  pub count : length other ≡ length one
  pub others : (k : ℕ) → k ≢ above → row_below other k ≡ row_below one k
  pub runs : (row_below other above).runs_on ≡ (row_below one above).runs_on

-- no two neighbours of a text are these
abbrev pub NoNeighbours : List ℕ → ℕ → ℕ → Type 0
NoNeighbours text x y = (i : ℕ) → i + 1 < length text → get_or text i 0 ≡ x → get_or text (i + 1) 0 ≡ y → ⊥

-- ---- a line whose front is written

-- what begins with a text has its characters
pub has_text : (line text : List ℕ) (i : ℕ) → starts_with nat_eq line text ≡ true → i < length text → get_or line i 0 ≡ get_or text i 0
has_text line text i is lt =
    front_reads 0 line text (drop (length text) line) ((starts_is Decides-eqb line text (starts_with nat_eq line text) refl).0 is) i lt

-- and as many of them
pub fits_text : (line text : List ℕ) → starts_with nat_eq line text ≡ true → length text ≤ length line
fits_text line text is =
    front_fits line text (drop (length text) line) ((starts_is Decides-eqb line text (starts_with nat_eq line text) refl).0 is)

-- behind the first of two parts
pub drop_past : (front rest : List ℕ) (n : ℕ) → length front ≤ n → drop n (front ++ rest) ≡ drop (n - length front) rest
drop_past front rest n past =
    let parts : length front + (n - length front) ≡ n = omega arith in
    ap (λ m. drop m (front ++ rest)) (sym parts) ∙ sym (drop-drop (n - length front) (length front) (front ++ rest))
    ∙ ap (drop (n - length front)) (drop_at front rest (length front) refl)

-- a text that ends in the front begins there whatever comes behind it
pub begins_before : (front rest other text : List ℕ) (at : ℕ) → at + length text ≤ length front → begins text (front ++ rest) at ≡ begins text (front ++ other) at
begins_before front rest other text at ends =
    let short : length text ≤ length (drop at front) = omega (arith, length-drop at front) in
    ap (λ l. starts_with nat_eq l text) (drop-append-le at front rest (omega arith))
    ∙ within_part (drop at front) rest text short
    ∙ sym (within_part (drop at front) other text short)
    ∙ ap (λ l. starts_with nat_eq l text) (sym (drop-append-le at front other (omega arith)))

-- and one that begins in the rest whatever comes before it
pub begins_behind : (front other rest text : List ℕ) (at : ℕ) → length other ≡ length front → length front ≤ at → begins text (front ++ rest) at ≡ begins text (other ++ rest) at
begins_behind front other rest text at same past =
    ap (λ l. starts_with nat_eq l text)
    (drop_past front rest at past ∙ ap (λ n. drop (at - n) rest) (sym same) ∙ sym (drop_past other rest at (omega arith)))

-- one that begins in the front and ends in the rest has neighbours there
pub begins_across : (front rest text : List ℕ) (at : ℕ) → at < length front → length front < at + length text
    → (0 < length rest → NoNeighbours text (get_or front (length front - 1) 0) (get_or rest 0 0)) → begins text (front ++ rest) at ≡ false
begins_across front rest text at low high none = elim (cases_Bool (begins text (front ++ rest) at)) [
  | inr f ↦ f
  | inl t ↦
      let line = front ++ rest in
      let i = length front - 1 - at in
      let last : at + i ≡ length front - 1 = omega arith in
      let next : at + (i + 1) ≡ length front + 0 = omega arith in
      let some : 0 < length rest = omega (arith, fits_text (drop at line) text t, length-drop at line, length-append front rest) in
      absurd (none some i (omega arith)
      (sym (has_text (drop at line) text i t (omega arith)) ∙ get_or-drop at line i 0 ∙ ap (λ n. get_or line n 0) last ∙ get_or_append_left front rest 0 (length front - 1) (omega arith))
      (sym (has_text (drop at line) text (i + 1) t (omega arith)) ∙ get_or-drop at line (i + 1) 0 ∙ ap (λ n. get_or line n 0) next ∙ get_or-append-add front rest 0 0))
]

begins_between : (front old rest new text : List ℕ) (at : ℕ) → length old ≡ length front
    → (0 < length front → 0 < length rest → NoNeighbours text (get_or front (length front - 1) 0) (get_or rest 0 0))
    → begins text (old ++ rest) at ≡ false → begins text (front ++ new) at ≡ false → begins text (front ++ rest) at ≡ false
begins_between front old rest new text at same none before after = elim (cases_lt (length front) (at + length text)) [
  | inr ends ↦ begins_before front rest new text at ends ∙ after
  | inl goes ↦ elim (cases_lt at (length front)) [
    | inr past ↦ begins_behind front old rest text at same past ∙ before
    | inl low ↦ begins_across front rest text at low goes (none (omega arith))
  ]
]

-- ---- lines that lead to the row

-- the line from one row on leads to another, by the same characters on three screens
pub record Leads (k above : ℕ) (one two three : List Row) : Type 0 where
  pub front : List ℕ
  pub long : k < above → length (row_below one k).characters ≤ length front
  pub first : line_text (drop k one) ≡ front ++ line_text (drop above one)
  pub second : line_text (drop k two) ≡ front ++ line_text (drop above two)
  pub third : line_text (drop k three) ≡ front ++ line_text (drop above three)

-- the row before what leads
leads_step : (one other : List Row) (k above : ℕ) (front : List ℕ) → row_below other k ≡ row_below one k → (row_below one k).runs_on ≡ true
    → line_text (drop (k + 1) other) ≡ front ++ line_text (drop above other)
    → line_text (drop k other) ≡ ((row_below one k).characters ++ front) ++ line_text (drop above other)
leads_step one other k above front same runs more =
    line_at other k ∙ ap (λ (row : Row). row.characters ++ cond row.runs_on (line_text (drop (k + 1) other)) []) same
    ∙ ap (λ b. (row_below one k).characters ++ cond b (line_text (drop (k + 1) other)) []) runs
    ∙ ap (λ l. (row_below one k).characters ++ l) more
    ∙ sym (append_assoc (row_below one k).characters front (line_text (drop above other)))

pub leads : (one two three : List Row) (above n k : ℕ) → k + n ≡ above → IsRewritten above one two → IsRewritten above one three
    → Leads k above one two three ⊎ ((k < above) × (line_text (drop k two) ≡ line_text (drop k one)))
leads one two three above zero k is second third =
    let here : k ≡ above = omega arith in
    inl (record {
      front = [];
      long = λ low. absurd (omega (arith, low, here));
      first = ap (λ i. line_text (drop i one)) here;
      second = ap (λ i. line_text (drop i two)) here;
      third = ap (λ i. line_text (drop i three)) here;
    })
leads one two three above (suc n) k is second third =
    let row = row_below one k in
    let second_row = second.others k (λ e. omega arith) in
    let third_row = third.others k (λ e. omega arith) in
    elim (cases_Bool row.runs_on) [
      | inr ends ↦ inr (omega arith, line_step one two k second_row (rw ends refl))
      | inl runs ↦ elim (leads one two three above n (k + 1) (omega arith) second third) [
        | inr same ↦ inr (omega arith, line_step one two k second_row (ap (λ l. cond row.runs_on l []) same.1))
        | inl lead ↦
            inl (record {
              front = row.characters ++ lead.front;
              long = λ _. omega (arith, length-append row.characters lead.front);
              first = leads_step one one k above lead.front refl runs lead.first;
              second = leads_step one two k above lead.front second_row runs lead.second;
              third = leads_step one three k above lead.front third_row runs lead.third;
            })
      ]
    ]

-- ---- the row that is rewritten

-- the line from it on, by its characters
pub line_here : (one other : List Row) (above : ℕ) (characters : List ℕ) → IsRewritten above one other → (row_below other above).characters ≡ characters
    → line_text (drop above other) ≡ characters ++ cond (row_below one above).runs_on (line_text (drop (above + 1) one)) []
line_here one other above characters same is =
    line_at other above ∙ ap (λ l. l ++ cond (row_below other above).runs_on (line_text (drop (above + 1) other)) []) is
    ∙ ap (λ b. characters ++ cond b (line_text (drop (above + 1) other)) []) same.runs
    ∙ ap (λ l. characters ++ cond (row_below one above).runs_on l [])
    (line_below one other (length one) (above + 1) (omega arith) same.count (λ k low. same.others k (λ e. omega arith)))

-- what stands before it, in it and behind it, in two parts
pub in_two : (line front pre written kept post more : List ℕ) → line ≡ (pre ++ (written ++ kept) ++ post) ++ more
    → front ++ line ≡ (front ++ pre ++ written) ++ (kept ++ post ++ more)
in_two line front pre written kept post more is = ap (λ l. front ++ l) is ∙ simp append_assoc

pub rewritten : (one : List Row) (above : ℕ) → IsRewritten above one one
rewritten one above = record { count = refl; others = λ k _. refl; runs = refl }

none_of : (text : List ℕ) (rows : List Row) (k : ℕ) → k < length rows → standing text rows ≡ [] → places_of text rows k ≡ []
none_of text rows k lt none =
    let number : 0 + k ≡ k = omega arith in
    ap (places_of text rows) (sym number) ∙ none_at text rows k 0 (omega arith) none

pub last_written : (front pre new : List ℕ) (n : ℕ) → 0 < n → n ≤ length new
    → get_or (front ++ pre ++ take n new) (length (front ++ pre ++ take n new) - 1) 0 ≡ get_or new (n - 1) 0
last_written front pre new n some within =
    let at : length (front ++ pre ++ take n new) - 1 ≡ length (front ++ pre) + (n - 1) =
    omega (arith, length-append (front ++ pre) (take n new), length-take-le n new within) in
    ap (λ m. get_or (front ++ pre ++ take n new) m 0) at ∙ get_or-append-add (front ++ pre) (take n new) (n - 1) 0 ∙ get_or-take n new (n - 1) 0 (omega arith)

pub first_left : (old post more : List ℕ) (n : ℕ) → n < length old → get_or (drop n old ++ post ++ more) 0 0 ≡ get_or old n 0
first_left old post more n lt =
    let some : 0 < length (drop n old) = omega (arith, length-drop n old) in
    let here : n + 0 ≡ n = omega arith in
    get_or_append_left (drop n old ++ post) more 0 0 (omega (arith, length-append (drop n old) post))
    ∙ get_or_append_left (drop n old) post 0 0 some ∙ get_or-drop n old 0 0 ∙ ap (λ m. get_or old m 0) here

-- the same of one line
line_between : (text : List ℕ) (n : ℕ) (pre old new post front more : List ℕ) (at : ℕ) → length new ≡ length old → n ≤ length new
    → (0 < n → n < length new → NoNeighbours text (get_or new (n - 1) 0) (get_or old n 0))
    → begins text (front ++ ((pre ++ old ++ post) ++ more)) at ≡ false → begins text (front ++ ((pre ++ new ++ post) ++ more)) at ≡ false
    → begins text (front ++ ((pre ++ (take n new ++ drop n old) ++ post) ++ more)) at ≡ false
line_between text n pre old new post front more at same within none before after =
    let line = λ (l : List ℕ). begins text (front ++ ((pre ++ l ++ post) ++ more)) at in
    elim (cases_lt 0 n) [
      | inr none_yet ↦
          let start : n ≡ 0 = omega arith in
          ap (λ m. line (take m new ++ drop m old)) start ∙ before
      | inl some ↦ elim (cases_lt n (length new)) [
        | inr all ↦
            ap line (ap (λ l. l ++ drop n old) (take_all n new all) ∙ ap (λ l. new ++ l) (drop_all n old (omega arith)) ∙ append-nil new) ∙ after
        | inl lt ↦
            let front_old = front ++ pre ++ take n old in
            let front_new = front ++ pre ++ take n new in
            let rest_old = drop n old ++ post ++ more in
            let rest_new = drop n new ++ post ++ more in
            ap (λ l. begins text l at) (in_two ((pre ++ (take n new ++ drop n old) ++ post) ++ more) front pre (take n new) (drop n old) post more refl)
            ∙ begins_between front_new front_old rest_old rest_new text at
            (omega (arith, length-append (front ++ pre) (take n old), length-append (front ++ pre) (take n new), length-take-le n old (omega arith), length-take-le n new within))
            (λ _ _. rw (last_written front pre new n some within, first_left old post more n (omega arith)) (none some lt))
            (ap (λ l. begins text l at) (sym (in_two ((pre ++ old ++ post) ++ more) front pre (take n old) (drop n old) post more (ap (λ l. (pre ++ l ++ post) ++ more) (sym (take-append-drop n old))))) ∙ before)
            (ap (λ l. begins text l at) (sym (in_two ((pre ++ new ++ post) ++ more) front pre (take n new) (drop n new) post more (ap (λ l. (pre ++ l ++ post) ++ more) (sym (take-append-drop n new))))) ∙ after)
      ]
    ]

-- each row has as many characters, if the one has
pub as_many : (above k : ℕ) (one other : List Row) → IsRewritten above one other → length (row_below other above).characters ≡ length (row_below one above).characters
    → length (row_below other k).characters ≡ length (row_below one k).characters
as_many above k one other same count = elim (cases_eq k above) [
  | inl e ↦ ap (λ i. length (row_below other i).characters) e ∙ count ∙ ap (λ i. length (row_below one i).characters) (sym e)
  | inr apart ↦ ap (λ (r : Row). length r.characters) (same.others k apart)
]

pub in_three : (pre written post : List ℕ) → length (pre ++ written ++ post) ≡ length pre + length written + length post
in_three pre written post = omega (arith, length-append (pre ++ written) post, length-append pre written)

-- where so many of the characters that were written over others are in their place, a text stands nowhere, if it stood nowhere
-- before the first and behind the last, and the last one written and the first one left are no neighbours in it
pub nowhere_between : (text : List ℕ) (above n : ℕ) (pre old new post : List ℕ) (first between last : List Row)
    → IsRewritten above first between → IsRewritten above first last
    → (row_below first above).characters ≡ pre ++ old ++ post
    → (row_below between above).characters ≡ pre ++ (take n new ++ drop n old) ++ post
    → (row_below last above).characters ≡ pre ++ new ++ post
    → length new ≡ length old → n ≤ length new
    → (0 < n → n < length new → NoNeighbours text (get_or new (n - 1) 0) (get_or old n 0))
    → standing text first ≡ [] → standing text last ≡ [] → standing text between ≡ []
nowhere_between text above n pre old new post first between last here there was is will same within none before after =
    let written : length (take n new ++ drop n old) ≡ length old = omega (arith, length-append (take n new) (drop n old), length-take-le n new within, length-drop n old) in
    let was_long = ap length was ∙ in_three pre old post in
    let is_long = ap length is ∙ in_three pre (take n new ++ drop n old) post in
    let will_long = ap length will ∙ in_three pre new post in
    all_none text between (length between) 0 (omega arith) (λ k _ lt. elim (cases_lt above k) [
      | inl past ↦
          places_same text first between k (here.others k (λ e. omega arith))
          (line_below first between (length first) k (omega arith) here.count (λ i low. here.others i (λ e. omega arith)))
          ∙ none_of text first k (omega (arith, here.count)) before
      | inr low ↦
          all_before text k (line_text (drop k between)) (length (row_below between k).characters) (λ i fits. elim (leads first between last above (above - k) k (omega arith) here there) [
            | inr same_line ↦
                let row = here.others k (λ e. omega arith) in
                ap (λ l. begins text l i) same_line.1
                ∙ none_before text k (line_text (drop k first)) (length (row_below first k).characters) i (none_of text first k (omega (arith, here.count)) before) (omega (arith, ap (λ (r : Row). length r.characters) row))
            | inl lead ↦
                let more = cond (row_below first above).runs_on (line_text (drop (above + 1) first)) [] in
                ap (λ l. begins text l i) (lead.second ∙ ap (λ l. lead.front ++ l) (line_here first between above (pre ++ (take n new ++ drop n old) ++ post) here is))
                ∙ line_between text n pre old new post lead.front more i same within none
                (ap (λ l. begins text l i) (sym (lead.first ∙ ap (λ l. lead.front ++ l) (line_here first first above (pre ++ old ++ post) (rewritten first above) was)))
                ∙ none_before text k (line_text (drop k first)) (length (row_below first k).characters) i (none_of text first k (omega (arith, here.count)) before)
                (omega (arith, as_many above k first between here (omega (arith, was_long, is_long, written)))))
                (ap (λ l. begins text l i) (sym (lead.third ∙ ap (λ l. lead.front ++ l) (line_here first last above (pre ++ new ++ post) there will)))
                ∙ none_before text k (line_text (drop k last)) (length (row_below last k).characters) i (none_of text last k (omega (arith, here.count, there.count)) after)
                (omega (arith, as_many above k first between here (omega (arith, was_long, is_long, written)), as_many above k first last there (omega (arith, was_long, will_long)))))
          ])
    ])
