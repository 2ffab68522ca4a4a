use Rattle.std.proofs.Common.{◌≡◌, ◌-◌, ◌∙◌, is_some, Some, ap, arith, length, nat_eq, refl, suc, sym, true}
use Rattle.json_bytes.specs.Listed.{valued}
use Rattle.json_bytes.specs.Marks.{begins, past_mark, past_space}
use Rattle.json_bytes.specs.Values.{found, item, items, json_of, three_items, triple_of, tripled, value}
use Rattle.json_bytes.proofs.MemberLemmas.{with_end, without_end}
use Rattle.json_bytes.proofs.TripleLemmas.{closed_with, ended_by, last_item, no_comma, no_value, not_opened, one_item, opened, opened_empty, too_few, too_many}
use Rattle.json_bytes.proofs.values.whole_triple.Goals as goal

pub returns-then-not-begins : goal.returns-then-not-begins
returns-then-not-begins c = not_opened c.args.text.now (ap (begins 91) (sym c.past_space-array.ensures) ∙ sym c.begins.ensures ∙ c.if-not-begins.true)

pub returns-in-Some-past_mark : goal.returns-in-Some-past_mark
returns-in-Some-past_mark c =
    let text = c.args.text.now in
    let one = value 63 in
    let array = c.past_space-array.ensures in
    let is : begins 91 (past_space text) ≡ true = ap (begins 91) (sym array) ∙ sym c.begins.ensures ∙ c.if-not-begins.false in
    let first = c.in-Some.first.now in
    let opens : past_mark 91 (past_space text) ≡ Some first = ap (past_mark 91) (sym array) ∙ sym c.in-Some.ensures in
    opened_empty text first c.in-Some-past_mark._end.now is opens (sym c.in-Some-past_mark.ensures)

pub returns-then-first-lt3 : goal.returns-then-first-lt3
returns-then-first-lt3 c =
    let text = c.args.text.now in
    let one = value 63 in
    let array = c.past_space-array.ensures in
    let is : begins 91 (past_space text) ≡ true = ap (begins 91) (sym array) ∙ sym c.begins.ensures ∙ c.if-not-begins.false in
    let first = c.in-Some.first.now in
    let opens : past_mark 91 (past_space text) ≡ Some first = ap (past_mark 91) (sym array) ∙ sym c.in-Some.ensures in
    let start : triple_of (json_of text) ≡ closed_with three_items (items one (length first) first) =
    opened text first is opens (sym c.in_default-past_mark.ensures) in
    start ∙ too_few one (length first) first (omega arith)

pub returns-in_default-value_end : goal.returns-in_default-value_end
returns-in_default-value_end c =
    let text = c.args.text.now in
    let one = value 63 in
    let array = c.past_space-array.ensures in
    let is : begins 91 (past_space text) ≡ true = ap (begins 91) (sym array) ∙ sym c.begins.ensures ∙ c.if-not-begins.false in
    let first = c.in-Some.first.now in
    let opens : past_mark 91 (past_space text) ≡ Some first = ap (past_mark 91) (sym array) ∙ sym c.in-Some.ensures in
    let start : triple_of (json_of text) ≡ closed_with three_items (items one (length first) first) =
    opened text first is opens (sym c.in_default-past_mark.ensures) in
    let most = length first - 3 in
    let sized : length first ≡ suc (suc (suc most)) = omega arith in
    let entry : triple_of (json_of text) ≡ closed_with three_items (items one (suc (suc (suc most))) first) =
    start ∙ ap (λ n. closed_with three_items (items one n first)) sized in
    entry ∙ no_value three_items one (suc (suc most)) first (without_end (one first) (sym c.in_default-value_end.ensures))

pub returns-in_default-past_mark-2 : goal.returns-in_default-past_mark-2
returns-in_default-past_mark-2 c =
    let text = c.args.text.now in
    let one = value 63 in
    let array = c.past_space-array.ensures in
    let is : begins 91 (past_space text) ≡ true = ap (begins 91) (sym array) ∙ sym c.begins.ensures ∙ c.if-not-begins.false in
    let first = c.in-Some.first.now in
    let opens : past_mark 91 (past_space text) ≡ Some first = ap (past_mark 91) (sym array) ∙ sym c.in-Some.ensures in
    let start : triple_of (json_of text) ≡ closed_with three_items (items one (length first) first) =
    opened text first is opens (sym c.in_default-past_mark.ensures) in
    let most = length first - 3 in
    let sized : length first ≡ suc (suc (suc most)) = omega arith in
    let entry : triple_of (json_of text) ≡ closed_with three_items (items one (suc (suc (suc most))) first) =
    start ∙ ap (λ n. closed_with three_items (items one n first)) sized in
    let a = with_end (one first) c.in-Some-value_end.behind_first.now (sym c.in-Some-value_end.ensures) in
    entry ∙ no_comma three_items one (suc (suc most)) first c.in-Some-value_end.behind_first.now (a.0) refl (a.1) (sym c.in_default-past_mark-2.ensures)

pub returns-in_default-2 : goal.returns-in_default-2
returns-in_default-2 c =
    let text = c.args.text.now in
    let one = value 63 in
    let array = c.past_space-array.ensures in
    let is : begins 91 (past_space text) ≡ true = ap (begins 91) (sym array) ∙ sym c.begins.ensures ∙ c.if-not-begins.false in
    let first = c.in-Some.first.now in
    let opens : past_mark 91 (past_space text) ≡ Some first = ap (past_mark 91) (sym array) ∙ sym c.in-Some.ensures in
    let start : triple_of (json_of text) ≡ closed_with three_items (items one (length first) first) =
    opened text first is opens (sym c.in_default-past_mark.ensures) in
    let most = length first - 3 in
    let sized : length first ≡ suc (suc (suc most)) = omega arith in
    let entry : triple_of (json_of text) ≡ closed_with three_items (items one (suc (suc (suc most))) first) =
    start ∙ ap (λ n. closed_with three_items (items one n first)) sized in
    let a = with_end (one first) c.in-Some-value_end.behind_first.now (sym c.in-Some-value_end.ensures) in
    let second = c.in-Some-past_mark-2.second.now in
    let to_second : triple_of (json_of text) ≡ closed_with (λ all. three_items (item (a.0) all)) (items one (suc (suc most)) second) =
    entry ∙ one_item three_items one (suc (suc most)) first c.in-Some-value_end.behind_first.now second (a.0) (a.1) (sym c.in-Some-past_mark-2.ensures) in
    to_second ∙ no_value (λ all. three_items (item (a.0) all)) one (suc most) second (sym c.in_ok-middle.ensures ∙ rw c.in_default-2.is refl)

pub returns-in_default-past_mark-3 : goal.returns-in_default-past_mark-3
returns-in_default-past_mark-3 c =
    let text = c.args.text.now in
    let one = value 63 in
    let array = c.past_space-array.ensures in
    let is : begins 91 (past_space text) ≡ true = ap (begins 91) (sym array) ∙ sym c.begins.ensures ∙ c.if-not-begins.false in
    let first = c.in-Some.first.now in
    let opens : past_mark 91 (past_space text) ≡ Some first = ap (past_mark 91) (sym array) ∙ sym c.in-Some.ensures in
    let start : triple_of (json_of text) ≡ closed_with three_items (items one (length first) first) =
    opened text first is opens (sym c.in_default-past_mark.ensures) in
    let most = length first - 3 in
    let sized : length first ≡ suc (suc (suc most)) = omega arith in
    let entry : triple_of (json_of text) ≡ closed_with three_items (items one (suc (suc (suc most))) first) =
    start ∙ ap (λ n. closed_with three_items (items one n first)) sized in
    let a = with_end (one first) c.in-Some-value_end.behind_first.now (sym c.in-Some-value_end.ensures) in
    let second = c.in-Some-past_mark-2.second.now in
    let to_second : triple_of (json_of text) ≡ closed_with (λ all. three_items (item (a.0) all)) (items one (suc (suc most)) second) =
    entry ∙ one_item three_items one (suc (suc most)) first c.in-Some-value_end.behind_first.now second (a.0) (a.1) (sym c.in-Some-past_mark-2.ensures) in
    let middle = valued 63 c.in-Some-2.middle in
    let is_middle : one second ≡ Some (middle, c.in-Some-2.behind_second.now) = sym c.in_ok-middle.ensures ∙ rw c.in-Some-2.is refl in
    to_second ∙ no_comma (λ all. three_items (item (a.0) all)) one (suc most) second c.in-Some-2.behind_second.now middle refl is_middle (sym c.in_default-past_mark-3.ensures)

pub returns-in_default-3 : goal.returns-in_default-3
returns-in_default-3 c =
    let text = c.args.text.now in
    let one = value 63 in
    let array = c.past_space-array.ensures in
    let is : begins 91 (past_space text) ≡ true = ap (begins 91) (sym array) ∙ sym c.begins.ensures ∙ c.if-not-begins.false in
    let first = c.in-Some.first.now in
    let opens : past_mark 91 (past_space text) ≡ Some first = ap (past_mark 91) (sym array) ∙ sym c.in-Some.ensures in
    let start : triple_of (json_of text) ≡ closed_with three_items (items one (length first) first) =
    opened text first is opens (sym c.in_default-past_mark.ensures) in
    let most = length first - 3 in
    let sized : length first ≡ suc (suc (suc most)) = omega arith in
    let entry : triple_of (json_of text) ≡ closed_with three_items (items one (suc (suc (suc most))) first) =
    start ∙ ap (λ n. closed_with three_items (items one n first)) sized in
    let a = with_end (one first) c.in-Some-value_end.behind_first.now (sym c.in-Some-value_end.ensures) in
    let second = c.in-Some-past_mark-2.second.now in
    let to_second : triple_of (json_of text) ≡ closed_with (λ all. three_items (item (a.0) all)) (items one (suc (suc most)) second) =
    entry ∙ one_item three_items one (suc (suc most)) first c.in-Some-value_end.behind_first.now second (a.0) (a.1) (sym c.in-Some-past_mark-2.ensures) in
    let middle = valued 63 c.in-Some-2.middle in
    let is_middle : one second ≡ Some (middle, c.in-Some-2.behind_second.now) = sym c.in_ok-middle.ensures ∙ rw c.in-Some-2.is refl in
    let third = c.in-Some-past_mark-3.third.now in
    let to_third : triple_of (json_of text) ≡ closed_with (λ all. three_items (item (a.0) (item middle all))) (items one (suc most) third) =
    to_second ∙ one_item (λ all. three_items (item (a.0) all)) one (suc most) second c.in-Some-2.behind_second.now third middle is_middle (sym c.in-Some-past_mark-3.ensures) in
    to_third ∙ no_value (λ all. three_items (item (a.0) (item middle all))) one most third (sym c.in_ok-last.ensures ∙ rw c.in_default-3.is refl)

pub returns-in_default-past_mark-4 : goal.returns-in_default-past_mark-4
returns-in_default-past_mark-4 c =
    let text = c.args.text.now in
    let one = value 63 in
    let array = c.past_space-array.ensures in
    let is : begins 91 (past_space text) ≡ true = ap (begins 91) (sym array) ∙ sym c.begins.ensures ∙ c.if-not-begins.false in
    let first = c.in-Some.first.now in
    let opens : past_mark 91 (past_space text) ≡ Some first = ap (past_mark 91) (sym array) ∙ sym c.in-Some.ensures in
    let start : triple_of (json_of text) ≡ closed_with three_items (items one (length first) first) =
    opened text first is opens (sym c.in_default-past_mark.ensures) in
    let most = length first - 3 in
    let sized : length first ≡ suc (suc (suc most)) = omega arith in
    let entry : triple_of (json_of text) ≡ closed_with three_items (items one (suc (suc (suc most))) first) =
    start ∙ ap (λ n. closed_with three_items (items one n first)) sized in
    let a = with_end (one first) c.in-Some-value_end.behind_first.now (sym c.in-Some-value_end.ensures) in
    let second = c.in-Some-past_mark-2.second.now in
    let to_second : triple_of (json_of text) ≡ closed_with (λ all. three_items (item (a.0) all)) (items one (suc (suc most)) second) =
    entry ∙ one_item three_items one (suc (suc most)) first c.in-Some-value_end.behind_first.now second (a.0) (a.1) (sym c.in-Some-past_mark-2.ensures) in
    let middle = valued 63 c.in-Some-2.middle in
    let is_middle : one second ≡ Some (middle, c.in-Some-2.behind_second.now) = sym c.in_ok-middle.ensures ∙ rw c.in-Some-2.is refl in
    let third = c.in-Some-past_mark-3.third.now in
    let to_third : triple_of (json_of text) ≡ closed_with (λ all. three_items (item (a.0) (item middle all))) (items one (suc most) third) =
    to_second ∙ one_item (λ all. three_items (item (a.0) all)) one (suc most) second c.in-Some-2.behind_second.now third middle is_middle (sym c.in-Some-past_mark-3.ensures) in
    let last = valued 63 c.in-Some-3.last in
    let is_last : one third ≡ Some (last, c.in-Some-3.behind_third.now) = sym c.in_ok-last.ensures ∙ rw c.in-Some-3.is refl in
    to_third ∙ too_many (a.0) middle one most third c.in-Some-3.behind_third.now last is_last (sym c.in_default-past_mark-4.ensures)

pub returns-then-is_empty : goal.returns-then-is_empty
returns-then-is_empty c =
    let text = c.args.text.now in
    let one = value 63 in
    let array = c.past_space-array.ensures in
    let is : begins 91 (past_space text) ≡ true = ap (begins 91) (sym array) ∙ sym c.begins.ensures ∙ c.if-not-begins.false in
    let first = c.in-Some.first.now in
    let opens : past_mark 91 (past_space text) ≡ Some first = ap (past_mark 91) (sym array) ∙ sym c.in-Some.ensures in
    let start : triple_of (json_of text) ≡ closed_with three_items (items one (length first) first) =
    opened text first is opens (sym c.in_default-past_mark.ensures) in
    let most = length first - 3 in
    let sized : length first ≡ suc (suc (suc most)) = omega arith in
    let entry : triple_of (json_of text) ≡ closed_with three_items (items one (suc (suc (suc most))) first) =
    start ∙ ap (λ n. closed_with three_items (items one n first)) sized in
    let a = with_end (one first) c.in-Some-value_end.behind_first.now (sym c.in-Some-value_end.ensures) in
    let second = c.in-Some-past_mark-2.second.now in
    let to_second : triple_of (json_of text) ≡ closed_with (λ all. three_items (item (a.0) all)) (items one (suc (suc most)) second) =
    entry ∙ one_item three_items one (suc (suc most)) first c.in-Some-value_end.behind_first.now second (a.0) (a.1) (sym c.in-Some-past_mark-2.ensures) in
    let middle = valued 63 c.in-Some-2.middle in
    let is_middle : one second ≡ Some (middle, c.in-Some-2.behind_second.now) = sym c.in_ok-middle.ensures ∙ rw c.in-Some-2.is refl in
    let third = c.in-Some-past_mark-3.third.now in
    let to_third : triple_of (json_of text) ≡ closed_with (λ all. three_items (item (a.0) (item middle all))) (items one (suc most) third) =
    to_second ∙ one_item (λ all. three_items (item (a.0) all)) one (suc most) second c.in-Some-2.behind_second.now third middle is_middle (sym c.in-Some-past_mark-3.ensures) in
    let last = valued 63 c.in-Some-3.last in
    let is_last : one third ≡ Some (last, c.in-Some-3.behind_third.now) = sym c.in_ok-last.ensures ∙ rw c.in-Some-3.is refl in
    let closes : triple_of (json_of text) ≡ ended_by (nat_eq (length (past_space c.in-Some-past_mark-4.rest.now)) 0) (Some (a.0, middle, last)) =
    to_third ∙ last_item (λ all. three_items (item (a.0) (item middle all))) one most third c.in-Some-3.behind_third.now c.in-Some-past_mark-4.rest.now last is_last
    (sym c.in-Some-past_mark-4.ensures) in
    let len : nat_eq (length (past_space c.in-Some-past_mark-4.rest.now)) 0 ≡ c.is_empty.result = ap (λ t. nat_eq (length t) 0) (sym c.past_space.ensures) ∙ sym c.is_empty.ensures in
    let x : found (one first) ≡ Some (a.0) = ap found (a.1) in
    let values : tripled (found (one first)) (Some middle) (Some last) ≡ Some (a.0, middle, last) =
    ap (λ o. tripled o (Some middle) (Some last)) x in
    let all : triple_of (json_of text) ≡ Some (a.0, middle, last) = closes ∙ ap (λ ended. ended_by ended (Some (a.0, middle, last))) (len ∙ c.if-is_empty.true) in
    (all ∙ sym values, ap is_some all)

pub returns : goal.returns
returns c =
    let text = c.args.text.now in
    let one = value 63 in
    let array = c.past_space-array.ensures in
    let is : begins 91 (past_space text) ≡ true = ap (begins 91) (sym array) ∙ sym c.begins.ensures ∙ c.if-not-begins.false in
    let first = c.in-Some.first.now in
    let opens : past_mark 91 (past_space text) ≡ Some first = ap (past_mark 91) (sym array) ∙ sym c.in-Some.ensures in
    let start : triple_of (json_of text) ≡ closed_with three_items (items one (length first) first) =
    opened text first is opens (sym c.in_default-past_mark.ensures) in
    let most = length first - 3 in
    let sized : length first ≡ suc (suc (suc most)) = omega arith in
    let entry : triple_of (json_of text) ≡ closed_with three_items (items one (suc (suc (suc most))) first) =
    start ∙ ap (λ n. closed_with three_items (items one n first)) sized in
    let a = with_end (one first) c.in-Some-value_end.behind_first.now (sym c.in-Some-value_end.ensures) in
    let second = c.in-Some-past_mark-2.second.now in
    let to_second : triple_of (json_of text) ≡ closed_with (λ all. three_items (item (a.0) all)) (items one (suc (suc most)) second) =
    entry ∙ one_item three_items one (suc (suc most)) first c.in-Some-value_end.behind_first.now second (a.0) (a.1) (sym c.in-Some-past_mark-2.ensures) in
    let middle = valued 63 c.in-Some-2.middle in
    let is_middle : one second ≡ Some (middle, c.in-Some-2.behind_second.now) = sym c.in_ok-middle.ensures ∙ rw c.in-Some-2.is refl in
    let third = c.in-Some-past_mark-3.third.now in
    let to_third : triple_of (json_of text) ≡ closed_with (λ all. three_items (item (a.0) (item middle all))) (items one (suc most) third) =
    to_second ∙ one_item (λ all. three_items (item (a.0) all)) one (suc most) second c.in-Some-2.behind_second.now third middle is_middle (sym c.in-Some-past_mark-3.ensures) in
    let last = valued 63 c.in-Some-3.last in
    let is_last : one third ≡ Some (last, c.in-Some-3.behind_third.now) = sym c.in_ok-last.ensures ∙ rw c.in-Some-3.is refl in
    let closes : triple_of (json_of text) ≡ ended_by (nat_eq (length (past_space c.in-Some-past_mark-4.rest.now)) 0) (Some (a.0, middle, last)) =
    to_third ∙ last_item (λ all. three_items (item (a.0) (item middle all))) one most third c.in-Some-3.behind_third.now c.in-Some-past_mark-4.rest.now last is_last
    (sym c.in-Some-past_mark-4.ensures) in
    let len : nat_eq (length (past_space c.in-Some-past_mark-4.rest.now)) 0 ≡ c.is_empty.result = ap (λ t. nat_eq (length t) 0) (sym c.past_space.ensures) ∙ sym c.is_empty.ensures in
    closes ∙ ap (λ ended. ended_by ended (Some (a.0, middle, last))) (len ∙ c.if-is_empty.false)
