-- Places that may have gone: lines that both screens have in the same order.
use Rattle.std.proofs.Common.{◌≡◌, ℕ, zero, suc, ◌+◌, ◌-◌, ◌<◌, ◌≤◌, Bool, true, List, [], ◌∷◌, ◌++◌, length, take, drop, ap, sym, ◌∙◌, subst, arith, cond}
use Rattle.std.specs.List.{flat_map}
use Rattle.std.proofs.lemmas.List.Elements.{All-nil}
use Rattle.screen_rows.specs.RowText.{row_text}
use Rattle.screen_print.specs.declared.standing.Place.{Place}
use Rattle.screen_print.specs.ByLine.{AreKept, AreLost, IsApart, lines_by, place_line, places_above, places_to, row_on}
use Rattle.screen_print.specs.FindLines.{begins, ends_line, line_text_from, row_texts}
use Rattle.screen_print.specs.Stills.{Still}
use Rattle.screen_print.proofs.ByLineLemmas.{apart_is_no_less, count_rises, lines_more, lines_none, lost_no_more, quiet_behind}
use Rattle.screen_print.proofs.FindLemmas.{line_ends, texts_at}
use Rattle.screen_print.proofs.QuietLemmas.{line_is}
use Rattle.vt_screen.specs.Cells.{row_at}

-- what holds of the places above a line holds of those above an earlier one
pub lost_down : (text : List ℕ) (one other : Still) (line there at : ℕ) (lost : List Place) → 1 ≤ at → at ≤ line → length lost < at
    → AreLost text one line other there lost → AreLost text one at other there lost
lost_down text one other line there at lost low high few are = record {
  few = few;
  there_low = are.there_low;
  there_high = are.there_high;
  lines = are.lines;
  counts = λ left apart. omega (arith, are.counts left apart, count_rises text one at line left low high);
}

-- where none may have gone nothing is written
lost_to : (text : List ℕ) (one other : Still) (write : Place → List ℕ) (keep : List ℕ → Bool) (there n : ℕ) → length other.rows ≡ 24
    → AreLost text one (n + 1) other there [] → lines_by text one other write keep (places_above text one (n + 1)) ≡ []
lost_to text one other write keep there zero whole are = lines_none text one other write keep
lost_to text one other write keep there (suc n) whole are =
    let line = suc n in
    let f = place_line text one other write keep (places_above text one line) in
    let next : n + 1 ≡ line = omega arith in
    let before : AreLost text one (n + 1) other there [] = lost_down text one other (line + 1) there (n + 1) [] (omega arith) (omega arith) (omega arith) are in
    lines_more text one other write keep line (omega arith)
    ∙ ap (λ l. l ++ flat_map f (places_to text one line (length (row_on one line))))
    (ap (λ k. lines_by text one other write keep (places_above text one k)) (sym next) ∙ lost_to text one other write keep there n whole before)
    ∙ quiet_behind text one line 0 (length (row_on one line)) f (omega arith)
    (λ column low within begins.
    apart_is_no_less text one other write keep line there column [] whole (omega arith) are.there_low are.there_high (omega arith) within begins are
    (All-nil (IsApart one (take (column - 1) (row_on one line)))))

pub none_lost : (text : List ℕ) (one other : Still) (write : Place → List ℕ) (keep : List ℕ → Bool) (there line : ℕ) → length other.rows ≡ 24 → 1 ≤ line
    → AreLost text one line other there [] → lines_by text one other write keep (places_above text one line) ≡ []
none_lost text one other write keep there line whole low are =
    let at : line - 1 + 1 ≡ line = omega arith in
    subst (λ k. lines_by text one other write keep (places_above text one k) ≡ []) at
    (lost_to text one other write keep there (line - 1) whole (subst (λ k. AreLost text one k other there []) (sym at) are))

-- rows that stand on the other screen in the same order, the last of which ends its line, are the same lines
block_text : (one other : Still) (line there n : ℕ) → length one.rows ≡ 24 → length other.rows ≡ 24 → 1 ≤ line → line + n ≤ 24 → 1 ≤ there → there + n ≤ 24
    → one.wide ≡ other.wide → ((i : ℕ) → i ≤ n → row_at one.rows (line + i) ≡ row_at other.rows (there + i)) → ends_line (row_on one (line + n)) ≡ true
    → line_text_from (drop (line - 1) (row_texts one)) ≡ line_text_from (drop (there - 1) (row_texts other))
block_text one other line there zero whole whole' low high low' high' wide same ends =
    let at : line + 0 ≡ line = omega arith in
    let at' : there + 0 ≡ there = omega arith in
    let row = row_on one line in
    let row' = row_on other there in
    let here : row_at one.rows line ≡ row_at other.rows there = ap (row_at one.rows) (sym at) ∙ same 0 (omega arith) ∙ ap (row_at other.rows) at' in
    let alike : row ≡ row' = ap (λ w. row_text w (row_at one.rows line)) wide ∙ ap (row_text other.wide) here in
    let ends_here : ends_line row ≡ true = ap (λ k. ends_line (row_on one k)) (sym at) ∙ ends in
    ap line_text_from (texts_at one line whole low (omega arith))
    ∙ sym (line_ends row (drop line (row_texts one)) ends_here)
    ∙ alike
    ∙ line_ends row' (drop there (row_texts other)) (ap ends_line (sym alike) ∙ ends_here)
    ∙ sym (ap line_text_from (texts_at other there whole' low' (omega arith)))
block_text one other line there (suc n) whole whole' low high low' high' wide same ends =
    let at : line + 0 ≡ line = omega arith in
    let at' : there + 0 ≡ there = omega arith in
    let row = row_on one line in
    let row' = row_on other there in
    let here : row_at one.rows line ≡ row_at other.rows there = ap (row_at one.rows) (sym at) ∙ same 0 (omega arith) ∙ ap (row_at other.rows) at' in
    let alike : row ≡ row' = ap (λ w. row_text w (row_at one.rows line)) wide ∙ ap (row_text other.wide) here in
    let last : line + suc n ≡ line + 1 + n = omega arith in
    let back : line + 1 - 1 ≡ line = omega arith in
    let back' : there + 1 - 1 ≡ there = omega arith in
    let rest : line_text_from (drop line (row_texts one)) ≡ line_text_from (drop there (row_texts other)) =
    ap (λ k. line_text_from (drop k (row_texts one))) (sym back)
    ∙ block_text one other (line + 1) (there + 1) n whole whole' (omega arith) (omega arith) (omega arith) (omega arith) wide
    (λ i less.
    let step : line + 1 + i ≡ line + suc i = omega arith in
    let step' : there + suc i ≡ there + 1 + i = omega arith in
    ap (row_at one.rows) step ∙ same (suc i) (omega arith) ∙ ap (row_at other.rows) step')
    (ap (λ k. ends_line (row_on one k)) (sym last) ∙ ends)
    ∙ ap (λ k. line_text_from (drop k (row_texts other))) back' in
    ap line_text_from (texts_at one line whole low (omega arith))
    ∙ line_is row (drop line (row_texts one))
    ∙ ap (λ l. row ++ cond (ends_line row) [] l) rest
    ∙ ap (λ r. r ++ cond (ends_line r) [] (line_text_from (drop there (row_texts other)))) alike
    ∙ sym (line_is row' (drop there (row_texts other)))
    ∙ sym (ap line_text_from (texts_at other there whole' low' (omega arith)))

-- so the first of them keeps all its places ..
block_kept : (text : List ℕ) (one other : Still) (line there n end : ℕ) → length one.rows ≡ 24 → length other.rows ≡ 24 → 1 ≤ line → line + n ≤ 24 → 1 ≤ there → there + n ≤ 24
    → one.wide ≡ other.wide → ((i : ℕ) → i ≤ n → row_at one.rows (line + i) ≡ row_at other.rows (there + i)) → ends_line (row_on one (line + n)) ≡ true
    → AreKept text one line other there end
block_kept text one other line there n end whole whole' low high low' high' wide same ends column left right within stands =
    let at : line + 0 ≡ line = omega arith in
    let at' : there + 0 ≡ there = omega arith in
    let here : row_at one.rows line ≡ row_at other.rows there = ap (row_at one.rows) (sym at) ∙ same 0 (omega arith) ∙ ap (row_at other.rows) at' in
    let alike : row_on one line ≡ row_on other there = ap (λ w. row_text w (row_at one.rows line)) wide ∙ ap (row_text other.wide) here in
    record {
      within = omega (arith, ap length alike, within);
      begins = ap (λ l. begins text l column) (sym (block_text one other line there n whole whole' low high low' high' wide same ends)) ∙ stands;
      left = ap (take (column - 1)) alike;
    }

-- .. and so does each
pub block_lost : (text : List ℕ) (one other : Still) (line there next n : ℕ) (lost : List Place) → length one.rows ≡ 24 → length other.rows ≡ 24 → 1 ≤ line → line + n ≤ 24
    → there + n ≤ 24 → 1 ≤ next → next ≤ there → one.wide ≡ other.wide → ((i : ℕ) → i ≤ n → row_at one.rows (line + i) ≡ row_at other.rows (there + i))
    → ends_line (row_on one (line + n)) ≡ true → AreLost text one line other next lost → AreLost text one (line + n + 1) other (there + n + 1) lost
block_lost text one other line there next zero lost whole whole' low high high' next_low near wide same ends are =
    let at : line + 1 ≡ line + 0 + 1 = omega arith in
    let at' : there + 1 ≡ there + 0 + 1 = omega arith in
    let end = length (row_on one line) + 1 in
    subst (λ k. AreLost text one k other (there + 0 + 1) lost) at
    (subst (λ k. AreLost text one (line + 1) other k lost) at'
    (lost_no_more text one other line next there end lost low next_low near (omega arith) (omega arith)
    (block_kept text one other line there 0 end whole whole' low high (omega arith) high' wide same ends) are))
block_lost text one other line there next (suc n) lost whole whole' low high high' next_low near wide same ends are =
    let end = length (row_on one line) + 1 in
    let first : AreLost text one (line + 1) other (there + 1) lost =
    lost_no_more text one other line next there end lost low next_low near (omega arith) (omega arith)
    (block_kept text one other line there (suc n) end whole whole' low high (omega arith) high' wide same ends) are in
    let last : line + suc n ≡ line + 1 + n = omega arith in
    let at : line + 1 + n + 1 ≡ line + suc n + 1 = omega arith in
    let at' : there + 1 + n + 1 ≡ there + suc n + 1 = omega arith in
    subst (λ k. AreLost text one k other (there + suc n + 1) lost) at
    (subst (λ k. AreLost text one (line + 1 + n + 1) other k lost) at'
    (block_lost text one other (line + 1) (there + 1) (there + 1) n lost whole whole' (omega arith) (omega arith) (omega arith) (omega arith) (omega arith) wide
    (λ i less.
    let step : line + 1 + i ≡ line + suc i = omega arith in
    let step' : there + suc i ≡ there + 1 + i = omega arith in
    ap (row_at one.rows) step ∙ same (suc i) (omega arith) ∙ ap (row_at other.rows) step')
    (ap (λ k. ends_line (row_on one k)) (sym last) ∙ ends) first))
