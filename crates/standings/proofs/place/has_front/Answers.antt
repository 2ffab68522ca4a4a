use Rattle.std.proofs.Common.{◌≡◌, ◌≢◌, ◌∙◌, ◌+◌, ◌-◌, ◌<◌, ap, arith, get_or, length, sym, inl, inr}
use Rattle.std.proofs.lemmas.Bool.{cases_lt, eqb-false}
use Rattle.std.proofs.lemmas.List.{get_or_read}
use Rattle.standings.proofs.RowLemmas.{first_differs, second_differs}
use Rattle.standings.proofs.place.has_front.Goals as goal

pub returns-then-text-eq1 : goal.returns-then-text-eq1
returns-then-text-eq1 c = λ none before lt rest.
    let text = c.args.text.now in
    let some : 0 < length text = omega arith in
    first_differs c.args.characters.now text rest before some lt
    (λ e. c.has.ensures none before lt (e ∙ sym (get_or_read text 0 c.index-text-0.result some c.index-text-0.is 0)))

pub returns-else-characters-text : goal.returns-else-characters-text
returns-else-characters-text c = λ none before lt rest.
    let text = c.args.text.now in
    let characters = c.args.characters.now in
    let apart : length text ≢ 0 = eqb-false (length text) 0 (sym c.is_empty.ensures ∙ c.if-is_empty.false) in
    let some : 1 < length text = omega (arith, c.if-text-eq1.false) in
    elim (cases_lt (before + 1) (length characters)) [
      | inl low ↦
          second_differs characters text rest before some low
          (λ e e'. c.has_pair.ensures none before low
          (e ∙ sym (get_or_read text 0 c.index-text-0-else-characters-text.result (omega arith) c.index-text-0-else-characters-text.is 0))
          (e' ∙ sym (get_or_read text 1 c.index-text-1.result some c.index-text-1.is 0)))
      | inr high ↦
          let last : length characters - 1 ≡ before = omega arith in
          first_differs characters text rest before (omega arith) lt
          (λ e. c.if-characters-text.false
          (get_or_read characters (length characters - 1) c.index-characters-characters.result (omega arith) c.index-characters-characters.is 0
          ∙ ap (λ n. get_or characters n 0) last ∙ e
          ∙ sym (get_or_read text 0 c.index-text-0-2.result (omega arith) c.index-text-0-2.is 0)))
    ]
