use Rattle.std.proofs.Common.{◌∙◌, arith, sym}
use Rattle.std.proofs.lemmas.List.{get_or_read}
use Rattle.standings.proofs.RowLemmas.{second_differs}
use Rattle.standings.proofs.place.has_front_early.Goals as goal

pub returns : goal.returns
returns c = λ none before low rest.
    let text = c.args.text.now in
    second_differs c.args.characters.now text rest before (omega arith) low
    (λ e e'. c.has_pair.ensures none before low
    (e ∙ sym (get_or_read text 0 c.index-text-0.result (omega arith) c.index-text-0.is 0))
    (e' ∙ sym (get_or_read text 1 c.index-text-1.result (omega arith) c.index-text-1.is 0)))
