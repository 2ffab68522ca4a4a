use Rattle.std.proofs.Common.{◌≡◌, ◌-◌, drop, take, length, ap, sym, ◌∙◌}
use Rattle.std.proofs.lemmas.List.{take_rest}
use Rattle.tape_core.specs.Text.{number_of}
use Rattle.tape_import.specs.Facts.{parted, side, size_of}
use Rattle.tape_import.proofs.FactsLemmas.{asked}
use Rattle.tape_import.proofs.facts.asked_size.Goals as goal

pub returns-clause-size : goal.returns-clause-size
returns-clause-size c =
    let text = c.args.text.now in
    let lines = c.in_ok-lines.lines.now in
    let columns = c.in_ok-columns.columns.now in
    let behind : take (length text - 4) (drop 4 text) ≡ drop 4 text = take_rest text 4 in
    c.size_of.ensures.size ∙ ap (λ s. size_of s c.side-2.result) c.side.ensures.side ∙ ap (λ s. size_of (side (number_of columns)) s) c.side-2.ensures.side
    ∙ sym (asked text lines c.in_ok-lines.rest.now columns c.in_ok-columns.field-0-1.now (sym c.starts_with.ensures.value ∙ c.if-not-starts_with.false)
    (ap (parted 59) (sym behind) ∙ c.in_ok-lines.ensures) c.in_ok-columns.ensures)
