use Rattle.std.proofs.Common.{◌≡◌, ◌-◌, ◌∙◌, ap, drop, length, refl, sym, take}
use Rattle.std.proofs.lemmas.List.{take_rest}
use Rattle.json_bytes.specs.Strings.{items, string_at, with_front}
use Rattle.json_bytes.proofs.StringLemmas.{quote_ends, quote_inner, quote_read}
use Rattle.json_bytes.proofs.strings.read_string.Goals as goal

pub returns-then-begins : goal.returns-then-begins
returns-then-begins c =
    let text = c.args.text.now in
    let inner = take (length text - 1) (drop 1 text) in
    let plain = c.split_at.result.0.now in
    let rest = c.split_at.result.1.now in
    let read : string_at text ≡ with_front plain (items 0 rest) =
    quote_read text inner plain rest (sym c.begins.ensures ∙ c.if-not-begins.false) (take_rest text 1)
    (c.split_at.ensures.front ∙ ap (λ n. take n inner) c.plain_len.ensures.plain) (c.split_at.ensures.back ∙ ap (λ n. drop n inner) c.plain_len.ensures.plain) in
    sym (read ∙ quote_ends plain rest (sym c.begins-2.ensures ∙ c.if-begins.true))

pub returns-in-Some : goal.returns-in-Some
returns-in-Some c =
    let text = c.args.text.now in
    let inner = take (length text - 1) (drop 1 text) in
    sym (quote_inner text inner (sym c.begins.ensures ∙ c.if-not-begins.false) (take_rest text 1) ∙ sym c.in_ok-bytes.ensures ∙ rw c.in-Some.is refl)

pub returns-in-None : goal.returns-in-None
returns-in-None c =
    let text = c.args.text.now in
    let inner = take (length text - 1) (drop 1 text) in
    sym (quote_inner text inner (sym c.begins.ensures ∙ c.if-not-begins.false) (take_rest text 1) ∙ sym c.in_ok-bytes.ensures ∙ rw c.in-None.is refl)
