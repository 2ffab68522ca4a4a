use Rattle.std.proofs.Common.{ap, sym, ◌∙◌, drop, take}
use Rattle.std.specs.List.{prefix_len}
use Rattle.json_bytes.specs.Strings.{is_plain, items}
use Rattle.json_bytes.specs.Values.{behind}
use Rattle.json_bytes.proofs.StringLemmas.{behind_plain, same_behind}
use Rattle.json_bytes.proofs.strings.past_plain.Goals as goal

pub returns-clause-end : goal.returns-clause-end
returns-clause-end c =
    let text = c.args.text.now in
    let plain = prefix_len is_plain text in
    ap behind (behind_plain text) ∙ same_behind (take plain text) (items 0 (drop plain text))
    ∙ ap (λ n. behind (items 0 (drop n text))) (sym c.plain_len.ensures.plain) ∙ ap (λ t. behind (items 0 t)) (sym c.split_at.ensures.back)
