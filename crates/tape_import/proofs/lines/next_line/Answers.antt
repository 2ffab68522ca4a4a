use Rattle.std.proofs.Common.{[], ◌≡◌, ◌+◌, ◌-◌, ◌∷◌, ◌∙◌, ap, arith, drop, length, subst, sym, take}
use Rattle.std.proofs.Math.ListN.{drop_of_length-le}
use Rattle.std.proofs.lemmas.List.{drop-drop, take_all, take_rest}
use Rattle.memchr.specs.Find.{IsFirstByte, is_byte}
use Rattle.tape_core.specs.Text.{lines_of}
use Rattle.tape_import.proofs.LineLemmas.{line_alone, line_ends}
use Rattle.tape_import.proofs.lines.next_line.Goals as goal

pub returns-in_default-clause-lines : goal.returns-in_default-clause-lines
returns-in_default-clause-lines c =
    let text = c.args.text.now in
    let front : c.split_at.result.0.now ≡ text = c.split_at.ensures.front ∙ take_all (length text) text (omega arith) in
    let back : c.split_at.result.1.now ≡ [] = c.split_at.ensures.back ∙ drop_of_length-le text (omega arith) in
    line_alone text c.requires (subst (λ r. IsFirstByte (is_byte 10) text r) c.in_default.is c.memchr.ensures)
    ∙ ap (λ line. line ∷ lines_of []) (sym front) ∙ ap (λ rest. c.split_at.result.0.now ∷ lines_of rest) (sym back)

pub returns-clause-lines : goal.returns-clause-lines
returns-clause-lines c =
    let text = c.args.text.now in
    let at = c.in-Some.at in
    let rest = c.split_at-2.result.1.now in
    let behind : take (length rest - 1) (drop 1 rest) ≡ drop (at + 1) text = take_rest rest 1 ∙ ap (drop 1) c.split_at-2.ensures.back ∙ drop-drop 1 at text in
    line_ends text at (subst (λ r. IsFirstByte (is_byte 10) text r) c.in-Some.is c.memchr.ensures)
    ∙ ap (λ line. line ∷ lines_of (drop (at + 1) text)) (sym c.split_at-2.ensures.front)
    ∙ ap (λ t. c.split_at-2.result.0.now ∷ lines_of t) (sym behind)
