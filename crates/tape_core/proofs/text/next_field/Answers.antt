use Rattle.std.proofs.Common.{◌≡◌, ◌<◌, ◌≤◌, length, drop, refl, ap, sym, ◌∙◌, arith}
use Rattle.std.specs.List.{prefix_len}
use Rattle.std.proofs.lemmas.Bool.Decides.{nat_tests}
use Rattle.std.proofs.Math.ListN.{drop_of_length-le}
use Rattle.tape_core.specs.Text.{fields, is_blank}
use Rattle.tape_core.proofs.FieldLemmas.{fields_trimmed, fields_word, trimmed_front}
use Rattle.tape_core.proofs.text.next_field.Goals as goal

pub returns-then-is_empty : goal.returns-then-is_empty
returns-then-is_empty c =
    let text = c.args.text.now in
    let e : c.blank_len.result ≡ prefix_len is_blank text = c.blank_len.ensures.blanks in
    let zero : length c.split_at.result.1.now ≡ 0 = grind (arith, nat_tests) in
    let le : length text ≤ prefix_len is_blank text = omega (arith, c.split_at.ensures.back_len) in
    fields_trimmed text ∙ rw (drop_of_length-le text le) refl

pub returns : goal.returns
returns c =
    let text = c.args.text.now in
    let rest = c.split_at.result.1.now in
    let is : rest ≡ drop (prefix_len is_blank text) text = c.split_at.ensures.back ∙ ap (λ n. drop n text) c.blank_len.ensures.blanks in
    let some : 0 < length rest = grind (arith, nat_tests) in
    let none : prefix_len is_blank rest ≡ 0 = ap (prefix_len is_blank) is ∙ trimmed_front text in
    fields_trimmed text ∙ ap fields (sym is) ∙ fields_word rest some none ∙ rw (c.split_at-2.ensures.front, c.split_at-2.ensures.back, c.field_len.ensures.field) refl
