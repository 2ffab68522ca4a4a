use Rattle.std.proofs.Common.{◌≡◌, ◌<◌, ◌≤◌, ◌==◌, length, refl, ◌∙◌, arith}
use Rattle.std.specs.List.{position_or_len}
use Rattle.std.proofs.Math.ListN.{drop_of_length-le}
use Rattle.tape_core.proofs.FieldLemmas.{behind, lines_first, lines_last}
use Rattle.tape_core.proofs.text.next_line.Goals as goal

pub returns-in-empty-clause-lines : goal.returns-in-empty-clause-lines
returns-in-empty-clause-lines c =
    let text = c.args.text.now in
    let e : c.position_of.result ≡ position_or_len (λ b. b == 10) text = c.position_of.ensures.first in
    let le : length text ≤ position_or_len (λ b. b == 10) text = omega (arith, c.split_at.ensures.back_len) in
    let le' : length text ≤ c.position_of.result = omega (arith, c.split_at.ensures.back_len) in
    lines_last text c.requires le ∙ rw (c.split_at.ensures.front, c.split_at.ensures.back, e, drop_of_length-le text le) refl

pub returns-in-len1-up-clause-lines : goal.returns-in-len1-up-clause-lines
returns-in-len1-up-clause-lines c =
    let text = c.args.text.now in
    let e : c.position_of.result ≡ position_or_len (λ b. b == 10) text = c.position_of.ensures.first in
    let lt : position_or_len (λ b. b == 10) text < length text = omega (arith, c.split_at.ensures.back_len) in
    lines_first text lt ∙ rw (c.split_at.ensures.front, c.split_at.ensures.back, behind text c.position_of.result, e) refl
