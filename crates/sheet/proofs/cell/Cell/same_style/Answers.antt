use Rattle.std.proofs.Common.{◌≡◌, ◌+◌, ◌*◌, ◌%◌, ◌/◌, ℕ, true, nat_eq, ap, ap₂, sym, ◌∙◌, arith}
use Rattle.std.proofs.lemmas.Bool.{eqb-true, false≢true}
use Rattle.std.proofs.lemmas.Bool.Decides.{nat_tests}
use Rattle.sheet.specs.Cells.{Cell}
use Rattle.sheet.specs.Numbers.{cell_of, kind_number, kind_of, rendition_of, style_number}
use Rattle.sheet.proofs.Numbers.{style_seen}
use Rattle.sheet.proofs.cell.Cell.same_style.Goals as goal

pub returns-clause-kind : goal.returns-clause-kind
unfolding cell_of
returns-clause-kind c = λ same.
    sym (ap (λ (x : Cell). x.kind) c.self.view_is)
    ∙ ap (λ (s : ℕ). kind_of (s / 33554432 / 33554432 / 256)) (eqb-true c.self.inside.style c.other.inside.style same)
    ∙ ap (λ (x : Cell). x.kind) c.other.view_is

pub returns-clause-rendition : goal.returns-clause-rendition
unfolding cell_of
returns-clause-rendition c = λ same.
    sym (ap (λ (x : Cell). x.rendition) c.self.view_is)
    ∙ ap (λ (s : ℕ). rendition_of (s / 33554432 / 33554432 % 256) (s % 33554432) (s / 33554432 % 33554432))
    (eqb-true c.self.inside.style c.other.inside.style same)
    ∙ ap (λ (x : Cell). x.rendition) c.other.view_is

pub returns-clause-apart : goal.returns-clause-apart
unfolding style_number
returns-clause-apart c = λ apart kind alike.
    let one = c.self in
    let two = c.other in
    let same : one.inside.style ≡ two.inside.style =
    style_seen one.inside.text one.inside.style _ one.invariant one.view_is
    ∙ ap₂ (λ (h i : ℕ). h * 33554432 + i)
    (ap₂ (λ (h p : ℕ). h * 33554432 + p) (ap₂ (λ (k a : ℕ). k * 256 + a) (ap kind_number kind) alike.attributes) alike.paper) alike.ink
    ∙ sym (style_seen two.inside.text two.inside.style _ two.invariant two.view_is) in
    let is : nat_eq one.inside.style two.inside.style ≡ true = grind (arith, nat_tests) in
    absurd (false≢true (sym apart ∙ is))
