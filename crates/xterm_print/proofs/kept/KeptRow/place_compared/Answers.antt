use Rattle.std.proofs.Common.{◌<◌, ◌∙◌, List, ap, sym, subst, arith, inl, inr, length}
use Rattle.std.proofs.lemmas.Bool.{cases_lt}
use Rattle.sheet.specs.Cells.{Cell}
use Rattle.xterm_print.specs.ChangeLines.{same_row}
use Rattle.xterm_print.specs.Same.{Agree}
use Rattle.xterm_print.proofs.SameLemmas.{equal_in_use, equal_same}
use Rattle.xterm_print.proofs.kept.KeptRow.place_compared.Goals as goal

pub returns-then-at-end : goal.returns-then-at-end
returns-then-at-end c =
    let row = c.self.inside.cells.items in
    let cells = c.args.cells.now in
    let end = c.end_of-end.result in
    let long = ap length c.self.view_is ∙ c.requires.long in
    let agree = subst (λ (r : List Cell). Agree r cells 0 c.same_up_to-at.result) c.as_slice.ensures.value c.same_up_to-at.ensures.agree in
    let used = equal_in_use row cells c.self.inside.used c.args.used end long c.self.invariant c.requires.used (omega (arith, c.max.ensures, c.end_of-end.ensures.low))
    (omega (arith, c.max.ensures, c.end_of-end.ensures.low)) (subst (λ n. Agree row cells 0 n) c.if-at-end.true agree) in
    let equal = sym c.self.view_is ∙ used in
    record {
      same = sym (equal_same c.args.self.now cells equal);
      equal = λ _. equal;
      agree = tt;
      within = tt;
    }

pub returns : goal.returns
returns c =
    let cells = c.args.cells.now in
    let at = c.same_up_to-at.result in
    let below : at < c.end_of-end.result = omega (arith, c.if-at-end.false, c.same_up_to-at.ensures.high) in
    let own = c.as_slice.ensures.value ∙ c.self.view_is in
    let first = subst (λ (r : List Cell). Agree r cells 0 at) own c.same_up_to-at.ensures.agree in
    let rest = subst (λ (r : List Cell). Agree r cells at c.place_from.result) (c.as_slice-2.ensures.value ∙ c.self.view_is) c.place_from.ensures.agree in
    record {
      same = sym (c.same_up_to-at.ensures.differ below) ∙ ap (λ (r : List Cell). same_row r cells) own;
      equal = λ is. absurd (cc);
      agree = λ k low high. elim (cases_lt k at) [ inl before ↦ first k low before | inr behind ↦ rest k behind high ];
      within = omega (arith, c.place_from.ensures.high, c.end_of-end.ensures.high);
    }
