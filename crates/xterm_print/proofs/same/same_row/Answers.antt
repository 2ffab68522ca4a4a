use Rattle.std.proofs.Common.{◌≡◌, ◌≢◌, ◌==◌, ◌<◌, true, arith, inl, inr, length, sym, ◌∙◌}
use Rattle.std.proofs.lemmas.Bool.{cases_Bool, false≢true}
use Rattle.std.proofs.lemmas.Bool.Decides.{Decides-eqb}
use Rattle.xterm_print.proofs.SameLemmas.{equal_same, rows_agree}
use Rattle.xterm_print.proofs.same.same_row.Goals as goal

pub returns : goal.returns
returns c =
    let one = c.args.one.now in
    let other = c.args.other.now in
    let at = c.same_up_to.result in
    let all = Decides-eqb at (length one) in
    let equal : (at == length one) ≡ true → one ≡ other =
    λ t. rows_agree one other at c.if-one-other.false c.same_up_to.ensures.agree (λ k low high. absurd (omega (arith, all.0 t, low, high))) in
    record {
      same = elim (cases_Bool (at == length one)) [
        | inl t ↦ t ∙ sym (equal_same one other (equal t))
        | inr f ↦
            let ne : at ≢ length one = λ e. false≢true (sym f ∙ all.1 e) in
            let below : at < length one = omega (arith, ne, c.same_up_to.ensures.high) in
            f ∙ sym (c.same_up_to.ensures.differ below)
      ];
      equal = equal;
    }
