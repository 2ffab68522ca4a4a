use Rattle.std.proofs.Common.{ap, arith, length, subst, sym}
use Rattle.standings.specs.Less.{Agree}
use Rattle.standings.specs.Rows.{row_below}
use Rattle.standings.specs.declared.surplus.Agreed.{Agreed}
use Rattle.standings.proofs.LeftLemmas.{front_agreed, no_front}
use Rattle.standings.proofs.surplus.Agreed.len_left.Goals as goal
use Rattle.standings.proofs.surplus.Agreed.len_left.Goals.{then-place-self+else-ends_apart, else-place-self}

pub returns-then-len-self-clause-some : goal.returns-then-len-self-clause-some
returns-then-len-self-clause-some c =
    let row = c.args.row.now in
    let other = (row_below c.args.rows.now c.args.place.above).characters in
    let agree : Agree row other c.if-place-self.self.count = elim c.if-place-self.branch [
      | then-place-self+else-ends_apart w ↦ subst (λ (a : Agreed). Agree row other a.count) (sym w.self-is) w.with.ensures.agree
      | else-place-self w ↦ subst (λ (a : Agreed). Agree row other a.count) (sym w.self-is)
          (subst (λ k. Agree row (row_below c.args.rows.now k).characters c.args.self.now.count) (sym w.if-place-self.false) c.requires)
    ] in
    let many = ap length c.left_of-left.ensures in
    (many, front_agreed row other c.if-place-self.self.count c.args.place.before agree (omega (arith, many, c.if-len-self.true)))

pub returns-else-len-self-clause-none : goal.returns-else-len-self-clause-none
returns-else-len-self-clause-none c = λ _.
    let row = c.args.row.now in
    let other = (row_below c.args.rows.now c.args.place.above).characters in
    let agree : Agree row other c.if-place-self.self.count = elim c.if-place-self.branch [
      | then-place-self+else-ends_apart w ↦ subst (λ (a : Agreed). Agree row other a.count) (sym w.self-is) w.with.ensures.agree
      | else-place-self w ↦ subst (λ (a : Agreed). Agree row other a.count) (sym w.self-is)
          (subst (λ k. Agree row (row_below c.args.rows.now k).characters c.args.self.now.count) (sym w.if-place-self.false) c.requires)
    ] in
    no_front row other c.if-place-self.self.count c.args.place.before agree (omega (arith, ap length c.left_of-left.ensures, c.if-len-self.false))
