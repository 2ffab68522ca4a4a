use Rattle.std.proofs.Common.{◌≡◌, ◌≢◌, ◌∙◌, ◌<◌, Bool, ℕ, arith, false, length, subst, sym}
use Rattle.std.specs.Prelude.{◌==◌}
use Rattle.std.proofs.lemmas.Bool.{eqb-true, false≢true}
use Rattle.std.proofs.lemmas.Bool.Decides.{Decides-eqb}
use Rattle.xterm_page.specs.Parts.{AreDistinct, no_line}
use Rattle.xterm_page.proofs.DistinctLemmas.{all_distinct, block_distinct, more_distinct, one_distinct}
use Rattle.xterm_page.proofs.distinct.distinct_after.Goals as goal

-- some are told
some_told : (n : ℕ) (empty : Bool) → empty ≡ (n == 0) → empty ≡ false → 0 < n
some_told n empty is none =
    let apart : n ≢ 0 = λ e. false≢true (sym (sym is ∙ none) ∙ (Decides-eqb n 0).1 e) in
    omega (arith, apart)

pub returns-then-is_empty : goal.returns-then-is_empty
returns-then-is_empty c = λ origins lines before after tells long wide are is were.
    let none = eqb-true (length c.args.changed.now) 0 (sym c.is_empty.ensures ∙ c.if-is_empty.true) in
    all_distinct origins lines before after c.args.changed.now no_line long are is tells wide c.args.distinct were none

pub returns-then-is_new : goal.returns-then-is_new
returns-then-is_new c = λ origins lines before after tells long wide are is were.
    let changed = c.args.changed.now in
    let some = some_told (length changed) c.is_empty.result c.is_empty.ensures c.if-is_empty.false in
    more_distinct origins lines before after changed no_line long are is c.in-Moved.block some c.in-Moved.is (omega (arith, c.if-block-ne1.false)) wide
    (c.is_new.ensures.within c.if-is_new.true) (c.is_new.ensures.told c.if-is_new.true)

pub returns-else-is_new : goal.returns-else-is_new
returns-else-is_new c = λ origins lines before after tells long wide are is were.
    let changed = c.args.changed.now in
    let some = some_told (length changed) c.is_empty.result c.is_empty.ensures c.if-is_empty.false in
    subst (AreDistinct after) (sym c.saturating_sub.ensures)
    (block_distinct origins lines before after changed no_line long are is c.in-Moved.block some c.in-Moved.is (omega (arith, c.if-block-ne1.false)) wide)

pub returns-then-is_new-2 : goal.returns-then-is_new-2
returns-then-is_new-2 c = λ origins lines before after tells long wide are is were.
    let new = c.is_new-then-changed-eq1.ensures in
    let one = c.if-is_new-2.true in
    one_distinct origins lines before after c.args.changed.now no_line long are is tells wide c.args.distinct were c.in-Line.line
    (omega (arith, c.if-changed-eq1.true)) (new.lines one) (new.told one)
