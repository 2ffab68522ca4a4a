use Rattle.std.proofs.Common.{◌≡◌, ap, sym, subst, arith, ◌∙◌}
use Rattle.std.specs.Prelude.{Result, Ok, Err, OnErr, is_err, true}
use Rattle.std.proofs.lemmas.Bool.{false≢true}
use Rattle.tape_seek.specs.Kept.{HoldsUpTo}
use Rattle.tape_seek.proofs.ReplayLemmas.{back_replay}
use Rattle.tape_seek.proofs.replay.Replay.seek.Goals as goal

on_err : {T E P : Type 0} (r : Result T E) → is_err r ≡ true → OnErr r P → P
on_err (Ok value) e h = absurd (false≢true e)
on_err (Err error) e h = h

pub returns-then-is_err-clause-replay : goal.returns-then-is_err-clause-replay
returns-then-is_err-clause-replay g c =
    let chunks = c.args.chunks.now in
    let frontier = c.args.self.now.frontier in
    let refused : HoldsUpTo g.T.Plays chunks c.start.new.self.frontier c.feed_to.new.self = on_err c.feed_to.result (sym c.is_err.ensures.value ∙ c.if-is_err.true) c.feed_to.ensures.err in
    let kept = c.keep_up_to.ensures.kept chunks (subst (λ n. HoldsUpTo g.T.Plays chunks n c.feed_to.new.self) (ap (λ x. x.frontier) c.start.ensures.rest) refused) in
    let here : HoldsUpTo g.T.Plays chunks frontier c.keep_up_to.new.self = subst (λ n. HoldsUpTo g.T.Plays chunks n c.keep_up_to.new.self) (ap (λ x. x.frontier) c.keep_up_to.ensures.rest) kept.holds in
    back_replay g.T.Plays chunks c.keep_up_to.new.self c.go_back.new.self frontier kept (omega (arith, (ap (λ x. x.frontier) c.keep_up_to.ensures.rest))) c.go_back.ensures.rest (c.go_back.ensures.working chunks here)
