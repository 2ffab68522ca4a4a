use Rattle.std.proofs.Common.{◌≡◌, ◌/◌, min, ap, subst, arith}
use Rattle.tape_seek.specs.Kept.{HoldsUpTo, SameFront}
use Rattle.tape_seek.proofs.ReplayLemmas.{back_replay, cut_replay, holds_less, same_holds, same_replay, sent_within}
use Rattle.tape_seek.proofs.replay.Replay.cut.Goals as goal

pub keep_up_to-requires-clause-sent : goal.keep_up_to-requires-clause-sent
keep_up_to-requires-clause-sent g c =
    let kept = c.requires.1.kept in
    sent_within g.T.Plays c.laws.ensures.parts c.requires.0 c.args.self.now c.args.first _ kept (omega arith) (kept.holds.sent c.args.first (omega arith))

pub go_back-requires-clause-stored : goal.go_back-requires-clause-stored
go_back-requires-clause-stored g c =
    let chunks = c.requires.0 in
    let kept = c.keep_up_to.ensures.kept chunks (holds_less g.T.Plays c.laws.ensures.parts chunks c.args.first c.args.self.now.frontier c.args.self.now (omega arith) c.requires.1.kept.holds) in
    omega (arith, kept.terminals, ap (λ n. n / c.keep_up_to.new.self.every) (ap (λ x. x.frontier) c.keep_up_to.ensures.rest))

pub returns-then-self-first-clause-replay : goal.returns-then-self-first-clause-replay
returns-then-self-first-clause-replay g c = λ old new replay same.
    let least : min c.args.self.now.frontier c.args.first ≡ c.args.first = omega arith in
    let front : SameFront old new c.args.first = subst (SameFront old new) least same in
    let holds = same_holds g.T.Plays old new c.args.first c.args.self.now front (holds_less g.T.Plays c.laws.ensures.parts old c.args.first c.args.self.now.frontier c.args.self.now (omega arith) replay.kept.holds) in
    let kept = c.keep_up_to.ensures.kept new holds in
    let here : HoldsUpTo g.T.Plays new c.args.first c.keep_up_to.new.self = subst (λ n. HoldsUpTo g.T.Plays new n c.keep_up_to.new.self) (ap (λ x. x.frontier) c.keep_up_to.ensures.rest) kept.holds in
    back_replay g.T.Plays new c.keep_up_to.new.self c.go_back.new.self c.args.first kept (omega (arith, (ap (λ x. x.frontier) c.keep_up_to.ensures.rest))) c.go_back.ensures.rest (c.go_back.ensures.working new here)

pub returns-else-self-first-clause-replay : goal.returns-else-self-first-clause-replay
returns-else-self-first-clause-replay g c = λ old new replay same.
    let least : min c.args.self.now.frontier c.args.first ≡ c.args.first = omega arith in
    let front : SameFront old new c.args.first = subst (SameFront old new) least same in
    let holds = same_holds g.T.Plays old new c.args.first c.args.self.now front (holds_less g.T.Plays c.laws.ensures.parts old c.args.first c.args.self.now.frontier c.args.self.now (omega arith) replay.kept.holds) in
    let kept = c.keep_up_to.ensures.kept new holds in
    cut_replay g.T.Plays old new c.args.self.now c.keep_up_to.new.self c.args.first front replay kept (ap (λ x. x.frontier) c.keep_up_to.ensures.rest) (ap (λ x. x.profile) c.keep_up_to.ensures.rest) (ap (λ x. x.head) c.keep_up_to.ensures.rest) (ap (λ x. x.working) c.keep_up_to.ensures.rest) (omega (arith, (ap (λ x. x.head) c.keep_up_to.ensures.rest)))

pub returns-else-first-self-clause-replay : goal.returns-else-first-self-clause-replay
returns-else-first-self-clause-replay g c = λ old new replay same.
    let least : min c.args.self.now.frontier c.args.first ≡ c.args.self.now.frontier = omega arith in
    same_replay g.T.Plays old new c.args.self.now (subst (SameFront old new) least same) replay
