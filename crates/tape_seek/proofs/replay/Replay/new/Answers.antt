use Rattle.std.proofs.Common.{ℕ, List, [], ◌∷◌, ◌++◌, ap, refl, ◌∙◌}
use Rattle.tape_seek.proofs.ReplayLemmas.{replay_new}
use Rattle.tape_seek.proofs.replay.Replay.new.Goals as goal

pub returns-clause-replay : goal.returns-clause-replay
returns-clause-replay g c = λ chunks.
    replay_new g.T.Plays c.laws.ensures.told c.laws.ensures.nothing chunks _ c.requires refl refl c.new.ensures.items c.new-2.ensures (c.in_ok-push.ensures.items ∙ ap (λ (l : List ℕ). l ++ 0 ∷ []) c.new-sent.ensures.items) c.in_ok-working.ensures
