use Rattle.std.proofs.Common.{[], ◌∷◌, ◌++◌, ap, sym, subst, append-nil, ◌∙◌}
use Rattle.tape_seek.proofs.ReplayLemmas.{IsGrown, ahead_kept, grown_more, grown_same, holds_longer}
use Rattle.tape_seek.proofs.replay.Replay.keep_working.Goals as goal
use Rattle.tape_seek.proofs.replay.Replay.keep_working.Goals.{then-self-eq0+in_ok-store_working, else-self-eq0}

pub returns-clause-ok : goal.returns-clause-ok
returns-clause-ok g c = λ chunks ahead.
    let grown : IsGrown g.T.Plays chunks c.args.self.now c.if-self-eq0.self = elim c.if-self-eq0.branch [
      | then-self-eq0+in_ok-store_working w ↦
          subst (IsGrown g.T.Plays chunks c.args.self.now) (sym w.self-is)
          (grown_more g.T.Plays chunks c.args.self.now w.store_working.new.self ahead w.if-self-eq0.true w.in_ok-store_working.ensures.ok w.in_ok-store_working.ensures.rest)
      | else-self-eq0 w ↦ subst (IsGrown g.T.Plays chunks c.args.self.now) (sym w.self-is) (grown_same g.T.Plays chunks c.args.self.now ahead w.if-self-eq0.false)
    ] in
    ahead_kept g.T.Plays chunks c.args.self.now c.if-self-eq0.self c.place.result c.push.new.self ahead grown c.place.ensures.value c.in_ok-push.ensures.items

pub returns-clause-err : goal.returns-clause-err
returns-clause-err g c = λ chunks count holds.
    let r = c.args.self.now in
    let place = c.place.result in
    elim c.if-self-eq0.branch [
      | then-self-eq0+in_ok-store_working w ↦
          let stores = w.in_ok-store_working.ensures.ok in
          let rest = w.self-is ∙ w.in_ok-store_working.ensures.rest in
          holds_longer g.T.Plays chunks count r _ (stores.copy ∷ []) (place ∷ []) (ap (λ x. x.profile) rest) (ap (λ x. x.every) rest) (ap (λ x. x.reports) rest)
          (ap (λ x. x.stored.items) w.self-is ∙ stores.stored) (c.in_ok-push.ensures.items ∙ ap (λ x. x.sent.items ++ place ∷ []) rest) holds
      | else-self-eq0 w ↦
          holds_longer g.T.Plays chunks count r _ [] (place ∷ []) (ap (λ x. x.profile) w.self-is) (ap (λ x. x.every) w.self-is) (ap (λ x. x.reports) w.self-is)
          (ap (λ x. x.stored.items) w.self-is ∙ sym (append-nil r.stored.items)) (c.in_ok-push.ensures.items ∙ ap (λ x. x.sent.items ++ place ∷ []) w.self-is) holds
    ]
