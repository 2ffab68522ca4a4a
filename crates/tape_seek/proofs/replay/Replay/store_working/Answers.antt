use Rattle.tape_seek.proofs.replay.Replay.store_working.Goals as goal

pub returns-clause-ok : goal.returns-clause-ok
returns-clause-ok g c = record {
  copy = c.in_ok-new.field-0;
  value = λ bytes shows. rw c.in_ok-new.ensures.ok (c.in_ok-packed.ensures c.args.self.now.profile bytes shows);
  stored = c.in_ok-push.ensures.items;
}
