use Rattle.std.proofs.Common.{◌≡◌, ◌+◌, ◌-◌, ◌≤◌, max}
use Rattle.tape_seek.specs.Kept.{IsPlaying}
use Rattle.tape_seek.proofs.replay.Replay.feed_to.Given as goal

-- the replay stands somewhere on the way, and has counted what it fed
abbrev pub invariant-loop-self : goal.invariant-loop-self
invariant-loop-self g l = record {
  playing : IsPlaying g.T.Plays l.chunks l.self;
  before : l.self.head ≤ l.count;
  fed : l.self.fed + l.initial.self.head ≡ l.self.head;
  frontier : l.self.frontier ≡ max l.initial.self.frontier l.self.head;
  profile : l.self.profile ≡ l.initial.self.profile;
  every : l.self.every ≡ l.initial.self.every;
}

abbrev pub decreases-loop-self : goal.decreases-loop-self
decreases-loop-self g l = l.count - l.self.head
