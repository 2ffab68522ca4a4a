use Rattle.std.proofs.Common.{arith, subst, sym}
use Rattle.tape_core.specs.Due.{first}
use Rattle.text_find.proofs.behind.reach_anew.Goals as goal

pub returns-in_default-clause-late : goal.returns-in_default-clause-late
returns-in_default-clause-late g c = λ profile late no. record {
  count = omega (arith, c.in_ok-bring_to.ensures.count);
  played = subst (λ n. g.T.Plays.shows profile c.bring_to.new.behind (first c.args.recording.now.chunks n)) (sym c.in_ok-bring_to.ensures.count)
      (c.in_ok-bring_to.ensures.played profile (record { count = late.count; played = late.played }));
}

pub returns-clause-played : goal.returns-clause-played
returns-clause-played g c = λ profile late done. c.in_ok-bring_to.ensures.played profile (record { count = late.count; played = late.played })

pub returns-clause-still : goal.returns-clause-still
returns-clause-still g c = λ profile late done.
    c.in-Ok.ensures.sides profile (first c.args.recording.now.chunks c.args.index)
    (c.in_ok-bring_to.ensures.played profile (record { count = late.count; played = late.played }))
