use Rattle.text_find.proofs.CalmLemmas.{found_reached, found_settled}
use Rattle.text_find.proofs.again.end_chunk.Goals as goal

pub returns-in_default : goal.returns-in_default
returns-in_default g c = record {
  found = λ profile before played are trails late.
      let chunks = c.args.recording.now.chunks in
      found_reached g.T.Plays.shows g.F.Finder.screens profile chunks c.args.text.now c.args.count c.args.ahead.now c.look_up.new.ends c.look_up.new.behind c.look_up.new.steps
      played (c.in_ok-look_up.ensures.still profile played) (c.in_ok-look_up.ensures.reached profile late);
}

pub returns : goal.returns
returns g c = record {
  found = λ profile before played are trails late.
      let chunks = c.args.recording.now.chunks in
      found_settled g.T.Plays.shows g.F.Finder.screens profile chunks c.args.text.now c.args.count c.args.ahead.now before c.args.ends.now c.settle.new.sides c.args.behind.now c.args.steps.now
      played are (c.in-Ok.ensures c.args.text.now before _ are) trails late;
}
