use Rattle.std.proofs.Common.{◌+◌}
use Rattle.std.proofs.lemmas.Result.{err_from_is_err_and}
use Rattle.text_find.proofs.BeganLemmas.{began_none}
use Rattle.text_find.proofs.CalmLemmas.{found_reached, reached_inside}
use Rattle.text_find.proofs.again.put_chunk_again.Goals as goal

pub returns-in_err-ahead-clause-front : goal.returns-in_err-ahead-clause-front
returns-in_err-ahead-clause-front g c = λ profile late.
    let p = err_from_is_err_and c.from_residual.result c.from_residual.ensures.1 in
    rw p.1 (began_none g.W.Write.contents c.args.writer.now _)

pub returns-clause-found : goal.returns-clause-found
returns-clause-found g c = λ profile late.
    let reached = reached_inside g.T.Plays.shows g.F.Finder.screens profile c.args.recording.now.chunks c.args.text.now c.args.index c.begin_again.new.behind c.begin_again.new.steps (c.in_ok-ahead.ensures.reached profile late) in
    let between = c.in_ok-ahead.ensures.ends profile late in
    found_reached g.T.Plays.shows g.F.Finder.screens profile c.args.recording.now.chunks c.args.text.now (c.args.index + 1) c.in_ok-ahead.ahead c.put_chunk_behind.new.ends c.put_chunk_behind.new.behind c.put_chunk_behind.new.steps
    (c.in_ok-ahead.ensures.played profile late) (c.in_ok-put_chunk_behind.ensures.still profile between) (c.in_ok-put_chunk_behind.ensures.reached profile reached)
