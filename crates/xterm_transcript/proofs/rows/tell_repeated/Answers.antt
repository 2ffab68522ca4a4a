use Rattle.std.proofs.Common.{◌≡◌, subst, sym, arith}
use Rattle.std.proofs.lemmas.Result.{err_from_is_err_and}
use Rattle.transcripts.specs.Told.{Tells, TellsFront}
use Rattle.transcripts.proofs.ToldLemmas.{tells_both}
use Rattle.xterm_term.specs.Console.{Console}
use Rattle.xterm_term.specs.Seen.{Shows}
use Rattle.xterm_term.specs.Term.{Term}
use Rattle.xterm_transcript.specs.Leaving.{repeated_rows}
use Rattle.xterm_transcript.specs.Playing.{character_put_times}
use Rattle.xterm_transcript.proofs.RepeatLemmas.{front_repeated, put_told, rows_again, times_again}
use Rattle.xterm_transcript.proofs.rows.tell_repeated.Goals as goal

pub returns-in_err-tell_first_if-clause-front : goal.returns-in_err-tell_first_if-clause-front
returns-in_err-tell_first_if-clause-front g c x shows =
    let p = err_from_is_err_and c.from_residual.result c.from_residual.ensures.1 in
    let n = c.loop-step.step in
    let character = c.args.character in
    let y : Term = character_put_times n character x in
    let rows = put_told c.loop-step.terminal y c.screen.result.now.picture c.put_leaves-leaves.result character (c.loop-step.invariant.shows x shows)
    c.screen.ensures.value c.put_leaves-leaves.ensures in
    rw p.1 (front_repeated {contents = g.W.Write.contents} {a = c.args.writer.now} {b = c.loop-step.writer} {c = c.tell_first_if.new.writer} {x = c.args.rows.now}
    {y = c.loop-step.rows} {z = c.tell_first_if.new.rows} n c.args.times character x.console (omega arith)
    (subst (TellsFront g.W.Write.contents c.loop-step.writer c.loop-step.rows c.tell_first_if.new.writer c.tell_first_if.new.rows) rows c.in_err-tell_first_if.ensures.front)
    (c.loop-step.invariant.tells x shows))

pub loop-step-preserved : goal.loop-step-preserved
loop-step-preserved g c =
    let n = c.loop-step.step in
    let character = c.args.character in
    record {
      shows = λ x shows.
          subst (λ (s : Console). Shows c.put.new.self (record x { console = s })) (sym (times_again n character x.console))
          (c.put.ensures.shows (character_put_times n character x) (c.loop-step.invariant.shows x shows));
      tells = λ x shows.
          let y : Term = character_put_times n character x in
          let rows = put_told c.loop-step.terminal y c.screen.result.now.picture c.put_leaves-leaves.result character (c.loop-step.invariant.shows x shows)
          c.screen.ensures.value c.put_leaves-leaves.ensures in
          subst (Tells g.W.Write.contents c.args.writer.now c.args.rows.now c.tell_first_if.new.writer c.tell_first_if.new.rows) (sym (rows_again n character x.console))
          (tells_both (subst (Tells g.W.Write.contents c.loop-step.writer c.loop-step.rows c.tell_first_if.new.writer c.tell_first_if.new.rows) rows c.in_ok-tell_first_if.ensures.tells)
          (c.loop-step.invariant.tells x shows));
    }

pub returns-clause-tells : goal.returns-clause-tells
returns-clause-tells g c x shows =
    let last : c.loop-step.step ≡ c.args.times = omega arith in
    subst (λ n. Tells g.W.Write.contents c.args.writer.now c.args.rows.now c.loop-step.writer c.loop-step.rows (repeated_rows n c.args.character x.console))
    last (c.loop-step.invariant.tells x shows)
