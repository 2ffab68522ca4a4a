use Rattle.std.proofs.Common.{◌∙◌, ◌+◌, arith, refl, subst, sym}
use Rattle.std.proofs.lemmas.Result.{err_from_is_err_and}
use Rattle.tape_core.specs.Devices.{Gave}
use Rattle.chunk_walk.proofs.TextLemmas.{texts_cut, texts_more}
use Rattle.text_find.specs.Lines.{Began, chunk_lines_at}
use Rattle.text_find.proofs.BeganLemmas.{began_within, gave_again}
use Rattle.text_find.proofs.CalmLemmas.{found_as}
use Rattle.text_find.proofs.finding.put_between.Goals as goal
use Rattle.text_find.proofs.finding.put_between.Goals.{then-not-done+in_ok-ahead, else-not-done}

pub returns-in_err-done-clause-front : goal.returns-in_err-done-clause-front
returns-in_err-done-clause-front g c = λ profile found.
    let p = err_from_is_err_and c.from_residual.result c.from_residual.ensures.1 in
    let index = c.loop-index.index in
    let f = chunk_lines_at c.args.text.now g.F.Finder.screens profile c.args.recording.now in
    let kept = c.loop-index.invariant in
    rw p.1 (began_within g.W.Write.contents c.args.writer.now c.loop-index.writer c.put_chunk_at.new.writer f c.args.start c.args.end index (omega arith) (omega arith) (kept.gave profile found)
    (c.in_err-done.ensures.front profile (kept.found profile found)))

pub returns-in_err-ahead-clause-front : goal.returns-in_err-ahead-clause-front
returns-in_err-ahead-clause-front g c = λ profile found.
    let p = err_from_is_err_and c.from_residual-in_err-ahead.result c.from_residual-in_err-ahead.ensures.1 in
    let index = c.loop-index.index in
    let f = chunk_lines_at c.args.text.now g.F.Finder.screens profile c.args.recording.now in
    let kept = c.loop-index.invariant in
    let late = c.in_ok-done.ensures.late profile (kept.found profile found) c.if-not-done.true in
    let began = subst (λ w. Began g.W.Write.contents w c.put_chunk_again.new.writer (f index)) (c.in_ok-done.ensures.unwritten c.if-not-done.true) (c.in_err-ahead.ensures.front profile late) in
    rw p.1 (began_within g.W.Write.contents c.args.writer.now c.loop-index.writer c.put_chunk_again.new.writer f c.args.start c.args.end index (omega arith) (omega arith) (kept.gave profile found) began)

pub returns-then-failed-clause-gave : goal.returns-then-failed-clause-gave
returns-then-failed-clause-gave g c = λ profile found.
    let index = c.loop-index.index in
    let f = chunk_lines_at c.args.text.now g.F.Finder.screens profile c.args.recording.now in
    let kept = c.loop-index.invariant in
    let contents = g.W.Write.contents in
    let here : Gave contents c.loop-index.writer c.if-not-done.writer (f index) = elim c.if-not-done.branch [
      | then-not-done+in_ok-ahead w ↦
          let late = c.in_ok-done.ensures.late profile (kept.found profile found) w.if-not-done.true in
          gave_again contents c.loop-index.writer c.put_chunk_at.new.writer w.put_chunk_again.new.writer c.if-not-done.writer (f index)
          (c.in_ok-done.ensures.unwritten w.if-not-done.true) (w.in_ok-ahead.ensures.gave profile late) w.writer-is
      | else-not-done w ↦
          gave_again contents c.loop-index.writer c.loop-index.writer c.put_chunk_at.new.writer c.if-not-done.writer (f index)
          refl (c.in_ok-done.ensures.gave profile (kept.found profile found) w.if-not-done.false) w.writer-is
    ] in
    c.gives_end.ensures.failed _ _ _ _ _
    (texts_cut f c.args.start c.args.end index (f index) (omega arith) (omega arith) refl)
    (sym c.failed.ensures ∙ c.if-failed.true)
    (c.gives_join.ensures.both _ _ _ _ _ here (kept.gave profile found))

pub loop-index-preserved : goal.loop-index-preserved
loop-index-preserved g c =
    let index = c.loop-index.index in
    let kept = c.loop-index.invariant in
    let contents = g.W.Write.contents in
    let chunks = c.args.recording.now.chunks in
    record {
      found = λ profile found. elim c.if-not-done.branch [
        | then-not-done+in_ok-ahead w ↦
            let late = c.in_ok-done.ensures.late profile (kept.found profile found) w.if-not-done.true in
            found_as g.T.Plays.shows g.F.Finder.screens profile chunks c.args.text.now (index + 1) w.in_ok-ahead.ahead c.if-not-done.ahead w.put_chunk_again.new.ends c.if-not-done.ends
            w.put_chunk_again.new.behind c.if-not-done.behind w.put_chunk_again.new.steps c.if-not-done.steps w.ahead-is w.ends-is w.behind-is w.steps-is (w.in_ok-ahead.ensures.found profile late)
        | else-not-done w ↦
            found_as g.T.Plays.shows g.F.Finder.screens profile chunks c.args.text.now (index + 1) c.put_chunk_at.new.ahead c.if-not-done.ahead c.put_chunk_at.new.ends c.if-not-done.ends
            c.put_chunk_at.new.behind c.if-not-done.behind c.put_chunk_at.new.steps c.if-not-done.steps w.ahead-is w.ends-is w.behind-is w.steps-is
            (c.in_ok-done.ensures.found profile (kept.found profile found) w.if-not-done.false)
      ];
      gave = λ profile found.
          let f = chunk_lines_at c.args.text.now g.F.Finder.screens profile c.args.recording.now in
          let here : Gave contents c.loop-index.writer c.if-not-done.writer (f index) = elim c.if-not-done.branch [
            | then-not-done+in_ok-ahead w ↦
                let late = c.in_ok-done.ensures.late profile (kept.found profile found) w.if-not-done.true in
                gave_again contents c.loop-index.writer c.put_chunk_at.new.writer w.put_chunk_again.new.writer c.if-not-done.writer (f index)
                (c.in_ok-done.ensures.unwritten w.if-not-done.true) (w.in_ok-ahead.ensures.gave profile late) w.writer-is
            | else-not-done w ↦
                gave_again contents c.loop-index.writer c.loop-index.writer c.put_chunk_at.new.writer c.if-not-done.writer (f index)
                refl (c.in_ok-done.ensures.gave profile (kept.found profile found) w.if-not-done.false) w.writer-is
          ] in
          subst (Gave contents c.args.writer.now c.if-not-done.writer) (texts_more f c.args.start index (f index) (omega arith) refl)
          (c.gives_join.ensures.both _ _ _ _ _ here (kept.gave profile found));
    }
