use Rattle.std.proofs.Common.{◌≡◌, ◌∙◌, ◌+◌, ◌++◌, ap, get_or, refl, subst, sym, take}
use Rattle.std.proofs.lemmas.Result.{err_from_is_err_and}
use Rattle.tape_core.specs.Devices.{Gave}
use Rattle.tape_core.specs.Due.{bytes_at, first}
use Rattle.text_find.specs.Calm.{IsCalm}
use Rattle.text_find.specs.Lines.{AreBetween, AreStill, Began}
use Rattle.text_find.proofs.BeganLemmas.{began_whole}
use Rattle.text_find.proofs.LineLemmas.{bytes_here, lines_here}
use Rattle.text_find.proofs.chunk.put_chunk_behind.Goals as goal

pub returns-in_err-put_chunk-clause-front : goal.returns-in_err-put_chunk-clause-front
returns-in_err-put_chunk-clause-front g c = λ profile there between.
    let p = err_from_is_err_and c.from_residual.result c.from_residual.ensures.1 in
    let text = c.args.text.now in
    let chunks = c.args.recording.now.chunks in
    let index = c.args.index in
    let screen = g.F.Finder.screens profile in
    let here = first chunks index in
    let chunk = c.as_slice-bytes.result.now in
    let start = c.args.start in
    let m = c.moment_of-moment.ensures in
    let bytes : chunk ≡ bytes_at chunks index =
    c.as_slice-bytes.ensures ∙ ap (λ cs. (get_or cs index c.index-chunks-index.result).bytes) c.chunks.ensures.chunks ∙ bytes_here chunks index c.index-chunks-index.result c.requires.within in
    let next : first chunks (index + 1) ≡ here ++ chunk = c.first_grows_by_a_chunk.ensures.at chunks index ∙ ap (λ l. here ++ l) (sym bytes) in
    let are = subst (λ b. AreBetween text (screen here) (screen b) c.args.ends.now) next between in
    rw p.1 (subst (λ t. Began g.W.Write.contents c.args.writer.now c.put_chunk.new.writer t)
    (lines_here text g.F.Finder.screens profile c.args.recording.now index _ _ chunk m.index m.due bytes) (c.in_err-put_chunk.ensures.front profile here (subst (λ b. g.T.Plays.shows profile c.args.behind.now (here ++ take start b)) (sym bytes) there.played) are (subst (λ b. AreStill text (screen (here ++ take start b)) c.args.steps.now.sides) (sym bytes) there.still) (subst (λ b. IsCalm text screen here b start) (sym bytes) there.calm)))

pub returns-in_err-settle-clause-front : goal.returns-in_err-settle-clause-front
returns-in_err-settle-clause-front g c = λ profile there between.
    let p = err_from_is_err_and c.from_residual-in_err-settle.result c.from_residual-in_err-settle.ensures.1 in
    let text = c.args.text.now in
    let chunks = c.args.recording.now.chunks in
    let index = c.args.index in
    let screen = g.F.Finder.screens profile in
    let here = first chunks index in
    let chunk = c.as_slice-bytes.result.now in
    let start = c.args.start in
    let m = c.moment_of-moment.ensures in
    let bytes : chunk ≡ bytes_at chunks index =
    c.as_slice-bytes.ensures ∙ ap (λ cs. (get_or cs index c.index-chunks-index.result).bytes) c.chunks.ensures.chunks ∙ bytes_here chunks index c.index-chunks-index.result c.requires.within in
    let next : first chunks (index + 1) ≡ here ++ chunk = c.first_grows_by_a_chunk.ensures.at chunks index ∙ ap (λ l. here ++ l) (sym bytes) in
    let are = subst (λ b. AreBetween text (screen here) (screen b) c.args.ends.now) next between in
    rw p.1 (began_whole g.W.Write.contents c.args.writer.now c.put_chunk.new.writer _
    (subst (λ t. Gave g.W.Write.contents c.args.writer.now c.put_chunk.new.writer t)
    (lines_here text g.F.Finder.screens profile c.args.recording.now index _ _ chunk m.index m.due bytes) (c.in_ok-put_chunk.ensures.gave profile here (subst (λ b. g.T.Plays.shows profile c.args.behind.now (here ++ take start b)) (sym bytes) there.played) are (subst (λ b. AreStill text (screen (here ++ take start b)) c.args.steps.now.sides) (sym bytes) there.still) (subst (λ b. IsCalm text screen here b start) (sym bytes) there.calm))))

pub returns-clause-gave : goal.returns-clause-gave
returns-clause-gave g c = λ profile there between.
    let text = c.args.text.now in
    let chunks = c.args.recording.now.chunks in
    let index = c.args.index in
    let screen = g.F.Finder.screens profile in
    let here = first chunks index in
    let chunk = c.as_slice-bytes.result.now in
    let start = c.args.start in
    let m = c.moment_of-moment.ensures in
    let bytes : chunk ≡ bytes_at chunks index =
    c.as_slice-bytes.ensures ∙ ap (λ cs. (get_or cs index c.index-chunks-index.result).bytes) c.chunks.ensures.chunks ∙ bytes_here chunks index c.index-chunks-index.result c.requires.within in
    let next : first chunks (index + 1) ≡ here ++ chunk = c.first_grows_by_a_chunk.ensures.at chunks index ∙ ap (λ l. here ++ l) (sym bytes) in
    let are = subst (λ b. AreBetween text (screen here) (screen b) c.args.ends.now) next between in
    subst (λ t. Gave g.W.Write.contents c.args.writer.now c.put_chunk.new.writer t)
    (lines_here text g.F.Finder.screens profile c.args.recording.now index _ _ chunk m.index m.due bytes) (c.in_ok-put_chunk.ensures.gave profile here (subst (λ b. g.T.Plays.shows profile c.args.behind.now (here ++ take start b)) (sym bytes) there.played) are (subst (λ b. AreStill text (screen (here ++ take start b)) c.args.steps.now.sides) (sym bytes) there.still) (subst (λ b. IsCalm text screen here b start) (sym bytes) there.calm))

pub returns-clause-reached : goal.returns-clause-reached
returns-clause-reached g c = λ profile there.
    let text = c.args.text.now in
    let chunks = c.args.recording.now.chunks in
    let index = c.args.index in
    let screen = g.F.Finder.screens profile in
    let here = first chunks index in
    let chunk = c.as_slice-bytes.result.now in
    let start = c.args.start in
    let bytes : chunk ≡ bytes_at chunks index =
    c.as_slice-bytes.ensures ∙ ap (λ cs. (get_or cs index c.index-chunks-index.result).bytes) c.chunks.ensures.chunks ∙ bytes_here chunks index c.index-chunks-index.result c.requires.within in
    let next : here ++ chunk ≡ first chunks (index + 1) = ap (λ l. here ++ l) bytes ∙ sym (c.first_grows_by_a_chunk.ensures.at chunks index) in
    record {
      played = subst (g.T.Plays.shows profile c.put_chunk.new.behind) next (c.in_ok-put_chunk.ensures.behind profile here (subst (λ b. g.T.Plays.shows profile c.args.behind.now (here ++ take start b)) (sym bytes) there.played));
      still = subst (λ b. AreStill text (screen b) c.put_chunk.new.steps) next (c.in_ok-put_chunk.ensures.steps profile here (subst (λ b. g.T.Plays.shows profile c.args.behind.now (here ++ take start b)) (sym bytes) there.played)
          (subst (λ b. AreStill text (screen (here ++ take start b)) c.args.steps.now.sides) (sym bytes) there.still));
      count = refl;
      lag = refl;
    }
