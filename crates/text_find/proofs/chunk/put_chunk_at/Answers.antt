use Rattle.std.proofs.Common.{◌≡◌, ◌∙◌, ◌+◌, ◌++◌, ap, arith, get_or, IfSome, length-take, subst, sym}
use Rattle.std.proofs.lemmas.Result.{err_from_is_err_and}
use Rattle.tape_core.specs.Devices.{Gave}
use Rattle.tape_core.specs.Due.{bytes_at, first}
use Rattle.text_find.specs.Calm.{HasStood}
use Rattle.text_find.specs.Lines.{AreBetween, Began}
use Rattle.text_find.proofs.BeganLemmas.{began_none, began_whole}
use Rattle.text_find.proofs.CalmLemmas.{calm_lines, found_late, found_reached, stood_inside}
use Rattle.text_find.proofs.LineLemmas.{bytes_here, lines_here}
use Rattle.text_find.proofs.chunk.put_chunk_at.Goals as goal

pub returns-in_default-clause-late : goal.returns-in_default-clause-late
returns-in_default-clause-late g c = λ profile found no.
    found_late g.T.Plays.shows g.F.Finder.screens profile c.args.recording.now.chunks c.args.text.now c.args.index c.args.index c.args.ahead.now c.args.ends.now c.args.behind.now c.args.steps.now c.play_ahead.new.steps found (omega arith) c.play_ahead.ensures.count

pub returns-in_err-put_ends-clause-front : goal.returns-in_err-put_ends-clause-front
returns-in_err-put_ends-clause-front g c = λ profile found.
    let p = err_from_is_err_and c.from_residual.result c.from_residual.ensures.1 in
    let text = c.args.text.now in
    let chunks = c.args.recording.now.chunks in
    let index = c.args.index in
    let screen = g.F.Finder.screens profile in
    let here = first chunks index in
    let chunk = c.as_slice-bytes.result.now in
    let m = c.moment_of.result in
    let bytes : chunk ≡ bytes_at chunks index =
    c.as_slice-bytes.ensures ∙ ap (λ cs. (get_or cs index c.index-chunks-index.result).bytes) c.chunks.ensures.chunks ∙ bytes_here chunks index c.index-chunks-index.result c.requires in
    let lines = lines_here text g.F.Finder.screens profile c.args.recording.now index m.index m.due chunk c.moment_of.ensures.index c.moment_of.ensures.due bytes in
    let are = c.in-Ok.ensures.ends profile here found.played found.still in
    let none = c.in_default-passing.is in
    let calm = c.in-Ok.ensures.calm profile here found.played found.still found.trails none in
    let ends = c.play_ahead.new.ends in
    let all = calm_lines text m.index m.due m.len screen here chunk ends.before ends.after c.moment_of.ensures.len are.before are.after calm in
    rw p.1 (subst (λ t. Began g.W.Write.contents c.args.writer.now c.put_ends.new.writer t) (all ∙ lines) (c.in_err-put_ends.ensures.front text _ _ (sym c.moment_of.ensures.len) are))

pub returns-in_err-end_chunk-clause-front : goal.returns-in_err-end_chunk-clause-front
returns-in_err-end_chunk-clause-front g c = λ profile found.
    let p = err_from_is_err_and c.from_residual-in_err-end_chunk.result c.from_residual-in_err-end_chunk.ensures.1 in
    let text = c.args.text.now in
    let chunks = c.args.recording.now.chunks in
    let index = c.args.index in
    let screen = g.F.Finder.screens profile in
    let here = first chunks index in
    let chunk = c.as_slice-bytes.result.now in
    let m = c.moment_of.result in
    let bytes : chunk ≡ bytes_at chunks index =
    c.as_slice-bytes.ensures ∙ ap (λ cs. (get_or cs index c.index-chunks-index.result).bytes) c.chunks.ensures.chunks ∙ bytes_here chunks index c.index-chunks-index.result c.requires in
    let lines = lines_here text g.F.Finder.screens profile c.args.recording.now index m.index m.due chunk c.moment_of.ensures.index c.moment_of.ensures.due bytes in
    let are = c.in-Ok.ensures.ends profile here found.played found.still in
    let none = c.in_default-passing.is in
    let calm = c.in-Ok.ensures.calm profile here found.played found.still found.trails none in
    let ends = c.play_ahead.new.ends in
    let all = calm_lines text m.index m.due m.len screen here chunk ends.before ends.after c.moment_of.ensures.len are.before are.after calm in
    rw p.1 (began_whole g.W.Write.contents c.args.writer.now c.put_ends.new.writer _
    (subst (λ t. Gave g.W.Write.contents c.args.writer.now c.put_ends.new.writer t) (all ∙ lines) (c.in_ok-put_ends.ensures.gave text _ _ (sym c.moment_of.ensures.len) are)))

pub returns-in_default-passing-clause-gave : goal.returns-in_default-passing-clause-gave
returns-in_default-passing-clause-gave g c = λ profile found done.
    let text = c.args.text.now in
    let chunks = c.args.recording.now.chunks in
    let index = c.args.index in
    let screen = g.F.Finder.screens profile in
    let here = first chunks index in
    let chunk = c.as_slice-bytes.result.now in
    let m = c.moment_of.result in
    let bytes : chunk ≡ bytes_at chunks index =
    c.as_slice-bytes.ensures ∙ ap (λ cs. (get_or cs index c.index-chunks-index.result).bytes) c.chunks.ensures.chunks ∙ bytes_here chunks index c.index-chunks-index.result c.requires in
    let lines = lines_here text g.F.Finder.screens profile c.args.recording.now index m.index m.due chunk c.moment_of.ensures.index c.moment_of.ensures.due bytes in
    let are = c.in-Ok.ensures.ends profile here found.played found.still in
    let none = c.in_default-passing.is in
    let calm = c.in-Ok.ensures.calm profile here found.played found.still found.trails none in
    let ends = c.play_ahead.new.ends in
    let all = calm_lines text m.index m.due m.len screen here chunk ends.before ends.after c.moment_of.ensures.len are.before are.after calm in
    subst (λ t. Gave g.W.Write.contents c.args.writer.now c.put_ends.new.writer t) (all ∙ lines) (c.in_ok-put_ends.ensures.gave text _ _ (sym c.moment_of.ensures.len) are)

pub returns-in_default-passing-clause-found : goal.returns-in_default-passing-clause-found
returns-in_default-passing-clause-found g c = λ profile found done.
    let text = c.args.text.now in
    let chunks = c.args.recording.now.chunks in
    let index = c.args.index in
    let screen = g.F.Finder.screens profile in
    let here = first chunks index in
    let chunk = c.as_slice-bytes.result.now in
    let bytes : chunk ≡ bytes_at chunks index =
    c.as_slice-bytes.ensures ∙ ap (λ cs. (get_or cs index c.index-chunks-index.result).bytes) c.chunks.ensures.chunks ∙ bytes_here chunks index c.index-chunks-index.result c.requires in
    let next : here ++ chunk ≡ first chunks (index + 1) = ap (λ l. here ++ l) bytes ∙ sym (c.first_grows_by_a_chunk.ensures.at chunks index) in
    let are = subst (λ b. AreBetween text (screen here) (screen b) c.play_ahead.new.ends) next (c.in-Ok.ensures.ends profile here found.played found.still) in
    let late = found_late g.T.Plays.shows g.F.Finder.screens profile chunks text index (index + 1) c.args.ahead.now c.args.ends.now c.args.behind.now c.args.steps.now c.play_ahead.new.steps found (omega arith) c.play_ahead.ensures.count in
    c.in_ok-end_chunk.ensures.found profile (screen here) (subst (g.T.Plays.shows profile c.play_ahead.new.ahead) next (c.in-Ok.ensures.shows profile here found.played found.still)) are
    (c.in-Ok.ensures.trails profile here found.played found.still found.trails c.in_default-passing.is) late

pub returns-in_err-reach-clause-front : goal.returns-in_err-reach-clause-front
returns-in_err-reach-clause-front g c = λ profile found.
    let p = err_from_is_err_and c.from_residual-in_err-reach.result c.from_residual-in_err-reach.ensures.1 in
    rw p.1 (began_none g.W.Write.contents c.args.writer.now _)

pub returns-then-not-branch-clause-late : goal.returns-then-not-branch-clause-late
returns-then-not-branch-clause-late g c = λ profile found no.
    c.in_ok-reach.ensures.late profile
    (found_late g.T.Plays.shows g.F.Finder.screens profile c.args.recording.now.chunks c.args.text.now c.args.index c.args.index c.args.ahead.now c.args.ends.now c.args.behind.now c.args.steps.now c.play_ahead.new.steps found (omega arith) c.play_ahead.ensures.count) c.if-not-branch.true

pub returns-in_err-put_chunk_behind-clause-front : goal.returns-in_err-put_chunk_behind-clause-front
returns-in_err-put_chunk_behind-clause-front g c = λ profile found.
    let p = err_from_is_err_and c.from_residual-in_err-put_chunk_behind.result c.from_residual-in_err-put_chunk_behind.ensures.1 in
    let text = c.args.text.now in
    let chunks = c.args.recording.now.chunks in
    let index = c.args.index in
    let screen = g.F.Finder.screens profile in
    let here = first chunks index in
    let chunk = c.as_slice-bytes.result.now in
    let bytes : chunk ≡ bytes_at chunks index =
    c.as_slice-bytes.ensures ∙ ap (λ cs. (get_or cs index c.index-chunks-index.result).bytes) c.chunks.ensures.chunks ∙ bytes_here chunks index c.index-chunks-index.result c.requires in
    let next : here ++ chunk ≡ first chunks (index + 1) = ap (λ l. here ++ l) bytes ∙ sym (c.first_grows_by_a_chunk.ensures.at chunks index) in
    let are = subst (λ b. AreBetween text (screen here) (screen b) c.play_ahead.new.ends) next (c.in-Ok.ensures.ends profile here found.played found.still) in
    let start = c.in-Some.start in
    let lags = c.in-Ok.ensures.lags found.trails.lags in
    let stood = subst (λ p. IfSome p (λ n. HasStood text screen here chunk n c.play_ahead.new.steps.sides.before)) c.in-Some.is (c.in-Ok.ensures.stood profile here found.played found.still found.trails) in
    let late = found_late g.T.Plays.shows g.F.Finder.screens profile chunks text index index c.args.ahead.now c.args.ends.now c.args.behind.now c.args.steps.now c.play_ahead.new.steps found (omega arith) c.play_ahead.ensures.count in
    let reached = stood_inside g.T.Plays.shows g.F.Finder.screens profile chunks text index start chunk c.reach.new.behind c.reach.new.steps bytes stood.calm (c.in_ok-reach.ensures.played profile late c.if-not-branch.false)
    (c.in_ok-reach.ensures.steps profile (screen (first chunks (index + 1))) late are lags (λ some. stood.still (omega (arith, some, length-take start chunk))) c.if-not-branch.false)
    (c.in_ok-reach.ensures.count c.if-not-branch.false) in
    let between = c.reach.ensures.ends text (screen here) (screen (first chunks (index + 1))) are in
    rw p.1 (c.in_err-put_chunk_behind.ensures.front profile reached between)

pub returns-clause-gave : goal.returns-clause-gave
returns-clause-gave g c = λ profile found done.
    let text = c.args.text.now in
    let chunks = c.args.recording.now.chunks in
    let index = c.args.index in
    let screen = g.F.Finder.screens profile in
    let here = first chunks index in
    let chunk = c.as_slice-bytes.result.now in
    let bytes : chunk ≡ bytes_at chunks index =
    c.as_slice-bytes.ensures ∙ ap (λ cs. (get_or cs index c.index-chunks-index.result).bytes) c.chunks.ensures.chunks ∙ bytes_here chunks index c.index-chunks-index.result c.requires in
    let next : here ++ chunk ≡ first chunks (index + 1) = ap (λ l. here ++ l) bytes ∙ sym (c.first_grows_by_a_chunk.ensures.at chunks index) in
    let are = subst (λ b. AreBetween text (screen here) (screen b) c.play_ahead.new.ends) next (c.in-Ok.ensures.ends profile here found.played found.still) in
    let start = c.in-Some.start in
    let lags = c.in-Ok.ensures.lags found.trails.lags in
    let stood = subst (λ p. IfSome p (λ n. HasStood text screen here chunk n c.play_ahead.new.steps.sides.before)) c.in-Some.is (c.in-Ok.ensures.stood profile here found.played found.still found.trails) in
    let late = found_late g.T.Plays.shows g.F.Finder.screens profile chunks text index index c.args.ahead.now c.args.ends.now c.args.behind.now c.args.steps.now c.play_ahead.new.steps found (omega arith) c.play_ahead.ensures.count in
    let reached = stood_inside g.T.Plays.shows g.F.Finder.screens profile chunks text index start chunk c.reach.new.behind c.reach.new.steps bytes stood.calm (c.in_ok-reach.ensures.played profile late c.if-not-branch.false)
    (c.in_ok-reach.ensures.steps profile (screen (first chunks (index + 1))) late are lags (λ some. stood.still (omega (arith, some, length-take start chunk))) c.if-not-branch.false)
    (c.in_ok-reach.ensures.count c.if-not-branch.false) in
    let between = c.reach.ensures.ends text (screen here) (screen (first chunks (index + 1))) are in
    c.in_ok-put_chunk_behind.ensures.gave profile reached between

pub returns-clause-found : goal.returns-clause-found
returns-clause-found g c = λ profile found done.
    let text = c.args.text.now in
    let chunks = c.args.recording.now.chunks in
    let index = c.args.index in
    let screen = g.F.Finder.screens profile in
    let here = first chunks index in
    let chunk = c.as_slice-bytes.result.now in
    let bytes : chunk ≡ bytes_at chunks index =
    c.as_slice-bytes.ensures ∙ ap (λ cs. (get_or cs index c.index-chunks-index.result).bytes) c.chunks.ensures.chunks ∙ bytes_here chunks index c.index-chunks-index.result c.requires in
    let next : here ++ chunk ≡ first chunks (index + 1) = ap (λ l. here ++ l) bytes ∙ sym (c.first_grows_by_a_chunk.ensures.at chunks index) in
    let are = subst (λ b. AreBetween text (screen here) (screen b) c.play_ahead.new.ends) next (c.in-Ok.ensures.ends profile here found.played found.still) in
    let start = c.in-Some.start in
    let lags = c.in-Ok.ensures.lags found.trails.lags in
    let stood = subst (λ p. IfSome p (λ n. HasStood text screen here chunk n c.play_ahead.new.steps.sides.before)) c.in-Some.is (c.in-Ok.ensures.stood profile here found.played found.still found.trails) in
    let late = found_late g.T.Plays.shows g.F.Finder.screens profile chunks text index index c.args.ahead.now c.args.ends.now c.args.behind.now c.args.steps.now c.play_ahead.new.steps found (omega arith) c.play_ahead.ensures.count in
    let reached = stood_inside g.T.Plays.shows g.F.Finder.screens profile chunks text index start chunk c.reach.new.behind c.reach.new.steps bytes stood.calm (c.in_ok-reach.ensures.played profile late c.if-not-branch.false)
    (c.in_ok-reach.ensures.steps profile (screen (first chunks (index + 1))) late are lags (λ some. stood.still (omega (arith, some, length-take start chunk))) c.if-not-branch.false)
    (c.in_ok-reach.ensures.count c.if-not-branch.false) in
    let between = c.reach.ensures.ends text (screen here) (screen (first chunks (index + 1))) are in
    found_reached g.T.Plays.shows g.F.Finder.screens profile chunks text (index + 1) c.play_ahead.new.ahead c.put_chunk_behind.new.ends c.put_chunk_behind.new.behind c.put_chunk_behind.new.steps
    (subst (g.T.Plays.shows profile c.play_ahead.new.ahead) next (c.in-Ok.ensures.shows profile here found.played found.still))
    (c.in_ok-put_chunk_behind.ensures.still profile between) (c.in_ok-put_chunk_behind.ensures.reached profile reached)
