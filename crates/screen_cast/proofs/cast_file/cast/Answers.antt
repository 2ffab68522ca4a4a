use Rattle.std.proofs.Common.{[], append-nil, subst, sym, ◌∙◌, ◌++◌}
use Rattle.std.proofs.lemmas.Result.{err_from_is_err_and}
use Rattle.tape_core.specs.Devices.{Gave}
use Rattle.screen_print.specs.Walk.{whole_text}
use Rattle.screen_cast.specs.Cast.{chunk_text, header_line}
use Rattle.screen_cast.proofs.CastLemmas.{cast_is}
use Rattle.screen_cast.proofs.cast_file.cast.Goals as goal

pub returns-in_err-put_all_events-clause-fault : goal.returns-in_err-put_all_events-clause-fault
returns-in_err-put_all_events-clause-fault g c =
    let s = c.args.session.now in
    let walk = whole_text chunk_text s.profile s.recording in
    let is = cast_is s.profile s.recording ∙ sym (append-nil (header_line ++ walk)) in
    let opened = subst (Gave g.W.Write.contents c.args.writer.now c.give.new.self) c.header_line.ensures c.give.ensures in
    let p = err_from_is_err_and c.from_residual.result c.from_residual.ensures.1 in
    rw (p.1, p.2) (c.walks_end_sound.ensures.between _ _ _ _ header_line walk [] is c.in_err-put_all_events.ensures.refused opened)

pub returns-in_err-settle-clause-fault : goal.returns-in_err-settle-clause-fault
returns-in_err-settle-clause-fault g c =
    let s = c.args.session.now in
    let walk = whole_text chunk_text s.profile s.recording in
    let opened = subst (Gave g.W.Write.contents c.args.writer.now c.give.new.self) c.header_line.ensures c.give.ensures in
    let all = c.gives_join.ensures.both _ _ _ header_line walk c.in_ok-put_all_events.ensures.gave opened in
    let p = err_from_is_err_and c.from_residual-in_err-settle.result c.from_residual-in_err-settle.ensures.1 in
    rw (p.1, p.2, cast_is s.profile s.recording) ((c.in_err-settle.ensures.puts _ _ all).1)

pub returns-clause-ok : goal.returns-clause-ok
returns-clause-ok g c =
    let s = c.args.session.now in
    let walk = whole_text chunk_text s.profile s.recording in
    let opened = subst (Gave g.W.Write.contents c.args.writer.now c.give.new.self) c.header_line.ensures c.give.ensures in
    let all = c.gives_join.ensures.both _ _ _ header_line walk c.in_ok-put_all_events.ensures.gave opened in
    rw (cast_is s.profile s.recording) (c.in_ok-settle.ensures.puts _ _ all)
