use Rattle.std.proofs.Common.{◌++◌, ◌∙◌, ap₂, subst}
use Rattle.std.proofs.lemmas.Result.{err_from_is_err_and}
use Rattle.chunk_walk.specs.Walk.{all_texts}
use Rattle.tape_core.specs.Devices.{Gave}
use Rattle.xterm_page.specs.Parts.{chunk_text, closing, opening}
use Rattle.xterm_page.proofs.KeptLemmas.{columns_by, lines_by}
use Rattle.xterm_page.proofs.PageLemmas.{page_is}
use Rattle.xterm_page.proofs.page_file.page.Goals as goal

pub returns-in_err-visit_all_chunks-clause-fault : goal.returns-in_err-visit_all_chunks-clause-fault
returns-in_err-visit_all_chunks-clause-fault g c =
    let s = c.args.session.now in
    let title = c.args.title.now in
    let opened = subst (Gave g.W.Write.contents c.args.writer.now c.put_opening.new.writer)
    (ap₂ (opening title) (c.size-size.ensures.columns ∙ columns_by c.size_stays.ensures _ s.profile _ c.terminal.ensures.shows) (c.size-size.ensures.lines ∙ lines_by c.size_stays.ensures _ s.profile _ c.terminal.ensures.shows))
    c.put_opening.ensures in
    let p = err_from_is_err_and c.from_residual.result c.from_residual.ensures.1 in
    rw (p.1, p.2) (c.walks_end_sound.ensures.between _ _ _ _ (opening title s.profile.columns s.profile.lines) _ closing (page_is title s.profile s.recording) c.in_err-visit_all_chunks.ensures.refused opened)

pub returns-in_err-settle-clause-fault : goal.returns-in_err-settle-clause-fault
returns-in_err-settle-clause-fault g c =
    let s = c.args.session.now in
    let title = c.args.title.now in
    let walk = all_texts chunk_text s.profile s.recording in
    let first = opening title s.profile.columns s.profile.lines in
    let opened = subst (Gave g.W.Write.contents c.args.writer.now c.put_opening.new.writer)
    (ap₂ (opening title) (c.size-size.ensures.columns ∙ columns_by c.size_stays.ensures _ s.profile _ c.terminal.ensures.shows) (c.size-size.ensures.lines ∙ lines_by c.size_stays.ensures _ s.profile _ c.terminal.ensures.shows))
    c.put_opening.ensures in
    let before = c.gives_join.ensures.both _ _ _ first walk c.in_ok-visit_all_chunks.ensures.gave opened in
    let all = c.gives_join.ensures.both _ _ _ (first ++ walk) closing c.put_closing.ensures before in
    let p = err_from_is_err_and c.from_residual-in_err-settle.result c.from_residual-in_err-settle.ensures.1 in
    rw (p.1, p.2, page_is title s.profile s.recording) ((c.in_err-settle.ensures.puts _ _ all).1)

pub returns-clause-ok : goal.returns-clause-ok
returns-clause-ok g c =
    let s = c.args.session.now in
    let title = c.args.title.now in
    let walk = all_texts chunk_text s.profile s.recording in
    let first = opening title s.profile.columns s.profile.lines in
    let opened = subst (Gave g.W.Write.contents c.args.writer.now c.put_opening.new.writer)
    (ap₂ (opening title) (c.size-size.ensures.columns ∙ columns_by c.size_stays.ensures _ s.profile _ c.terminal.ensures.shows) (c.size-size.ensures.lines ∙ lines_by c.size_stays.ensures _ s.profile _ c.terminal.ensures.shows))
    c.put_opening.ensures in
    let before = c.gives_join.ensures.both _ _ _ first walk c.in_ok-visit_all_chunks.ensures.gave opened in
    let all = c.gives_join.ensures.both _ _ _ (first ++ walk) closing c.put_closing.ensures before in
    rw (page_is title s.profile s.recording) (c.in_ok-settle.ensures.puts _ _ all)
