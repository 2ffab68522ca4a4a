use Rattle.std.proofs.Common.{◌++◌}
use Rattle.std.proofs.lemmas.Result.{err_from_is_err_and}
use Rattle.screen_print.specs.Walk.{whole_text}
use Rattle.screen_page.specs.Parts.{chunk_text, closing, opening}
use Rattle.screen_page.proofs.PageLemmas.{page_is}
use Rattle.screen_page.proofs.page_file.page.Goals as goal

pub returns-in_err-put_entries-clause-fault : goal.returns-in_err-put_entries-clause-fault
returns-in_err-put_entries-clause-fault g c =
    let s = c.args.session.now in
    let title = c.args.title.now in
    let p = err_from_is_err_and c.from_residual.result c.from_residual.ensures.1 in
    rw (p.1, p.2) (c.walks_end_sound.ensures.between _ _ _ _ (opening title) _ closing (page_is title s.profile s.recording) c.in_err-put_entries.ensures.refused c.put_opening.ensures)

pub returns-in_err-settle-clause-fault : goal.returns-in_err-settle-clause-fault
returns-in_err-settle-clause-fault g c =
    let s = c.args.session.now in
    let title = c.args.title.now in
    let walk = whole_text chunk_text s.profile s.recording in
    let before = c.gives_join.ensures.both _ _ _ (opening title) walk c.in_ok-put_entries.ensures.gave c.put_opening.ensures in
    let all = c.gives_join.ensures.both _ _ _ (opening title ++ walk) closing c.put_closing.ensures before in
    let p = err_from_is_err_and c.from_residual-in_err-settle.result c.from_residual-in_err-settle.ensures.1 in
    rw (p.1, p.2, page_is title s.profile s.recording) ((c.in_err-settle.ensures.puts _ _ all).1)

pub returns-clause-ok : goal.returns-clause-ok
returns-clause-ok g c =
    let s = c.args.session.now in
    let title = c.args.title.now in
    let walk = whole_text chunk_text s.profile s.recording in
    let before = c.gives_join.ensures.both _ _ _ (opening title) walk c.in_ok-put_entries.ensures.gave c.put_opening.ensures in
    let all = c.gives_join.ensures.both _ _ _ (opening title ++ walk) closing c.put_closing.ensures before in
    rw (page_is title s.profile s.recording) (c.in_ok-settle.ensures.puts _ _ all)
