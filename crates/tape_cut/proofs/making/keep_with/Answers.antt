use Rattle.std.proofs.Common.{◌-◌, ◌++◌, length, take, drop, ap, sym, ◌∙◌, subst, arith}
use Rattle.std.proofs.lemmas.Result.{err_from_is_err_and}
use Rattle.tape_core.specs.Due.{due_count, due_time}
use Rattle.tape_core.specs.Tape.{Tape}
use Rattle.tape_cut.specs.CutEdits.{deleting, excerpt_edits, inserting, kept_end, retiming}
use Rattle.tape_cut.specs.Cuts.{pieces}
use Rattle.tape_cut.specs.Making.{TellsNext}
use Rattle.tape_cut.proofs.CodeLemmas.{excerpt_list, next_is_late, retime_room}
use Rattle.tape_cut.proofs.MakingLemmas.{all_four, refused_first, refused_second, refused_third}
use Rattle.tape_cut.proofs.making.keep_with.Goals as goal

pub returns-in_err-delete : goal.returns-in_err-delete
returns-in_err-delete g c =
    let p = err_from_is_err_and c.from_residual.result c.from_residual.ensures.1 in
    let is = c.recording-recording.ensures in
    let list = excerpt_list c.args.from c.args.to c.args.text.now c.args.session.now.recording c.due_count-first.result c.kept_end-end.result (length c.chunks-count.result.now)
    (c.due_count-first.ensures.count ∙ ap (λ (t : Tape). due_count t.chunks c.args.from) is)
    (c.kept_end-end.ensures.end ∙ ap (λ (t : Tape). kept_end t.chunks c.args.from c.args.to) is)
    (ap length (c.chunks-count.ensures.chunks ∙ ap (λ (t : Tape). t.chunks) is)) in
    rw (p.1, p.2) (refused_first _ _ _ c.args.session.now c.delete.new.session _ list c.in_err-delete.ensures)

pub returns-in_err-delete-2 : goal.returns-in_err-delete-2
returns-in_err-delete-2 g c =
    let p = err_from_is_err_and c.from_residual-in_err-delete-2.result c.from_residual-in_err-delete-2.ensures.1 in
    let is = c.recording-recording.ensures in
    let list = excerpt_list c.args.from c.args.to c.args.text.now c.args.session.now.recording c.due_count-first.result c.kept_end-end.result (length c.chunks-count.result.now)
    (c.due_count-first.ensures.count ∙ ap (λ (t : Tape). due_count t.chunks c.args.from) is)
    (c.kept_end-end.ensures.end ∙ ap (λ (t : Tape). kept_end t.chunks c.args.from c.args.to) is)
    (ap length (c.chunks-count.ensures.chunks ∙ ap (λ (t : Tape). t.chunks) is)) in
    rw (p.1, p.2) (refused_second _ _ _ _ c.args.session.now c.delete.new.session c.delete-2.new.session _ list c.in_ok-delete.ensures c.in_err-delete-2.ensures)

pub returns-in_err-at : goal.returns-in_err-at
returns-in_err-at g c =
    let p = err_from_is_err_and c.from_residual-in_err-at.result c.from_residual-in_err-at.ensures.1 in
    let is = c.recording-recording.ensures in
    let list = excerpt_list c.args.from c.args.to c.args.text.now c.args.session.now.recording c.due_count-first.result c.kept_end-end.result (length c.chunks-count.result.now)
    (c.due_count-first.ensures.count ∙ ap (λ (t : Tape). due_count t.chunks c.args.from) is)
    (c.kept_end-end.ensures.end ∙ ap (λ (t : Tape). kept_end t.chunks c.args.from c.args.to) is)
    (ap length (c.chunks-count.ensures.chunks ∙ ap (λ (t : Tape). t.chunks) is)) in
    rw (p.1, p.2)
    (refused_third _ _ _ _ _ c.args.session.now c.delete.new.session c.delete-2.new.session c.put_in.new.session _ list c.in_ok-delete.ensures c.in_ok-delete-2.ensures
    c.in_err-at.ensures.made)

pub retime-requires : goal.retime-requires
retime-requires g c =
    let chunks = c.recording-recording.result.now.chunks in
    retime_room c.next_due-next.result chunks c.due_count-first.result c.kept_end-end.result c.args.from c.next_due-next.ensures
    (λ lt. omega (arith, next_is_late chunks c.args.from c.due_count-first.result c.due_count-first.ensures.count lt))

pub returns : goal.returns
returns g c =
    let is = c.recording-recording.ensures in
    let tape = c.args.session.now.recording in
    let first = c.due_count-first.result in
    let end = c.kept_end-end.result in
    let count = length c.chunks-count.result.now in
    let parts = pieces c.args.text.now in
    let list = excerpt_list c.args.from c.args.to c.args.text.now tape first end count
    (c.due_count-first.ensures.count ∙ ap (λ (t : Tape). due_count t.chunks c.args.from) is)
    (c.kept_end-end.ensures.end ∙ ap (λ (t : Tape). kept_end t.chunks c.args.from c.args.to) is)
    (ap length (c.chunks-count.ensures.chunks ∙ ap (λ (t : Tape). t.chunks) is)) in
    let left = drop first (take end tape.chunks) in
    let due = due_time tape.chunks first in
    let behind = deleting end count in
    let before = deleting 0 first in
    let in_text = inserting 0 0 parts in
    let all = list ∙ ap (λ n. behind ++ (before ++ (in_text ++ retiming left n (due - c.args.from)))) (sym c.in_ok-at.ensures.place) in
    let tells = subst (λ (t : Tape). TellsNext c.next_due-next.result (drop first (take end t.chunks)) (due_time t.chunks first)) is c.next_due-next.ensures in
    all_four (excerpt_edits c.args.from c.args.to c.args.text.now tape) c.retime.result behind before in_text (retiming left c.in_ok-at.at (due - c.args.from))
    c.args.session.now c.delete.new.session c.delete-2.new.session c.put_in.new.session c.retime.new.session all c.in_ok-delete.ensures c.in_ok-delete-2.ensures
    c.in_ok-at.ensures.made (c.retime.ensures left due tells)
