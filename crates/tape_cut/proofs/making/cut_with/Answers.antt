use Rattle.std.proofs.Common.{◌+◌, ◌-◌, ◌≤◌, ◌++◌, length, take, drop, ap, ap₂, sym, ◌∙◌, subst, arith}
use Rattle.std.proofs.lemmas.Result.{err_from_is_err_and}
use Rattle.tape_core.specs.Due.{due_count, due_time}
use Rattle.tape_core.specs.Tape.{Tape}
use Rattle.tape_cut.specs.CutEdits.{cut_edits, deleting, due_by, inserting, retiming}
use Rattle.tape_cut.specs.Cuts.{pieces}
use Rattle.tape_cut.specs.Making.{TellsNext}
use Rattle.tape_cut.proofs.CodeLemmas.{before_is, before_is_due, before_within, cut_list, next_is_late, retime_room}
use Rattle.tape_cut.proofs.MakingLemmas.{all_three, refused_first, refused_second}
use Rattle.tape_cut.proofs.making.cut_with.Goals as goal

pub returns-in_err-delete : goal.returns-in_err-delete
returns-in_err-delete g c =
    let p = err_from_is_err_and c.from_residual.result c.from_residual.ensures.1 in
    let is = c.recording-recording.ensures in
    let tape = c.args.session.now.recording in
    let first = c.due_count-first.result in
    let list = cut_list c.args.from c.args.to c.args.text.now tape first c.due_count-end.result c.due_by-old.result c.requires.rising
    (c.due_count-first.ensures.count ∙ ap (λ (t : Tape). due_count t.chunks c.args.from) is)
    (c.due_count-end.ensures.count ∙ ap (λ (t : Tape). due_count t.chunks c.args.to) is)
    (c.due_by-old.ensures ∙ ap (λ (t : Tape). due_by t.chunks first) is) c.requires.gone in
    rw (p.1, p.2) (refused_first _ _ _ c.args.session.now c.delete.new.session _ list c.in_err-delete.ensures)

pub overflow_sub-from : goal.overflow_sub-from
overflow_sub-from g c =
    let is = c.recording-recording.ensures in
    let tape = c.args.session.now.recording in
    let first = c.due_count-first.result in
    let due = before_is_due tape.chunks c.args.from first (c.due_count-first.ensures.count ∙ ap (λ (t : Tape). due_count t.chunks c.args.from) is) in
    let old = c.due_by-old.ensures ∙ ap (λ (t : Tape). due_by t.chunks first) is in
    omega (arith, due, old)

pub returns-in_err-at : goal.returns-in_err-at
returns-in_err-at g c =
    let p = err_from_is_err_and c.from_residual-in_err-at.result c.from_residual-in_err-at.ensures.1 in
    let is = c.recording-recording.ensures in
    let tape = c.args.session.now.recording in
    let first = c.due_count-first.result in
    let list = cut_list c.args.from c.args.to c.args.text.now tape first c.due_count-end.result c.due_by-old.result c.requires.rising
    (c.due_count-first.ensures.count ∙ ap (λ (t : Tape). due_count t.chunks c.args.from) is)
    (c.due_count-end.ensures.count ∙ ap (λ (t : Tape). due_count t.chunks c.args.to) is)
    (c.due_by-old.ensures ∙ ap (λ (t : Tape). due_by t.chunks first) is) c.requires.gone in
    rw (p.1, p.2) (refused_second _ _ _ _ c.args.session.now c.delete.new.session c.put_in.new.session _ list c.in_ok-delete.ensures c.in_err-at.ensures.made)

pub overflow_add-to : goal.overflow_add-to
overflow_add-to g c =
    let is = c.recording-recording.ensures in
    let tape = c.args.session.now.recording in
    let first = c.due_count-first.result in
    let due = before_is_due tape.chunks c.args.from first (c.due_count-first.ensures.count ∙ ap (λ (t : Tape). due_count t.chunks c.args.from) is) in
    let old = c.due_by-old.ensures ∙ ap (λ (t : Tape). due_by t.chunks first) is in
    let within : c.due_by-old.result ≤ c.args.from = omega (arith, due, old) in
    let before = before_is (pieces c.args.text.now) first c.in_ok-at.at c.due_by-old.result c.args.from c.before_next-before.result c.in_ok-at.ensures.place
    c.before_next-before.ensures.pieces c.before_next-before.ensures.none in
    let le = before_within (pieces c.args.text.now) c.due_by-old.result c.args.from within in
    omega (arith, before, le, c.requires.rising)

pub retime-requires : goal.retime-requires
retime-requires g c =
    let is = c.recording-recording.ensures in
    let tape = c.args.session.now.recording in
    let chunks = c.recording-recording.result.now.chunks in
    let first = c.due_count-first.result in
    let due = before_is_due tape.chunks c.args.from first (c.due_count-first.ensures.count ∙ ap (λ (t : Tape). due_count t.chunks c.args.from) is) in
    let old = c.due_by-old.ensures ∙ ap (λ (t : Tape). due_by t.chunks first) is in
    let within : c.due_by-old.result ≤ c.args.from = omega (arith, due, old) in
    let before = before_is (pieces c.args.text.now) first c.in_ok-at.at c.due_by-old.result c.args.from c.before_next-before.result c.in_ok-at.ensures.place
    c.before_next-before.ensures.pieces c.before_next-before.ensures.none in
    let le = before_within (pieces c.args.text.now) c.due_by-old.result c.args.from within in
    retime_room c.next_due-next.result chunks c.due_count-end.result (length c.chunks.result.now) (c.args.to - c.args.from + c.before_next-before.result)
    c.next_due-next.ensures
    (λ lt. omega (arith, next_is_late chunks c.args.to c.due_count-end.result c.due_count-end.ensures.count lt, before, le, c.requires.rising))

pub returns : goal.returns
returns g c =
    let is = c.recording-recording.ensures in
    let tape = c.args.session.now.recording in
    let first = c.due_count-first.result in
    let end = c.due_count-end.result in
    let old = c.due_by-old.result in
    let parts = pieces c.args.text.now in
    let list = cut_list c.args.from c.args.to c.args.text.now tape first end old c.requires.rising
    (c.due_count-first.ensures.count ∙ ap (λ (t : Tape). due_count t.chunks c.args.from) is)
    (c.due_count-end.ensures.count ∙ ap (λ (t : Tape). due_count t.chunks c.args.to) is)
    (c.due_by-old.ensures ∙ ap (λ (t : Tape). due_by t.chunks first) is) c.requires.gone in
    let before = before_is parts first c.in_ok-at.at old c.args.from c.before_next-before.result c.in_ok-at.ensures.place
    c.before_next-before.ensures.pieces c.before_next-before.ensures.none in
    let left = drop end (take (length tape.chunks) tape.chunks) in
    let due = due_time tape.chunks end in
    let out = deleting first end in
    let in_text = inserting first (c.args.from - old) parts in
    let all = list ∙ ap₂ (λ n b. out ++ (in_text ++ retiming left n (due - (c.args.to - c.args.from + b)))) (sym c.in_ok-at.ensures.place) (sym before) in
    let count = ap length (c.chunks.ensures.chunks ∙ ap (λ (t : Tape). t.chunks) is) in
    let tells = subst (λ n. TellsNext c.next_due-next.result (drop end (take n tape.chunks)) due) count
    (subst (λ (t : Tape). TellsNext c.next_due-next.result (drop end (take (length c.chunks.result.now) t.chunks)) (due_time t.chunks end)) is c.next_due-next.ensures) in
    all_three (cut_edits c.args.from c.args.to c.args.text.now tape) c.retime.result out in_text
    (retiming left c.in_ok-at.at (due - (c.args.to - c.args.from + c.before_next-before.result)))
    c.args.session.now c.delete.new.session c.put_in.new.session c.retime.new.session all c.in_ok-delete.ensures c.in_ok-at.ensures.made
    (c.retime.ensures left due tells)
