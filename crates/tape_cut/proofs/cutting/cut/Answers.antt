use Rattle.std.proofs.Common.{[], ap, sym, ◌∙◌, subst, arith}
use Rattle.tape_core.specs.Due.{due, due_count, first}
use Rattle.tape_core.specs.Tape.{Tape}
use Rattle.tape_core.proofs.DueLemmas.{due_first}
use Rattle.tape_cut.specs.Making.{AreMade, Making}
use Rattle.tape_cut.proofs.CodeLemmas.{text_ignored}
use Rattle.tape_cut.proofs.CutLemmas.{nothing_cut}
use Rattle.tape_cut.proofs.DueParts.{count_rises}
use Rattle.tape_cut.proofs.MakingLemmas.{cut_behind, none_made}
use Rattle.tape_cut.proofs.cutting.cut.Goals as goal

pub returns-then-to-from : goal.returns-then-to-from
returns-then-to-from g c =
    let s = c.args.session.now in
    let text = g.S.StateText.text s.profile (due s.recording.chunks c.args.to) in
    subst (λ es. AreMade es s s) (sym (nothing_cut c.args.from c.args.to text s.recording (omega arith))) (none_made s)

pub returns-then-first-end : goal.returns-then-first-end
returns-then-first-end g c =
    let s = c.args.session.now in
    let text = g.S.StateText.text s.profile (due s.recording.chunks c.args.to) in
    let is = c.recording-recording.ensures in
    let first = c.due_count-first.ensures.count ∙ ap (λ (t : Tape). due_count t.chunks c.args.from) is in
    let end = c.due_count-end.ensures.count ∙ ap (λ (t : Tape). due_count t.chunks c.args.to) is in
    subst (λ es. Making c.cut_with.result es s c.cut_with.new.session)
    (text_ignored c.args.from c.args.to [] text s.recording (omega (arith, first, end))) c.cut_with.ensures

pub cut_with-requires-in-Ok-clause-gone : goal.cut_with-requires-in-Ok-clause-gone
cut_with-requires-in-Ok-clause-gone g c = λ le.
    let s = c.args.session.now in
    let is = c.recording-recording.ensures in
    let stays = c.state_at.ensures.stays.recording in
    let first = c.due_count-first.ensures.count ∙ ap (λ (t : Tape). due_count t.chunks c.args.from) is in
    let end = c.due_count-end.ensures.count ∙ ap (λ (t : Tape). due_count t.chunks c.args.to) is in
    let rises = count_rises s.recording.chunks c.args.from c.args.to (omega arith) in
    let low = ap (λ (t : Tape). due_count t.chunks c.args.from) stays in
    let high = ap (λ (t : Tape). due_count t.chunks c.args.to) stays in
    absurd (omega (arith, first, end, rises, low, high, le))

pub returns-in-Ok : goal.returns-in-Ok
returns-in-Ok g c =
    let s = c.args.session.now in
    let is = c.recording-recording.ensures in
    let end = c.due_count-end.ensures.count ∙ ap (λ (t : Tape). due_count t.chunks c.args.to) is in
    let bytes = ap (first s.recording.chunks) end ∙ sym (due_first s.recording.chunks c.args.to) in
    cut_behind c.cut_with-in-Ok.result c.args.from c.args.to _ (g.S.StateText.text s.profile (due s.recording.chunks c.args.to)) s c.state_at.new.session
    c.cut_with-in-Ok.new.session c.state_at.ensures.stays
    (c.as_slice.ensures.value ∙ c.in-Ok.ensures.text ∙ ap (g.S.StateText.text s.profile) bytes) c.cut_with-in-Ok.ensures
