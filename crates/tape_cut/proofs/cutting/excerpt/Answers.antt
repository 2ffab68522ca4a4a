use Rattle.std.proofs.Common.{ap, sym, ◌∙◌}
use Rattle.tape_core.specs.Due.{due, due_count, first}
use Rattle.tape_core.specs.Tape.{Tape}
use Rattle.tape_core.proofs.DueLemmas.{due_first}
use Rattle.tape_cut.proofs.MakingLemmas.{excerpt_behind}
use Rattle.tape_cut.proofs.cutting.excerpt.Goals as goal

pub returns-in-Ok : goal.returns-in-Ok
returns-in-Ok g c =
    let s = c.args.session.now in
    let count = c.due_count-first.ensures.count ∙ ap (λ (t : Tape). due_count t.chunks c.args.from) c.recording.ensures in
    let bytes = ap (first s.recording.chunks) count ∙ sym (due_first s.recording.chunks c.args.from) in
    excerpt_behind c.keep_with.result c.args.from c.args.to _ (g.S.StateText.text s.profile (due s.recording.chunks c.args.from)) s c.state_at.new.session
    c.keep_with.new.session c.state_at.ensures.stays
    (c.as_slice.ensures.value ∙ c.in-Ok.ensures.text ∙ ap (g.S.StateText.text s.profile) bytes) c.keep_with.ensures
