use Rattle.std.proofs.Common.{◌<◌, length, ap, ◌∙◌}
use Rattle.tape_core.specs.Edited.{retimed}
use Rattle.tape_core.proofs.EditedLemmas.{set_is_changed}
use Rattle.tape_core.proofs.recording.Recording.retime.Goals as goal

pub returns-clause-retimed : goal.returns-clause-retimed
returns-clause-retimed c =
    let place : c.args.at < length c.self.inside.chunks.items = rw (ap (λ t. t.chunks) c.self.view_is) c.requires.index in
    ap (λ chunks. record { header = c.self.inside.header; chunks = chunks; trailer = c.self.inside.trailer }) (set_is_changed (λ x. record x { delay = c.args.delay }) c.self.inside.chunks.items c.args.at c.index_mut.result.now place c.index_mut.ensures.value)
    ∙ ap (retimed c.args.at c.args.delay) c.self.view_is
