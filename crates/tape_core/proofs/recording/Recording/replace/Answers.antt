use Rattle.std.proofs.Common.{◌≤◌, ◌<◌, length, set, ap, ◌∙◌, refl, arith}
use Rattle.std.proofs.lemmas.List.Sums.{get_or-le-sum_by}
use Rattle.tape_core.specs.declared.chunk.Chunk.{Chunk}
use Rattle.tape_core.specs.Tape.{Tape, body_len, longest_body}
use Rattle.tape_core.specs.Edited.{replaced}
use Rattle.tape_core.proofs.EditedLemmas.{body_len-set, fits-set, same_delays, same_dues, set_is_changed}
use Rattle.tape_core.proofs.recording.Recording.replace.Goals as goal

pub invariant_of-self : goal.invariant_of-self
invariant_of-self c =
    let tape : Tape = record { header = c.self.inside.header; chunks = c.self.inside.chunks.items; trailer = c.self.inside.trailer } in
    let place : c.args.at < length tape.chunks = rw (ap (λ t. t.chunks) c.self.view_is) c.requires.index in
    let old = c.index_mut-chunk.result.now in
    let new : Chunk = record { delay = old.delay; bytes = c.args.bytes } in
    let is = c.index_mut-chunk.ensures.value in
    let changed = set_is_changed (λ x. record x { bytes = c.args.bytes }) tape.chunks c.args.at old place is in
    let small : body_len (set tape.chunks c.args.at new) ≤ longest_body = rw (changed, ap (λ t. t.chunks) c.self.view_is) c.requires.bytes in
    let held = ap (λ x. length x.bytes) is in
    let part = get_or-le-sum_by (λ x. length x.bytes) tape.chunks c.args.at old place in
    let sum = body_len-set tape.chunks c.args.at old new place is in
    record {
      fitting = fits-set tape c.args.at old new c.self.invariant.fitting place is (rw is (c.self.invariant.fitting.delays c.args.at old place)) c.requires.len small;
      due = same_dues tape.chunks (set tape.chunks c.args.at new) _ (same_delays tape.chunks c.args.at old new place is refl) c.self.invariant.due;
      sum = omega (arith, part, held, sum, c.len.ensures, c.len-2.ensures, c.self.invariant.sum);
    }

pub returns-clause-replaced : goal.returns-clause-replaced
returns-clause-replaced c =
    let place : c.args.at < length c.self.inside.chunks.items = rw (ap (λ t. t.chunks) c.self.view_is) c.requires.index in
    ap (λ chunks. record { header = c.self.inside.header; chunks = chunks; trailer = c.self.inside.trailer }) (set_is_changed (λ x. record x { bytes = c.args.bytes }) c.self.inside.chunks.items c.args.at c.index_mut-chunk.result.now place c.index_mut-chunk.ensures.value)
    ∙ ap (replaced c.args.at c.args.bytes) c.self.view_is

pub returns-clause-fitting : goal.returns-clause-fitting
returns-clause-fitting c = (invariant_of-self c).fitting
