use Rattle.std.proofs.Common.{map, ap, sym, ◌∙◌}
use Rattle.std.proofs.lemmas.List.{with_items_is}
use Rattle.tape_core.specs.Tape.{Tape}
use Rattle.tape_core.specs.Edited.{capped_chunk}
use Rattle.tape_core.proofs.EditedLemmas.{body_len-capped, due_written, fits-capped}
use Rattle.tape_core.proofs.recording.Recording.cap.Goals as goal

pub add_up-requires-clause-delays : goal.add_up-requires-clause-delays
add_up-requires-clause-delays c =
    let tape : Tape = record { header = c.self.inside.header; chunks = c.self.inside.chunks.items; trailer = c.self.inside.trailer } in
    let are = with_items_is c.self.inside.chunks c.cap_delays.new.chunks (c.cap_delays.auto.chunks ∙ c.deref_mut.ensures.len) ∙ c.cap_delays.ensures ∙ ap (map (capped_chunk c.args.max)) c.deref_mut.ensures.value in
    rw (c.deref.ensures.value, are) (fits-capped tape c.args.max c.self.invariant.fitting).delays

pub invariant_of-self : goal.invariant_of-self
invariant_of-self c =
    let tape : Tape = record { header = c.self.inside.header; chunks = c.self.inside.chunks.items; trailer = c.self.inside.trailer } in
    let are = with_items_is c.self.inside.chunks c.cap_delays.new.chunks (c.cap_delays.auto.chunks ∙ c.deref_mut.ensures.len) ∙ c.cap_delays.ensures ∙ ap (map (capped_chunk c.args.max)) c.deref_mut.ensures.value in
    record {
      fitting = rw are (fits-capped tape c.args.max c.self.invariant.fitting);
      due = due_written c.self.inside.dues c.add_up.new.dues _ _ (c.add_up.auto.dues ∙ c.deref_mut-2.ensures.len) c.deref.ensures.value c.add_up.ensures;
      sum = rw are (c.self.invariant.sum ∙ sym (body_len-capped c.args.max tape.chunks));
    }

pub returns-clause-fitting : goal.returns-clause-fitting
returns-clause-fitting c = (invariant_of-self c).fitting
