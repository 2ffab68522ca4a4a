use Rattle.std.proofs.Common.{◌-◌, ◌≤◌, length, take, drop, ap, ◌∙◌, arith}
use Rattle.tape_core.specs.Tape.{Tape, body_len}
use Rattle.tape_core.proofs.EditedLemmas.{body_len-removed, due_written, fits-removed}
use Rattle.tape_core.proofs.recording.Recording.remove.Goals as goal

pub chunk_bytes-requires : goal.chunk_bytes-requires
chunk_bytes-requires c =
    let part = body_len-removed c.self.inside.chunks.items c.args.from c.args.to (omega arith) in
    rw c.deref.ensures.value (omega (arith, part, c.self.invariant.fitting.bytes))

pub overflow_sub-self : goal.overflow_sub-self
overflow_sub-self c =
    let part = body_len-removed c.self.inside.chunks.items c.args.from c.args.to (omega arith) in
    let here = c.chunk_bytes.ensures ∙ ap (λ cs. body_len (take (c.args.to - c.args.from) (drop c.args.from cs))) c.deref.ensures.value in
    omega (arith, part, here, c.self.invariant.sum)

pub add_up-requires-clause-delays : goal.add_up-requires-clause-delays
add_up-requires-clause-delays c =
    let within : c.args.to ≤ length c.self.inside.chunks.items = omega (arith, c.requires.within, ap (λ t. length t.chunks) c.self.view_is) in
    rw (c.deref-2.ensures.value, c.remove_range.ensures) (fits-removed _ c.args.from c.args.to c.self.invariant.fitting (omega arith) within).delays

pub invariant_of-self : goal.invariant_of-self
invariant_of-self c =
    let tape : Tape = record { header = c.self.inside.header; chunks = c.self.inside.chunks.items; trailer = c.self.inside.trailer } in
    let within : c.args.to ≤ length c.self.inside.chunks.items = omega (arith, c.requires.within, ap (λ t. length t.chunks) c.self.view_is) in
    let part = body_len-removed c.self.inside.chunks.items c.args.from c.args.to (omega arith) in
    let here = c.chunk_bytes.ensures ∙ ap (λ cs. body_len (take (c.args.to - c.args.from) (drop c.args.from cs))) c.deref.ensures.value in
    record {
      fitting = rw c.remove_range.ensures (fits-removed tape c.args.from c.args.to c.self.invariant.fitting (omega arith) within);
      due = due_written c.truncate.new.self c.add_up.new.dues _ _ (c.add_up.auto.dues ∙ c.deref_mut.ensures.len) c.deref-2.ensures.value c.add_up.ensures;
      sum = rw c.remove_range.ensures (omega (arith, part, here, c.self.invariant.sum));
    }

pub returns-clause-fitting : goal.returns-clause-fitting
returns-clause-fitting c = (invariant_of-self c).fitting
