use Rattle.std.proofs.Common.{◌+◌, ◌≤◌, ◌<◌, length, ap, ◌∙◌, arith}
use Rattle.tape_core.specs.Tape.{Tape, body_len, longest_body, most_chunks}
use Rattle.tape_core.proofs.EditedLemmas.{body_len-inserted, due_written, fits-inserted}
use Rattle.tape_core.proofs.recording.Recording.insert.Goals as goal

pub invariant_of-self-2 : goal.invariant_of-self-2
invariant_of-self-2 c =
    let tape : Tape = record { header = c.self.inside.header; chunks = c.self.inside.chunks.items; trailer = c.self.inside.trailer } in
    let same = ap (λ t. t.chunks) c.self.view_is in
    let place : c.args.at ≤ length tape.chunks = rw same c.requires.index in
    let few : length tape.chunks < most_chunks = rw same c.requires.few in
    let bytes : body_len tape.chunks + length c.args.chunk.bytes ≤ longest_body = rw same c.requires.bytes in
    let fitted = fits-inserted tape c.args.at c.args.chunk c.self.invariant.fitting place few c.requires.delay c.requires.len bytes in
    record {
      fitting = rw c.in_default.ensures.items fitted;
      due = due_written c.push.new.self c.add_up.new.dues _ _ (c.add_up.auto.dues ∙ c.deref_mut.ensures.len) c.deref.ensures.value c.add_up.ensures;
      sum = rw c.in_default.ensures.items (omega (arith, c.self.invariant.sum, c.len-bytes.ensures, body_len-inserted tape.chunks c.args.at c.args.chunk));
    }

pub returns-clause-fitting : goal.returns-clause-fitting
returns-clause-fitting c = (invariant_of-self-2 c).fitting
