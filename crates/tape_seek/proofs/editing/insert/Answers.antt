use Rattle.std.proofs.Common.{length, ap, arith, ◌∙◌}
use Rattle.tape_core.proofs.EditedLemmas.{body_len-inserted}
use Rattle.tape_seek.proofs.EditLemmas.{inserts_well}
use Rattle.tape_seek.proofs.editing.insert.Goals as goal

pub insert-requires-clause-index : goal.insert-requires-clause-index
insert-requires-clause-index c = (inserts_well c.args.recording.now c.args.at c.args.delay c.args.bytes.now c.requires).place

pub insert-requires-clause-few : goal.insert-requires-clause-few
insert-requires-clause-few c = (inserts_well c.args.recording.now c.args.at c.args.delay c.args.bytes.now c.requires).few

pub insert-requires-clause-delay : goal.insert-requires-clause-delay
insert-requires-clause-delay c = (inserts_well c.args.recording.now c.args.at c.args.delay c.args.bytes.now c.requires).delay_

pub insert-requires-clause-len : goal.insert-requires-clause-len
insert-requires-clause-len c =
    let well = inserts_well c.args.recording.now c.args.at c.args.delay c.args.bytes.now c.requires in
    omega (arith, well.len, ap length (c.in_ok-bytes.ensures ∙ c.as_slice.ensures))

pub insert-requires-clause-bytes : goal.insert-requires-clause-bytes
insert-requires-clause-bytes c =
    let well = inserts_well c.args.recording.now c.args.at c.args.delay c.args.bytes.now c.requires in
    omega (arith, well.body, body_len-inserted c.args.recording.now.chunks c.args.at (record { delay = c.args.delay; bytes = c.args.bytes.now }), ap length (c.in_ok-bytes.ensures ∙ c.as_slice.ensures))
