use Rattle.tape_seek.proofs.editing.edit_fault.Goals as goal

pub returns-in-Cap : goal.returns-in-Cap
returns-in-Cap c = rw c.in-Cap.is (c.cap_fault.ensures c.args.recording.now)
