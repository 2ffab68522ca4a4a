use Rattle.std.proofs.Common.{◌-◌, drop, ◌∙◌, arith, length-take, length-drop}
use Rattle.tape_core.proofs.WrittenLemmas.{length-put_mid, length-seconds_form, seconds_written, short_decimals, short_whole}
use Rattle.tape_core.proofs.seconds_form.write_seconds.Goals as goal

pub write_digits-decimals-requires : goal.write_digits-decimals-requires
write_digits-decimals-requires c =
    let point = c.args.end - 7 in
    let long = c.copy_from_slice.ensures.len ∙ length-take (c.args.end - point) (drop point c.args.buf.now) in
    let same = length-put_mid point (c.args.end - point) c.args.buf.now c.copy_from_slice.new.self (omega arith) (omega (arith, long, length-drop point c.args.buf.now)) in
    (omega (arith, short_decimals c.args.us), omega (arith, same))

pub write_digits-requires : goal.write_digits-requires
write_digits-requires c =
    let point = c.args.end - 7 in
    let long = c.copy_from_slice.ensures.len ∙ length-take (c.args.end - point) (drop point c.args.buf.now) in
    let same = length-put_mid point (c.args.end - point) c.args.buf.now c.copy_from_slice.new.self (omega arith) (omega (arith, long, length-drop point c.args.buf.now)) in
    (omega (arith, short_whole c.args.us c.ranges.us.fits), omega (arith, same))

pub returns-clause-start : goal.returns-clause-start
returns-clause-start c = omega (arith, length-seconds_form c.args.us)

pub returns-clause-written : goal.returns-clause-written
returns-clause-written c =
    seconds_written c.args.us c.args.buf.now c.copy_from_slice.new.self c.write_digits-decimals.new.buf c.write_digits.new.buf c.args.end c.write_digits-decimals.result c.write_digits.result
    c.requires.room c.requires.within c.copy_from_slice.ensures.after c.write_digits-decimals.ensures.start c.write_digits-decimals.ensures.before c.write_digits-decimals.ensures.written c.write_digits.ensures.written
