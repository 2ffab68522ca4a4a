use Rattle.std.proofs.Common.{◌-◌, length, arith}
use Rattle.std.proofs.lemmas.Fmt.{length-decimal-le}
use Rattle.std.proofs.lemmas.List.{length-set}
use Rattle.tape_core.specs.Written.{seconds_form}
use Rattle.tape_core.proofs.WrittenLemmas.{line_written}
use Rattle.tape_core.proofs.writing.write_line.Goals as goal

pub write_digits-space-requires : goal.write_digits-space-requires
write_digits-space-requires c =
    (omega (arith, length-decimal-le 20 c.args.count (omega arith) (omega arith) c.ranges.count.fits), omega (arith, length-set c.args.buf.now (length c.args.buf.now - 1) 10))

pub overflow_sub-space : goal.overflow_sub-space
overflow_sub-space c = omega (arith, length-decimal-le 20 c.args.count (omega arith) (omega arith) c.ranges.count.fits)

pub write_seconds-requires-clause-room : goal.write_seconds-requires-clause-room
write_seconds-requires-clause-room c = omega (arith, length-decimal-le 20 c.args.count (omega arith) (omega arith) c.ranges.count.fits)

pub returns-clause-written : goal.returns-clause-written
returns-clause-written c =
    let short = length-decimal-le 20 c.args.count (omega arith) (omega arith) c.ranges.count.fits in
    let same = length-set c.args.buf.now (length c.args.buf.now - 1) 10 in
    line_written c.args.buf.now c.write_digits-space.new.buf c.write_seconds.new.buf (seconds_form c.args.delay) c.args.count (length c.args.buf.now - 1) c.write_digits-space.result c.write_seconds.result
    (omega arith) (omega arith) (omega arith) (omega (arith, same)) c.write_digits-space.ensures.written c.write_seconds.ensures.written
