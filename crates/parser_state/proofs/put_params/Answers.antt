use Rattle.std.proofs.Common.{◌<◌, length, sym, subst}
use Rattle.tape_core.specs.Devices.{Gave}
use Rattle.parser_state.proofs.TextLemmas.{params_more}
use Rattle.parser_state.proofs.put_params.Goals as goal

pub loop-i-preserved : goal.loop-i-preserved
loop-i-preserved g c =
    let numbers = c.args.params.now in
    let i = c.loop-i.i in
    let within : i < length numbers = c.loop-i-test.true in
    subst (Gave g.W.Write.contents c.args.writer.now c.put_number.new.writer) (sym (params_more numbers i 0 within))
    (c.gives_join.ensures.both _ _ _ _ _ c.put_number.ensures (c.gives_join.ensures.both _ _ _ _ _ c.put_where.ensures c.loop-i.invariant))
