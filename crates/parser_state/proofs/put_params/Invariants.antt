use Rattle.std.proofs.Common.{take}
use Rattle.tape_core.specs.Devices.{Gave}
use Rattle.vt_parser.specs.Decimals.{params_text}
use Rattle.parser_state.proofs.put_params.Given as goal

-- the numbers before this one have gone out
abbrev pub invariant-loop-i : goal.invariant-loop-i
invariant-loop-i g l = Gave g.W.Write.contents l.fn.writer l.writer (params_text (take l.i l.params))
