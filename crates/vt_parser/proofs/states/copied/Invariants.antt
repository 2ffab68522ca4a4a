use Rattle.std.proofs.Common.{◌≡◌, take}
use Rattle.vt_parser.proofs.states.copied.Given as goal

-- the parameters that have been passed
abbrev pub invariant-loop-param : goal.invariant-loop-param
invariant-loop-param l = l.copy.items ≡ take l.param-index l.params
