use Rattle.std.proofs.Common.{◌≡◌, take}
use Rattle.std.specs.Prelude.{fold}
use Rattle.vt_term.specs.Sequences.{rendition_set}
use Rattle.vt_term.proofs.console.Console.set_rendition.Given as goal

abbrev pub invariant-loop-param : goal.invariant-loop-param
invariant-loop-param l = l.rendition ≡ fold rendition_set l.initial.rendition (take l.param-index l.params)
