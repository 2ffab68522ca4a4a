use Rattle.std.proofs.Common.{◌≡◌, take}
use Rattle.std.specs.Prelude.{fold}
use Rattle.xterm_term.specs.Sequences.{ansi_mode_set}
use Rattle.xterm_term.proofs.console.Console.set_ansi_modes.Given as goal

abbrev pub invariant-loop-param : goal.invariant-loop-param
invariant-loop-param l = l.self ≡ record l.initial.self { modes = fold (ansi_mode_set l.value) l.initial.self.modes (take l.param-index l.params) }
