use Rattle.std.proofs.Common.{◌≡◌, drop}
use Rattle.xterm_term.specs.Renditions.{renditions_set}
use Rattle.xterm_term.proofs.renditions.renditions_set.Given as goal

-- with the rest taken, all are taken
abbrev pub invariant-loop-i : goal.invariant-loop-i
invariant-loop-i l = renditions_set l.used (drop l.i l.params) l.rendition ≡ renditions_set 0 l.params l.initial.rendition
