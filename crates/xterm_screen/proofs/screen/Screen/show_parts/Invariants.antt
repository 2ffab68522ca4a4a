use Rattle.std.proofs.Common.{◌≡◌, false, length}
use Rattle.xterm_screen.specs.Picture.{KeepsTold}
use Rattle.xterm_screen.specs.Puts.{run_shown}
use Rattle.xterm_screen.proofs.screen.Screen.show_parts.Given as goal

-- what is left to show leads to the whole
abbrev pub invariant-loop-rest : goal.invariant-loop-rest
invariant-loop-rest l = record {
  shown : run_shown l.rest l.rendition l.autowrap false l.self.picture ≡ run_shown l.characters l.rendition l.autowrap false l.fn.self.picture;
  told : KeepsTold l.fn.self l.self;
}

abbrev pub decreases-loop-rest : goal.decreases-loop-rest
decreases-loop-rest l = length l.rest
