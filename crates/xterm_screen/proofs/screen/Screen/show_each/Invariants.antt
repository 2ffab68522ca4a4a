use Rattle.std.proofs.Common.{◌≡◌, true, take}
use Rattle.xterm_screen.specs.Picture.{KeepsTold}
use Rattle.xterm_screen.specs.Puts.{run_shown}
use Rattle.xterm_screen.proofs.screen.Screen.show_each.Given as goal

-- the characters so far are shown
abbrev pub invariant-loop-i : goal.invariant-loop-i
invariant-loop-i l = record {
  shown : l.self.picture ≡ run_shown (take l.i l.characters) l.rendition l.autowrap true l.fn.self.picture;
  told : KeepsTold l.fn.self l.self;
}
