use Rattle.std.proofs.Common.{◌-◌}
use Rattle.tape_core.specs.Devices.{Gave}
use Rattle.xterm_picture.specs.Picture.{plain_line}
use Rattle.xterm_picture.proofs.TextLemmas.{first_texts}
use Rattle.xterm_picture.proofs.picture_file.put_plain.Given as goal

-- the lines before this one have gone out
abbrev pub invariant-loop-line : goal.invariant-loop-line
invariant-loop-line g l =
    Gave g.W.Write.contents l.fn.writer l.writer (first_texts plain_line l.fn.screen.picture.rows (l.line - 1))
