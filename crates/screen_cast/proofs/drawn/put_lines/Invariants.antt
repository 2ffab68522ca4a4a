use Rattle.std.proofs.Common.{take}
use Rattle.std.specs.List.{flat_map}
use Rattle.held.specs.Held.{Wrote}
use Rattle.screen_cast.specs.Parts.{line_part}
use Rattle.screen_cast.specs.Texts.{AreTexts}
use Rattle.screen_cast.proofs.drawn.put_lines.Given as goal

-- the lines so far have gone out
abbrev pub invariant-loop-line : goal.invariant-loop-line
invariant-loop-line g l = record {
  texts : AreTexts l.reversed l.screen.order l.screen.picture.rows l.texts;
  wrote : Wrote g.W.Write.contents l.fn.writer l.fn.held.items l.writer l.held.items
      (flat_map (line_part l.screen.picture l.reversed) (take l.line-index l.lines));
}
