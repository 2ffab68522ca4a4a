use Rattle.std.proofs.Common.{◌≡◌, ◌≤◌, ◌+◌, ◌-◌, ◌*◌, ◌++◌, length}
use Rattle.std.specs.List.{flat_map, range_with_len}
use Rattle.screen_picture.specs.Strokes.{outline_text}
use Rattle.screen_picture.proofs.strokes.push_outlines.Given as goal

-- the outlines of the cells so far stand behind the text
abbrev pub invariant-loop-before : goal.invariant-loop-before
invariant-loop-before l = record {
  told : l.text.items ≡ l.fn.text.items ++ flat_map (outline_text l.row) (range_with_len l.fn.run.before (l.before - l.fn.run.before));
  short : length l.text.items ≤ length l.fn.text.items + 60 * (l.before - l.fn.run.before);
}
