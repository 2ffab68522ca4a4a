use Rattle.std.proofs.Common.{◌≡◌, ◌≤◌, ◌++◌, ◌+◌, ◌*◌, length, take}
use Rattle.screen_picture.specs.Letters.{escaped}
use Rattle.screen_picture.proofs.texts.push_escaped.Given as goal

-- the bytes so far stand behind the text
abbrev pub invariant-loop-byte : goal.invariant-loop-byte
invariant-loop-byte g l = record {
  told : l.text.items ≡ l.fn.text.items ++ escaped (take l.byte-index l.bytes);
  short : length l.text.items ≤ length l.fn.text.items + 5 * l.byte-index;
}
