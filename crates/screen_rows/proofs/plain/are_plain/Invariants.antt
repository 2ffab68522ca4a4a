use Rattle.std.proofs.Common.{◌≡◌, take}
use Rattle.std.specs.List.{list_all}
use Rattle.screen_rows.specs.Plain.{is_plain}
use Rattle.screen_rows.proofs.plain.are_plain.Given as goal

-- whether those so far are plain
abbrev pub invariant-loop-glyph : goal.invariant-loop-glyph
invariant-loop-glyph l = l.plain ≡ list_all is_plain (take l.glyph-index l.glyphs)
