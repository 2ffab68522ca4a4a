use Rattle.std.proofs.Common.{◌≡◌, take}
use Rattle.std.specs.List.{list_all}
use Rattle.vt_parser.specs.Syntax.{is_graphic}
use Rattle.screen_transcript.proofs.rows.are_ascii.Given as goal

-- whether those so far are characters of ASCII
abbrev pub invariant-loop-glyph : goal.invariant-loop-glyph
invariant-loop-glyph l = l.ascii ≡ list_all is_graphic (take l.glyph-index l.glyphs)
