use Rattle.std.proofs.Common.{◌≡◌, ◌++◌, ap, arith, encode_utf8, sym, ◌∙◌}
use Rattle.screen_rows.specs.Glyphs.{character}
use Rattle.screen_cast.specs.Json.{json, json_byte}
use Rattle.screen_cast.proofs.JsonLemmas.{ascii_glyph_is, ascii_glyph_stands, glyph_stands}
use Rattle.screen_cast.proofs.json.push_glyph.Goals as goal
use Rattle.screen_cast.proofs.json.push_glyph.Goals.{in_default-via-then-glyph-lt32, in_default-via-else-glyph-lt32+else-glyph-lt127}

pub returns-in-34-clause-text : goal.returns-in-34-clause-text
returns-in-34-clause-text c =
    c.push_bytes.ensures
    ∙ ap (λ t. c.args.text.now.items ++ t) (ap json_byte (sym c.in-34.is) ∙ sym (ascii_glyph_is c.args.glyph (omega arith) (omega arith)))

pub returns-in-92-clause-text : goal.returns-in-92-clause-text
returns-in-92-clause-text c =
    c.push_bytes-in-92.ensures
    ∙ ap (λ t. c.args.text.now.items ++ t) (ap json_byte (sym c.in-92.is) ∙ sym (ascii_glyph_is c.args.glyph (omega arith) (omega arith)))

pub returns-in-32-to-126-clause-text : goal.returns-in-32-to-126-clause-text
returns-in-32-to-126-clause-text c =
    c.push.ensures.items
    ∙ ap (λ t. c.args.text.now.items ++ t)
    (sym (glyph_stands c.args.glyph (omega arith) (omega arith) ∙ ascii_glyph_stands c.args.glyph (omega arith) (omega arith)))

pub returns-in_default-clause-text : goal.returns-in_default-clause-text
returns-in_default-clause-text c =
    let itself : json (encode_utf8 (character c.args.glyph)) ≡ encode_utf8 (character c.args.glyph) = elim c.in_default.branch [
      | in_default-via-then-glyph-lt32 w ↦ glyph_stands c.args.glyph (omega arith) (omega arith)
      | in_default-via-else-glyph-lt32+else-glyph-lt127 w ↦ glyph_stands c.args.glyph (omega arith) (omega arith)
    ] in
    c.push_bytes-in_default.ensures
    ∙ ap (λ t. c.args.text.now.items ++ t) (c.as_bytes.ensures.value ∙ c.encode_utf8.ensures.value ∙ ap encode_utf8 c.character.ensures.value ∙ sym itself)
