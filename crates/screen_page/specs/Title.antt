-- The title of a page, as it stands in HTML (HTML, character references; which characters don't come through is ours).
use Rattle.std.specs.Prelude.{ℕ, List, codes, encode_utf8, ◌==◌, if◌then◌else◌}
use Rattle.std.specs.Char.{is_control}
use Rattle.std.specs.List.{flat_map}

-- a character of a title: `&`, `<` and `>` by their names, so that neither a tag nor a reference begins in it, and `?` in
-- place of a control character, below U+0020 or from U+007F to U+009F (ours)
abbrev pub title_character : ℕ → List ℕ
title_character c =
    if c == 38 then codes "&amp;"
    else (if c == 60 then codes "&lt;"
    else (if c == 62 then codes "&gt;" else (if is_control c then codes "?" else encode_utf8 c)))

-- the characters of a title
abbrev pub title_text : List ℕ → List ℕ
title_text title = flat_map title_character title
