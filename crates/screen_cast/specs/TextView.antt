-- Private: what the fields of a text stand for.
use Rattle.std.specs.Prelude.{ℕ, List, None, Option, Some, if◌then◌else◌}
use Rattle.screen_cast.specs.declared.texts.RunsText.TheInside.{Inside as Fields}

abbrev pub text_in : Fields → Option (List ℕ)
text_in t = if t.laid then Some t.bytes.items else None
