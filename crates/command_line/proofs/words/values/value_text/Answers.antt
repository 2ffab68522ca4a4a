use Rattle.std.proofs.Common.{◌≡◌, Option, Some, None, refl, unwrap_or, option_map, ap, ◌∙◌, []}
use Rattle.command_line.proofs.words.values.value_text.Goals as goal

-- a default before or after a function
unwrap_or-map : {X Y : Type 0} (f : X → Y) (o : Option X) (d : X) → f (unwrap_or o d) ≡ unwrap_or (option_map f o) (f d)
unwrap_or-map f None d = refl
unwrap_or-map f (Some x) d = refl

pub returns : goal.returns
returns c =
    ap (λ s. s.now) c.unwrap_or.ensures ∙ unwrap_or-map (λ s. s.now) c.value_given.result _
    ∙ ap (λ o. unwrap_or o []) c.value_given.ensures
