-- The line of an event while its characters come.
use Rattle.std.proofs.Common.{◌≡◌, ℕ, Bool, true, false, List, [], ◌∷◌, ◌++◌, refl, sym, ap, ◌∙◌, append-nil, append_assoc, Option, subst}
use Rattle.std.specs.List.{flat_map}
use Rattle.std.proofs.lemmas.Grind.{flat_map-append}
use Rattle.output_cast.specs.Cast.{event_closing, event_line, event_opening}
use Rattle.output_cast.specs.Events.{event_of}
use Rattle.output_cast.specs.Json.{json_character, json_text}
use Rattle.output_cast.specs.Line.{begun_if, begun_line, is_some}

pub some_more : (text : List ℕ) (c : ℕ) → is_some (text ++ c ∷ []) ≡ true
some_more [] c = refl
some_more (d ∷ rest) c = refl

json_more : (text : List ℕ) (c : ℕ) → json_text (text ++ c ∷ []) ≡ json_text text ++ json_character c
unfolding json_text
json_more text c =
    flat_map-append json_character text (c ∷ []) ∙ ap (λ t. json_text text ++ t) (append-nil (json_character c))

-- the first character opens the line ..
pub begun_first : (moment : ℕ) (text : List ℕ) (c : ℕ) → is_some text ≡ false
    → begun_line moment (text ++ c ∷ []) ≡ event_opening moment ++ json_character c
unfolding json_text
begun_first moment [] c none = ap (λ t. event_opening moment ++ t) (append-nil (json_character c))
begun_first moment (d ∷ rest) c none = absurd (cc)

-- .. and the others go on
pub begun_next : (moment : ℕ) (text : List ℕ) (c : ℕ) → is_some text ≡ true
    → begun_line moment (text ++ c ∷ []) ≡ begun_line moment text ++ json_character c
begun_next moment [] c some = absurd (cc)
begun_next moment (d ∷ rest) c some =
    ap (λ t. event_opening moment ++ t) (json_more (d ∷ rest) c)
    ∙ sym (append_assoc (event_opening moment) (json_text (d ∷ rest)) (json_character c))

pub none_begun : (moment : ℕ) (text : List ℕ) → is_some text ≡ false → begun_line moment text ≡ []
none_begun moment text none = ap (λ b. begun_if b moment text) none

-- a line that was begun and ended is that of the event
pub ended_line : (moment : ℕ) (text : List ℕ) → is_some text ≡ true
    → begun_line moment text ++ event_closing ≡ flat_map event_line (event_of moment text)
ended_line moment [] some = absurd (cc)
ended_line moment (c ∷ rest) some = sym (append-nil (event_line (record { moment = moment; text = c ∷ rest })))

pub no_line : (moment : ℕ) (text : List ℕ) → is_some text ≡ false
    → begun_line moment text ≡ flat_map event_line (event_of moment text)
no_line moment [] none = refl
no_line moment (c ∷ rest) none = absurd (cc)
