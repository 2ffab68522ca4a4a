-- The line of an event, read as the event.
use Rattle.std.proofs.Common.{◌≡◌, ℕ, suc, ◌-◌, ◌/◌, ◌%◌, ◌≤◌, true, not, List, [], ◌∷◌, ◌++◌, codes, encode_utf8_all, length, map, nat_eq, Some, refl, ap, sym, ◌∙◌, arith, append_assoc, length-append}
use Rattle.std.specs.Fmt.{decimal}
use Rattle.std.specs.List.{flat_map, list_all}
use Rattle.std.proofs.lemmas.Bool.{and_parts, not-true}
use Rattle.std.proofs.lemmas.List.Elements.{All-append, All-cons, All-nil}
use Rattle.json_bytes.specs.Numbers.{greatest}
use Rattle.json_bytes.specs.Strings as strings
use Rattle.json_bytes.specs.Values.{Json, array, as_part, item, items, json_of, no_items, number, string, triple_of, value, whole}
use Rattle.output_cast.specs.Cast.{event_closing, event_line, event_opening}
use Rattle.output_cast.specs.Events as given
use Rattle.output_cast.specs.Json.{json_text}
use Rattle.tape_core.specs.Text.{lines_of}
use Rattle.tape_core.specs.Written.{seconds_form, six_digits}
use Rattle.tape_core.proofs.ReadBackLemmas.{next_line, seconds_form_reads, seconds_unbroken}
use Rattle.tape_import.specs.Asciicast.{event_from, event_of}
use Rattle.tape_import.specs.declared.event.Event.{Event}
use Rattle.tape_import.specs.declared.event.What.TheVariants as what
use Rattle.cast_laws.proofs.NumberLemmas.{BeginsWithDigit, form_begins, form_read, form_scaled, of_digits}
use Rattle.cast_laws.proofs.TextLemmas.{IsUnbroken, NoFeed, text_read, text_unbroken}
use Rattle.cast_laws.proofs.ValueLemmas.{array_opened, array_value, last_item, number_value, one_item, string_value}

-- the line without its LF
abbrev pub line_of : given.Event → List ℕ
line_of event = (event_opening event.moment ++ json_text event.text) ++ 34 ∷ 93 ∷ []

-- ---- it is JSON

-- an array of a number, the string `o` and a string
three_read : (text behind bytes : List ℕ) (v : Json) (most : ℕ) → value 63 text ≡ Some (v, 44 ∷ 32 ∷ 34 ∷ 111 ∷ 34 ∷ 44 ∷ 32 ∷ 34 ∷ behind)
    → strings.items 0 behind ≡ Some (bytes, 93 ∷ [])
    → items (value 63) (suc (suc (suc most))) text ≡ Some (item v (item (string (111 ∷ [])) (item (string bytes) no_items)), [])
three_read text behind bytes v most first last =
    one_item (value 63) (suc (suc most)) text (44 ∷ 32 ∷ 34 ∷ 111 ∷ 34 ∷ 44 ∷ 32 ∷ 34 ∷ behind) (34 ∷ 111 ∷ 34 ∷ 44 ∷ 32 ∷ 34 ∷ behind) v first refl refl
    ∙ ap (as_part (item v))
    (one_item (value 63) (suc most) (34 ∷ 111 ∷ 34 ∷ 44 ∷ 32 ∷ 34 ∷ behind) (44 ∷ 32 ∷ 34 ∷ behind) (34 ∷ behind) (string (111 ∷ []))
    (string_value 63 (111 ∷ 34 ∷ 44 ∷ 32 ∷ 34 ∷ behind) (111 ∷ []) (44 ∷ 32 ∷ 34 ∷ behind) refl) refl refl
    ∙ ap (as_part (item (string (111 ∷ []))))
    (last_item (value 63) most (34 ∷ behind) (93 ∷ []) [] (string bytes) (string_value 63 behind bytes (93 ∷ []) last) refl))

array_read : (text behind bytes : List ℕ) (v : Json) → BeginsWithDigit text → 3 ≤ length text → value 63 text ≡ Some (v, 44 ∷ 32 ∷ 34 ∷ 111 ∷ 34 ∷ 44 ∷ 32 ∷ 34 ∷ behind)
    → strings.items 0 behind ≡ Some (bytes, 93 ∷ [])
    → json_of (91 ∷ text) ≡ Some (array (item v (item (string (111 ∷ [])) (item (string bytes) no_items))))
array_read text behind bytes v digit long first last =
    let count : length text ≡ suc (suc (suc (length text - 3))) = omega arith in
    ap whole (array_value 63 text)
    ∙ ap (λ read. whole (as_part array read))
    (array_opened (value 63) text digit ∙ ap (λ n. items (value 63) n text) count ∙ three_read text behind bytes v (length text - 3) first last)

pub line_spelled : (event : given.Event)
    → line_of event ≡ 91 ∷ (seconds_form event.moment ++ 44 ∷ 32 ∷ 34 ∷ 111 ∷ 34 ∷ 44 ∷ 32 ∷ 34 ∷ (json_text event.text ++ 34 ∷ 93 ∷ []))
unfolding event_opening
line_spelled event =
    let behind = json_text event.text ++ 34 ∷ 93 ∷ [] in
    append_assoc (event_opening event.moment) (json_text event.text) (34 ∷ 93 ∷ [])
    ∙ ap (λ t. 91 ∷ t) (append_assoc (seconds_form event.moment) (codes ", \"o\", \"") behind)

line_json : (event : given.Event) → event.moment ≤ greatest
    → json_of (line_of event)
    ≡ Some (array (item (number (of_digits (decimal (event.moment / 1000000)) (six_digits (event.moment % 1000000))))
    (item (string (111 ∷ [])) (item (string (encode_utf8_all event.text)) no_items))))
line_json event small =
    let us = event.moment in
    let behind = json_text event.text ++ 34 ∷ 93 ∷ [] in
    let more = 34 ∷ 111 ∷ 34 ∷ 44 ∷ 32 ∷ 34 ∷ behind in
    let text = seconds_form us ++ 44 ∷ 32 ∷ more in
    let digit : BeginsWithDigit text = form_begins us (44 ∷ 32 ∷ more) small in
    let long : 3 ≤ length text = omega (arith, length-append (seconds_form us) (44 ∷ 32 ∷ more)) in
    let n = of_digits (decimal (us / 1000000)) (six_digits (us % 1000000)) in
    ap json_of (line_spelled event)
    ∙ array_read text behind (encode_utf8_all event.text) (number n) digit long (number_value 63 text n (44 ∷ 32 ∷ more) digit.quote (form_read us more small))
    (text_read event.text (93 ∷ []))

-- so it is an output at the event's moment
pub event_read : (event : given.Event) → event.moment ≤ greatest
    → event_of (line_of event) ≡ Some (record { time = event.moment; what = what.Output (encode_utf8_all event.text) })
event_read event small =
    ap (λ j. event_from (triple_of j)) (line_json event small)
    ∙ ap (λ us. let found : Event = record { time = us; what = what.Output (encode_utf8_all event.text) } in Some found) (form_scaled event.moment small)

-- ---- it is a line

pub no_feed : (text : List ℕ) → list_all (λ b. not (nat_eq b 10)) text ≡ true → IsUnbroken text
no_feed [] is = All-nil NoFeed
no_feed (b ∷ bs) is =
    let parts = and_parts (not (nat_eq b 10)) (list_all (λ b. not (nat_eq b 10)) bs) is in
    All-cons NoFeed b bs (not-true (nat_eq b 10) parts.0) (no_feed bs parts.1)

line_unbroken : (event : given.Event) → event.moment ≤ greatest → IsUnbroken (line_of event)
unfolding event_opening
line_unbroken event small =
    let us = event.moment in
    let time = seconds_unbroken (seconds_form us) us (seconds_form_reads us (omega arith)) in
    let begun = All-append NoFeed (codes "[") (seconds_form us) (no_feed (codes "[") refl) time in
    let opened = All-append NoFeed (codes "[" ++ seconds_form us) (codes ", \"o\", \"") begun (no_feed (codes ", \"o\", \"") refl) in
    All-append NoFeed (event_opening us ++ json_text event.text) (34 ∷ 93 ∷ [])
    (All-append NoFeed (event_opening us) (json_text event.text) opened (text_unbroken event.text)) (no_feed (34 ∷ 93 ∷ []) refl)

line_ended : (event : given.Event) (rest : List ℕ) → event_line event ++ rest ≡ line_of event ++ 10 ∷ rest
unfolding event_closing
line_ended event rest =
    let front = event_opening event.moment ++ json_text event.text in
    append_assoc front (34 ∷ 93 ∷ 10 ∷ []) rest ∙ sym (append_assoc front (34 ∷ 93 ∷ []) (10 ∷ rest))

-- events whose moments can be read
abbrev pub AreEarly : List given.Event → Type 0
AreEarly [] = Unit {0}
AreEarly (event ∷ more) = (event.moment ≤ greatest) × AreEarly more

pub event_lines : (events : List given.Event) → AreEarly events → lines_of (flat_map event_line events) ≡ map line_of events
event_lines [] early = refl
event_lines (event ∷ more) early =
    ap lines_of (line_ended event (flat_map event_line more)) ∙ next_line (line_of event) (flat_map event_line more) (line_unbroken event early.0)
    ∙ ap (λ lines. line_of event ∷ lines) (event_lines more early.1)
