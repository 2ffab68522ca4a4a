-- The lines of an asciicast, one after another.
use Rattle.std.proofs.Common.{◌≡◌, ℕ, ◌+◌, ◌≤◌, ◌&&◌, Bool, true, false, List, ◌∷◌, codes, length, nat_le, nat_eq, Option, Some, None, IfNone, IfSome, MatchOption, is_some, unwrap_or, if◌then◌else◌, refl, ap, subst, sym, ◌∙◌, arith}
use Rattle.std.specs.Option.{option_and_then, option_map}
use Rattle.std.proofs.lemmas.Bool.Decides.{nat_tests}
use Rattle.json_bytes.specs.Numbers.{Decimal, scaled}
use Rattle.json_bytes.specs.Values.{Json, json_of, number_of, string_of, triple_of, tripled}
use Rattle.tape_core.specs.Text as digits
use Rattle.tape_import.specs.Asciicast.{event_from, event_of, events, in_time, is_in_force, is_skipped, is_word, left_from, line_fault, on_line, resized, sided, what_of, with_found, with_line, with_resize, with_what}
use Rattle.tape_import.specs.Facts.{parted, side, size_of}
use Rattle.tape_import.specs.Kept.{IsSize}
use Rattle.tape_import.specs.KeptCast.{HasSizes, IsCounted, IsSized}
use Rattle.tape_import.specs.declared.asciicast.Cast.{Cast}
use Rattle.tape_import.specs.declared.event.Event.{Event}
use Rattle.tape_import.specs.declared.event.What.{What}
use Rattle.tape_import.specs.declared.event.What.TheVariants as what
use Rattle.tape_import.specs.declared.facts.Size.{Size}
use Rattle.tape_import.specs.declared.fault.EventFault.{EventFault}
use Rattle.tape_import.specs.declared.version.Version.{Version}

-- a line without a fault is read, and reading ends before one that has one
pub line_taken : (v : Version) (number : ℕ) (cast : Cast) (line : List ℕ) (more : List (List ℕ)) → line_fault v (on_line (number + 1) cast) line ≡ None
    → events v number cast (line ∷ more) ≡ events v (number + 1) (with_line v (on_line (number + 1) cast) line) more
line_taken v number cast line more is = rw is refl

pub line_ends : (v : Version) (number : ℕ) (cast : Cast) (line : List ℕ) (more : List (List ℕ)) (fault : EventFault) → line_fault v (on_line (number + 1) cast) line ≡ Some fault
    → events v number cast (line ∷ more) ≡ record { cast = on_line (number + 1) cast; left = Some (left_from (number + 1) (length (line ∷ more)) fault) }
line_ends v number cast line more fault is = rw is refl

-- sizes that are told have four digits at most
side_by : (n : ℕ) (b : Bool) → (nat_le 1 n && nat_le n 9999) ≡ b → IfSome (if b then Some n else None) (λ k. k ≤ 9999)
side_by n true is = grind (arith, nat_tests)
side_by n false is = tt

side_small : (n : Option ℕ) → IfSome (side n) (λ k. k ≤ 9999)
side_small None = tt
side_small (Some n) = side_by n (nat_le 1 n && nat_le n 9999) refl

size_by : (a b : Option ℕ) → IfSome a (λ k. k ≤ 9999) → IfSome b (λ k. k ≤ 9999) → IfSome (size_of a b) IsSize
size_by None b p q = tt
size_by (Some m) None p q = tt
size_by (Some m) (Some n) p q = record { columns = p; lines = q }

size_small : (a b : Option ℕ) → IfSome (size_of (side a) (side b)) IsSize
size_small a b = size_by (side a) (side b) (side_small a) (side_small b)

sided_small : (cut : Option (List ℕ × List ℕ)) → IfSome (sided cut) IsSize
sided_small None = tt
sided_small (Some cut) = size_small (digits.number_of (cut.0)) (digits.number_of (cut.1))

resized_small : (text : Option (List ℕ)) → IfSome (resized text) IsSize
resized_small None = tt
resized_small (Some text) = sided_small (parted 120 text)

-- what an event is has such a size
output_sized : (bytes : Option (List ℕ)) → IfSome (option_map what.Output bytes) IsSized
output_sized None = tt
output_sized (Some bytes) = tt

what_by : (a b c d : Bool) (text : Option (List ℕ))
    → IfSome (if a then option_map what.Output text else if b then Some (what.Resize (resized text)) else if c then Some what.Input else if d then Some what.Marker else Some what.Other) IsSized
what_by true b c d text = output_sized text
what_by false true c d text = resized_small text
what_by false false true d text = tt
what_by false false false true text = tt
what_by false false false false text = tt

abbrev pub IsSizedEvent : Event → Type 0
IsSizedEvent found = IsSized found.what

made_by : (us : ℕ) (is : Option What) → IfSome is IsSized → IfSome (option_map (λ w. let e : Event = record { time = us; what = w } in e) is) IsSizedEvent
made_by us None p = tt
made_by us (Some w) p = p

code_by : (us : ℕ) (code : Option (List ℕ)) (value : Option Json) → IfSome (option_and_then (λ name. option_map (λ w. let e : Event = record { time = us; what = w } in e) (what_of name value)) code) IsSizedEvent
code_by us None value = tt
code_by us (Some name) value =
    made_by us (what_of name value)
    (what_by (is_word (codes "o") name) (is_word (codes "r") name) (is_word (codes "i") name) (is_word (codes "m") name) (string_of value))

event_sized_by : (time : Option Decimal) (code : Option (List ℕ)) (value : Option Json)
    → IfSome (option_and_then (λ n. option_and_then (λ name. option_map (λ w. let e : Event = record { time = scaled 6 n; what = w } in e) (what_of name value)) code) time) IsSizedEvent
event_sized_by None code value = tt
event_sized_by (Some n) code value = code_by (scaled 6 n) code value

from_sized : (three : Option (Json × Json × Json)) → IfSome (event_from three) IsSizedEvent
from_sized None = tt
from_sized (Some three) = event_sized_by (number_of (Some (three.0))) (string_of (Some (three.1))) (Some (three.2))

-- so the header tells one
size_kept : (size : Size) (cast : Cast) (first same : Bool) → IsSize size → HasSizes cast
    → HasSizes (if first then record cast { in_force = Some size; told = Some size } else if same then cast else with_resize (record cast { in_force = Some size }))
size_kept size cast true same is kept = record { told = is }
size_kept size cast false true is kept = record { told = kept.told }
size_kept size cast false false is kept = record { told = kept.told }

what_kept : (w : What) (cast : Cast) → IsSized w → HasSizes cast → HasSizes (with_what w cast)
what_kept (what.Output bytes) cast is kept = record { told = kept.told }
what_kept (what.Resize None) cast is kept = record { told = kept.told }
what_kept (what.Resize (Some size)) cast is kept = size_kept size cast (nat_eq (length cast.outputs.chunks) 0) (is_in_force size cast.in_force) is kept
what_kept what.Input cast is kept = record { told = kept.told }
what_kept what.Marker cast is kept = record { told = kept.told }
what_kept what.Other cast is kept = record { told = kept.told }

found_kept : (v : Version) (cast : Cast) (read : Option Event) → IfSome read IsSizedEvent → HasSizes cast → HasSizes (with_found v cast read)
found_kept v cast None is kept = kept
found_kept v cast (Some e) is kept = what_kept e.what (record cast { outputs = in_time v e cast.outputs }) is (record { told = kept.told })

line_kept_by : (v : Version) (cast : Cast) (read : Option Event) (skipped : Bool) → IfSome read IsSizedEvent → HasSizes cast
    → HasSizes (if skipped then cast else with_found v cast read)
line_kept_by v cast read true is kept = kept
line_kept_by v cast read false is kept = found_kept v cast read is kept

pub line_kept : (v : Version) (cast : Cast) (line : List ℕ) → HasSizes cast → HasSizes (with_line v cast line)
line_kept v cast line kept = line_kept_by v cast (event_of line) (is_skipped v line) (from_sized (triple_of (json_of line))) kept

-- a line is counted once at most
pub numbered : (n number : ℕ) (cast : Cast) → IsCounted n cast → IsCounted n (on_line number cast)
numbered n number cast is = record { inputs = is.inputs; markers = is.markers; resizes = is.resizes; others = is.others }

size_counted : (n : ℕ) (size : Size) (cast : Cast) (first same : Bool) → IsCounted n cast
    → IsCounted (n + 1) (if first then record cast { in_force = Some size; told = Some size } else if same then cast else with_resize (record cast { in_force = Some size }))
size_counted n size cast true same is = record { inputs = omega arith; markers = omega arith; resizes = omega arith; others = omega arith }
size_counted n size cast false true is = record { inputs = omega arith; markers = omega arith; resizes = omega arith; others = omega arith }
size_counted n size cast false false is = record { inputs = omega arith; markers = omega arith; resizes = omega arith; others = omega arith }

what_counted : (n : ℕ) (w : What) (cast : Cast) → IsCounted n cast → IsCounted (n + 1) (with_what w cast)
what_counted n (what.Output bytes) cast is = record { inputs = omega arith; markers = omega arith; resizes = omega arith; others = omega arith }
what_counted n (what.Resize None) cast is = record { inputs = omega arith; markers = omega arith; resizes = omega arith; others = omega arith }
what_counted n (what.Resize (Some size)) cast is = size_counted n size cast (nat_eq (length cast.outputs.chunks) 0) (is_in_force size cast.in_force) is
what_counted n what.Input cast is = record { inputs = omega arith; markers = omega arith; resizes = omega arith; others = omega arith }
what_counted n what.Marker cast is = record { inputs = omega arith; markers = omega arith; resizes = omega arith; others = omega arith }
what_counted n what.Other cast is = record { inputs = omega arith; markers = omega arith; resizes = omega arith; others = omega arith }

line_counted_by : (n : ℕ) (v : Version) (cast : Cast) (read : Option Event) (skipped : Bool) → IsCounted n cast
    → IsCounted (n + 1) (if skipped then cast else with_found v cast read)
line_counted_by n v cast read true is = record { inputs = omega arith; markers = omega arith; resizes = omega arith; others = omega arith }
line_counted_by n v cast None false is = record { inputs = omega arith; markers = omega arith; resizes = omega arith; others = omega arith }
line_counted_by n v cast (Some e) false is =
    what_counted n e.what (record cast { outputs = in_time v e cast.outputs }) (record { inputs = is.inputs; markers = is.markers; resizes = is.resizes; others = is.others })

pub line_counted : (n : ℕ) (v : Version) (cast : Cast) (line : List ℕ) → IsCounted n cast → IsCounted (n + 1) (with_line v cast line)
line_counted n v cast line is = line_counted_by n v cast (event_of line) (is_skipped v line) is

some_is : (x y : ℕ) → Some x ≡ Some y → y ≡ x
some_is x y is = cc

-- an event that is read
timed : (f : ℕ → Option Event) (n : Option Decimal) (us : ℕ) → Some us ≡ option_map (scaled 6) n → option_and_then (λ seconds. f (scaled 6 seconds)) n ≡ f us
timed f None us is = cc
timed f (Some seconds) us is = let same : scaled 6 seconds ≡ us = some_is us (scaled 6 seconds) is in ap f same

pub event_is : (line : List ℕ) (a b c : Option Json) (us : ℕ) (code : List ℕ) (w : What) → triple_of (json_of line) ≡ tripled a b c → is_some (triple_of (json_of line)) ≡ true
    → Some us ≡ option_map (scaled 6) (number_of a) → Some code ≡ string_of b → Some w ≡ what_of code c → Some (record { time = us; what = w }) ≡ event_of line
event_is line None b c us code w three some time name is = let no : false ≡ true = sym (ap is_some three) ∙ some in cc
event_is line (Some x) None c us code w three some time name is = let no : false ≡ true = sym (ap is_some three) ∙ some in cc
event_is line (Some x) (Some y) None us code w three some time name is = let no : false ≡ true = sym (ap is_some three) ∙ some in cc
event_is line (Some x) (Some y) (Some z) us code w three some time name is =
    let found_in : ℕ → Option Event = λ at. option_and_then (λ t. option_map (λ v. let e : Event = record { time = at; what = v } in e) (what_of t (Some z))) (string_of (Some y)) in
    let last : found_in us ≡ Some (record { time = us; what = w }) = rw (sym name, sym is) refl in
    sym (ap event_from three ∙ timed found_in (number_of (Some x)) us time ∙ last)

-- what holds of what was found
pub matched : {X : Type 0} (A : Type 0) (P : X → Type 0) (found : Option X) (x : X) → MatchOption found A P → found ≡ Some x → P x
matched A P None x holds is = cc
matched A P (Some y) x holds is = subst P (ap (λ o. unwrap_or o x) is) holds

-- what holds where there is no fault
pub taken_is : (fault : Option EventFault) (after wanted : Cast) → fault ≡ None → IfNone fault (after ≡ wanted) → after ≡ wanted
taken_is None after wanted is taken = taken
taken_is (Some f) after wanted is taken = cc
