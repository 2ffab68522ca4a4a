-- That what a front is refused for the whole is refused for too.
use Rattle.std.proofs.Common.{◌≡◌, ℕ, ◌+◌, ◌≤◌, Bool, true, false, List, [], ◌∷◌, ◌++◌, length, nat_eq, Option, Some, None, IfSome, if◌then◌else◌, ◌⊎◌, inl, inr, refl, ap, subst, sym, ◌∙◌, arith}
use Rattle.std.specs.Option.{option_map, option_or}
use Rattle.tape_core.specs.Text.{lines_of}
use Rattle.json_bytes.specs.Values.{json_of}
use Rattle.tape_import.specs.Asciicast.{at_header, at_moment, cast_of, event_of, events, header_line, header_number, in_time, is_in_force, is_skipped, left_from, line_fault, on_line, past_header, told_size, with_found, with_line, with_resize, with_what}
use Rattle.tape_import.specs.FaultOrder.{CastKeepsItsFault, IsWithin}
use Rattle.tape_import.specs.Law.{EndsLine}
use Rattle.tape_import.specs.Outputs.{Outputs, is_slow, with_output}
use Rattle.tape_import.specs.Refusal.{first_fault}
use Rattle.tape_import.specs.declared.asciicast.Cast.{Cast}
use Rattle.tape_import.specs.declared.asciicast.CastFront.{CastFront}
use Rattle.tape_import.specs.declared.event.Event.{Event}
use Rattle.tape_import.specs.declared.event.What.{What}
use Rattle.tape_import.specs.declared.event.What.TheVariants as what
use Rattle.tape_import.specs.declared.facts.Size.{Size}
use Rattle.tape_import.specs.declared.fault.EventFault.{EventFault}
use Rattle.tape_import.specs.declared.fault.EventFault.TheVariants as event
use Rattle.tape_import.specs.declared.losses.Left.{Left}
use Rattle.tape_import.specs.declared.losses.Place.TheVariants as place
use Rattle.tape_import.specs.declared.refusal.Refusal.{Refusal}
use Rattle.tape_import.specs.declared.refusal.Refusal.TheVariants as refusal
use Rattle.tape_import.specs.declared.version.Version.{Version}
use Rattle.tape_import.specs.declared.version.Version.TheVariants as version
use Rattle.tape_import.proofs.CastLemmas.{line_ends, line_taken}
use Rattle.std.proofs.lemmas.Option.{same_Some}
use Rattle.tape_import.proofs.FrontLemmas.{Split, from_header, headed_whole, lined, none_past, split}

-- the place of the first delay that was cut stays, or is this one
abbrev pub Slower : ℕ → Option ℕ → Option ℕ → Type 0
Slower number before after = (after ≡ before) ⊎ ((before ≡ None) × (after ≡ Some number))

slow_by : (number : ℕ) (before : Option ℕ) (slow : Bool) → Slower number before (option_or before (if slow then Some number else None))
slow_by number None true = inr (refl, refl)
slow_by number None false = inl refl
slow_by number (Some k) slow = inl refl

output_slower : (number : ℕ) (bytes : List ℕ) (so_far : Outputs) → Slower number so_far.first_slow (with_output number bytes so_far).first_slow
output_slower number [] so_far = inl refl
output_slower number (b ∷ bs) so_far = slow_by number so_far.first_slow (is_slow so_far)

moment_slow : (w : What) (us : ℕ) (so_far : Outputs) → (at_moment w us so_far).first_slow ≡ so_far.first_slow
moment_slow (what.Output bytes) us so_far = refl
moment_slow (what.Resize size) us so_far = refl
moment_slow what.Input us so_far = refl
moment_slow what.Marker us so_far = refl
moment_slow what.Other us so_far = refl

time_slow : (v : Version) (found : Event) (so_far : Outputs) → (in_time v found so_far).first_slow ≡ so_far.first_slow
time_slow version.Three found so_far = refl
time_slow version.Two found so_far = moment_slow found.what found.time so_far

size_slow : (size : Size) (cast : Cast) (first same : Bool)
    → (if first then record cast { in_force = Some size; told = Some size } else if same then cast else with_resize (record cast { in_force = Some size })).outputs.first_slow
    ≡ cast.outputs.first_slow
size_slow size cast true same = refl
size_slow size cast false true = refl
size_slow size cast false false = refl

what_slower : (w : What) (cast : Cast) → Slower cast.line cast.outputs.first_slow (with_what w cast).outputs.first_slow
what_slower (what.Output bytes) cast = output_slower cast.line bytes cast.outputs
what_slower (what.Resize None) cast = inl refl
what_slower (what.Resize (Some size)) cast = inl (size_slow size cast (nat_eq (length cast.outputs.chunks) 0) (is_in_force size cast.in_force))
what_slower what.Input cast = inl refl
what_slower what.Marker cast = inl refl
what_slower what.Other cast = inl refl

pub found_slower : (v : Version) (cast : Cast) (read : Option Event) → Slower cast.line cast.outputs.first_slow (with_found v cast read).outputs.first_slow
found_slower v cast None = inl refl
found_slower v cast (Some found) =
    let timed : Cast = record cast { outputs = in_time v found cast.outputs } in
    subst (λ before. Slower cast.line before (with_what found.what timed).outputs.first_slow) (time_slow v found cast.outputs) (what_slower found.what timed)

line_by : (v : Version) (cast : Cast) (read : Option Event) (skipped : Bool)
    → Slower cast.line cast.outputs.first_slow (if skipped then cast else with_found v cast read).outputs.first_slow
line_by v cast read true = inl refl
line_by v cast read false = found_slower v cast read

line_slower : (v : Version) (cast : Cast) (line : List ℕ) → Slower cast.line cast.outputs.first_slow (with_line v cast line).outputs.first_slow
line_slower v cast line = line_by v cast (event_of line) (is_skipped v line)

-- so one that was told stays
pub still_slow : (number k : ℕ) (before after : Option ℕ) → Slower number before after → before ≡ Some k → after ≡ Some k
still_slow number k before after (inl same) is = same ∙ is
still_slow number k before after (inr now) is = let no : None ≡ Some k = sym (now.0) ∙ is in cc

-- and is among the lines so far
pub is_among : (number : ℕ) (before after : Option ℕ) → Slower (number + 1) before after → IfSome before (λ k. k ≤ number) → IfSome after (λ k. k ≤ number + 1)
is_among number None after (inl same) among = subst (λ a. IfSome a (λ k. k ≤ number + 1)) (sym same) tt
is_among number (Some k) after (inl same) among = subst (λ a. IfSome a (λ k. k ≤ number + 1)) (sym same) (omega (arith, among))
is_among number before after (inr now) among = subst (λ a. IfSome a (λ k. k ≤ number + 1)) (sym (now.1)) (omega arith)

abbrev SlowAt : Option ℕ → CastFront → Type 0
SlowAt slow front = front.cast.outputs.first_slow ≡ slow

slow_on : (v : Version) (k number : ℕ) (cast : Cast) (line : List ℕ) (more : List (List ℕ)) (fault : Option EventFault) → line_fault v (on_line (number + 1) cast) line ≡ fault
    → cast.outputs.first_slow ≡ Some k
    → ((with_line v (on_line (number + 1) cast) line).outputs.first_slow ≡ Some k
    → SlowAt (Some k) (events v (number + 1) (with_line v (on_line (number + 1) cast) line) more))
    → SlowAt (Some k) (events v number cast (line ∷ more))
slow_on v k number cast line more None is slow later =
    let here = on_line (number + 1) cast in
    subst (SlowAt (Some k)) (sym (line_taken v number cast line more is))
    (later (still_slow (number + 1) k cast.outputs.first_slow (with_line v here line).outputs.first_slow (line_slower v here line) slow))
slow_on v k number cast line more (Some fault) is slow later = subst (SlowAt (Some k)) (sym (line_ends v number cast line more fault is)) slow

slow_stays : (v : Version) (k number : ℕ) (cast : Cast) (lines : List (List ℕ)) → cast.outputs.first_slow ≡ Some k → SlowAt (Some k) (events v number cast lines)
slow_stays v k number cast [] slow = slow
slow_stays v k number cast (line ∷ more) slow =
    slow_on v k number cast line more (line_fault v (on_line (number + 1) cast) line) refl slow
    (λ next. slow_stays v k (number + 1) (with_line v (on_line (number + 1) cast) line) more next)

-- the fault of an asciicast of which so much was read
abbrev pub fault_by : Option ℕ → Option Left → Option Refusal
fault_by slow left = first_fault (record {
  first = None;
  left = left;
  cut = None;
  slow = 0;
  first_slow = option_map (λ number. record { place = place.Line; number = number }) slow;
  others = record { inputs = 0; markers = 0; resizes = 0; others = 0 };
})

-- where nothing is left out it is a delay's
pub slow_alone : (bound : ℕ) (slow after : Option ℕ) (left : Option Left) (r : Refusal) → fault_by slow None ≡ Some r → IfSome slow (λ k. k ≤ bound)
    → ((k : ℕ) → slow ≡ Some k → after ≡ Some k) → (fault_by after left ≡ Some r) × IsWithin bound r
slow_alone bound None after left r is among stays = cc
slow_alone bound (Some k) after left r is among stays =
    let told : Refusal = refusal.Event (record { place = place.Line; number = k }) event.DelayTooLarge in
    let same : told ≡ r = same_Some told r is in
    (ap (λ slow. fault_by slow left) (stays k refl) ∙ is, subst (IsWithin bound) same among)

-- where a line has one, it is its fault or a delay's before
pub line_alone : (bound number few many : ℕ) (slow : Option ℕ) (fault : EventFault) (r : Refusal) → fault_by slow (Some (left_from number few fault)) ≡ Some r
    → IfSome slow (λ k. k ≤ bound) → number ≤ bound → (fault_by slow (Some (left_from number many fault)) ≡ Some r) × IsWithin bound r
line_alone bound number few many None fault r is among within =
    let told : Refusal = refusal.Event (record { place = place.Line; number = number }) fault in
    (is, subst (IsWithin bound) (same_Some told r is) within)
line_alone bound number few many (Some k) fault r is among within =
    let told : Refusal = refusal.Event (record { place = place.Line; number = k }) event.DelayTooLarge in
    (is, subst (IsWithin bound) (same_Some told r is) among)

abbrev Kept : CastFront → CastFront → ℕ → Type 0
Kept front whole bound =
    (r : Refusal) → fault_by front.cast.outputs.first_slow front.left ≡ Some r → (fault_by whole.cast.outputs.first_slow whole.left ≡ Some r) × IsWithin bound r

pub wider : (few many : ℕ) (among : Option ℕ) → few ≤ many → IfSome among (λ k. k ≤ few) → IfSome among (λ k. k ≤ many)
wider few many None le is = tt
wider few many (Some k) le is = omega (arith, is)

kept_by : (v : Version) (number : ℕ) (cast : Cast) (line : List ℕ) (more rest : List (List ℕ)) (fault : Option EventFault)
    → line_fault v (on_line (number + 1) cast) line ≡ fault → IfSome cast.outputs.first_slow (λ k. k ≤ number)
    → Kept (events v (number + 1) (with_line v (on_line (number + 1) cast) line) more) (events v (number + 1) (with_line v (on_line (number + 1) cast) line) (more ++ rest))
    (number + 1 + length more)
    → Kept (events v number cast (line ∷ more)) (events v number cast (line ∷ (more ++ rest))) (number + length (line ∷ more))
kept_by v number cast line more rest None is among kept =
    let here = on_line (number + 1) cast in
    let bound : number + 1 + length more ≡ number + length (line ∷ more) = omega arith in
    subst (λ (f : CastFront). Kept f (events v number cast (line ∷ (more ++ rest))) (number + length (line ∷ more))) (sym (line_taken v number cast line more is))
    (subst (λ (f : CastFront). Kept (events v (number + 1) (with_line v here line) more) f (number + length (line ∷ more)))
    (sym (line_taken v number cast line (more ++ rest) is))
    (subst (λ n. Kept (events v (number + 1) (with_line v here line) more) (events v (number + 1) (with_line v here line) (more ++ rest)) n) bound kept))
kept_by v number cast line more rest (Some fault) is among kept =
    let here = on_line (number + 1) cast in
    let bound = number + length (line ∷ more) in
    let few = length (line ∷ more) in
    let many = length (line ∷ (more ++ rest)) in
    subst (λ (f : CastFront). Kept f (events v number cast (line ∷ (more ++ rest))) bound) (sym (line_ends v number cast line more fault is))
    (subst (λ (f : CastFront). Kept (record { cast = here; left = Some (left_from (number + 1) few fault) }) f bound) (sym (line_ends v number cast line (more ++ rest) fault is))
    (λ r told. line_alone bound (number + 1) few many cast.outputs.first_slow fault r told
    (wider number bound cast.outputs.first_slow (omega arith) among) (omega arith)))

all_kept : (v : Version) (number : ℕ) (cast : Cast) (lines rest : List (List ℕ)) → IfSome cast.outputs.first_slow (λ k. k ≤ number)
    → Kept (events v number cast lines) (events v number cast (lines ++ rest)) (number + length lines)
all_kept v number cast [] rest among =
    let whole = events v number cast rest in
    λ r told. slow_alone (number + 0) cast.outputs.first_slow whole.cast.outputs.first_slow whole.left r told
    (wider number (number + 0) cast.outputs.first_slow (omega arith) among) (λ k is. slow_stays v k number cast rest is)
all_kept v number cast (line ∷ more) rest among =
    let here = on_line (number + 1) cast in
    kept_by v number cast line more rest (line_fault v here line) refl among
    (all_kept v (number + 1) (with_line v here line) more rest
    (is_among number cast.outputs.first_slow (with_line v here line).outputs.first_slow (line_slower v here line) among))

-- so of the whole asciicast
cast_kept : (v : Version) (lines rest : List (List ℕ)) → Split lines rest → Kept (cast_of v lines) (cast_of v (lines ++ rest)) (length lines)
cast_kept v lines rest (inl blank) =
    subst (λ past. Kept (from_header v (header_number lines) (header_line lines) past) (cast_of v (lines ++ rest)) (length lines)) (sym (none_past lines blank))
    (λ r told. let no : None ≡ Some r = told in cc)
cast_kept v lines rest (inr headed) =
    let bound : header_number lines + length (past_header lines) ≡ length lines = omega (arith, headed.few) in
    subst (λ (f : CastFront). Kept (cast_of v lines) f (length lines)) (sym (headed_whole v lines rest headed))
    (subst (λ n. Kept (cast_of v lines) (from_header v (header_number lines) (header_line lines) (past_header lines ++ rest)) n) bound
    (all_kept v (header_number lines) (at_header (told_size v (json_of (header_line lines)))) (past_header lines) rest tt))

pub cast_keeps_its_fault : (v : Version) (front more : List ℕ) → EndsLine front → CastKeepsItsFault v front more
cast_keeps_its_fault v front more ends =
    let cut = lined front more ends in
    subst (λ ls. Kept (cast_of v ls) (cast_of v (lines_of (front ++ more))) (length ls)) (sym cut.first)
    (subst (λ ls. Kept (cast_of v cut.lines) (cast_of v ls) (length cut.lines)) (sym cut.whole) (cast_kept v cut.lines (lines_of more) (split cut.lines (lines_of more))))
