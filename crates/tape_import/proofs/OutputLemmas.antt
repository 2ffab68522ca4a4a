-- The outputs of an asciicast, line by line: what they add to the body.
use Rattle.std.proofs.Common.{◌≡◌, ℕ, zero, suc, ◌+◌, ◌-◌, ◌≤◌, Bool, true, false, List, [], ◌∷◌, ◌++◌, length, take, min, nat_eq, Option, Some, None, if◌then◌else◌, refl, ap, subst, sym, ◌∙◌, arith, append-nil, append_assoc}
use Rattle.std.specs.List.{flat_map}
use Rattle.std.proofs.lemmas.Grind.{flat_map-append}
use Rattle.tape_core.specs.Tape.{body, longest_delay}
use Rattle.tape_core.specs.Text.{lines_of}
use Rattle.tape_core.specs.declared.chunk.Chunk.{Chunk}
use Rattle.json_bytes.specs.Values.{json_of}
use Rattle.tape_import.specs.Asciicast.{at_header, at_moment, event_of, events, header_line, header_number, in_time, is_in_force, is_skipped, line_fault, on_line, past_header, told_size, with_found, with_line, with_resize, with_what}
use Rattle.tape_import.specs.Law.{HasItsData, HasItsOutputs, event_bytes, left_count, line_bytes, record_data, what_bytes}
use Rattle.tape_import.specs.Outputs.{Outputs, passed, waited, with_output}
use Rattle.tape_import.specs.Ttyrec.{at_first, clock_of, data_of, fault_at, go_on, head_len, moved, records, told_of, with_record}
use Rattle.tape_import.specs.declared.asciicast.Cast.{Cast}
use Rattle.tape_import.specs.declared.asciicast.CastFront.{CastFront}
use Rattle.tape_import.specs.declared.event.Event.{Event}
use Rattle.tape_import.specs.declared.event.What.{What}
use Rattle.tape_import.specs.declared.event.What.TheVariants as what
use Rattle.tape_import.specs.declared.facts.Size.{Size}
use Rattle.tape_import.specs.declared.fault.EventFault.{EventFault}
use Rattle.tape_import.specs.declared.ttyrec.Front.{Front}
use Rattle.tape_import.specs.declared.ttyrec.Reading.{Reading}
use Rattle.tape_import.specs.declared.version.Version.{Version}
use Rattle.tape_import.specs.declared.version.Version.TheVariants as version
use Rattle.tape_import.proofs.CastLemmas.{line_ends, line_taken}

-- an output's bytes come to the body
pub output_added : (number : ℕ) (bytes : List ℕ) (so_far : Outputs) → body (with_output number bytes so_far).chunks ≡ body so_far.chunks ++ bytes
output_added number [] so_far = sym (append-nil (body so_far.chunks))
output_added number (b ∷ bs) so_far =
    let chunk : Chunk = record { delay = min (waited so_far) longest_delay; bytes = b ∷ bs } in
    flat_map-append (λ (c : Chunk). c.bytes) so_far.chunks (chunk ∷ []) ∙ ap (λ more. body so_far.chunks ++ more) (append-nil (b ∷ bs))

-- nothing else does
moment_same : (w : What) (us : ℕ) (so_far : Outputs) → (at_moment w us so_far).chunks ≡ so_far.chunks
moment_same (what.Output bytes) us so_far = refl
moment_same (what.Resize size) us so_far = refl
moment_same what.Input us so_far = refl
moment_same what.Marker us so_far = refl
moment_same what.Other us so_far = refl

pub time_same : (v : Version) (found : Event) (so_far : Outputs) → (in_time v found so_far).chunks ≡ so_far.chunks
time_same version.Three found so_far = refl
time_same version.Two found so_far = moment_same found.what found.time so_far

pub size_same : (size : Size) (cast : Cast) (first same : Bool)
    → (if first then record cast { in_force = Some size; told = Some size } else if same then cast else with_resize (record cast { in_force = Some size })).outputs.chunks
    ≡ cast.outputs.chunks
size_same size cast true same = refl
size_same size cast false true = refl
size_same size cast false false = refl

what_added : (w : What) (cast : Cast) → body (with_what w cast).outputs.chunks ≡ body cast.outputs.chunks ++ what_bytes w
what_added (what.Output bytes) cast = output_added cast.line bytes cast.outputs
what_added (what.Resize None) cast = sym (append-nil (body cast.outputs.chunks))
what_added (what.Resize (Some size)) cast =
    ap body (size_same size cast (nat_eq (length cast.outputs.chunks) 0) (is_in_force size cast.in_force)) ∙ sym (append-nil (body cast.outputs.chunks))
what_added what.Input cast = sym (append-nil (body cast.outputs.chunks))
what_added what.Marker cast = sym (append-nil (body cast.outputs.chunks))
what_added what.Other cast = sym (append-nil (body cast.outputs.chunks))

pub found_added : (v : Version) (cast : Cast) (read : Option Event) → body (with_found v cast read).outputs.chunks ≡ body cast.outputs.chunks ++ event_bytes read
found_added v cast None = sym (append-nil (body cast.outputs.chunks))
found_added v cast (Some found) =
    what_added found.what (record cast { outputs = in_time v found cast.outputs })
    ∙ ap (λ chunks. body chunks ++ what_bytes found.what) (time_same v found cast.outputs)

line_by : (v : Version) (cast : Cast) (read : Option Event) (skipped : Bool)
    → body (if skipped then cast else with_found v cast read).outputs.chunks ≡ body cast.outputs.chunks ++ (if skipped then [] else event_bytes read)
line_by v cast read true = sym (append-nil (body cast.outputs.chunks))
line_by v cast read false = found_added v cast read

line_added : (v : Version) (cast : Cast) (line : List ℕ) → body (with_line v cast line).outputs.chunks ≡ body cast.outputs.chunks ++ line_bytes v line
line_added v cast line = line_by v cast (event_of line) (is_skipped v line)

-- no more lines are left out than there are
left_by : (v : Version) (number : ℕ) (cast : Cast) (line : List ℕ) (more : List (List ℕ)) (fault : Option EventFault)
    → line_fault v (on_line (number + 1) cast) line ≡ fault
    → left_count (events v (number + 1) (with_line v (on_line (number + 1) cast) line) more).left ≤ length more
    → left_count (events v number cast (line ∷ more)).left ≤ length (line ∷ more)
left_by v number cast line more None is few = omega (arith, few, ap (λ (f : CastFront). left_count f.left) (line_taken v number cast line more is))
left_by v number cast line more (Some fault) is few = omega (arith, ap (λ (f : CastFront). left_count f.left) (line_ends v number cast line more fault is))

left_few : (v : Version) (number : ℕ) (cast : Cast) (lines : List (List ℕ)) → left_count (events v number cast lines).left ≤ length lines
left_few v number cast [] = omega arith
left_few v number cast (line ∷ more) =
    left_by v number cast line more (line_fault v (on_line (number + 1) cast) line) refl
    (left_few v (number + 1) (with_line v (on_line (number + 1) cast) line) more)

-- so the body has the outputs of the lines before
abbrev Added : Version → Cast → List (List ℕ) → CastFront → Type 0
Added v cast lines front =
    body front.cast.outputs.chunks ≡ body cast.outputs.chunks ++ flat_map (line_bytes v) (take (length lines - left_count front.left) lines)

added_by : (v : Version) (number : ℕ) (cast : Cast) (line : List ℕ) (more : List (List ℕ)) (fault : Option EventFault)
    → line_fault v (on_line (number + 1) cast) line ≡ fault
    → Added v (with_line v (on_line (number + 1) cast) line) more (events v (number + 1) (with_line v (on_line (number + 1) cast) line) more)
    → Added v cast (line ∷ more) (events v number cast (line ∷ more))
added_by v number cast line more None is added =
    let here = on_line (number + 1) cast in
    let next = with_line v here line in
    let front = events v (number + 1) next more in
    let rest = take (length more - left_count front.left) more in
    let count : length (line ∷ more) - left_count front.left ≡ suc (length more - left_count front.left) = omega (arith, left_few v (number + 1) next more) in
    subst (λ (f : CastFront). Added v cast (line ∷ more) f) (sym (line_taken v number cast line more is))
    (added ∙ ap (λ front. front ++ flat_map (line_bytes v) rest) (line_added v here line)
    ∙ append_assoc (body cast.outputs.chunks) (line_bytes v line) (flat_map (line_bytes v) rest)
    ∙ ap (λ n. body cast.outputs.chunks ++ flat_map (line_bytes v) (take n (line ∷ more))) (sym count))
added_by v number cast line more (Some fault) is added =
    let none : length (line ∷ more) - length (line ∷ more) ≡ 0 = omega arith in
    subst (λ (f : CastFront). Added v cast (line ∷ more) f) (sym (line_ends v number cast line more fault is))
    (sym (append-nil (body cast.outputs.chunks)) ∙ ap (λ n. body cast.outputs.chunks ++ flat_map (line_bytes v) (take n (line ∷ more))) (sym none))

all_added : (v : Version) (number : ℕ) (cast : Cast) (lines : List (List ℕ)) → Added v cast lines (events v number cast lines)
all_added v number cast [] = sym (append-nil (body cast.outputs.chunks))
all_added v number cast (line ∷ more) =
    added_by v number cast line more (line_fault v (on_line (number + 1) cast) line) refl
    (all_added v (number + 1) (with_line v (on_line (number + 1) cast) line) more)

pub has_its_outputs : (v : Version) (text : List ℕ) → HasItsOutputs v text
has_its_outputs v text =
    let lines = lines_of text in
    all_added v (header_number lines) (at_header (told_size v (json_of (header_line lines)))) (past_header lines)

-- and of a ttyrec that of the records before
abbrev Counted : ℕ → Front → Type 0
Counted count front = count ≤ front.read.count

counted_by : (more : Reading → Front) (so_far : Reading) (text : List ℕ) (fault : Option EventFault) → Counted (so_far.count + 1) (more (with_record so_far text))
    → Counted so_far.count (go_on more so_far text fault)
counted_by more so_far text None few = omega (arith, few)
counted_by more so_far text (Some fault) few = omega arith

counted : (belong : ℕ) (so_far : Reading) (text : List ℕ) → Counted so_far.count (records belong so_far text)
counted belong so_far [] = omega arith
counted (suc belong) so_far (b ∷ bs) = counted belong so_far bs
counted zero so_far (b ∷ bs) =
    counted_by (λ more. records (head_len - 1 + told_of (b ∷ bs)) more bs) so_far (b ∷ bs) (fault_at so_far (b ∷ bs))
    (counted (head_len - 1 + told_of (b ∷ bs)) (with_record so_far (b ∷ bs)) bs)

abbrev DataAdded : ℕ → Reading → List ℕ → Front → Type 0
DataAdded belong so_far text front =
    body front.read.outputs.chunks ≡ body so_far.outputs.chunks ++ flat_map (λ bytes. bytes) (record_data (front.read.count - so_far.count) belong text)

none_of : (count belong : ℕ) (text : List ℕ) → count ≡ 0 → record_data count belong text ≡ []
none_of count belong [] none = refl
none_of count (suc belong) (b ∷ bs) none = none_of count belong bs none
none_of zero zero (b ∷ bs) none = refl
none_of (suc count) zero (b ∷ bs) none = absurd (omega arith)

data_by : (so_far : Reading) (b : ℕ) (bs : List ℕ) (fault : Option EventFault)
    → DataAdded (head_len - 1 + told_of (b ∷ bs)) (with_record so_far (b ∷ bs)) bs (records (head_len - 1 + told_of (b ∷ bs)) (with_record so_far (b ∷ bs)) bs)
    → DataAdded 0 so_far (b ∷ bs) (go_on (λ more. records (head_len - 1 + told_of (b ∷ bs)) more bs) so_far (b ∷ bs) fault)
data_by so_far b bs None added =
    let text = b ∷ bs in
    let belong = head_len - 1 + told_of text in
    let next = with_record so_far text in
    let front = records belong next bs in
    let rest = record_data (front.read.count - next.count) belong bs in
    let one : front.read.count - so_far.count ≡ suc (front.read.count - next.count) = omega (arith, counted belong next bs) in
    added ∙ ap (λ front. front ++ flat_map (λ bytes. bytes) rest) (output_added so_far.count (data_of text) (passed (moved so_far.clock (clock_of text)) so_far.outputs))
    ∙ append_assoc (body so_far.outputs.chunks) (data_of text) (flat_map (λ bytes. bytes) rest)
    ∙ ap (λ n. body so_far.outputs.chunks ++ flat_map (λ bytes. bytes) (record_data n 0 text)) (sym one)
data_by so_far b bs (Some fault) added =
    let none : so_far.count - so_far.count ≡ 0 = omega arith in
    sym (append-nil (body so_far.outputs.chunks))
    ∙ ap (λ all. body so_far.outputs.chunks ++ flat_map (λ bytes. bytes) all) (sym (none_of (so_far.count - so_far.count) 0 (b ∷ bs) none))

data_added : (belong : ℕ) (so_far : Reading) (text : List ℕ) → DataAdded belong so_far text (records belong so_far text)
data_added belong so_far [] = sym (append-nil (body so_far.outputs.chunks))
data_added (suc belong) so_far (b ∷ bs) = data_added belong so_far bs
data_added zero so_far (b ∷ bs) =
    data_by so_far b bs (fault_at so_far (b ∷ bs)) (data_added (head_len - 1 + told_of (b ∷ bs)) (with_record so_far (b ∷ bs)) bs)

pub has_its_data : (file : List ℕ) → HasItsData file
has_its_data file =
    let read = (records 0 at_first file).read in
    let all : read.count - 0 ≡ read.count = omega arith in
    data_added 0 at_first file ∙ ap (λ n. flat_map (λ bytes. bytes) (record_data n 0 file)) all
