-- What is read of a front of an asciicast of version 1 begins what is read of the whole.
use Rattle.std.proofs.Common.{◌≡◌, ℕ, zero, suc, ◌<◌, ◌≤◌, Bool, true, false, List, [], ◌∷◌, ◌++◌, codes, length, nat_eq, Option, Some, None, if◌then◌else◌, inl, refl, ap, subst, sym, ◌∙◌, arith, length-append}
use Rattle.std.specs.Option.{option_and_then, option_map}
use Rattle.std.proofs.lemmas.Option.{same_Some}
use Rattle.json_bytes.specs.Marks.{past_mark, past_space}
use Rattle.json_bytes.specs.Numbers.{Decimal, number_at, scaled}
use Rattle.json_bytes.specs.Strings.{string_at}
use Rattle.json_bytes.specs.Values.{Json, Read, behind, value}
use Rattle.json_bytes.proofs.FrontLemmas.{mark_more, no_mark, number_more, same_worth}
use Rattle.json_bytes.proofs.StringFronts.{string_more}
use Rattle.json_bytes.proofs.ValueFronts.{mark_stops, value_empty, value_stays}
use Rattle.tape_import.specs.Asciicast.{is_word}
use Rattle.tape_import.specs.AsciicastOne.{Ending, Named, Reader, SoFar, a_member, an_entry, at_brace, behind_entry, behind_member, behind_object, delay_at, ends, entries_begin, entry_at, entry_by, entry_follows, entry_taken, entry_with, member_by, member_follows, members_begin, object_by, stdout_by, string_then, those_inside, value_by, whole, with_entry, with_value}
use Rattle.tape_import.specs.Law.{BeginWith, EntriesBeginWithTheirFront}
use Rattle.tape_import.specs.Outputs.{Outputs, output_fault, passed}
use Rattle.tape_import.specs.declared.asciicast_one.Inside.{Inside}
use Rattle.tape_import.specs.declared.asciicast_one.Inside.TheVariants as inside
use Rattle.tape_import.specs.declared.entry.Entry.{Entry}
use Rattle.tape_import.specs.declared.fault.EventFault.{EventFault}
use Rattle.tape_import.specs.declared.fault.EventFault.TheVariants as event
use Rattle.tape_import.proofs.FrontLemmas.{begin_all, begin_on, output_grows}

-- chunks are only added
abbrev Grown : SoFar → Ending → Type 0
Grown read ending = BeginWith read.outputs.chunks ending.read.outputs.chunks

abbrev Grows : Reader → Type 0
Grows more = (next : Inside) (read : SoFar) (text : List ℕ) → Grown read (more next read text)

object_grown_by : (read : SoFar) (text : List ℕ) (blank : Bool) → Grown read (if blank then whole read else ends event.BadEvent read text)
object_grown_by read text true = begin_all read.outputs.chunks
object_grown_by read text false = begin_all read.outputs.chunks

object_grown : (read : SoFar) (text : List ℕ) → Grown read (behind_object read text)
object_grown read text = object_grown_by read text (nat_eq (length (past_space text)) 0)

member_grown : (more : Reader) (grows : Grows more) (read : SoFar) (text : List ℕ) (comma close : Option (List ℕ)) → Grown read (member_follows more read text comma close)
member_grown more grows read text (Some next) close = grows inside.Object read next
member_grown more grows read text None (Some behind) = object_grown read behind
member_grown more grows read text None None = begin_all read.outputs.chunks

behind_member_grown : (more : Reader) (grows : Grows more) (read : SoFar) (text : List ℕ) → Grown read (behind_member more read text)
behind_member_grown more grows read text = member_grown more grows read text (past_mark 44 text) (past_mark 125 text)

entry_grown : (more : Reader) (grows : Grows more) (read : SoFar) (text : List ℕ) (comma close : Option (List ℕ)) → Grown read (entry_follows more read text comma close)
entry_grown more grows read text (Some next) close = grows inside.Stdout read next
entry_grown more grows read text None (Some behind) = behind_member_grown more grows read behind
entry_grown more grows read text None None = begin_all read.outputs.chunks

behind_entry_grown : (more : Reader) (grows : Grows more) (read : SoFar) (text : List ℕ) → Grown read (behind_entry more read text)
behind_entry_grown more grows read text = entry_grown more grows read text (past_mark 44 text) (past_mark 93 text)

taken_grown : (more : Reader) (grows : Grows more) (read : SoFar) (text : List ℕ) (found : Entry × List ℕ) (fault : Option EventFault) → Grown read (entry_taken more read text found fault)
taken_grown more grows read text found None =
    let next = with_entry found.0 read in
    begin_on read.outputs.chunks next.outputs.chunks (behind_entry more next found.1).read.outputs.chunks
    (output_grows read.count found.0.bytes (passed found.0.delay read.outputs)) (behind_entry_grown more grows next found.1)
taken_grown more grows read text found (Some fault) = begin_all read.outputs.chunks

entry_by_grown : (more : Reader) (grows : Grows more) (read : SoFar) (text : List ℕ) (entry : Read Entry) → Grown read (entry_by more read text entry)
entry_by_grown more grows read text None = begin_all read.outputs.chunks
entry_by_grown more grows read text (Some found) = taken_grown more grows read text found (output_fault read.outputs (length found.0.bytes))

array_grown : (more : Reader) (grows : Grows more) (read : SoFar) (inner : List ℕ) (close : Option (List ℕ)) → Grown read (entries_begin more read inner close)
array_grown more grows read inner (Some behind) = behind_member_grown more grows read behind
array_grown more grows read inner None = grows inside.Stdout read inner

stdout_grown : (more : Reader) (grows : Grows more) (read : SoFar) (text : List ℕ) (bracket : Option (List ℕ)) → Grown read (stdout_by more read text bracket)
stdout_grown more grows read text None = begin_all read.outputs.chunks
stdout_grown more grows read text (Some inner) = array_grown more grows read inner (past_mark 93 inner)

value_grown : (more : Reader) (grows : Grows more) (read : SoFar) (text name : List ℕ) (found : Read Json) → Grown read (value_by more read text name found)
value_grown more grows read text name None = begin_all read.outputs.chunks
value_grown more grows read text name (Some found) = behind_member_grown more grows (record read { named = with_value name (Some found.0) read.named }) found.1

named_grown : (more : Reader) (grows : Grows more) (read : SoFar) (text name place : List ℕ) (is_stdout : Bool)
    → Grown read (if is_stdout then stdout_by more read text (past_mark 91 place) else value_by more read text name (value 63 place))
named_grown more grows read text name place true = stdout_grown more grows read text (past_mark 91 place)
named_grown more grows read text name place false = value_grown more grows read text name (value 63 place)

member_by_grown : (more : Reader) (grows : Grows more) (read : SoFar) (text : List ℕ) (name : Read (List ℕ)) → Grown read (member_by more read text name)
member_by_grown more grows read text None = begin_all read.outputs.chunks
member_by_grown more grows read text (Some name) = named_grown more grows read text name.0 name.1 (is_word (codes "stdout") name.0)

grow : (most : ℕ) → Grows (those_inside most)
grow zero next read text = begin_all read.outputs.chunks
grow (suc most) inside.Object read text = member_by_grown (those_inside most) (grow most) read text (string_then 58 text)
grow (suc most) inside.Stdout read text = entry_by_grown (those_inside most) (grow most) read text (entry_at text)

-- where nothing stands nothing is read
abbrev Still : SoFar → Ending → Type 0
Still read ending = ending.read.outputs ≡ read.outputs

still_inside : (most : ℕ) (next : Inside) (read : SoFar) → Still read (those_inside most next read [])
still_inside zero next read = refl
still_inside (suc most) inside.Object read = refl
still_inside (suc most) inside.Stdout read = refl

object_still_by : (read : SoFar) (text : List ℕ) (blank : Bool) → Still read (if blank then whole read else ends event.BadEvent read text)
object_still_by read text true = refl
object_still_by read text false = refl

object_still : (read : SoFar) (text : List ℕ) → Still read (behind_object read text)
object_still read text = object_still_by read text (nat_eq (length (past_space text)) 0)

closed_still : (more : Reader) (read : SoFar) (text : List ℕ) (comma close : Option (List ℕ)) → comma ≡ None → Still read (member_follows more read text comma close)
closed_still more read text (Some next) close is = cc
closed_still more read text None (Some behind) is = object_still read behind
closed_still more read text None None is = refl

-- what is read of a front, and of the whole, of which other members may tell something else
abbrev Fronts : Ending → Ending → Type 0
Fronts front all = BeginWith front.read.outputs.chunks all.read.outputs.chunks

still_fronts : (read : SoFar) (front all : Ending) → Still read front → Grown read all → Fronts front all
still_fronts read front all still grown = subst (λ (o : Outputs). BeginWith o.chunks all.read.outputs.chunks) (sym still) grown

abbrev Begun : Reader → Reader → List ℕ → Type 0
Begun few many more = (next : Inside) (read : SoFar) (named : Named) (text : List ℕ) → Fronts (few next read text) (many next (record read { named = named }) (text ++ more))

abbrev Ends : Reader → Type 0
Ends few = (next : Inside) (read : SoFar) → Still read (few next read [])

-- a place behind a mark
at_next : (few many : Reader) (more : List ℕ) (ended : Ends few) (begun : Begun few many more) (grows : Grows many) (next : Inside) (read : SoFar) (named : Named) (text found : List ℕ)
    → (0 < length text → found ≡ text ++ more) → Fronts (few next read text) (many next (record read { named = named }) found)
at_next few many more ended begun grows next read named [] found same =
    still_fronts read (few next read []) (many next (record read { named = named }) found) (ended next read) (grows next (record read { named = named }) found)
at_next few many more ended begun grows next read named (b ∷ bs) found same =
    subst (λ t. Fronts (few next read (b ∷ bs)) (many next (record read { named = named }) t)) (sym (same (omega arith))) (begun next read named (b ∷ bs))

member_fronts_by : (few many : Reader) (more : List ℕ) (ended : Ends few) (begun : Begun few many more) (grows : Grows many) (read : SoFar) (named : Named) (text : List ℕ) (comma : Option (List ℕ))
    → past_mark 44 text ≡ comma → Fronts (member_follows few read text comma (past_mark 125 text)) (behind_member many (record read { named = named }) (text ++ more))
member_fronts_by few many more ended begun grows read named text None is =
    still_fronts read (member_follows few read text None (past_mark 125 text)) (behind_member many (record read { named = named }) (text ++ more))
    (closed_still few read text None (past_mark 125 text) refl) (behind_member_grown many grows (record read { named = named }) (text ++ more))
member_fronts_by few many more ended begun grows read named text (Some next) is =
    let all = record read { named = named } in
    let mark = mark_more 44 text next more is in
    subst (λ c. Fronts (few inside.Object read next) (member_follows many (record read { named = named }) (text ++ more) c (past_mark 125 (text ++ more)))) (sym mark.is)
    (at_next few many more ended begun grows inside.Object read named next mark.found mark.same)

member_fronts : (few many : Reader) (more : List ℕ) (ended : Ends few) (begun : Begun few many more) (grows : Grows many) (read : SoFar) (named : Named) (text : List ℕ)
    → Fronts (behind_member few read text) (behind_member many (record read { named = named }) (text ++ more))
member_fronts few many more ended begun grows read named text = member_fronts_by few many more ended begun grows read named text (past_mark 44 text) refl

at_member : (few many : Reader) (more : List ℕ) (ended : Ends few) (begun : Begun few many more) (grows : Grows many) (read : SoFar) (named : Named) (text found : List ℕ)
    → (0 < length text → found ≡ text ++ more) → Fronts (behind_member few read text) (behind_member many (record read { named = named }) found)
at_member few many more ended begun grows read named [] found same =
    still_fronts read (behind_member few read []) (behind_member many (record read { named = named }) found) refl (behind_member_grown many grows (record read { named = named }) found)
at_member few many more ended begun grows read named (b ∷ bs) found same =
    subst (λ t. Fronts (behind_member few read (b ∷ bs)) (behind_member many (record read { named = named }) t)) (sym (same (omega arith)))
    (member_fronts few many more ended begun grows read named (b ∷ bs))

-- behind an entry
entry_fronts_by : (few many : Reader) (more : List ℕ) (ended : Ends few) (begun : Begun few many more) (grows : Grows many) (read : SoFar) (named : Named) (text : List ℕ) (comma close : Option (List ℕ))
    → past_mark 44 text ≡ comma → past_mark 93 text ≡ close → Fronts (entry_follows few read text comma close) (behind_entry many (record read { named = named }) (text ++ more))
entry_fronts_by few many more ended begun grows read named text (Some next) close is closes =
    let mark = mark_more 44 text next more is in
    subst (λ c. Fronts (few inside.Stdout read next) (entry_follows many (record read { named = named }) (text ++ more) c (past_mark 93 (text ++ more)))) (sym mark.is)
    (at_next few many more ended begun grows inside.Stdout read named next mark.found mark.same)
entry_fronts_by few many more ended begun grows read named text None None is closes =
    still_fronts read (ends event.BadEvent read text) (behind_entry many (record read { named = named }) (text ++ more)) refl (behind_entry_grown many grows (record read { named = named }) (text ++ more))
entry_fronts_by few many more ended begun grows read named text None (Some behind) is closes =
    let mark = mark_more 93 text behind more closes in
    subst (λ c. Fronts (behind_member few read behind) (entry_follows many (record read { named = named }) (text ++ more) c (past_mark 93 (text ++ more)))) (sym (no_mark 44 text more is mark.some))
    (subst (λ c. Fronts (behind_member few read behind) (entry_follows many (record read { named = named }) (text ++ more) None c)) (sym mark.is)
    (at_member few many more ended begun grows read named behind mark.found mark.same))

at_entry_end : (few many : Reader) (more : List ℕ) (ended : Ends few) (begun : Begun few many more) (grows : Grows many) (read : SoFar) (named : Named) (text found : List ℕ)
    → (0 < length text → found ≡ text ++ more) → Fronts (behind_entry few read text) (behind_entry many (record read { named = named }) found)
at_entry_end few many more ended begun grows read named [] found same =
    still_fronts read (behind_entry few read []) (behind_entry many (record read { named = named }) found) refl (behind_entry_grown many grows (record read { named = named }) found)
at_entry_end few many more ended begun grows read named (b ∷ bs) found same =
    subst (λ t. Fronts (behind_entry few read (b ∷ bs)) (behind_entry many (record read { named = named }) t)) (sym (same (omega arith)))
    (entry_fronts_by few many more ended begun grows read named (b ∷ bs) (past_mark 44 (b ∷ bs)) (past_mark 93 (b ∷ bs)) refl refl)

-- a string and a mark behind it
record Found (A : Type 0) (read : List ℕ → Read A) (one : A) (text rest more : List ℕ) : Type 0 where
  place : List ℕ
  is : read (text ++ more) ≡ Some (one, place)
  same : 0 < length rest → place ≡ rest ++ more

marked_by : (mark : ℕ) (text more : List ℕ) (one : List ℕ × List ℕ) (rest : Option (List ℕ)) (found : List ℕ × List ℕ) → string_at text ≡ Some one → past_mark mark one.1 ≡ rest
    → ◌≡◌ {A = Read (List ℕ)} (option_map (λ behind. (one.0, behind)) rest) (Some found) → Found (List ℕ) (string_then mark) (found.0) text (found.1) more
marked_by mark text more one None found is marks read = cc
marked_by mark text more one (Some rest) found is marks read =
    let mark_is = mark_more mark one.1 rest more marks in
    let same : ◌≡◌ {A = List ℕ × List ℕ} (one.0, rest) found = same_Some {A = List ℕ × List ℕ} (one.0, rest) found read in
    let string_is = string_more text more one is in
    record {
      place = mark_is.found;
      is = ap (λ s. option_and_then (λ (f : List ℕ × List ℕ). option_map (λ behind. (f.0, behind)) (past_mark mark f.1)) s) string_is
          ∙ ap (λ m. option_map (λ behind. (one.0, behind)) m) mark_is.is ∙ ap (λ (f : List ℕ × List ℕ). Some (f.0, mark_is.found)) same;
      same = λ some. mark_is.same (subst (λ (f : List ℕ × List ℕ). 0 < length f.1) (sym same) some) ∙ ap (λ (f : List ℕ × List ℕ). f.1 ++ more) same;
    }

then_by : (mark : ℕ) (text more : List ℕ) (string : Option (List ℕ × List ℕ)) (found : List ℕ × List ℕ) → string_at text ≡ string
    → option_and_then (λ (f : List ℕ × List ℕ). option_map (λ behind. (f.0, behind)) (past_mark mark f.1)) string ≡ Some found → Found (List ℕ) (string_then mark) (found.0) text (found.1) more
then_by mark text more None found is read = cc
then_by mark text more (Some one) found is read = marked_by mark text more one (past_mark mark one.1) found is refl read

string_then_more : (mark : ℕ) (text more : List ℕ) (found : List ℕ × List ℕ) → string_then mark text ≡ Some found → Found (List ℕ) (string_then mark) (found.0) text (found.1) more
string_then_more mark text more found is = then_by mark text more (string_at text) found refl is

-- an entry
number_some : (text : List ℕ) (found : Decimal × List ℕ) → number_at text ≡ Some found → 0 < length text
number_some [] found is = cc
number_some (b ∷ bs) found is = omega arith

string_some : (mark : ℕ) (text : List ℕ) (found : List ℕ × List ℕ) → string_then mark text ≡ Some found → 0 < length text
string_some mark [] found is = cc
string_some mark (b ∷ bs) found is = omega arith

abbrev delay_then : Option (Decimal × List ℕ) → Read ℕ
delay_then number = option_and_then (λ found. option_map (λ behind. (scaled 6 found.0, behind)) (past_mark 44 found.1)) number

comma_by : (inner more : List ℕ) (number : Decimal × List ℕ) (comma : Option (List ℕ)) (found : ℕ × List ℕ) → number_at inner ≡ Some number → past_mark 44 number.1 ≡ comma
    → ◌≡◌ {A = Read ℕ} (option_map (λ behind. (scaled 6 number.0, behind)) comma) (Some found) → 0 < length found.1 → delay_then (number_at (inner ++ more)) ≡ Some (found.0, found.1 ++ more)
comma_by inner more number None found is marks read some = cc
comma_by inner more number (Some rest) found is marks read some =
    let mark = mark_more 44 number.1 rest more marks in
    let same : ◌≡◌ {A = ℕ × List ℕ} (scaled 6 number.0, rest) found = same_Some {A = ℕ × List ℕ} (scaled 6 number.0, rest) found read in
    let one = number_more inner more number.0 number.1 is (mark_stops 44 number.1 rest (inl refl) marks) in
    let place : mark.found ≡ rest ++ more = mark.same (subst (λ (f : ℕ × List ℕ). 0 < length f.1) (sym same) some) in
    ap delay_then one.is ∙ ap (option_map (λ behind. (scaled 6 one.found, behind))) mark.is
    ∙ ap (λ n. Some (n, mark.found)) (same_worth 6 inner number.1 more number.0 one) ∙ ap (λ t. Some (scaled 6 number.0, t)) place
    ∙ ap (λ (f : ℕ × List ℕ). Some (f.0, f.1 ++ more)) same

number_by : (inner more : List ℕ) (number : Option (Decimal × List ℕ)) (found : ℕ × List ℕ) → number_at inner ≡ number → delay_then number ≡ Some found → 0 < length found.1
    → (0 < length inner) × (delay_then (number_at (inner ++ more)) ≡ Some (found.0, found.1 ++ more))
number_by inner more None found is read some = cc
number_by inner more (Some number) found is read some = (number_some inner number is, comma_by inner more number (past_mark 44 number.1) found is refl read some)

bracket_by : (text more : List ℕ) (inner : Option (List ℕ)) (found : ℕ × List ℕ) → past_mark 91 text ≡ inner → option_and_then (λ inner. delay_then (number_at inner)) inner ≡ Some found → 0 < length found.1
    → option_and_then (λ inner. delay_then (number_at inner)) (past_mark 91 (text ++ more)) ≡ Some (found.0, found.1 ++ more)
bracket_by text more None found is read some = cc
bracket_by text more (Some inner) found is read some =
    let mark = mark_more 91 text inner more is in
    let parts = number_by inner more (number_at inner) found refl read some in
    ap (option_and_then (λ inner. delay_then (number_at inner))) mark.is ∙ ap (λ t. delay_then (number_at t)) (mark.same (parts.0)) ∙ parts.1

abbrev entry_then : Read ℕ → Read Entry
entry_then delay = option_and_then (λ found. option_map (entry_with found.0) (string_then 93 found.1)) delay

text_by : (text more : List ℕ) (delay : ℕ × List ℕ) (string : Read (List ℕ)) (found : Entry × List ℕ) → delay_at text ≡ Some delay → string_then 93 delay.1 ≡ string
    → ◌≡◌ {A = Read Entry} (option_map (entry_with delay.0) string) (Some found) → Found Entry entry_at (found.0) text (found.1) more
text_by text more delay None found is strings read = cc
text_by text more delay (Some string) found is strings read =
    let one = string_then_more 93 delay.1 more string strings in
    let whole_delay : delay_at (text ++ more) ≡ Some (delay.0, delay.1 ++ more) = bracket_by text more (past_mark 91 text) delay refl is (string_some 93 delay.1 string strings) in
    let same : ◌≡◌ {A = Entry × List ℕ} (entry_with delay.0 string) found = same_Some {A = Entry × List ℕ} (entry_with delay.0 string) found read in
    record {
      place = one.place;
      is = ap entry_then whole_delay ∙ ap (option_map (entry_with delay.0)) one.is ∙ ap (λ (f : Entry × List ℕ). Some (f.0, one.place)) same;
      same = λ some. one.same (subst (λ (f : Entry × List ℕ). 0 < length f.1) (sym same) some) ∙ ap (λ (f : Entry × List ℕ). f.1 ++ more) same;
    }

delay_by : (text more : List ℕ) (delay : Read ℕ) (found : Entry × List ℕ) → delay_at text ≡ delay → entry_then delay ≡ Some found → Found Entry entry_at (found.0) text (found.1) more
delay_by text more None found is read = cc
delay_by text more (Some delay) found is read = text_by text more delay (string_then 93 delay.1) found is refl read

entry_more : (text more : List ℕ) (found : Entry × List ℕ) → entry_at text ≡ Some found → Found Entry entry_at (found.0) text (found.1) more
entry_more text more found is = delay_by text more (delay_at text) found refl is

taken_fronts : (few many : Reader) (more : List ℕ) (ended : Ends few) (begun : Begun few many more) (grows : Grows many) (read : SoFar) (named : Named) (text : List ℕ) (found : Entry × List ℕ) (place : List ℕ) (fault : Option EventFault)
    → (0 < length found.1 → place ≡ found.1 ++ more)
    → Fronts (entry_taken few read text found fault) (entry_taken many (record read { named = named }) (text ++ more) (found.0, place) fault)
taken_fronts few many more ended begun grows read named text found place None same = at_entry_end few many more ended begun grows (with_entry found.0 read) named found.1 place same
taken_fronts few many more ended begun grows read named text found place (Some fault) same = begin_all read.outputs.chunks

an_entry_fronts : (few many : Reader) (more : List ℕ) (ended : Ends few) (begun : Begun few many more) (grows : Grows many) (read : SoFar) (named : Named) (text : List ℕ) (entry : Read Entry)
    → entry_at text ≡ entry → Fronts (entry_by few read text entry) (an_entry many (record read { named = named }) (text ++ more))
an_entry_fronts few many more ended begun grows read named text None is =
    entry_by_grown many grows (record read { named = named }) (text ++ more) (entry_at (text ++ more))
an_entry_fronts few many more ended begun grows read named text (Some found) is =
    let whole_is = entry_more text more found is in
    let fault = output_fault read.outputs (length found.0.bytes) in
    subst (λ (e : Read Entry). Fronts (entry_taken few read text found fault) (entry_by many (record read { named = named }) (text ++ more) e)) (sym whole_is.is)
    (taken_fronts few many more ended begun grows read named text found whole_is.place fault whole_is.same)

-- a member
array_fronts : (few many : Reader) (more : List ℕ) (ended : Ends few) (begun : Begun few many more) (grows : Grows many) (read : SoFar) (named : Named) (inner : List ℕ) (close : Option (List ℕ))
    → past_mark 93 inner ≡ close → past_space inner ≡ inner → 0 < length inner
    → Fronts (entries_begin few read inner close) (entries_begin many (record read { named = named }) (inner ++ more) (past_mark 93 (inner ++ more)))
array_fronts few many more ended begun grows read named inner (Some behind) is tight some =
    let mark = mark_more 93 inner behind more is in
    subst (λ c. Fronts (behind_member few read behind) (entries_begin many (record read { named = named }) (inner ++ more) c)) (sym mark.is)
    (at_member few many more ended begun grows read named behind mark.found mark.same)
array_fronts few many more ended begun grows read named inner None is tight some =
    let none : past_mark 93 (inner ++ more) ≡ None = no_mark 93 inner more is (subst (λ t. 0 < length t) (sym tight) some) in
    subst (λ c. Fronts (few inside.Stdout read inner) (entries_begin many (record read { named = named }) (inner ++ more) c)) (sym none)
    (begun inside.Stdout read named inner)

at_array : (few many : Reader) (more : List ℕ) (ended : Ends few) (begun : Begun few many more) (grows : Grows many) (read : SoFar) (named : Named) (inner found : List ℕ)
    → past_space inner ≡ inner → (0 < length inner → found ≡ inner ++ more)
    → Fronts (entries_begin few read inner (past_mark 93 inner)) (entries_begin many (record read { named = named }) found (past_mark 93 found))
at_array few many more ended begun grows read named [] found tight same =
    still_fronts read (few inside.Stdout read []) (entries_begin many (record read { named = named }) found (past_mark 93 found)) (ended inside.Stdout read)
    (array_grown many grows (record read { named = named }) found (past_mark 93 found))
at_array few many more ended begun grows read named (b ∷ bs) found tight same =
    subst (λ t. Fronts (entries_begin few read (b ∷ bs) (past_mark 93 (b ∷ bs))) (entries_begin many (record read { named = named }) t (past_mark 93 t))) (sym (same (omega arith)))
    (array_fronts few many more ended begun grows read named (b ∷ bs) (past_mark 93 (b ∷ bs)) refl tight (omega arith))

stdout_fronts : (few many : Reader) (more : List ℕ) (ended : Ends few) (begun : Begun few many more) (grows : Grows many) (read : SoFar) (named : Named) (text place : List ℕ) (bracket : Option (List ℕ))
    → past_mark 91 place ≡ bracket → Fronts (stdout_by few read text bracket) (stdout_by many (record read { named = named }) (text ++ more) (past_mark 91 (place ++ more)))
stdout_fronts few many more ended begun grows read named text place None is =
    stdout_grown many grows (record read { named = named }) (text ++ more) (past_mark 91 (place ++ more))
stdout_fronts few many more ended begun grows read named text place (Some inner) is =
    let mark = mark_more 91 place inner more is in
    subst (λ c. Fronts (entries_begin few read inner (past_mark 93 inner)) (stdout_by many (record read { named = named }) (text ++ more) c)) (sym mark.is)
    (at_array few many more ended begun grows read named inner mark.found mark.tight mark.same)

read_by : (found : Read Json) (rest : List ℕ) → behind found ≡ Some rest → (v : Json) × (found ≡ Some (v, rest))
read_by None rest is = cc
read_by (Some r) rest is = (r.0, ap (λ t. Some (r.0, t)) (same_Some (r.1) rest is))

valued_fronts : (few many : Reader) (more : List ℕ) (ended : Ends few) (begun : Begun few many more) (grows : Grows many) (read : SoFar) (named : Named) (text name place : List ℕ) (found : Json × List ℕ) (comma : Option (List ℕ))
    → value 63 place ≡ Some found → past_mark 44 found.1 ≡ comma
    → Fronts (member_follows few (record read { named = with_value name (Some found.0) read.named }) found.1 comma (past_mark 125 found.1))
    (value_by many (record read { named = named }) (text ++ more) name (value 63 (place ++ more)))
valued_fronts few many more ended begun grows read named text name place found None is marks =
    let here : SoFar = record read { named = with_value name (Some found.0) read.named } in
    still_fronts read (member_follows few here found.1 None (past_mark 125 found.1)) (value_by many (record read { named = named }) (text ++ more) name (value 63 (place ++ more)))
    (closed_still few here found.1 None (past_mark 125 found.1) refl) (value_grown many grows (record read { named = named }) (text ++ more) name (value 63 (place ++ more)))
valued_fronts few many more ended begun grows read named text name place found (Some next) is marks =
    let here : SoFar = record read { named = with_value name (Some found.0) read.named } in
    let whole_is = read_by (value 63 (place ++ more)) (found.1 ++ more) (value_stays 63 more place found.1 (ap behind is) (mark_stops 44 found.1 next (inl refl) marks)) in
    subst (λ (v : Read Json). Fronts (few inside.Object here next) (value_by many (record read { named = named }) (text ++ more) name v)) (sym (whole_is.1))
    (member_fronts_by few many more ended begun grows here (with_value name (Some (whole_is.0)) named) found.1 (Some next) marks)

value_fronts : (few many : Reader) (more : List ℕ) (ended : Ends few) (begun : Begun few many more) (grows : Grows many) (read : SoFar) (named : Named) (text name place : List ℕ) (found : Read Json)
    → value 63 place ≡ found → Fronts (value_by few read text name found) (value_by many (record read { named = named }) (text ++ more) name (value 63 (place ++ more)))
value_fronts few many more ended begun grows read named text name place None is =
    value_grown many grows (record read { named = named }) (text ++ more) name (value 63 (place ++ more))
value_fronts few many more ended begun grows read named text name place (Some found) is =
    valued_fronts few many more ended begun grows read named text name place found (past_mark 44 found.1) is refl

named_fronts : (few many : Reader) (more : List ℕ) (ended : Ends few) (begun : Begun few many more) (grows : Grows many) (read : SoFar) (named : Named) (text name place : List ℕ) (is_stdout : Bool)
    → Fronts (if is_stdout then stdout_by few read text (past_mark 91 place) else value_by few read text name (value 63 place))
    (if is_stdout then stdout_by many (record read { named = named }) (text ++ more) (past_mark 91 (place ++ more))
    else value_by many (record read { named = named }) (text ++ more) name (value 63 (place ++ more)))
named_fronts few many more ended begun grows read named text name place true = stdout_fronts few many more ended begun grows read named text place (past_mark 91 place) refl
named_fronts few many more ended begun grows read named text name place false = value_fronts few many more ended begun grows read named text name place (value 63 place) refl

no_value : (few : Reader) (read : SoFar) (text name : List ℕ) (found : Read Json) → ((rest : List ℕ) → behind found ≡ Some rest → ⊥) → Still read (value_by few read text name found)
no_value few read text name None none = refl
no_value few read text name (Some found) none = absurd (none found.1 refl)

no_place : (few : Reader) (read : SoFar) (text name : List ℕ) (is_stdout : Bool) → Still read (if is_stdout then stdout_by few read text (past_mark 91 []) else value_by few read text name (value 63 []))
no_place few read text name true = refl
no_place few read text name false = no_value few read text name (value 63 []) (value_empty 63)

at_value : (few many : Reader) (more : List ℕ) (ended : Ends few) (begun : Begun few many more) (grows : Grows many) (read : SoFar) (named : Named) (text name place found : List ℕ)
    → (0 < length place → found ≡ place ++ more) → Fronts (member_by few read text (Some (name, place))) (member_by many (record read { named = named }) (text ++ more) (Some (name, found)))
at_value few many more ended begun grows read named text name [] found same =
    still_fronts read (member_by few read text (Some (name, []))) (member_by many (record read { named = named }) (text ++ more) (Some (name, found)))
    (no_place few read text name (is_word (codes "stdout") name)) (member_by_grown many grows (record read { named = named }) (text ++ more) (Some (name, found)))
at_value few many more ended begun grows read named text name (b ∷ bs) found same =
    subst (λ t. Fronts (member_by few read text (Some (name, b ∷ bs))) (member_by many (record read { named = named }) (text ++ more) (Some (name, t)))) (sym (same (omega arith)))
    (named_fronts few many more ended begun grows read named text name (b ∷ bs) (is_word (codes "stdout") name))

a_member_fronts : (few many : Reader) (more : List ℕ) (ended : Ends few) (begun : Begun few many more) (grows : Grows many) (read : SoFar) (named : Named) (text : List ℕ) (name : Read (List ℕ))
    → string_then 58 text ≡ name → Fronts (member_by few read text name) (a_member many (record read { named = named }) (text ++ more))
a_member_fronts few many more ended begun grows read named text None is =
    member_by_grown many grows (record read { named = named }) (text ++ more) (string_then 58 (text ++ more))
a_member_fronts few many more ended begun grows read named text (Some name) is =
    let whole_is = string_then_more 58 text more name is in
    subst (λ (n : Read (List ℕ)). Fronts (member_by few read text (Some name)) (member_by many (record read { named = named }) (text ++ more) n)) (sym whole_is.is)
    (at_value few many more ended begun grows read named text name.0 name.1 whole_is.place whole_is.same)

-- so all of them
fronts : (few many : ℕ) (more : List ℕ) → few ≤ many → Begun (those_inside few) (those_inside many) more
fronts zero many more le next read named text = grow many next (record read { named = named }) (text ++ more)
fronts (suc few) zero more le next read named text = absurd (omega arith)
fronts (suc few) (suc many) more le inside.Object read named text =
    a_member_fronts (those_inside few) (those_inside many) more (still_inside few) (fronts few many more (omega arith)) (grow many) read named text (string_then 58 text) refl
fronts (suc few) (suc many) more le inside.Stdout read named text =
    an_entry_fronts (those_inside few) (those_inside many) more (still_inside few) (fronts few many more (omega arith)) (grow many) read named text (entry_at text) refl

-- and the file: where nothing was read of the front, its chunks begin all others
none_read : (front all : Ending) → Still at_brace front → Fronts front all
none_read front all still = subst (λ (o : Outputs). BeginWith o.chunks all.read.outputs.chunks) (sym still) (record { more = all.read.outputs.chunks; is = refl })

first_fronts : (few many : ℕ) (more inner : List ℕ) (close : Option (List ℕ)) → few ≤ many → past_mark 125 inner ≡ close → past_space inner ≡ inner → 0 < length inner
    → Fronts (members_begin (those_inside few) inner close) (members_begin (those_inside many) (inner ++ more) (past_mark 125 (inner ++ more)))
first_fronts few many more inner (Some behind) le is tight some =
    none_read (behind_object at_brace behind) (members_begin (those_inside many) (inner ++ more) (past_mark 125 (inner ++ more))) (object_still at_brace behind)
first_fronts few many more inner None le is tight some =
    let none : past_mark 125 (inner ++ more) ≡ None = no_mark 125 inner more is (subst (λ t. 0 < length t) (sym tight) some) in
    subst (λ c. Fronts (those_inside few inside.Object at_brace inner) (members_begin (those_inside many) (inner ++ more) c)) (sym none)
    (fronts few many more le inside.Object at_brace at_brace.named inner)

at_first : (few many : ℕ) (more inner found : List ℕ) → few ≤ many → past_space inner ≡ inner → (0 < length inner → found ≡ inner ++ more)
    → Fronts (members_begin (those_inside few) inner (past_mark 125 inner)) (members_begin (those_inside many) found (past_mark 125 found))
at_first few many more [] found le tight same =
    none_read (those_inside few inside.Object at_brace []) (members_begin (those_inside many) found (past_mark 125 found)) (still_inside few inside.Object at_brace)
at_first few many more (b ∷ bs) found le tight same =
    subst (λ t. Fronts (members_begin (those_inside few) (b ∷ bs) (past_mark 125 (b ∷ bs))) (members_begin (those_inside many) t (past_mark 125 t))) (sym (same (omega arith)))
    (first_fronts few many more (b ∷ bs) (past_mark 125 (b ∷ bs)) le refl tight (omega arith))

object_fronts : (few many : ℕ) (front more : List ℕ) (brace : Option (List ℕ)) → few ≤ many → past_mark 123 front ≡ brace
    → Fronts (object_by (those_inside few) front brace) (object_by (those_inside many) (front ++ more) (past_mark 123 (front ++ more)))
object_fronts few many front more None le is =
    none_read (ends event.BadEvent at_brace front) (object_by (those_inside many) (front ++ more) (past_mark 123 (front ++ more))) refl
object_fronts few many front more (Some inner) le is =
    let mark = mark_more 123 front inner more is in
    subst (λ c. Fronts (members_begin (those_inside few) inner (past_mark 125 inner)) (object_by (those_inside many) (front ++ more) c)) (sym mark.is)
    (at_first few many more inner mark.found le mark.tight mark.same)

pub entries_begin_with_their_front : (front more : List ℕ) → EntriesBeginWithTheirFront front more
entries_begin_with_their_front front more =
    object_fronts (length front) (length (front ++ more)) front more (past_mark 123 front) (omega (arith, length-append front more)) refl
