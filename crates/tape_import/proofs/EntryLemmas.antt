-- The entries of an asciicast of version 1, one after another: what they add to the body.
use Rattle.std.proofs.Common.{◌≡◌, ℕ, zero, suc, ◌+◌, Bool, true, false, List, [], ◌∷◌, codes, length, take, drop, nat_eq, Option, Some, None, if◌then◌else◌, refl, ap, subst, ◌∙◌, arith}
use Rattle.std.specs.Option.{option_and_then, option_map, option_or}
use Rattle.json_bytes.specs.Marks.{past_mark, past_space}
use Rattle.json_bytes.specs.Values.{Json, Read, value}
use Rattle.tape_import.specs.Asciicast.{is_word}
use Rattle.tape_import.specs.AsciicastOne.{Ending, Reader, SoFar, asciicast_one_of, at_brace, behind_member, behind_object, ends, entries_begin, entry_at, entry_by, entry_follows, entry_taken, member_by, member_follows, members_begin, object_by, one_inside, stdout_by, string_then, those_inside, value_by, whole, with_entry, with_value}
use Rattle.tape_import.specs.EntriesOne.{From, array_outputs, entry_outputs, first_outputs, member_outputs, next_member, next_outputs, object_outputs, outputs_at, outputs_inside, outputs_of, stdout_outputs, value_outputs}
use Rattle.tape_import.specs.Law.{EndAtFault, HasItsEntries, bytes_of}
use Rattle.tape_import.specs.Outputs.{output_fault, passed}
use Rattle.tape_import.specs.declared.asciicast_one.Inside.{Inside}
use Rattle.tape_import.specs.declared.asciicast_one.Inside.TheVariants as inside
use Rattle.tape_import.specs.declared.entry.Entry.{Entry}
use Rattle.tape_import.specs.declared.fault.EventFault.{EventFault}
use Rattle.tape_import.specs.declared.fault.EventFault.TheVariants as event
use Rattle.tape_import.proofs.AddedLemmas.{Added, fault_first, none_added, one_added}
use Rattle.tape_import.proofs.OutputLemmas.{output_added}

-- these outputs were taken, and counted
record Taken (read : SoFar) (outputs : List (List ℕ)) (ending : Ending) : Type 0 where
  count : ℕ
  added : Added count read.outputs.chunks outputs ending.fault ending.read.outputs
  counted : ending.read.count ≡ read.count + count

-- those from a place on are, by what is read there
abbrev Takes : Reader → From → Type 0
Takes more outputs = (next : Inside) (read : SoFar) (text : List ℕ) → Taken read (outputs next text) (more next read text)

no_more : (read : SoFar) → Taken read [] (whole read)
no_more read = record { count = 0; added = none_added read.outputs None; counted = omega arith }

faulty : (fault : EventFault) (read : SoFar) (text : List ℕ) → Taken read [] (ends fault read text)
faulty fault read text = record { count = 0; added = none_added read.outputs (Some fault); counted = omega arith }

object_by_space : (read : SoFar) (text : List ℕ) (blank : Bool) → Taken read [] (if blank then whole read else ends event.BadEvent read text)
object_by_space read text true = no_more read
object_by_space read text false = faulty event.BadEvent read text

object_ends : (read : SoFar) (text : List ℕ) → Taken read [] (behind_object read text)
object_ends read text = object_by_space read text (nat_eq (length (past_space text)) 0)

member_next : (more : Reader) (outputs : From) (takes : Takes more outputs) (read : SoFar) (text : List ℕ) (comma close : Option (List ℕ))
    → Taken read (next_outputs outputs (option_map (λ next. (inside.Object, next)) comma)) (member_follows more read text comma close)
member_next more outputs takes read text (Some next) close = takes inside.Object read next
member_next more outputs takes read text None (Some behind) = object_ends read behind
member_next more outputs takes read text None None = faulty event.BadEvent read text

after_member : (more : Reader) (outputs : From) (takes : Takes more outputs) (read : SoFar) (text : List ℕ) → Taken read (next_outputs outputs (next_member text)) (behind_member more read text)
after_member more outputs takes read text = member_next more outputs takes read text (past_mark 44 text) (past_mark 125 text)

entry_next : (more : Reader) (outputs : From) (takes : Takes more outputs) (read : SoFar) (text : List ℕ) (comma close : Option (List ℕ))
    → Taken read (next_outputs outputs (option_or (option_map (λ next. (inside.Stdout, next)) comma) (option_and_then next_member close))) (entry_follows more read text comma close)
entry_next more outputs takes read text (Some next) close = takes inside.Stdout read next
entry_next more outputs takes read text None (Some behind) = after_member more outputs takes read behind
entry_next more outputs takes read text None None = faulty event.BadEvent read text

-- an entry, whose output has a fault or is taken
counted_on : (read : SoFar) (entry : Entry) (outputs : List (List ℕ)) (ending : Ending) → Taken (with_entry entry read) outputs ending → Taken read (entry.bytes ∷ outputs) ending
counted_on read entry outputs ending taken = record {
  count = suc taken.count;
  added = one_added taken.count read.outputs.chunks (with_entry entry read).outputs.chunks entry.bytes outputs ending.fault ending.read.outputs
      (output_added read.count entry.bytes (passed entry.delay read.outputs)) taken.added;
  counted = omega (arith, taken.counted);
}

entry_then : (more : Reader) (outputs : From) (takes : Takes more outputs) (read : SoFar) (text : List ℕ) (found : Entry × List ℕ) (fault : Option EventFault)
    → output_fault read.outputs (length found.0.bytes) ≡ fault → Taken read (entry_outputs outputs (Some found)) (entry_taken more read text found fault)
entry_then more outputs takes read text found None is =
    counted_on read found.0 (next_outputs outputs (option_or (option_map (λ next. (inside.Stdout, next)) (past_mark 44 found.1)) (option_and_then next_member (past_mark 93 found.1))))
    (entry_follows more (with_entry found.0 read) found.1 (past_mark 44 found.1) (past_mark 93 found.1))
    (entry_next more outputs takes (with_entry found.0 read) found.1 (past_mark 44 found.1) (past_mark 93 found.1))
entry_then more outputs takes read text found (Some fault) is = record {
  count = 0;
  added = fault_first read.outputs found.0.bytes
      (next_outputs outputs (option_or (option_map (λ next. (inside.Stdout, next)) (past_mark 44 found.1)) (option_and_then next_member (past_mark 93 found.1)))) fault is;
  counted = omega arith;
}

entry_read : (more : Reader) (outputs : From) (takes : Takes more outputs) (read : SoFar) (text : List ℕ) (entry : Read Entry)
    → Taken read (entry_outputs outputs entry) (entry_by more read text entry)
entry_read more outputs takes read text None = faulty event.BadEvent read text
entry_read more outputs takes read text (Some found) = entry_then more outputs takes read text found (output_fault read.outputs (length found.0.bytes)) refl

-- a member
array_read : (more : Reader) (outputs : From) (takes : Takes more outputs) (read : SoFar) (inner : List ℕ) (close : Option (List ℕ))
    → Taken read (array_outputs outputs inner close) (entries_begin more read inner close)
array_read more outputs takes read inner (Some behind) = after_member more outputs takes read behind
array_read more outputs takes read inner None = takes inside.Stdout read inner

stdout_read : (more : Reader) (outputs : From) (takes : Takes more outputs) (read : SoFar) (text : List ℕ) (open_ : Option (List ℕ))
    → Taken read (stdout_outputs outputs open_) (stdout_by more read text open_)
stdout_read more outputs takes read text None = faulty event.BadEvent read text
stdout_read more outputs takes read text (Some inner) = array_read more outputs takes read inner (past_mark 93 inner)

value_read : (more : Reader) (outputs : From) (takes : Takes more outputs) (read : SoFar) (text name : List ℕ) (found : Read Json)
    → Taken read (value_outputs outputs found) (value_by more read text name found)
value_read more outputs takes read text name None = faulty event.BadEvent read text
value_read more outputs takes read text name (Some found) =
    let named = after_member more outputs takes (record read { named = with_value name (Some found.0) read.named }) found.1 in
    record { count = named.count; added = named.added; counted = named.counted }

member_by_name : (more : Reader) (outputs : From) (takes : Takes more outputs) (read : SoFar) (text name rest : List ℕ) (is_stdout : Bool)
    → Taken read (if is_stdout then stdout_outputs outputs (past_mark 91 rest) else value_outputs outputs (value 63 rest))
    (if is_stdout then stdout_by more read text (past_mark 91 rest) else value_by more read text name (value 63 rest))
member_by_name more outputs takes read text name rest true = stdout_read more outputs takes read text (past_mark 91 rest)
member_by_name more outputs takes read text name rest false = value_read more outputs takes read text name (value 63 rest)

member_read : (more : Reader) (outputs : From) (takes : Takes more outputs) (read : SoFar) (text : List ℕ) (name : Read (List ℕ))
    → Taken read (member_outputs outputs name) (member_by more read text name)
member_read more outputs takes read text None = faulty event.BadEvent read text
member_read more outputs takes read text (Some name) = member_by_name more outputs takes read text name.0 name.1 (is_word (codes "stdout") name.0)

-- so all of them
one_read : (more : Reader) (outputs : From) (takes : Takes more outputs) (next : Inside) (read : SoFar) (text : List ℕ) → Taken read (outputs_at next outputs text) (one_inside next more read text)
one_read more outputs takes inside.Object read text = member_read more outputs takes read text (string_then 58 text)
one_read more outputs takes inside.Stdout read text = entry_read more outputs takes read text (entry_at text)

all_read : (most : ℕ) (next : Inside) (read : SoFar) (text : List ℕ) → Taken read (outputs_inside most next text) (those_inside most next read text)
all_read zero next read text = faulty event.BadEvent read text
all_read (suc most) next read text = one_read (those_inside most) (outputs_inside most) (all_read most) next read text

first_read : (most : ℕ) (inner : List ℕ) (close : Option (List ℕ)) → Taken at_brace (first_outputs (outputs_inside most) inner close) (members_begin (those_inside most) inner close)
first_read most inner (Some behind) = object_ends at_brace behind
first_read most inner None = all_read most inside.Object at_brace inner

object_read : (most : ℕ) (text : List ℕ) (open_ : Option (List ℕ)) → Taken at_brace (object_outputs (outputs_inside most) open_) (object_by (those_inside most) text open_)
object_read most text None = faulty event.BadEvent at_brace text
object_read most text (Some inner) = first_read most inner (past_mark 125 inner)

pub has_its_entries : (text : List ℕ) → HasItsEntries text
has_its_entries text =
    let ending = asciicast_one_of text in
    let taken : Taken at_brace (outputs_of text) ending = object_read (length text) text (past_mark 123 text) in
    let count : taken.count ≡ ending.read.count = omega (arith, taken.counted) in
    record {
      bytes = taken.added.bytes ∙ ap (λ n. bytes_of (take n (outputs_of text))) count;
      rest = subst (λ n. EndAtFault ending.read.outputs ending.fault (drop n (outputs_of text))) count taken.added.rest;
    }
