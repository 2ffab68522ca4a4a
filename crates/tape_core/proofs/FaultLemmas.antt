-- A line is blank, or an entry within the limits, or has just the fault told.
use Rattle.std.proofs.Common.{◌≡◌, ℕ, ◌≤◌, Bool, true, false, cond, List, [], ◌∷◌, Option, Some, None, Result, Ok, Err, nat_lt, refl, ap, sym, ◌∙◌, arith, subst}
use Rattle.std.specs.List.{AllPass}
use Rattle.std.proofs.lemmas.Bool.{le-ltb, lt-ltb, ltb-true}
use Rattle.std.proofs.lemmas.Bool.Decides.{nat_tests}
use Rattle.tape_core.specs.declared.timing.Entry.{Entry}
use Rattle.tape_core.specs.declared.timing.EntryFault.{EntryFault}
use Rattle.tape_core.specs.declared.timing.EntryFault.TheVariants as line
use Rattle.tape_core.specs.Tape.{longest_chunk, longest_delay}
use Rattle.tape_core.specs.Text.{NumberText, fields, is_blank, number_of}
use Rattle.tape_core.specs.Timing.{DelayText, IsFaulty, IsWithin, TimingLine, begins_with_letter, counted, delay_of, delayed, entry_of, entry_of_fields, only_count}
use Rattle.tape_core.proofs.LineLemmas.{Parsed, delay_text, format_line, no_fields, number_text, unparsed}
use Rattle.tape_core.proofs.ReadBackLemmas.{delay_read, fields_of_blanks, line_fields, number_read}

-- a blank line, both ways
pub blank_read : (text : List ℕ) → entry_of text ≡ Ok None → AllPass is_blank text
blank_read text h = no_fields text (unparsed (fields text) h)

pub blank_told : (text : List ℕ) → AllPass is_blank text → entry_of text ≡ Ok None
blank_told text blanks = ap entry_of_fields (fields_of_blanks text blanks)

-- an entry is within the limits
not_above : (a b : ℕ) → nat_lt a b ≡ false → b ≤ a
not_above a b h = grind (arith, nat_tests)

limited : (delay count : ℕ) (e : Entry) (s t : Bool) → nat_lt longest_delay delay ≡ s → nat_lt longest_chunk count ≡ t
    → cond s (Err line.DelayTooLarge) (cond t (Err line.ChunkTooLong) (Ok (Some (record { delay = delay; count = count })))) ≡ Ok (Some e)
    → IsWithin e
limited delay count e true t large long h = absurd (cc)
limited delay count e false true large long h = absurd (cc)
limited delay count e false false large long h =
    let same : ◌≡◌ {A = Entry} (record { delay = delay; count = count }) e = cc in
    subst IsWithin same (record { delay = not_above longest_delay delay large; count = not_above longest_chunk count long })

counted_within : (delay : ℕ) (e : Entry) (n : Option ℕ) → counted delay n ≡ Ok (Some e) → IsWithin e
counted_within delay e None h = absurd (cc)
counted_within delay e (Some count) h = limited delay count e (nat_lt longest_delay delay) (nat_lt longest_chunk count) refl refl h

delayed_within : (e : Entry) (d n : Option ℕ) → delayed d n ≡ Ok (Some e) → IsWithin e
delayed_within e None n h = absurd (cc)
delayed_within e (Some delay) n h = counted_within delay e n h

named_within : (e : Entry) (t : Bool) (d n : Option ℕ) → cond t (Err line.MultiStream) (delayed d n) ≡ Ok (Some e) → IsWithin e
named_within e true d n h = absurd (cc)
named_within e false d n h = delayed_within e d n h

pub entry_within : (fs : List (List ℕ)) (e : Entry) → entry_of_fields fs ≡ Ok (Some e) → IsWithin e
entry_within [] e h = absurd (cc)
entry_within (first ∷ rest) e h = named_within e (begins_with_letter first) (delay_of first) (only_count rest) h

-- the two fields of an entry
parts : (first : List ℕ) (rest : List (List ℕ)) (e : Entry) → delay_of first ≡ Some e.delay → only_count rest ≡ Some e.count → Parsed (first ∷ rest) e
parts first [] e d n = absurd (cc)
parts first (second ∷ []) e d n = record { first = first; second = second; are = refl; delay = d; count = n }
parts first (second ∷ more ∷ rest) e d n = absurd (cc)

-- a faulty line has the fault told
module _ (text first : List ℕ) (rest : List (List ℕ)) (fault : EntryFault) (are : fields text ≡ first ∷ rest) where
  large_or_long : (delay count : ℕ) (s t : Bool) → nat_lt longest_delay delay ≡ s → nat_lt longest_chunk count ≡ t → TimingLine text delay count
      → cond {A = Result (Option Entry) EntryFault} s (Err line.DelayTooLarge)
      (cond t (Err line.ChunkTooLong) (Ok (Some (record { delay = delay; count = count }))))
      ≡ Err fault
      → IsFaulty text fault
  large_or_long delay count true t large long l h =
      let same : line.DelayTooLarge ≡ fault = cc in
      subst (IsFaulty text) same (delay, count, l, ltb-true longest_delay delay large)
  large_or_long delay count false true large long l h =
      let same : line.ChunkTooLong ≡ fault = cc in
      subst (IsFaulty text) same (delay, count, l, not_above longest_delay delay large, ltb-true longest_chunk count long)
  large_or_long delay count false false large long l h = absurd (cc)

  bad_count : (delay : ℕ) (n : Option ℕ) → delay_of first ≡ Some delay → only_count rest ≡ n → counted delay n ≡ Err fault → IsFaulty text fault
  bad_count delay None is none h =
      let same : line.BadCount ≡ fault = cc in
      subst (IsFaulty text) same (
        first,
        rest,
        delay,
        are,
        delay_text first delay is,
        λ second count one spelled.
            let some : only_count rest ≡ Some count = ap only_count one ∙ number_read second count spelled in cc,
      )
  bad_count delay (Some count) is some h =
      let entry : Entry = record { delay = delay; count = count } in
      let l = format_line text entry (subst (λ fs. Parsed fs entry) (sym are) (parts first rest entry is some)) in
      large_or_long delay count (nat_lt longest_delay delay) (nat_lt longest_chunk count) refl refl l h

  bad_delay : (d : Option ℕ) → begins_with_letter first ≡ false → delay_of first ≡ d → delayed d (only_count rest) ≡ Err fault → IsFaulty text fault
  bad_delay None plain none h =
      let same : line.BadDelay ≡ fault = cc in
      subst (IsFaulty text) same (first, rest, are, plain, λ delay spelled. let some = (delay_read first delay spelled).read in cc)
  bad_delay (Some delay) plain is h = bad_count delay (only_count rest) is refl h

  named : (t : Bool) → begins_with_letter first ≡ t
      → cond {A = Result (Option Entry) EntryFault} t (Err line.MultiStream) (delayed (delay_of first) (only_count rest)) ≡ Err fault
      → IsFaulty text fault
  named true is h = let same : line.MultiStream ≡ fault = cc in subst (IsFaulty text) same (first, rest, are, is)
  named false is h = bad_delay (delay_of first) is refl h

faulty_fields : (text : List ℕ) (fault : EntryFault) (fs : List (List ℕ)) → fields text ≡ fs → entry_of_fields fs ≡ Err fault → IsFaulty text fault
faulty_fields text fault [] are h = absurd (cc)
faulty_fields text fault (first ∷ rest) are h = named text first rest fault are (begins_with_letter first) refl h

pub faulty_line : (text : List ℕ) (fault : EntryFault) → entry_of text ≡ Err fault → IsFaulty text fault
faulty_line text fault h = faulty_fields text fault (fields text) refl h

-- and no other
no_delay : (first : List ℕ) (d : Option ℕ) → delay_of first ≡ d → ((delay : ℕ) → DelayText first delay → ⊥) → delay_of first ≡ None
no_delay first None is none = is
no_delay first (Some delay) is none = absurd (none delay (delay_text first delay is))

no_number : (text : List ℕ) (n : Option ℕ) → number_of text ≡ n → ((count : ℕ) → NumberText text count → ⊥) → number_of text ≡ None
no_number text None is none = is
no_number text (Some count) is none = absurd (none count (number_text text count is))

no_count : (rest : List (List ℕ)) → ((second : List ℕ) (count : ℕ) → rest ≡ second ∷ [] → NumberText second count → ⊥) → only_count rest ≡ None
no_count [] none = refl
no_count (second ∷ []) none = no_number second (number_of second) refl (λ count spelled. none second count refl spelled)
no_count (second ∷ more ∷ rest) none = refl

pub fault_told : (text : List ℕ) (fault : EntryFault) → IsFaulty text fault → entry_of text ≡ Err fault
fault_told text line.MultiStream h = ap entry_of_fields h.2 ∙ rw h.3 refl
fault_told text line.BadDelay h = ap entry_of_fields h.2 ∙ rw (h.3, no_delay h.0 (delay_of h.0) refl h.4) refl
fault_told text line.BadCount h =
    let d = delay_read h.0 h.2 h.4 in
    ap entry_of_fields h.3 ∙ rw (d.unlettered, d.read, no_count h.1 h.5) refl
fault_told text line.DelayTooLarge h =
    let l = h.2 in
    let d = delay_read l.first h.0 l.delayed in
    ap entry_of_fields (line_fields text h.0 h.1 l) ∙ rw (d.unlettered, d.read, number_read l.second h.1 l.counted, lt-ltb longest_delay h.0 h.3) refl
fault_told text line.ChunkTooLong h =
    let l = h.2 in
    let d = delay_read l.first h.0 l.delayed in
    ap entry_of_fields (line_fields text h.0 h.1 l)
    ∙ rw (d.unlettered, d.read, number_read l.second h.1 l.counted, le-ltb longest_delay h.0 h.3, lt-ltb longest_chunk h.1 h.4) refl
