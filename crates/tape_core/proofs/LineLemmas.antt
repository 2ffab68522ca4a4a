-- A line that is read is a line of the classic timing format.
use Rattle.std.proofs.Common.{◌≡◌, ℕ, ◌+◌, ◌<◌, Bool, true, false, cond, List, [], ◌∷◌, ◌++◌, length, get_or, take, drop, filter, map, Option, Some, None, Result, Ok, Err, nat_lt, nat_eq, refl, ap, sym, ◌∙◌, arith, inl, inr, append_assoc, add-zero, subst}
use Rattle.std.specs.Char.{is_ascii_digit}
use Rattle.std.specs.List.{AllPass, before_first, cons_option, prefix_len, position_or_len}
use Rattle.std.specs.Option.{option_map, option_or}
use Rattle.std.proofs.lemmas.Bool.{and_parts, cases_lt, eqb-true, ltb-true}
use Rattle.std.proofs.lemmas.Bool.Decides.{nat_tests}
use Rattle.std.proofs.lemmas.List.{drop_all, get_or-drop, get_or-take, take-append-drop, length-take, length-drop}
use Rattle.std.proofs.lemmas.Option.{cond_some}
use Rattle.std.proofs.lemmas.List.Sums.{AllPass-from_list_all, passes_at_first, prefix_len_passes}
use Rattle.tape_core.specs.declared.chunk.Chunk.{Chunk}
use Rattle.tape_core.specs.declared.timing.Entry.{Entry}
use Rattle.tape_core.specs.declared.timing.EntryFault.{EntryFault}
use Rattle.tape_core.specs.declared.timing.EntryFault.TheVariants as line
use Rattle.tape_core.specs.Tape.{longest_delay, longest_chunk}
use Rattle.tape_core.specs.Seconds.{IsSeconds, micros_of}
use Rattle.tape_core.specs.Timing.{DelayText, TimingLine, begins_with_letter, counted, counted_bytes, delay_of, delayed, entries_of, entry_in, entry_of, entry_of_fields, fault_after, fault_of_line, first_fault, only_count, within_limits}
use Rattle.tape_core.specs.Text.{fields, is_blank, number_of, NumberText}
use Rattle.tape_core.specs.Reading.{AreTimed}
use Rattle.tape_core.specs.Steps.{entry_for}
use Rattle.tape_core.proofs.FieldLemmas.{fields_trimmed, fields_word, trimmed_front}
use Rattle.tape_core.proofs.SecondsLemmas.{spelled_seconds}

-- blanks, a field, and what stands behind it
pub record FieldCut (text first : List ℕ) (rest : List (List ℕ)) : Type 0 where
  pub before : List ℕ
  pub after : List ℕ
  pub spelled : text ≡ before ++ first ++ after
  pub blanks : AllPass is_blank before
  pub others : fields after ≡ rest
  pub apart : (d : ℕ) → 0 < length after → is_blank (get_or after 0 d) ≡ true

front_blanks : (text : List ℕ) → AllPass is_blank (take (prefix_len is_blank text) text)
front_blanks text k d lt =
    let within : k < prefix_len is_blank text = omega (arith, length-take (prefix_len is_blank text) text) in
    rw (get_or-take (prefix_len is_blank text) text k d within) (prefix_len_passes is_blank text k d within)

after_apart : (text : List ℕ) (d : ℕ) → 0 < length (drop (position_or_len is_blank text) text)
    → is_blank (get_or (drop (position_or_len is_blank text) text) 0 d) ≡ true
after_apart text d some =
    let within : position_or_len is_blank text < length text = omega (arith, length-drop (position_or_len is_blank text) text) in
    rw (get_or-drop (position_or_len is_blank text) text 0 d, add-zero (position_or_len is_blank text)) (passes_at_first is_blank text d within)

-- a text with a field is cut so
pub fields_cut : (text first : List ℕ) (rest : List (List ℕ)) → fields text ≡ first ∷ rest → FieldCut text first rest
fields_cut text first rest are =
    elim (cases_lt (prefix_len is_blank text) (length text)) [
      | inl lt ↦
          let r = drop (prefix_len is_blank text) text in
          let some : 0 < length r = omega (arith, length-drop (prefix_len is_blank text) text) in
          let e = sym (fields_trimmed text ∙ fields_word r some (trimmed_front text)) ∙ are in
          let one : before_first is_blank r ≡ first = cc in
          let more : fields (drop (position_or_len is_blank r) r) ≡ rest = cc in
          record {
            before = take (prefix_len is_blank text) text;
            after = drop (position_or_len is_blank r) r;
            spelled = sym (append_assoc (take (prefix_len is_blank text) text) first (drop (position_or_len is_blank r) r)
                ∙ ap (λ f. take (prefix_len is_blank text) text ++ (f ++ drop (position_or_len is_blank r) r)) (sym one)
                ∙ ap (λ x. take (prefix_len is_blank text) text ++ x) (take-append-drop (position_or_len is_blank r) r) ∙ take-append-drop (prefix_len is_blank text) text);
            blanks = front_blanks text;
            others = more;
            apart = after_apart r;
          }
      | inr ge ↦ let none : fields text ≡ [] = fields_trimmed text ∙ ap fields (drop_all (prefix_len is_blank text) text ge) in absurd (cc)
    ]

-- a text without a field is blank
pub no_fields : (text : List ℕ) → fields text ≡ [] → AllPass is_blank text
no_fields text none =
    elim (cases_lt (prefix_len is_blank text) (length text)) [
      | inl lt ↦
          let r = drop (prefix_len is_blank text) text in
          let some : 0 < length r = omega (arith, length-drop (prefix_len is_blank text) text) in
          let e = sym (fields_trimmed text ∙ fields_word r some (trimmed_front text)) ∙ none in
          absurd (cc)
      | inr ge ↦ λ k d lt. prefix_len_passes is_blank text k d (omega arith)
    ]

-- the two fields of a line that is read
pub record Parsed (fs : List (List ℕ)) (e : Entry) : Type 0 where
  pub first : List ℕ
  pub second : List ℕ
  pub are : fs ≡ first ∷ second ∷ []
  pub delay : delay_of first ≡ Some e.delay
  pub count : number_of second ≡ Some e.count

limited : (delay count : ℕ) (e : Entry) → within_limits delay count ≡ Ok (Some e) → (delay ≡ e.delay) × (count ≡ e.count)
limited delay count e h = limits (nat_lt longest_delay delay) (nat_lt longest_chunk count) h
  where
    limits : (s t : Bool)
        → cond s (Err line.DelayTooLarge) (cond t (Err line.ChunkTooLong) (Ok (Some (record { delay = delay; count = count })))) ≡ Ok (Some e)
        → (delay ≡ e.delay) × (count ≡ e.count)
    limits true t h = absurd (cc)
    limits false true h = absurd (cc)
    limits false false h = let same : ◌≡◌ {A = Entry} (record { delay = delay; count = count }) e = cc in (ap (λ x. x.delay) same, ap (λ x. x.count) same)

timed : (first : List ℕ) (rest : List (List ℕ)) (e : Entry) (d : Option ℕ) → delay_of first ≡ d
    → delayed d (only_count rest) ≡ Ok (Some e) → Parsed (first ∷ rest) e
timed first rest e None is h = absurd (cc)
timed first [] e (Some delay) is h = absurd (cc)
timed first (second ∷ more ∷ rest) e (Some delay) is h = absurd (cc)
timed first (second ∷ []) e (Some delay) is h = count (number_of second) refl h
  where
    count : (n : Option ℕ) → number_of second ≡ n → counted delay n ≡ Ok (Some e) → Parsed (first ∷ second ∷ []) e
    count None at h = absurd (cc)
    count (Some n) at h = let same = limited delay n e h in
        record { first = first; second = second; are = refl; delay = is ∙ ap Some same.0; count = at ∙ ap Some same.1 }

named : (first : List ℕ) (rest : List (List ℕ)) (e : Entry) (t : Bool)
    → cond t (Err line.MultiStream) (delayed (delay_of first) (only_count rest)) ≡ Ok (Some e) → Parsed (first ∷ rest) e
named first rest e true h = absurd (cc)
named first rest e false h = timed first rest e (delay_of first) refl h

pub parsed : (fs : List (List ℕ)) (e : Entry) → entry_of_fields fs ≡ Ok (Some e) → Parsed fs e
parsed [] e h = absurd (cc)
parsed (first ∷ rest) e h = named first rest e (begins_with_letter first) h

-- a line with a field is no blank one
unnamed : (t : Bool) (d n : Option ℕ) → cond t (Err line.MultiStream) (delayed d n) ≡ Ok None → ⊥
unnamed true d n h = cc
unnamed false None n h = cc
unnamed false (Some delay) None h = cc
unnamed false (Some delay) (Some count) h = limits (nat_lt longest_delay delay) (nat_lt longest_chunk count) h
  where
    limits : (s t : Bool)
        → cond {A = Result (Option Entry) EntryFault} s (Err line.DelayTooLarge) (cond t (Err line.ChunkTooLong) (Ok (Some (record { delay = delay; count = count })))) ≡ Ok None
        → ⊥
    limits true t h = cc
    limits false true h = cc
    limits false false h = cc

pub unparsed : (fs : List (List ℕ)) → entry_of_fields fs ≡ Ok None → fs ≡ []
unparsed [] h = refl
unparsed (first ∷ rest) h = absurd (unnamed (begins_with_letter first) (delay_of first) (only_count rest) h)

negative : (seconds : List ℕ) (delay : ℕ) (o : Option ℕ) → micros_of seconds ≡ o → option_map (λ us. 0) o ≡ Some delay
    → (us : ℕ) × IsSeconds seconds us × (delay ≡ 0)
negative seconds delay None is h = absurd (cc)
negative seconds delay (Some us) is h = let zero : 0 ≡ delay = cc in (us, spelled_seconds seconds us is, sym zero)

signed : (b : ℕ) (bs : List ℕ) (delay : ℕ) (t : Bool) → nat_eq b 45 ≡ t
    → cond t (option_map (λ us. 0) (micros_of bs)) (micros_of (b ∷ bs)) ≡ Some delay → DelayText (b ∷ bs) delay
signed b bs delay true minus h = let zero = negative bs delay (micros_of bs) refl h in inr (bs, zero.0, ap (λ x. x ∷ bs) (eqb-true b 45 minus), zero.1, zero.2)
signed b bs delay false minus h = inl (spelled_seconds (b ∷ bs) delay h)

pub delay_text : (text : List ℕ) (delay : ℕ) → delay_of text ≡ Some delay → DelayText text delay
delay_text [] delay h = absurd (cc)
delay_text (b ∷ bs) delay h = signed b bs delay (nat_eq b 45) refl h

pub number_text : (text : List ℕ) (count : ℕ) → number_of text ≡ Some count → NumberText text count
number_text text count h =
    let got = cond_some _ _ _ h in
    let some = and_parts _ _ got.0 in
    record { some = ltb-true 0 _ some.0; digits = AllPass-from_list_all is_ascii_digit text some.1; value = sym got.1 }

regrouped : (a b c d e : List ℕ) → (a ++ b) ++ ((c ++ d) ++ e) ≡ (((a ++ b) ++ c) ++ d) ++ e
regrouped a b c d e = simp append_assoc

-- a digit is no blank
digit_or_blank : (b : ℕ) → is_ascii_digit b ≡ true → is_blank b ≡ true → ⊥
digit_or_blank b digit blank = grind (arith, nat_tests)

-- blanks part the fields, as the second begins with a digit
parted : (text before second after : List ℕ) → text ≡ before ++ second ++ after → 0 < length second → AllPass is_ascii_digit second
    → ((d : ℕ) → 0 < length text → is_blank (get_or text 0 d) ≡ true) → 0 < length before
parted text (b ∷ bs) second after e some digits blank = omega arith
parted text [] [] after e some digits blank = absurd (omega arith)
parted text [] (c ∷ cs) after e some digits blank =
    absurd (digit_or_blank c (digits 0 0 (omega arith)) (rw e at (blank 0 (rw e (omega arith)))))

-- a line with the two fields of an entry is a line of the format
pub format_line : (text : List ℕ) (e : Entry) → Parsed (fields text) e → TimingLine text e.delay e.count
format_line text e fs =
    let one = fields_cut text fs.first (fs.second ∷ []) fs.are in
    let two = fields_cut one.after fs.second [] one.others in
    record {
      before = one.before;
      first = fs.first;
      between = two.before;
      second = fs.second;
      after = two.after;
      spelled = one.spelled ∙ ap (λ x. one.before ++ fs.first ++ x) two.spelled ∙ regrouped one.before fs.first two.before fs.second two.after;
      blank_before = one.blanks;
      blank_between = two.blanks;
      blank_after = no_fields two.after two.others;
      apart = parted one.after two.before fs.second two.after two.spelled (number_text fs.second e.count fs.count).some (number_text fs.second e.count fs.count).digits one.apart;
      delayed = delay_text fs.first e.delay fs.delay;
      counted = number_text fs.second e.count fs.count;
    }

-- what is read as an entry is a line of the format
pub timing_line : (text : List ℕ) (e : Entry) → entry_of text ≡ Ok (Some e) → TimingLine text e.delay e.count
timing_line text e h = format_line text e (parsed (fields text) e h)

-- a line without a fault has an entry or is blank
faultless_line : (before : List (List ℕ)) (text : List ℕ) (r : Result (Option Entry) EntryFault) → entry_of text ≡ r
    → fault_after before text ≡ None → (o : Option Entry) × (r ≡ Ok o)
faultless_line before text (Ok o) is none = (o, refl)
faultless_line before text (Err f) is none =
    let some = ap (fault_of_line (length before + 1) (length (entries_of before)) (counted_bytes (entries_of before))) is in
    absurd (cc)

neither : {A : Type 0} (o p : Option A) → option_or o p ≡ None → (o ≡ None) × (p ≡ None)
neither None p h = (refl, h)
neither (Some x) p h = absurd (cc)

abbrev has_fields : List ℕ → Bool
has_fields text = nat_lt 0 (length (fields text))

timed_line : (text : List ℕ) (rest : List (List ℕ)) (chunks : List Chunk) (o : Option Entry) → entry_of text ≡ Ok o
    → ((cs : List Chunk) → map entry_for cs ≡ entries_of rest → AreTimed (filter has_fields rest) cs)
    → map entry_for chunks ≡ cons_option o (entries_of rest) → AreTimed (filter has_fields (text ∷ rest)) chunks
timed_line text rest chunks None is others are = rw (unparsed (fields text) is) (others chunks are)
timed_line text rest [] (Some e) is others are = absurd (cc)
timed_line text rest (c ∷ cs) (Some e) is others are =
    let same : entry_for c ≡ e = cc in
    let more : map entry_for cs ≡ entries_of rest = cc in
    rw ((parsed (fields text) e is).are) (subst (λ x. TimingLine text x.delay x.count) (sym same) (timing_line text e is), others cs more)

-- lines without a fault time the chunks of their entries
pub timed_chunks : (before lines : List (List ℕ)) (chunks : List Chunk) → first_fault before lines ≡ None → map entry_for chunks ≡ entries_of lines
    → AreTimed (filter has_fields lines) chunks
timed_chunks before [] [] none are = tt
timed_chunks before [] (c ∷ cs) none are = absurd (cc)
timed_chunks before (text ∷ rest) chunks none are =
    let parts = neither (fault_after before text) (first_fault (before ++ text ∷ []) rest) none in
    let o = faultless_line before text (entry_of text) refl parts.0 in
    timed_line text rest chunks o.0 o.1 (λ cs h. timed_chunks (before ++ text ∷ []) rest cs parts.1 h) (are ∙ ap (λ r. cons_option (entry_in r) (entries_of rest)) o.1)
