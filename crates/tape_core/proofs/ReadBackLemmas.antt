-- A line of the timing format is read as what it says, and what is written is such a line.
use Rattle.std.proofs.Common.{◌≡◌, ℕ, suc, ◌+◌, ◌-◌, ◌/◌, ◌%◌, ◌^◌, ◌<◌, ◌≤◌, All, true, false, List, [], ◌∷◌, ◌++◌, length, get_or, take, filter, map, replicate, Some, None, Ok, nat_lt, nat_eq, zero, refl, ap, sym, ◌∙◌, arith, inl, inr, min, append_assoc, append-nil, length-append, subst}
use Rattle.std.specs.Char.{is_ascii_digit}
use Rattle.std.specs.Fmt.{decimal}
use Rattle.std.specs.List.{AllPass, cons_option, flat_map, slice_split}
use Rattle.std.specs.Option.{option_map, option_or}
use Rattle.std.specs.Str.Parse.{digits_value}
use Rattle.std.proofs.lemmas.Bool.{le-ltb, lt-leb, lt-ltb}
use Rattle.std.proofs.lemmas.Bool.Decides.{nat_tests}
use Rattle.std.proofs.lemmas.Fmt.{decimal_is_IsNumeral}
use Rattle.std.proofs.lemmas.List.{get_or_default, length-map, map_push, take_at}
use Rattle.std.proofs.lemmas.List.Elements.{All-append, All-cons, All-head, All-nil, All-replicate, All-tail, All-weaker, filter_map-append}
use Rattle.std.proofs.lemmas.List.Splits.{length-slice_split, slice_split_at, slice_split_none}
use Rattle.std.proofs.lemmas.List.Sums.{list_all-from_AllPass, sum_by-cons, sum_by_push}
use Rattle.std.proofs.lemmas.Str.Parse.{digit_at}
use Rattle.tape_core.specs.declared.chunk.Chunk.{Chunk}
use Rattle.tape_core.specs.declared.timing.Entry.{Entry}
use Rattle.tape_core.specs.Tape.{body_len, longest_body, longest_chunk, longest_delay, most_chunks}
use Rattle.tape_core.specs.Seconds.{IsSeconds, last_moment, micros_of, seconds_of}
use Rattle.tape_core.specs.Timing.{DelayText, IsWithin, TimingLine, begins_with_letter, counted_bytes, delay_of, entries_of, entry_in, entry_of, entry_of_fields, fault_after, fault_of_line, first_fault, is_letter}
use Rattle.tape_core.specs.Text.{fields, is_blank, lines_of, number_of, NumberText, without_empty_last}
use Rattle.tape_core.specs.Reading.{AreTimed}
use Rattle.tape_core.specs.Steps.{entry_for}
use Rattle.tape_core.specs.Written.{seconds_form, six_digits, timing_line_of}
use Rattle.tape_core.proofs.FieldLemmas.{fields_blank, kept_piece}
use Rattle.tape_core.proofs.ReadingLemmas.{counted_for}
use Rattle.tape_core.proofs.SecondsLemmas.{read_seconds_text}
use Rattle.tape_core.proofs.WrittenLemmas.{length-six_digits}

-- no byte of the text is a blank
abbrev pub HasNoBlank : List ℕ → Type 0
HasNoBlank text = All (λ b. is_blank b ≡ false) text

digit_no_blank : (b : ℕ) → is_ascii_digit b ≡ true → is_blank b ≡ false
digit_no_blank b h = grind (arith, nat_tests)

digit_no_letter : (b : ℕ) → is_ascii_digit b ≡ true → is_letter b ≡ false
digit_no_letter b h = grind (arith, nat_tests)

digit_no_minus : (b : ℕ) → is_ascii_digit b ≡ true → nat_eq b 45 ≡ false
digit_no_minus b h = grind (arith, nat_tests)

digits_are_word : (text : List ℕ) → AllPass is_ascii_digit text → HasNoBlank text
digits_are_word text digits = λ k d lt. digit_no_blank (get_or text k d) (digits k d lt)

-- blanks in front change no field
fields_after_blanks : (before text : List ℕ) → AllPass is_blank before → fields (before ++ text) ≡ fields text
fields_after_blanks [] text blanks = refl
fields_after_blanks (b ∷ bs) text blanks =
    fields_blank b (bs ++ text) (All-head (λ x. is_blank x ≡ true) b bs blanks) ∙ fields_after_blanks bs text (All-tail (λ x. is_blank x ≡ true) b bs blanks)

pub fields_of_blanks : (text : List ℕ) → AllPass is_blank text → fields text ≡ []
fields_of_blanks text blanks = ap fields (sym (append-nil text)) ∙ fields_after_blanks text [] blanks

pub fields_of_word : (word : List ℕ) → 0 < length word → HasNoBlank word → fields word ≡ word ∷ []
fields_of_word word some plain =
    ap (filter (λ piece. nat_lt 0 (length piece))) (slice_split_none is_blank word plain) ∙ rw (lt-ltb 0 (length word) some) refl

pub fields_before_blank : (word : List ℕ) (b : ℕ) (rest : List ℕ) → 0 < length word → HasNoBlank word
    → is_blank b ≡ true → fields (word ++ b ∷ rest) ≡ word ∷ fields rest
fields_before_blank word b rest some plain blank =
    ap (filter (λ piece. nat_lt 0 (length piece))) (slice_split_at is_blank word b rest plain blank) ∙ rw (lt-ltb 0 (length word) some) refl

last_field : (word after : List ℕ) → 0 < length word → HasNoBlank word → AllPass is_blank after → fields (word ++ after) ≡ word ∷ []
last_field word [] some plain blanks = ap fields (append-nil word) ∙ fields_of_word word some plain
last_field word (b ∷ bs) some plain blanks =
    fields_before_blank word b bs some plain (All-head (λ x. is_blank x ≡ true) b bs blanks) ∙ ap (λ fs. word ∷ fs) (fields_of_blanks bs (All-tail (λ x. is_blank x ≡ true) b bs blanks))

first_field : (word between rest : List ℕ) → 0 < length word → HasNoBlank word → 0 < length between
    → AllPass is_blank between → fields (word ++ (between ++ rest)) ≡ word ∷ fields rest
first_field word [] rest some plain apart blanks = absurd (omega arith)
first_field word (b ∷ bs) rest some plain apart blanks =
    fields_before_blank word b (bs ++ rest) some plain (All-head (λ x. is_blank x ≡ true) b bs blanks) ∙ ap (λ fs. word ∷ fs) (fields_after_blanks bs rest (All-tail (λ x. is_blank x ≡ true) b bs blanks))

-- a line's fields are its delay and its count
two_fields : (before first between second after : List ℕ) → AllPass is_blank before → 0 < length first
    → HasNoBlank first → 0 < length between → AllPass is_blank between
    → 0 < length second → HasNoBlank second → AllPass is_blank after → fields (before ++ first ++ between ++ second ++ after) ≡ first ∷ second ∷ []
two_fields before first between second after blanks some plain apart blanks' some' plain' blanks'' =
    let grouped : before ++ first ++ between ++ second ++ after ≡ before ++ (first ++ (between ++ (second ++ after))) = simp append_assoc in
    ap fields grouped ∙ fields_after_blanks before (first ++ (between ++ (second ++ after))) blanks ∙ first_field first between (second ++ after) some plain apart blanks'
    ∙ ap (λ fs. first ∷ fs) (last_field second after some' plain' blanks'')

-- seconds begin with a digit, and have no blank
record Begins (text : List ℕ) : Type 0 where
  first : ℕ
  rest : List ℕ
  are : text ≡ first ∷ rest
  digit : is_ascii_digit first ≡ true

begins_with_digit : (text whole rest : List ℕ) → text ≡ whole ++ rest → 0 < length whole → AllPass is_ascii_digit whole → Begins text
begins_with_digit text [] rest is some digits = absurd (omega arith)
begins_with_digit text (c ∷ cs) rest is some digits = record { first = c; rest = cs ++ rest; are = is; digit = All-head (λ x. is_ascii_digit x ≡ true) c cs digits }

seconds_begin : (text : List ℕ) (us : ℕ) → IsSeconds text us → Begins text
seconds_begin text us s = elim s.spelled [
  | inl e ↦ begins_with_digit text s.whole [] (e.0 ∙ sym (append-nil s.whole)) s.some s.whole_digits
  | inr e ↦ begins_with_digit text s.whole (46 ∷ s.decimals) e s.some s.whole_digits
]

seconds_are_word : (text : List ℕ) (us : ℕ) → IsSeconds text us → HasNoBlank text
seconds_are_word text us s = elim s.spelled [
  | inl e ↦ subst HasNoBlank (sym e.0) (digits_are_word s.whole s.whole_digits)
  | inr e ↦ subst HasNoBlank (sym e) (All-append (λ b. is_blank b ≡ false) s.whole (46 ∷ s.decimals) (digits_are_word s.whole s.whole_digits)
      (All-cons (λ b. is_blank b ≡ false) 46 s.decimals refl (digits_are_word s.decimals s.decimal_digits)))
]

-- what a delay's field is read as
pub record ReadDelay (text : List ℕ) (delay : ℕ) : Type 0 where
  pub some : 0 < length text
  pub plain : HasNoBlank text
  pub unlettered : begins_with_letter text ≡ false
  pub read : delay_of text ≡ Some delay

unsigned_read : (text : List ℕ) (us : ℕ) → IsSeconds text us → Begins text → ReadDelay text us
unsigned_read text us s b = record {
  some = rw b.are (omega arith);
  plain = seconds_are_word text us s;
  unlettered = ap begins_with_letter b.are ∙ digit_no_letter b.first b.digit;
  read = ap delay_of b.are ∙ rw (digit_no_minus b.first b.digit) (ap micros_of (sym b.are) ∙ read_seconds_text text us s);
}

signed_read : (text seconds : List ℕ) (us delay : ℕ) → text ≡ 45 ∷ seconds → IsSeconds seconds us → delay ≡ 0 → ReadDelay text delay
signed_read text seconds us delay is s none = record {
  some = rw is (omega arith);
  plain = subst HasNoBlank (sym is) (All-cons (λ b. is_blank b ≡ false) 45 seconds refl (seconds_are_word seconds us s));
  unlettered = ap begins_with_letter is;
  read = ap delay_of is ∙ ap (option_map (λ us. 0)) (read_seconds_text seconds us s) ∙ ap Some (sym none);
}

pub delay_read : (text : List ℕ) (delay : ℕ) → DelayText text delay → ReadDelay text delay
delay_read text delay (inl s) = unsigned_read text delay s (seconds_begin text delay s)
delay_read text delay (inr n) = signed_read text n.0 n.1 delay n.2 n.3 n.4

pub number_read : (text : List ℕ) (count : ℕ) → NumberText text count → number_of text ≡ Some count
number_read text count t = rw (lt-ltb 0 (length text) t.some, list_all-from_AllPass is_ascii_digit text t.digits) (ap Some (sym t.value))

-- a line's fields
pub line_fields : (text : List ℕ) (delay count : ℕ) (l : TimingLine text delay count) → fields text ≡ l.first ∷ l.second ∷ []
line_fields text delay count l =
    let d = delay_read l.first delay l.delayed in
    ap fields l.spelled ∙ two_fields l.before l.first l.between l.second l.after l.blank_before d.some d.plain l.apart l.blank_between l.counted.some (digits_are_word l.second l.counted.digits) l.blank_after

-- a line of the format within the limits is read as what it says
pub timing_line_read : (text : List ℕ) (entry : Entry) → TimingLine text entry.delay entry.count → IsWithin entry → entry_of text ≡ Ok (Some entry)
timing_line_read text entry l within =
    let d = delay_read l.first entry.delay l.delayed in
    ap entry_of_fields (line_fields text entry.delay entry.count l)
    ∙ rw (d.unlettered, d.read, number_read l.second entry.count l.counted, le-ltb longest_delay entry.delay within.delay, le-ltb longest_chunk entry.count within.count) refl

-- the digits of a number
in_range_digit : (c : ℕ) → (48 ≤ c) × (c ≤ 57) → is_ascii_digit c ≡ true
in_range_digit c r = grind (arith, nat_tests)

pub decimal_digits : (n : ℕ) → n < 2 ^ 64 → AllPass is_ascii_digit (decimal n)
decimal_digits n small = λ k d lt. rw (get_or_default (decimal n) k d 0 lt) (in_range_digit (get_or (decimal n) k 0) (digit_at (decimal n) k (decimal_is_IsNumeral n small).0.1 lt))

-- zeros in front change no number
zeros_in_front : (k : ℕ) (digits : List ℕ) → digits_value 10 (replicate k 48 ++ digits) ≡ digits_value 10 digits
zeros_in_front zero digits = refl
zeros_in_front (suc k) digits = zeros_in_front k digits

pub six_digits_are : (us : ℕ) → AllPass is_ascii_digit (six_digits (us % 1000000))
six_digits_are us =
    All-append (λ b. is_ascii_digit b ≡ true) (replicate (6 - length (decimal (us % 1000000))) 48) (decimal (us % 1000000))
    (All-replicate (λ b. is_ascii_digit b ≡ true) (6 - length (decimal (us % 1000000))) 48 refl) (decimal_digits (us % 1000000) (omega arith))

-- the SECONDS form writes just these microseconds
pub seconds_form_reads : (us : ℕ) → us < 2 ^ 64 → IsSeconds (seconds_form us) us
unfolding seconds_form
seconds_form_reads us small =
    let whole = decimal_is_IsNumeral (us / 1000000) (omega arith) in
    let part = decimal_is_IsNumeral (us % 1000000) (omega arith) in
    let decimals = six_digits (us % 1000000) in
    let six : take 6 (decimals ++ replicate 6 48) ≡ decimals = take_at decimals (replicate 6 48) 6 (length-six_digits us) in
    let value : digits_value 10 (take 6 (decimals ++ replicate 6 48)) ≡ us % 1000000 =
    ap (digits_value 10) six ∙ zeros_in_front (6 - length (decimal (us % 1000000))) (decimal (us % 1000000)) ∙ part.1 in
    record {
      whole = decimal (us / 1000000);
      decimals = decimals;
      some = whole.0.0;
      whole_digits = decimal_digits (us / 1000000) (omega arith);
      decimal_digits = six_digits_are us;
      spelled = inr refl;
      value = omega (arith, whole.1, value);
    }

pub seconds_form_read : (us : ℕ) → us ≤ last_moment → seconds_of (seconds_form us) ≡ Some us
unfolding seconds_of
seconds_form_read us le =
    let fits : min us last_moment ≡ us = omega arith in
    ap (option_map (λ n. min n last_moment)) (read_seconds_text (seconds_form us) us (seconds_form_reads us (omega arith))) ∙ ap Some fits

-- a chunk's line without its LF
abbrev pub line_text_of : Chunk → List ℕ
line_text_of c = seconds_form c.delay ++ 32 ∷ decimal (length c.bytes)

-- one chunk within the limits
abbrev pub IsWithinLimits : Chunk → Type 0
IsWithinLimits c = IsWithin (entry_for c)

-- what is written for a chunk is its line
pub written_line : (c : Chunk) → IsWithinLimits c → TimingLine (line_text_of c) c.delay (length c.bytes)
written_line c within =
    let count = decimal_is_IsNumeral (length c.bytes) (omega (arith, within.count)) in
    record {
      before = [];
      first = seconds_form c.delay;
      between = 32 ∷ [];
      second = decimal (length c.bytes);
      after = [];
      spelled = sym (append-nil (seconds_form c.delay ++ (32 ∷ []) ++ decimal (length c.bytes)) ∙ append_assoc (seconds_form c.delay) (32 ∷ []) (decimal (length c.bytes)));
      blank_before = All-nil (λ b. is_blank b ≡ true);
      blank_between = All-replicate (λ b. is_blank b ≡ true) 1 32 refl;
      blank_after = All-nil (λ b. is_blank b ≡ true);
      apart = omega arith;
      delayed = inl (seconds_form_reads c.delay (omega (arith, within.delay)));
      counted = record { some = count.0.0; digits = decimal_digits (length c.bytes) (omega (arith, within.count)); value = sym count.1 };
    }

pub written_entry : (c : Chunk) → IsWithinLimits c → entry_of (line_text_of c) ≡ Ok (Some (entry_for c))
written_entry c within = timing_line_read (line_text_of c) (entry_for c) (written_line c within) within

-- a digit is no LF
digit_no_feed : (b : ℕ) → is_ascii_digit b ≡ true → nat_eq b 10 ≡ false
digit_no_feed b h = grind (arith, nat_tests)

-- a line has no LF of its own
pub digits_unbroken : (digits : List ℕ) → AllPass is_ascii_digit digits → All (λ b. nat_eq b 10 ≡ false) digits
digits_unbroken digits are = All-weaker (λ b. is_ascii_digit b ≡ true) (λ b. nat_eq b 10 ≡ false) digit_no_feed digits are

pub seconds_unbroken : (text : List ℕ) (us : ℕ) → IsSeconds text us → All (λ b. nat_eq b 10 ≡ false) text
seconds_unbroken text us s =
    let P : List ℕ → Type 0 = All (λ b. nat_eq b 10 ≡ false) in
    elim s.spelled [
      | inl e ↦ subst P (sym e.0) (digits_unbroken s.whole s.whole_digits)
      | inr e ↦ subst P (sym e) (All-append (λ b. nat_eq b 10 ≡ false) s.whole (46 ∷ s.decimals) (digits_unbroken s.whole s.whole_digits)
          (All-cons (λ b. nat_eq b 10 ≡ false) 46 s.decimals refl (digits_unbroken s.decimals s.decimal_digits)))
    ]

line_unbroken : (c : Chunk) → IsWithinLimits c → All (λ b. nat_eq b 10 ≡ false) (line_text_of c)
line_unbroken c within =
    let count = digits_unbroken (decimal (length c.bytes)) (decimal_digits (length c.bytes) (omega (arith, within.count))) in
    All-append (λ b. nat_eq b 10 ≡ false) (seconds_form c.delay) (32 ∷ decimal (length c.bytes))
    (seconds_unbroken (seconds_form c.delay) c.delay (seconds_form_reads c.delay (omega (arith, within.delay)))) (All-cons (λ b. nat_eq b 10 ≡ false) 32 (decimal (length c.bytes)) refl count)

-- the lines of what is written are the chunks' lines
pub next_line : (line rest : List ℕ) → All (λ b. nat_eq b 10 ≡ false) line → lines_of (line ++ 10 ∷ rest) ≡ line ∷ lines_of rest
next_line line rest unbroken =
    let some : 0 < length (slice_split (λ b. nat_eq b 10) rest) = omega (arith, length-slice_split (λ b. nat_eq b 10) rest) in
    ap without_empty_last (slice_split_at (λ b. nat_eq b 10) line 10 rest unbroken refl) ∙ kept_piece line (slice_split (λ b. nat_eq b 10) rest) some

pub written_lines : (chunks : List Chunk) → All IsWithinLimits chunks → lines_of (flat_map timing_line_of chunks) ≡ map line_text_of chunks
written_lines [] within = refl
written_lines (c ∷ cs) within =
    let here = All-head IsWithinLimits c cs within in
    ap lines_of (append_assoc (line_text_of c) (10 ∷ []) (flat_map timing_line_of cs)) ∙ next_line (line_text_of c) (flat_map timing_line_of cs) (line_unbroken c here)
    ∙ ap (λ ls. line_text_of c ∷ ls) (written_lines cs (All-tail IsWithinLimits c cs within))

-- their entries are those of the chunks
pub written_entries : (chunks : List Chunk) → All IsWithinLimits chunks → entries_of (map line_text_of chunks) ≡ map entry_for chunks
written_entries [] within = refl
written_entries (c ∷ cs) within =
    ap (λ r. cons_option (entry_in r) (entries_of (map line_text_of cs))) (written_entry c (All-head IsWithinLimits c cs within)) ∙ ap (λ es. entry_for c ∷ es) (written_entries cs (All-tail IsWithinLimits c cs within))

-- they time the chunks
pub written_timed : (chunks : List Chunk) → All IsWithinLimits chunks
    → AreTimed (filter (λ text. nat_lt 0 (length (fields text))) (map line_text_of chunks)) chunks
written_timed [] within = tt
written_timed (c ∷ cs) within =
    let line = written_line c (All-head IsWithinLimits c cs within) in
    rw (line_fields (line_text_of c) c.delay (length c.bytes) line) (line, written_timed cs (All-tail IsWithinLimits c cs within))

-- none of them has a fault
pub written_faultless : (front cs : List Chunk) (before : List (List ℕ)) → entries_of before ≡ map entry_for front
    → All IsWithinLimits cs → length front + length cs ≤ most_chunks
    → body_len front + body_len cs ≤ longest_body → first_fault before (map line_text_of cs) ≡ None
written_faultless front [] before are within few small = refl
written_faultless front (c ∷ cs) before are within few small =
    let here = written_entry c (All-head IsWithinLimits c cs within) in
    let n = length before + 1 in
    let so_far = ap length are ∙ length-map front entry_for in
    let bytes = ap counted_bytes are ∙ counted_for front in
    let whole = sum_by-cons (λ x. length x.bytes) c cs in
    let longer = length-append front (c ∷ []) in
    let heavier = sum_by_push (λ x. length x.bytes) front c in
    let room : length (entries_of before) < most_chunks = omega (arith, so_far) in
    let light : counted_bytes (entries_of before) + length c.bytes ≤ longest_body = omega (arith, bytes, whole) in
    let sound : fault_after before (line_text_of c) ≡ None =
    ap (fault_of_line n (length (entries_of before)) (counted_bytes (entries_of before))) here ∙ rw (lt-leb most_chunks (length (entries_of before)) room, le-ltb longest_body (counted_bytes (entries_of before) + length c.bytes) light) refl in
    let entries : entries_of (before ++ line_text_of c ∷ []) ≡ map entry_for (front ++ c ∷ []) =
    filter_map-append (λ t. entry_in (entry_of t)) before (line_text_of c ∷ []) ∙ ap (λ r. entries_of before ++ cons_option (entry_in r) []) here ∙ ap (λ es. es ++ entry_for c ∷ []) are ∙ sym (map_push entry_for front c) in
    ap (λ o. option_or o (first_fault (before ++ line_text_of c ∷ []) (map line_text_of cs))) sound
    ∙ written_faultless (front ++ c ∷ []) cs (before ++ line_text_of c ∷ []) entries (All-tail IsWithinLimits c cs within) (omega (arith, longer)) (omega (arith, heavier, whole))
