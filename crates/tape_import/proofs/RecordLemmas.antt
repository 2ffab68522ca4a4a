-- The records of a ttyrec, and those of a front of it.
use Rattle.std.proofs.Common.{◌≡◌, ℕ, zero, suc, ◌+◌, ◌-◌, ◌*◌, ◌<◌, ◌≤◌, ◌&&◌, ◌==◌, Bool, true, false, List, [], ◌∷◌, ◌++◌, length, take, drop, min, nat_lt, nat_le, Option, Some, None, if◌then◌else◌, ◌⊎◌, inl, inr, refl, ap, subst, sym, ◌∙◌, arith, append_assoc, length-append}
use Rattle.std.specs.Int.{from_le_bytes, w32}
use Rattle.std.specs.Option.{option_or}
use Rattle.std.proofs.lemmas.Bool.{cases_lt}
use Rattle.std.proofs.lemmas.Bool.Decides.{nat_tests}
use Rattle.std.proofs.lemmas.List.{drop-append-le, length-drop, length-take, take-append-le, take_all}
use Rattle.std.proofs.Math.Seq.{take-append-add}
use Rattle.tape_core.specs.Tape.{body_len, longest_body, longest_chunk, longest_delay, most_chunks}
use Rattle.tape_import.specs.Law.{BeginWith, BeginWithCut, RecordsBeginWithTheirFront}
use Rattle.tape_import.specs.Outputs.{Outputs, output_fault, passed, waited, with_output}
use Rattle.tape_import.specs.Ttyrec.{at_first, clock_of, cut_of, data_of, fault_at, go_on, head_len, moved, number_at, record_fault, records, told_of, with_record}
use Rattle.tape_import.specs.declared.fault.EventFault.{EventFault}
use Rattle.tape_import.specs.declared.fault.EventFault.TheVariants as event
use Rattle.tape_import.specs.declared.ttyrec.Front.{Front}
use Rattle.tape_import.specs.declared.ttyrec.Reading.{Reading}
use Rattle.tape_import.proofs.FrontLemmas.{begin_all, begin_on, output_grows}

-- chunks are only added
abbrev Grown : Reading → Front → Type 0
Grown so_far front = BeginWith so_far.outputs.chunks front.read.outputs.chunks

grows_by : (more : Reading → Front) (so_far : Reading) (text : List ℕ) (fault : Option EventFault) → Grown (with_record so_far text) (more (with_record so_far text))
    → Grown so_far (go_on more so_far text fault)
grows_by more so_far text None grown =
    begin_on so_far.outputs.chunks (with_record so_far text).outputs.chunks (more (with_record so_far text)).read.outputs.chunks
    (output_grows so_far.count (data_of text) (passed (moved so_far.clock (clock_of text)) so_far.outputs)) grown
grows_by more so_far text (Some fault) grown = begin_all so_far.outputs.chunks

grow : (belong : ℕ) (so_far : Reading) (text : List ℕ) → Grown so_far (records belong so_far text)
grow belong so_far [] = begin_all so_far.outputs.chunks
grow (suc belong) so_far (b ∷ bs) = grow belong so_far bs
grow zero so_far (b ∷ bs) =
    grows_by (λ more. records (head_len - 1 + told_of (b ∷ bs)) more bs) so_far (b ∷ bs) (fault_at so_far (b ∷ bs))
    (grow (head_len - 1 + told_of (b ∷ bs)) (with_record so_far (b ∷ bs)) bs)

-- a text of which all bytes belong to the record before
all_belong : (belong : ℕ) (so_far : Reading) (text : List ℕ) → length text ≤ belong → records belong so_far text ≡ record { read = so_far; fault = None; left = 0 }
all_belong belong so_far [] few = refl
all_belong zero so_far (b ∷ bs) few = absurd (omega arith)
all_belong (suc belong) so_far (b ∷ bs) few = all_belong belong so_far bs (omega arith)

-- a record without a fault
record Sound (len told : ℕ) : Type 0 where
  head : head_len ≤ len
  chunk : told ≤ longest_chunk
  some : 0 < told → head_len < len

sound_by : (len told : ℕ) (short long empty : Bool) → nat_lt len head_len ≡ short → nat_lt longest_chunk told ≡ long → (nat_lt 0 told && len == head_len) ≡ empty
    → (if short then Some event.BadEvent else if long then Some event.ChunkTooLong else if empty then Some event.BadEvent else None) ≡ None → Sound len told
sound_by len told true long empty p q r is = cc
sound_by len told false true empty p q r is = cc
sound_by len told false false true p q r is = cc
sound_by len told false false false p q r is = record { head = grind (arith, nat_tests); chunk = grind (arith, nat_tests); some = λ lt. grind (arith, nat_tests) }

sound : (text : List ℕ) → record_fault text ≡ None → Sound (length text) (told_of text)
sound text is =
    sound_by (length text) (told_of text) (nat_lt (length text) head_len) (nat_lt longest_chunk (told_of text)) (nat_lt 0 (told_of text) && length text == head_len) refl refl refl is

no_fault : (text : List ℕ) → Sound (length text) (told_of text) → record_fault text ≡ None
no_fault text is =
    let short : nat_lt (length text) head_len ≡ false = grind (arith, nat_tests, is.head) in
    let long : nat_lt longest_chunk (told_of text) ≡ false = grind (arith, nat_tests, is.chunk) in
    let empty : (nat_lt 0 (told_of text) && length text == head_len) ≡ false = grind (arith, nat_tests, is.some) in
    rw (short, long, empty) refl

neither : (a b : Option EventFault) → option_or a b ≡ None → (a ≡ None) × (b ≡ None)
neither None b is = (refl, is)
neither (Some f) b is = cc

-- the head of a front that has one is that of the whole
four_at : (at : ℕ) (text more : List ℕ) → at + 4 ≤ length text → number_at at (text ++ more) ≡ number_at at text
four_at at text more within =
    ap (λ rest. from_le_bytes w32 (take 4 rest)) (drop-append-le at text more (omega arith))
    ∙ ap (from_le_bytes w32) (take-append-le 4 (drop at text) more (omega (arith, length-drop at text)))

record SameHead (text more : List ℕ) : Type 0 where
  told : told_of (text ++ more) ≡ told_of text
  clock : clock_of (text ++ more) ≡ clock_of text

same_head : (text more : List ℕ) → head_len ≤ length text → SameHead text more
same_head text more long =
    let seconds = four_at 0 text more (omega arith) in
    let micros = four_at 4 text more (omega arith) in
    record { told = four_at 8 text more (omega arith); clock = ap (λ n. n * 1000000 + number_at 4 (text ++ more)) seconds ∙ ap (λ n. number_at 0 text * 1000000 + n) micros }

-- where its data is whole, the record is the same
same_data : (text more : List ℕ) → head_len ≤ length text → head_len + told_of text ≤ length text → data_of (text ++ more) ≡ data_of text
same_data text more long whole =
    ap (λ n. take n (drop head_len (text ++ more))) (same_head text more long).told
    ∙ ap (take (told_of text)) (drop-append-le head_len text more long)
    ∙ take-append-le (told_of text) (drop head_len text) more (omega (arith, length-drop head_len text))

unfoldable made : Reading → List ℕ → ℕ → ℕ → Reading
made so_far bytes clock told = record {
  outputs = with_output so_far.count bytes (passed (moved so_far.clock clock) so_far.outputs);
  clock = Some clock;
  count = so_far.count + 1;
  cut = cut_of (length so_far.outputs.chunks) (length bytes) told;
}

same_record : (so_far : Reading) (text more : List ℕ) → head_len ≤ length text → head_len + told_of text ≤ length text
    → with_record so_far (text ++ more) ≡ with_record so_far text
unfolding made
same_record so_far text more long whole =
    let head = same_head text more long in
    ap (λ bytes. made so_far bytes (clock_of (text ++ more)) (told_of (text ++ more))) (same_data text more long whole)
    ∙ ap (λ clock. made so_far (data_of text) clock (told_of (text ++ more))) head.clock
    ∙ ap (made so_far (data_of text) (clock_of text)) head.told

-- where it is cut, its chunk has a front of the data
cut_data : (text more : List ℕ) → head_len ≤ length text → length text < head_len + told_of text
    → (data_of text ≡ drop head_len text) × (data_of (text ++ more) ≡ drop head_len text ++ take (told_of text - length (drop head_len text)) more)
cut_data text more long cut = (
  take_all (told_of text) (drop head_len text) (omega (arith, length-drop head_len text)),
  ap (λ n. take n (drop head_len (text ++ more))) (same_head text more long).told
      ∙ ap (take (told_of text)) (drop-append-le head_len text more long)
      ∙ ap (λ n. take n (drop head_len text ++ more)) (omega (arith, length-drop head_len text))
      ∙ take-append-add (drop head_len text) more (told_of text - length (drop head_len text)),
)

-- the only fault that it can have then
bytes_alone : (over : Bool) (fault : EventFault) → (if over then Some event.TooManyBytes else None) ≡ Some fault → fault ≡ event.TooManyBytes
bytes_alone true fault is = cc
bytes_alone false fault is = cc

few_by : (none long many over : Bool) → none ≡ false
    → (if none then None else if long then Some event.ChunkTooLong else if many then Some event.TooManyChunks else if over then Some event.TooManyBytes else None) ≡ None → many ≡ false
few_by true long many over some is = cc
few_by false true many over some is = cc
few_by false false true over some is = cc
few_by false false false over some is = refl

over_alone : (so_far : Outputs) (len longer : ℕ) → 0 < len → len ≤ longer → longer ≤ longest_chunk → output_fault so_far len ≡ None
    → output_fault so_far longer ≡ (if nat_lt longest_body (body_len so_far.chunks + longer) then Some event.TooManyBytes else None)
over_alone so_far len longer some more small is =
    let one : (len == 0) ≡ false = grind (arith, nat_tests) in
    let other : (longer == 0) ≡ false = grind (arith, nat_tests) in
    let short : nat_lt longest_chunk longer ≡ false = grind (arith, nat_tests) in
    let few : nat_le most_chunks (length so_far.chunks) ≡ false =
    few_by (len == 0) (nat_lt longest_chunk len) (nat_le most_chunks (length so_far.chunks)) (nat_lt longest_body (body_len so_far.chunks + len)) one is in
    rw (other, short, few) refl

-- chunks that end with such a chunk
chunks_with : (number : ℕ) (bytes : List ℕ) (so_far : Outputs) → 0 < length bytes
    → (with_output number bytes so_far).chunks ≡ so_far.chunks ++ record { delay = min (waited so_far) longest_delay; bytes = bytes } ∷ []
chunks_with number [] so_far some = absurd (omega arith)
chunks_with number (b ∷ bs) so_far some = refl

abbrev delay_at : Reading → ℕ → ℕ
delay_at so_far clock = min (waited (passed (moved so_far.clock clock) so_far.outputs)) longest_delay

-- what is read of the front, and of the whole
abbrev Both : Front → Front → Type 0
Both front whole = BeginWith front.read.outputs.chunks whole.read.outputs.chunks ⊎ BeginWithCut front.read.outputs.chunks whole.read.outputs.chunks

abbrev NotOver : Front → Type 0
NotOver whole = (whole.fault ≡ Some event.TooManyBytes) → ⊥

-- a record of which the front has a part
record Cut (so_far : Reading) (text more : List ℕ) : Type 0 where
  long : head_len < length text
  cut : length text < head_len + told_of text
  chunk : told_of text ≤ longest_chunk
  fault : output_fault so_far.outputs (length (data_of text)) ≡ None

cut_by : (more_text : Reading → Front) (so_far : Reading) (text more : List ℕ) (fault : Option EventFault) → Cut so_far text more
    → output_fault so_far.outputs (length (data_of (text ++ more))) ≡ fault
    → Grown (with_record so_far (text ++ more)) (more_text (with_record so_far (text ++ more)))
    → NotOver (go_on more_text so_far (text ++ more) fault)
    → BeginWithCut (with_record so_far text).outputs.chunks (go_on more_text so_far (text ++ more) fault).read.outputs.chunks
cut_by more_text so_far text more None is same grown sound =
    let long : head_len ≤ length text = omega (arith, is.long) in
    let parts = cut_data text more long is.cut in
    let kept = drop head_len text in
    let rest = take (told_of text - length kept) more in
    let some : 0 < length kept = omega (arith, length-drop head_len text, is.long) in
    let timed = passed (moved so_far.clock (clock_of text)) so_far.outputs in
    let timed_whole = passed (moved so_far.clock (clock_of (text ++ more))) so_far.outputs in
    let delay : delay_at so_far (clock_of (text ++ more)) ≡ delay_at so_far (clock_of text) = ap (delay_at so_far) (same_head text more long).clock in
    let here : (with_record so_far (text ++ more)).outputs.chunks ≡ so_far.outputs.chunks ++ record { delay = delay_at so_far (clock_of text); bytes = kept ++ rest } ∷ [] =
    ap (λ d. (with_output so_far.count d timed_whole).chunks) (parts.1)
    ∙ chunks_with so_far.count (kept ++ rest) timed_whole (omega (arith, some, length-append kept rest))
    ∙ ap (λ d. so_far.outputs.chunks ++ record { delay = d; bytes = kept ++ rest } ∷ []) delay in
    record {
      before = so_far.outputs.chunks;
      delay = delay_at so_far (clock_of text);
      kept = kept;
      rest = rest;
      more = grown.more;
      front_is = ap (λ d. (with_output so_far.count d timed).chunks) (parts.0) ∙ chunks_with so_far.count kept timed some;
      whole_is = grown.is ∙ ap (λ front. front ++ grown.more) here
          ∙ append_assoc so_far.outputs.chunks (record { delay = delay_at so_far (clock_of text); bytes = kept ++ rest } ∷ []) grown.more;
    }
cut_by more_text so_far text more (Some fault) is same grown sound =
    let long : head_len ≤ length text = omega (arith, is.long) in
    let parts = cut_data text more long is.cut in
    let kept = drop head_len text in
    let rest = take (told_of text - length kept) more in
    let all : length (data_of (text ++ more)) ≡ length kept + length rest = ap length (parts.1) ∙ length-append kept rest in
    let front : length (data_of text) ≡ length kept = ap length (parts.0) in
    let small : length (data_of (text ++ more)) ≤ longest_chunk =
    omega (arith, all, length-take (told_of text - length kept) more, is.chunk, length-drop head_len text, is.cut) in
    let alone = over_alone so_far.outputs (length (data_of text)) (length (data_of (text ++ more)))
    (omega (arith, front, length-drop head_len text, is.long)) (omega (arith, all, front)) small is.fault in
    let bytes : fault ≡ event.TooManyBytes =
    bytes_alone (nat_lt longest_body (body_len so_far.outputs.chunks + length (data_of (text ++ more)))) fault (sym alone ∙ same) in
    absurd (sound (ap (λ f. Some f) bytes))

-- where the front goes on, so does the whole
record GoesOn (so_far : Reading) (text : List ℕ) : Type 0 where
  sound : Sound (length text) (told_of text)
  fault : output_fault so_far.outputs (length (data_of text)) ≡ None

goes_on : (so_far : Reading) (text : List ℕ) → fault_at so_far text ≡ None → GoesOn so_far text
goes_on so_far text is =
    let both = neither (record_fault text) (output_fault so_far.outputs (length (data_of text))) is in
    record { sound = sound text (both.0); fault = both.1 }

still_sound : (text more : List ℕ) → Sound (length text) (told_of text) → record_fault (text ++ more) ≡ None
still_sound text more is =
    let told = (same_head text more is.head).told in
    no_fault (text ++ more) (record {
      head = omega (arith, is.head, length-append text more);
      chunk = rw told is.chunk;
      some = rw told (λ lt. omega (arith, is.some lt, length-append text more));
    })

-- the record at the front of both
at_record : (so_far : Reading) (text more : List ℕ) (front : Reading → Front) (whole : Reading → Front)
    → GoesOn so_far text
    → ((next : Reading) → length text < head_len + told_of text → front next ≡ record { read = next; fault = None; left = 0 })
    → ((next : Reading) → Grown next (whole next))
    → (told_of (text ++ more) ≡ told_of text → (next : Reading) → NotOver (whole next) → Both (front next) (whole next))
    → NotOver (go_on whole so_far (text ++ more) (fault_at so_far (text ++ more)))
    → Both (front (with_record so_far text)) (go_on whole so_far (text ++ more) (fault_at so_far (text ++ more)))
at_record so_far text more front whole is ends grown both sound = elim (cases_lt (length text) (head_len + told_of text)) [
  | inl lt ↦
      let own : fault_at so_far (text ++ more) ≡ output_fault so_far.outputs (length (data_of (text ++ more))) =
      ap (λ f. option_or f (output_fault so_far.outputs (length (data_of (text ++ more))))) (still_sound text more is.sound) in
      let cut : Cut so_far text more = record { long = is.sound.some (omega (arith, is.sound.head)); cut = lt; chunk = is.sound.chunk; fault = is.fault } in
      let begun = cut_by whole so_far text more (fault_at so_far (text ++ more)) cut (sym own) (grown (with_record so_far (text ++ more))) sound in
      inr (subst (λ (f : Front). BeginWithCut f.read.outputs.chunks (go_on whole so_far (text ++ more) (fault_at so_far (text ++ more))).read.outputs.chunks)
      (sym (ends (with_record so_far text) lt)) begun)
  | inr le ↦
      let same_bytes = same_data text more is.sound.head le in
      let none : fault_at so_far (text ++ more) ≡ None =
      ap (λ f. option_or f (output_fault so_far.outputs (length (data_of (text ++ more))))) (still_sound text more is.sound)
      ∙ ap (λ d. output_fault so_far.outputs (length d)) same_bytes ∙ is.fault in
      let same : go_on whole so_far (text ++ more) (fault_at so_far (text ++ more)) ≡ whole (with_record so_far text) =
      ap (go_on whole so_far (text ++ more)) none ∙ ap whole (same_record so_far text more is.sound.head le) in
      subst (λ (f : Front). Both (front (with_record so_far text)) f) (sym same) (both (same_head text more is.sound.head).told (with_record so_far text) (subst NotOver same sound))
]

front_by : (so_far : Reading) (text more : List ℕ) (fault : Option EventFault) (front : Reading → Front) (whole : Reading → Front) → fault_at so_far text ≡ fault
    → ((next : Reading) → length text < head_len + told_of text → front next ≡ record { read = next; fault = None; left = 0 })
    → ((next : Reading) → Grown next (whole next))
    → (told_of (text ++ more) ≡ told_of text → (next : Reading) → NotOver (whole next) → Both (front next) (whole next))
    → NotOver (go_on whole so_far (text ++ more) (fault_at so_far (text ++ more)))
    → Both (go_on front so_far text fault) (go_on whole so_far (text ++ more) (fault_at so_far (text ++ more)))
front_by so_far text more None front whole is ends grown both sound = at_record so_far text more front whole (goes_on so_far text is) ends grown both sound
front_by so_far text more (Some f) front whole is ends grown both sound =
    inl (grows_by whole so_far (text ++ more) (fault_at so_far (text ++ more)) (grown (with_record so_far (text ++ more))))

fronts : (belong : ℕ) (so_far : Reading) (text more : List ℕ) → NotOver (records belong so_far (text ++ more))
    → Both (records belong so_far text) (records belong so_far (text ++ more))
fronts belong so_far [] more sound = inl (grow belong so_far more)
fronts (suc belong) so_far (b ∷ bs) more sound = fronts belong so_far bs more sound
fronts zero so_far (b ∷ bs) more sound =
    let text = b ∷ bs in
    let belong = head_len - 1 + told_of text in
    front_by so_far text more (fault_at so_far text) (λ next. records belong next bs) (λ next. records (head_len - 1 + told_of (text ++ more)) next (bs ++ more)) refl
    (λ next lt. all_belong belong next bs (omega arith))
    (λ next. grow (head_len - 1 + told_of (text ++ more)) next (bs ++ more))
    (λ same next alone. subst (λ n. Both (records belong next bs) (records (head_len - 1 + n) next (bs ++ more))) (sym same)
    (fronts belong next bs more (subst (λ n. NotOver (records (head_len - 1 + n) next (bs ++ more))) same alone)))
    sound

pub records_begin_with_their_front : (front more : List ℕ) → RecordsBeginWithTheirFront front more
records_begin_with_their_front front more sound = fronts 0 at_first front more sound
