-- The items of a timing and the messages of a recording, one after another.
use Rattle.std.proofs.Common.{All, IfSome, append-nil, false, nat_eq, subst, ◌≡◌, ℕ, zero, suc, ◌+◌, ◌-◌, ◌<◌, ◌≤◌, ◌&&◌, Bool, fold, max, min, nat_le, nat_lt, if◌then◌else◌, true, false, List, [], ◌∷◌, ◌++◌, length, take, drop, get_or, Option, Some, None, refl, ap, sym, ◌∙◌, arith, unwrap_or}
use Rattle.std.specs.List.{prefix_len}
use Rattle.std.specs.Option.{option_map}
use Rattle.std.specs.Char.{is_ascii_digit}
use Rattle.std.specs.List.{list_all}
use Rattle.std.specs.Str.Parse.{AllDigits, digits_value}
use Rattle.std.proofs.Math.Seq.{drop-cons}
use Rattle.std.proofs.lemmas.Bool.{le-leb, lt-leb, lt-ltb}
use Rattle.std.proofs.lemmas.Bool.Decides.{nat_tests}
use Rattle.std.proofs.lemmas.List.{take_all}
use Rattle.std.proofs.lemmas.List.Sums.{list_all-from_AllPass}
use Rattle.std.proofs.lemmas.List.Elements.{All-append, All-cons, All-nil}
use Rattle.std.proofs.lemmas.Str.{digit_value_digit}
use Rattle.std.proofs.lemmas.Str.Parse.{IsNumeralModel, digits_value_short}
use Rattle.std.specs.Char.{digit_value}
use Rattle.tape_core.specs.Seconds.{last_moment}
use Rattle.tape_core.specs.Text as digits
use Rattle.tape_import.specs.TlogMessage.{short_number}
use Rattle.json_bytes.specs.Arrays.{bytes_of}
use Rattle.json_bytes.specs.Listed.{standing}
use Rattle.json_bytes.specs.Numbers.{IsCounted}
use Rattle.json_bytes.specs.Values.{Json, found, null, number_of, string_of, value}
use Rattle.tape_import.specs.Asciicast.{left_from, what_fault}
use Rattle.tape_import.specs.KeptCast.{IsSized}
use Rattle.tape_import.specs.KeptTlog.{continued_len, event_taken, events_at}
use Rattle.tape_import.specs.Tlog.{Taken, messages, on_line, take_on, with_events, with_line}
use Rattle.tape_import.specs.TlogTiming.{Progress, Step, Story, characters_len, go_on, goes_on, items, step_at, with_event}
use Rattle.tape_import.specs.declared.asciicast.Cast.{Cast}
use Rattle.tape_import.specs.declared.event.Event.{Event}
use Rattle.tape_import.specs.declared.event.What.{What}
use Rattle.tape_import.specs.declared.fault.EventFault.{EventFault}
use Rattle.tape_import.specs.declared.tlog.Log.{Log}

-- what stands behind the front of a text that has one
pub behind_front : (text : List ℕ) → 0 < length text → text ≡ get_or text 0 0 ∷ take (length text - 1) (drop 1 text)
behind_front [] some = absurd (omega arith)
behind_front (b ∷ bs) some = let len : length (b ∷ bs) - 1 ≡ length bs = omega arith in ap (λ n. b ∷ n) (sym (ap (λ n. take n bs) len ∙ take_all (length bs) bs (omega arith)))

-- one byte more of the characters
added : (n k : ℕ) (o : Option ℕ) → option_map (λ len. n + len) (option_map (λ len. k + len) o) ≡ option_map (λ len. n + k + len) o
added n k None = refl
added n k (Some len) = let same : n + (k + len) ≡ n + k + len = omega arith in ap Some same

no_more : (o : Option ℕ) → option_map (λ len. 0 + len) o ≡ o
no_more None = refl
no_more (Some len) = let same : 0 + len ≡ len = omega arith in ap Some same

character_begins : (count : ℕ) (b : ℕ) (bs : List ℕ) → characters_len (suc count) (b ∷ bs) ≡ option_map (λ len. 1 + len) (continued_len count bs)
character_begins count b bs = sym (added 1 (prefix_len goes_on bs) (characters_len count (drop (prefix_len goes_on bs) bs)))

byte_goes_on : (count : ℕ) (b : ℕ) (bs : List ℕ) → goes_on b ≡ true → continued_len count (b ∷ bs) ≡ option_map (λ len. 1 + len) (continued_len count bs)
byte_goes_on count b bs is =
    let len : prefix_len goes_on (b ∷ bs) ≡ suc (prefix_len goes_on bs) = rw (is, prefix_len) (omega arith) in
    let one : 1 + prefix_len goes_on bs ≡ suc (prefix_len goes_on bs) = omega arith in
    let rest = characters_len count (drop (prefix_len goes_on bs) bs) in
    ap (λ n. option_map (λ k. n + k) (characters_len count (drop n (b ∷ bs)))) len
    ∙ ap (λ n. option_map (λ k. n + k) rest) (sym one) ∙ sym (added 1 (prefix_len goes_on bs) rest)

byte_begins : (count : ℕ) (b : ℕ) (bs : List ℕ) → goes_on b ≡ false → continued_len count (b ∷ bs) ≡ characters_len count (b ∷ bs)
byte_begins count b bs is =
    let len : prefix_len goes_on (b ∷ bs) ≡ 0 = rw (is, prefix_len) refl in
    ap (λ n. option_map (λ k. n + k) (characters_len count (drop n (b ∷ bs)))) len ∙ no_more (characters_len count (b ∷ bs))

one_begins : (count : ℕ) (b : ℕ) (bs : List ℕ) → goes_on b ≡ false → 0 < count → continued_len count (b ∷ bs) ≡ option_map (λ len. 1 + len) (continued_len (count - 1) bs)
one_begins count b bs is some =
    let step : count ≡ suc (count - 1) = omega arith in
    byte_begins count b bs is ∙ ap (λ n. characters_len n (b ∷ bs)) step ∙ character_begins (count - 1) b bs

-- so at a place
cut_at : (at : ℕ) (text : List ℕ) → at < length text → drop at text ≡ get_or text at 0 ∷ drop (at + 1) text
cut_at at text lt = let next : suc at ≡ at + 1 = omega arith in drop-cons text at 0 lt ∙ ap (λ n. get_or text at 0 ∷ drop n text) next

pub goes_on_at : (len count at : ℕ) (text : List ℕ) → at < length text → goes_on (get_or text at 0) ≡ true
    → option_map (λ k. len + k) (continued_len count (drop at text)) ≡ option_map (λ k. len + 1 + k) (continued_len count (drop (at + 1) text))
goes_on_at len count at text lt is =
    ap (λ t. option_map (λ k. len + k) (continued_len count t)) (cut_at at text lt)
    ∙ ap (option_map (λ k. len + k)) (byte_goes_on count (get_or text at 0) (drop (at + 1) text) is) ∙ added len 1 (continued_len count (drop (at + 1) text))

pub begins_at : (len count at : ℕ) (text : List ℕ) → at < length text → goes_on (get_or text at 0) ≡ false → 0 < count
    → option_map (λ k. len + k) (continued_len count (drop at text)) ≡ option_map (λ k. len + 1 + k) (continued_len (count - 1) (drop (at + 1) text))
begins_at len count at text lt is some =
    ap (λ t. option_map (λ k. len + k) (continued_len count t)) (cut_at at text lt)
    ∙ ap (option_map (λ k. len + k)) (one_begins count (get_or text at 0) (drop (at + 1) text) is some) ∙ added len 1 (continued_len (count - 1) (drop (at + 1) text))

pub none_left : (len count : ℕ) (text : List ℕ) → 0 < count → length text ≡ 0 → option_map (λ k. len + k) (continued_len count text) ≡ None
none_left len zero text some end = absurd (omega arith)
none_left len (suc count) [] some end = refl
none_left len (suc count) (b ∷ bs) some end = absurd (omega arith)

-- bytes below 128 are as many characters, where no byte behind them goes on with the last one
small_first : (most : ℕ) (bytes : List ℕ) → most ≤ fold max most bytes
small_first most [] = omega arith
small_first most (b ∷ bs) = omega (arith, small_first (max most b) bs)

stands_alone : (b : ℕ) (bs : List ℕ) → goes_on b ≡ false → prefix_len goes_on (b ∷ bs) ≡ 0
stands_alone b bs is = rw (is, prefix_len) refl

pub first_alone : (text : List ℕ) → 0 < length text → goes_on (get_or text 0 0) ≡ false → prefix_len goes_on text ≡ 0
first_alone [] some is = absurd (omega arith)
first_alone (b ∷ bs) some is = stands_alone b bs is

pub none_alone : (text : List ℕ) → length text ≡ 0 → prefix_len goes_on text ≡ 0
none_alone [] none = refl
none_alone (b ∷ bs) none = absurd (omega arith)

next_alone : (most count : ℕ) (text : List ℕ) → fold max most (take count text) < 128 → count ≤ length text → prefix_len goes_on (drop count text) ≡ 0
    → prefix_len goes_on text ≡ 0
next_alone most zero text small within ends = ends
next_alone most (suc count) [] small within ends = refl
next_alone most (suc count) (b ∷ bs) small within ends =
    let low : b < 128 = omega (arith, small, small_first (max most b) (take count bs)) in
    let alone : goes_on b ≡ false = grind (arith, nat_tests) in
    stands_alone b bs alone

pub ascii_characters : (most count : ℕ) (text : List ℕ) → fold max most (take count text) < 128 → count ≤ length text → prefix_len goes_on (drop count text) ≡ 0
    → characters_len count text ≡ Some count
ascii_characters most zero text small within ends = refl
ascii_characters most (suc count) [] small within ends = absurd (omega arith)
ascii_characters most (suc count) (b ∷ bs) small within ends =
    let within_rest : count ≤ length bs = omega arith in
    let none = next_alone (max most b) count bs small within_rest ends in
    let same : 1 + 0 + count ≡ suc count = omega arith in
    ap (λ m. option_map (λ len. 1 + m + len) (characters_len count (drop m bs))) none
    ∙ ap (option_map (λ len. 1 + 0 + len)) (ascii_characters (max most b) count bs small within_rest ends) ∙ ap Some same

pub are_characters : (count : ℕ) (text front rest : List ℕ) → front ≡ take count text → rest ≡ drop count text → count ≤ length text → fold max 0 front < 128
    → prefix_len goes_on rest ≡ 0 → characters_len count text ≡ Some count
are_characters count text front rest is behind within small ends =
    ascii_characters 0 count text (rw (← is) small) within (ap (prefix_len goes_on) (sym behind) ∙ ends)

-- one item more
pub item_more : (most count : ℕ) (so_far : Progress) (rest : List ℕ) → count < most → 0 < length rest
    → items (most - count) so_far rest ≡ go_on (items (most - (count + 1))) (step_at so_far (get_or rest 0 0) (take (length rest - 1) (drop 1 rest)))
item_more most count so_far rest lt some =
    let step : most - count ≡ suc (most - (count + 1)) = omega arith in
    ap (λ n. items n so_far rest) step ∙ ap (items (suc (most - (count + 1))) so_far) (behind_front rest some)

items_end : (most : ℕ) (so_far : Progress) → items most so_far [] ≡ record { events = []; whole = true }
items_end zero so_far = refl
items_end (suc most) so_far = refl

pub item_none : (most : ℕ) (so_far : Progress) (rest : List ℕ) → length rest ≡ 0 → items most so_far rest ≡ record { events = []; whole = true }
item_none most so_far [] none = items_end most so_far
item_none most so_far (b ∷ bs) none = absurd (omega arith)

-- what is told at a moment stands before what the items behind it tell
pub event_added : (time : ℕ) (what : Option What) (so_far : Progress) (story : Story) → so_far.moment ≡ time
    → (with_event (record { what = what; behind = so_far }) what story).events ≡ events_at time what ++ story.events
event_added time None so_far story is = refl
event_added time (Some found) so_far story is = ap (λ t. record { time = t; what = found } ∷ story.events) is

pub same_whole : (step : Step) (what : Option What) (story : Story) → (with_event step what story).whole ≡ story.whole
same_whole step None story = refl
same_whole step (Some found) story = refl

-- no item is left
pub ends_whole : (most : ℕ) (so_far : Progress) (rest : List ℕ) → most ≡ 0 → (items most so_far rest).whole ≡ nat_eq (length rest) 0
ends_whole zero so_far [] none = refl
ends_whole zero so_far (b ∷ bs) none = grind (arith, nat_tests)
ends_whole (suc most) so_far rest none = absurd (omega arith)

pub no_events : (most : ℕ) (so_far : Progress) (rest : List ℕ) → most ≡ 0 → (items most so_far rest).events ≡ []
no_events zero so_far [] none = refl
no_events zero so_far (b ∷ bs) none = refl
no_events (suc most) so_far rest none = absurd (omega arith)

-- the sizes that events tell can be told
pub sized_more : (events : List Event) (time : ℕ) (what : Option What) → All (λ e. IsSized e.what) events → IfSome what IsSized
    → All (λ e. IsSized e.what) (events ++ events_at time what)
sized_more events time None all one = subst (λ (es : List Event). All (λ e. IsSized e.what) es) (sym (append-nil events)) all
sized_more events time (Some found) all one =
    let Sized : Event → Type 0 = λ e. IsSized e.what in
    let here : Event = record { time = time; what = found } in
    All-append Sized events (here ∷ []) all (All-cons Sized here [] one (All-nil Sized))

-- what is taken of an event, and of those behind it
abbrev alone : Cast → Taken
alone next = record { cast = next; fault = None }

on_by : (more : Cast → Taken) (so_far next : Cast) (found : Event) (fault : Option EventFault) → take_on alone so_far found fault ≡ alone next → take_on more so_far found fault ≡ more next
on_by more so_far next found None is = ap more (ap (λ (t : Taken). t.cast) is)
on_by more so_far next found (Some f) is = let no : Some f ≡ None = ap (λ (t : Taken). t.fault) is in cc

ends_by : (more : Cast → Taken) (so_far next : Cast) (found : Event) (fault : Option EventFault) (f : EventFault) → take_on alone so_far found fault ≡ record { cast = next; fault = Some f }
    → take_on more so_far found fault ≡ record { cast = next; fault = Some f }
ends_by more so_far next found None f is = let no : None ≡ Some f = ap (λ (t : Taken). t.fault) is in cc
ends_by more so_far next found (Some g) f is = is

pub event_goes_on : (found : Event) (more : List Event) (so_far next : Cast) → event_taken found so_far ≡ record { cast = next; fault = None }
    → with_events (found ∷ more) so_far ≡ with_events more next
event_goes_on found more so_far next is = on_by (with_events more) so_far next found (what_fault found.what so_far.outputs) is

pub event_ends : (found : Event) (more : List Event) (so_far next : Cast) (f : EventFault) → event_taken found so_far ≡ record { cast = next; fault = Some f }
    → with_events (found ∷ more) so_far ≡ record { cast = next; fault = Some f }
event_ends found more so_far next f is = ends_by (with_events more) so_far next found (what_fault found.what so_far.outputs) f is

-- one line more
pub line_taken : (number : ℕ) (log next : Log) (line : List ℕ) (more : List (List ℕ)) → with_line (on_line (number + 1) log) line ≡ record { log = next; fault = None }
    → messages number log (line ∷ more) ≡ messages (number + 1) next more
line_taken number log next line more is = rw is refl

pub line_ends : (number : ℕ) (log next : Log) (line : List ℕ) (more : List (List ℕ)) (fault : EventFault) → with_line (on_line (number + 1) log) line ≡ record { log = next; fault = Some fault }
    → messages number log (line ∷ more) ≡ record { log = next; left = Some (left_from (number + 1) (length (line ∷ more)) fault) }
line_ends number log next line more fault is = rw is refl

-- a value that stands in a text, by its place
string_by : (v : Option Json) → string_of (Some (unwrap_or v null)) ≡ string_of v
string_by None = refl
string_by (Some v) = refl

number_by : (v : Option Json) → number_of (Some (unwrap_or v null)) ≡ number_of v
number_by None = refl
number_by (Some v) = refl

bytes_by : (v : Option Json) → bytes_of (Some (unwrap_or v null)) ≡ bytes_of v
bytes_by None = refl
bytes_by (Some v) = refl

pub string_stands : (depth : ℕ) (text : List ℕ) → string_of (Some (standing depth text)) ≡ string_of (found (value depth text))
string_stands depth text = string_by (found (value depth text))

pub number_stands : (depth : ℕ) (text : List ℕ) → number_of (Some (standing depth text)) ≡ number_of (found (value depth text))
number_stands depth text = number_by (found (value depth text))

pub bytes_stand : (depth : ℕ) (text : List ℕ) → bytes_of (Some (standing depth text)) ≡ bytes_of (found (value depth text))
bytes_stand depth text = bytes_by (found (value depth text))

-- members that are told alike are told by one function
pub same_told : (f g : List ℕ → Option Json) → ((name : List ℕ) → f name ≡ g name) → f ≡ g
same_told f g is = λ i x. is x i

-- a number of few digits
both : (a b : Bool) → (a && b) ≡ true → (a ≡ true) × (b ≡ true)
both true true is = (refl, refl)
both true false is = cc
both false b is = cc

digit_below : (c : ℕ) → is_ascii_digit c ≡ true → digit_value c < 10
digit_below c is =
    let range : (48 ≤ c) × (c ≤ 57) = grind (arith, nat_tests) in
    omega (arith, digit_value_digit c range)

all_digits : (text : List ℕ) → list_all is_ascii_digit text ≡ true → AllDigits 10 text
all_digits [] is = tt
all_digits (c ∷ cs) is = let parts = both (is_ascii_digit c) (list_all is_ascii_digit cs) is in (digit_below c parts.0, all_digits cs parts.1)

short_by : (text : List ℕ) (digits : Bool) → (nat_lt 0 (length text) && list_all is_ascii_digit text) ≡ digits → length text ≤ 18
    → option_map (λ n. min n last_moment) (if digits then Some (digits_value 10 text) else None) ≡ (if digits then Some (digits_value 10 text) else None)
short_by text false is few = refl
short_by text true is few =
    let own : IsNumeralModel (AllDigits 10) (digits_value 10) = record { to = λ ds h. h; from = λ ds h. h; same = λ ds h. refl } in
    let small : digits_value 10 text < last_moment = digits_value_short own text 18 (all_digits text (both (nat_lt 0 (length text)) (list_all is_ascii_digit text) is).1) few in
    let same : min (digits_value 10 text) last_moment ≡ digits_value 10 text = omega arith in
    ap Some same

short_is : (text : List ℕ) → length text ≤ 18 → option_map (λ n. min n last_moment) (digits.number_of text) ≡ short_number text
short_is text few =
    let le : nat_le (length text) 18 ≡ true = le-leb (length text) 18 few in
    rw le (short_by text (nat_lt 0 (length text) && list_all is_ascii_digit text) refl few)

-- digits that were counted
pub counted_short : (text : List ℕ) (count len : ℕ) → IsCounted text count len → len ≤ 18 → Some count ≡ short_number text
counted_short text count len counted few =
    let some : nat_lt 0 (length text) ≡ true = lt-ltb 0 (length text) counted.some in
    let all : list_all is_ascii_digit text ≡ true = list_all-from_AllPass is_ascii_digit text counted.all in
    let value : count ≡ min (digits_value 10 text) last_moment = omega (arith, counted.number) in
    let number : digits.number_of text ≡ Some (digits_value 10 text) = rw (some, all) refl in
    ap Some value ∙ ap (option_map (λ n. min n last_moment)) (sym number) ∙ short_is text (omega (arith, counted.whole))

pub counted_long : (text : List ℕ) (count len : ℕ) → IsCounted text count len → 18 < len → None ≡ short_number text
counted_long text count len counted many =
    let more : nat_le (length text) 18 ≡ false = lt-leb (length text) 18 (omega (arith, counted.whole)) in
    rw more refl
