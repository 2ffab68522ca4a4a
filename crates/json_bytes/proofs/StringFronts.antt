-- What is read of a string at the front of a text is read there too where more stands behind the text.
use Rattle.std.proofs.Common.{◌≡◌, ℕ, zero, suc, ◌-◌, ◌≤◌, ◌&&◌, ◌==◌, Bool, true, false, List, [], ◌∷◌, ◌++◌, length, drop, nat_eq, nat_le, nat_lt, slice_index, Option, Some, None, if◌then◌else◌, refl, ap, sym, ◌∙◌, arith, length-append}
use Rattle.std.specs.List.{starts_with}
use Rattle.std.specs.Option.{option_map}
use Rattle.std.proofs.lemmas.Bool.{le-leb}
use Rattle.std.proofs.lemmas.Bool.Decides.{nat_tests}
use Rattle.std.proofs.lemmas.List.{drop-append-le}
use Rattle.std.proofs.lemmas.Option.{same_Some}
use Rattle.json_bytes.specs.Strings.{bytes_of, character_at, escaped, go_on, hex_at, item_at, items, joined, string_at, unit_at, with_front}
use Rattle.json_bytes.specs.declared.strings.Meaning.{Meaning}
use Rattle.json_bytes.specs.declared.strings.Meaning.TheVariants as meaning
use Rattle.json_bytes.specs.Marks.{begins}
use Rattle.json_bytes.proofs.StringLemmas.{passed_over}
use Rattle.json_bytes.proofs.FrontLemmas.{starts_more, begins_more}

-- a string: the bytes that it means, and what stands behind it
unit_by : (text more : List ℕ) → 6 ≤ length text → hex_at 2 (text ++ more) ≡ hex_at 2 text
unit_by [] more long = absurd (omega arith)
unit_by (a ∷ []) more long = absurd (omega arith)
unit_by (a ∷ b ∷ []) more long = absurd (omega arith)
unit_by (a ∷ b ∷ c ∷ []) more long = absurd (omega arith)
unit_by (a ∷ b ∷ c ∷ d ∷ []) more long = absurd (omega arith)
unit_by (a ∷ b ∷ c ∷ d ∷ e ∷ []) more long = absurd (omega arith)
unit_by (a ∷ b ∷ c ∷ d ∷ e ∷ f ∷ rest) more long = refl

abbrev unit_in : Bool → List ℕ → Option ℕ
unit_in told text = if told then hex_at 2 text else None

long_then : (long : Bool) (text : List ℕ) (unit : ℕ) → nat_le 6 (length text) ≡ long → unit_in (true && long) text ≡ Some unit → (true ≡ true) × (6 ≤ length text)
long_then true text unit is found = (refl, grind (arith, nat_tests))
long_then false text unit is found = cc

long_by : (begins_so : Bool) (text : List ℕ) (unit : ℕ) → unit_in (begins_so && nat_le 6 (length text)) text ≡ Some unit → (begins_so ≡ true) × (6 ≤ length text)
long_by true text unit is = long_then (nat_le 6 (length text)) text unit refl is
long_by false text unit is = cc

unit_long : (text : List ℕ) (unit : ℕ) → unit_at text ≡ Some unit → (starts_with nat_eq text (92 ∷ 117 ∷ []) ≡ true) × (6 ≤ length text)
unit_long text unit is = long_by (starts_with nat_eq text (92 ∷ 117 ∷ [])) text unit is

unit_more : (text more : List ℕ) → 6 ≤ length text → unit_at (text ++ more) ≡ unit_at text
unit_more text more long =
    let one : nat_le 6 (length (text ++ more)) ≡ true = le-leb 6 (length (text ++ more)) (omega (arith, length-append text more)) in
    let other : nat_le 6 (length text) ≡ true = le-leb 6 (length text) long in
    ap (λ b. unit_in (b && nat_le 6 (length (text ++ more))) (text ++ more)) (starts_more (92 ∷ 117 ∷ []) text more (omega arith))
    ∙ ap (λ b. unit_in (starts_with nat_eq text (92 ∷ 117 ∷ []) && b) (text ++ more)) (one ∙ sym other)
    ∙ ap (λ (u : Option ℕ). if starts_with nat_eq text (92 ∷ 117 ∷ []) && nat_le 6 (length text) then u else None) (unit_by text more long)

-- a unit begins nowhere in what is read as a string behind another, unless it is all there
abbrev Text : Type 0
Text = Option (List ℕ × List ℕ)

no_text : (belong : ℕ → Text) (item : Option (Meaning × ℕ)) (read : List ℕ × List ℕ) → item ≡ None → go_on belong item ≡ Some read → ⊥
no_text belong item read none is = let no : None ≡ Some read = sym (ap (go_on belong) none) ∙ is in cc

no_unit_by : (begins_so long : Bool) (text : List ℕ) → begins_so ≡ false → unit_in (begins_so && long) text ≡ None
no_unit_by begins_so long text is = rw is refl

-- an item by what begins it
abbrev plain_or : ℕ → ℕ → Option (Meaning × ℕ)
plain_or first next =
    if first == 92 then option_map (λ b. (meaning.Byte b, 2)) (escaped next) else if nat_lt first 32 then None else Some (meaning.Byte first, 1)

abbrev item_in : Bool → List ℕ → Option (Meaning × ℕ)
item_in unit text = if unit then character_at text else plain_or (slice_index text 0) (slice_index text 1)

item_by_unit : (text : List ℕ) → starts_with nat_eq text (92 ∷ 117 ∷ []) ≡ true → unit_at text ≡ None → item_at text ≡ None
item_by_unit text is none = ap (λ u. item_in u text) is ∙ ap (λ u. option_map (λ first. joined first (unit_at (drop 6 text))) u) none

not_quote : (b : ℕ) (bs : List ℕ) → starts_with nat_eq (b ∷ bs) (92 ∷ 117 ∷ []) ≡ true → nat_eq b 34 ≡ false
not_quote b [] is = grind (arith, nat_tests)
not_quote b (c ∷ cs) is = grind (arith, nat_tests)

second_by : (b c : ℕ) (cs more : List ℕ) (read : List ℕ × List ℕ) (begins_so : Bool) → starts_with nat_eq (b ∷ c ∷ cs) (92 ∷ 117 ∷ []) ≡ begins_so
    → unit_at (b ∷ c ∷ cs) ≡ None → items 0 (b ∷ c ∷ cs) ≡ Some read → unit_at ((b ∷ c ∷ cs) ++ more) ≡ None
second_by b c cs more read true is none text =
    let other = not_quote b (c ∷ cs) is in
    let goes : items 0 (b ∷ c ∷ cs) ≡ go_on (λ belong. items belong (c ∷ cs)) (item_at (b ∷ c ∷ cs)) = rw other refl in
    absurd (no_text (λ belong. items belong (c ∷ cs)) (item_at (b ∷ c ∷ cs)) read (item_by_unit (b ∷ c ∷ cs) is none) (sym goes ∙ text))
second_by b c cs more read false is none text =
    no_unit_by (starts_with nat_eq ((b ∷ c ∷ cs) ++ more) (92 ∷ 117 ∷ [])) (nat_le 6 (length ((b ∷ c ∷ cs) ++ more))) ((b ∷ c ∷ cs) ++ more)
    (starts_more (92 ∷ 117 ∷ []) (b ∷ c ∷ cs) more (omega arith) ∙ is)

-- one byte alone is a string's end or none
begins_other : (b : ℕ) (more : List ℕ) → nat_eq b 34 ≡ true → starts_with nat_eq (b ∷ more) (92 ∷ 117 ∷ []) ≡ false
begins_other b more is = let same : b ≡ 34 = grind (arith, nat_tests) in rw same refl

ends_at_once : (item : Option (Meaning × ℕ)) → go_on (λ belong. items belong []) item ≡ None
ends_at_once None = refl
ends_at_once (Some item) = refl

alone_by : (b : ℕ) (more : List ℕ) (read : List ℕ × List ℕ) (quote : Bool) → nat_eq b 34 ≡ quote → items 0 (b ∷ []) ≡ Some read → starts_with nat_eq (b ∷ more) (92 ∷ 117 ∷ []) ≡ false
alone_by b more read true is text = begins_other b more is
alone_by b more read false is text =
    let goes : items 0 (b ∷ []) ≡ go_on (λ belong. items belong []) (item_at (b ∷ [])) = rw is refl in
    let no : None ≡ Some read = sym (goes ∙ ends_at_once (item_at (b ∷ []))) ∙ text in cc

second_none : (text more : List ℕ) (read : List ℕ × List ℕ) → unit_at text ≡ None → items 0 text ≡ Some read → unit_at (text ++ more) ≡ None
second_none [] more read none is = cc
second_none (b ∷ []) more read none is = no_unit_by (starts_with nat_eq (b ∷ more) (92 ∷ 117 ∷ [])) (nat_le 6 (length (b ∷ more))) (b ∷ more) (alone_by b more read (nat_eq b 34) refl is)
second_none (b ∷ c ∷ cs) more read none is = second_by b c cs more read (starts_with nat_eq (b ∷ c ∷ cs) (92 ∷ 117 ∷ [])) refl none is

second_more : (text more : List ℕ) (read : List ℕ × List ℕ) (unit : Option ℕ) → unit_at text ≡ unit → (unit ≡ None → items 0 text ≡ Some read) → unit_at (text ++ more) ≡ unit_at text
second_more text more read None is goes = second_none text more read is (goes refl) ∙ sym is
second_more text more read (Some unit) is goes = unit_more text more (unit_long text unit is).1

-- a character by its units
six_long : (text : List ℕ) (unit : Option ℕ) (item : Meaning × ℕ) → unit_at text ≡ unit → option_map (λ first. joined first (unit_at (drop 6 text))) unit ≡ Some item → 6 ≤ length text
six_long text None item is found = cc
six_long text (Some unit) item is found = (unit_long text unit is).1

six_bytes : (unit second : Option ℕ) (item : Meaning × ℕ) → option_map (λ first. joined first second) unit ≡ Some item → second ≡ None → item.1 ≡ 6
six_bytes None second item is none = cc
six_bytes (Some first) second item is none =
    let one : joined first second ≡ item = same_Some (joined first second) item is in
    ap (λ (i : Meaning × ℕ). i.1) (sym one ∙ ap (joined first) none)

character_more : (b : ℕ) (bs more : List ℕ) (item : Meaning × ℕ) (read : List ℕ × List ℕ) → character_at (b ∷ bs) ≡ Some item → items (item.1 - 1) bs ≡ Some read
    → character_at ((b ∷ bs) ++ more) ≡ Some item
character_more b bs more item read is goes =
    let text = b ∷ bs in
    let behind = drop 6 text in
    let long : 6 ≤ length text = six_long text (unit_at text) item refl is in
    let text_behind : unit_at behind ≡ None → items 0 behind ≡ Some read = λ none.
    let six : item.1 ≡ 6 = six_bytes (unit_at text) (unit_at behind) item is none in
    sym (passed_over 5 bs) ∙ ap (λ n. items (n - 1) bs) (sym six) ∙ goes in
    ap (λ u. option_map (λ first. joined first (unit_at (drop 6 (text ++ more)))) u) (unit_more text more long)
    ∙ ap (λ t. option_map (λ first. joined first (unit_at t)) (unit_at text)) (drop-append-le 6 text more long)
    ∙ ap (λ u. option_map (λ first. joined first u) (unit_at text)) (second_more behind more read (unit_at behind) refl text_behind) ∙ is

-- an item
plain_same : (first next other : ℕ) → (first == 92) ≡ false → plain_or first next ≡ plain_or first other
plain_same first next other is = rw is refl

no_backslash : (first : ℕ) (item : Meaning × ℕ) (backslash : Bool) → (first == 92) ≡ backslash → plain_or first 0 ≡ Some item → (first == 92) ≡ false
no_backslash first item true is found =
    let none : plain_or first 0 ≡ None = rw is refl in
    let no : None ≡ Some item = sym none ∙ found in cc
no_backslash first item false is found = is

other_begins : (b : ℕ) (more : List ℕ) → (b == 92) ≡ false → starts_with nat_eq (b ∷ more) (92 ∷ 117 ∷ []) ≡ false
other_begins b more is = let no : nat_eq 92 b ≡ false = grind (arith, nat_tests) in rw no refl

lone_more : (b : ℕ) (more : List ℕ) (item : Meaning × ℕ) → plain_or b 0 ≡ Some item → item_at (b ∷ more) ≡ Some item
lone_more b more item is =
    let no = no_backslash b item (b == 92) refl is in
    ap (λ u. item_in u (b ∷ more)) (other_begins b more no) ∙ plain_same b (slice_index more 0) 0 no ∙ is

item_by : (b c : ℕ) (cs more : List ℕ) (item : Meaning × ℕ) (read : List ℕ × List ℕ) (unit : Bool) → starts_with nat_eq (b ∷ c ∷ cs) (92 ∷ 117 ∷ []) ≡ unit
    → item_in unit (b ∷ c ∷ cs) ≡ Some item → items (item.1 - 1) (c ∷ cs) ≡ Some read → item_in unit ((b ∷ c ∷ cs) ++ more) ≡ Some item
item_by b c cs more item read true is found goes = character_more b (c ∷ cs) more item read found goes
item_by b c cs more item read false is found goes = found

item_more : (b : ℕ) (bs more : List ℕ) (item : Meaning × ℕ) (read : List ℕ × List ℕ) → item_at (b ∷ bs) ≡ Some item → items (item.1 - 1) bs ≡ Some read
    → item_at ((b ∷ bs) ++ more) ≡ Some item
item_more b [] more item read found goes = let no : None ≡ Some read = goes in cc
item_more b (c ∷ cs) more item read found goes =
    ap (λ u. item_in u ((b ∷ c ∷ cs) ++ more)) (starts_more (92 ∷ 117 ∷ []) (b ∷ c ∷ cs) more (omega arith))
    ∙ item_by b c cs more item read (starts_with nat_eq (b ∷ c ∷ cs) (92 ∷ 117 ∷ [])) refl found goes

-- all of them
front_parts : (front : List ℕ) (text : Text) (read : List ℕ × List ℕ) → with_front front text ≡ Some read → (r : List ℕ × List ℕ) × ((text ≡ Some r) × (◌≡◌ {A = List ℕ × List ℕ} (front ++ r.0, r.1) read))
front_parts front None read is = cc
front_parts front (Some r) read is = (r, (refl, same_Some {A = List ℕ × List ℕ} (front ++ r.0, r.1) read is))

abbrev More : ℕ → List ℕ → List ℕ → Type 0
More belong text more = (read : List ℕ × List ℕ) → items belong text ≡ Some read → items belong (text ++ more) ≡ Some (read.0, read.1 ++ more)

go_by : (b : ℕ) (bs more : List ℕ) (item : Option (Meaning × ℕ)) → item_at (b ∷ bs) ≡ item → ((belong : ℕ) → More belong bs more)
    → (read : List ℕ × List ℕ) → go_on (λ belong. items belong bs) item ≡ Some read
    → go_on (λ belong. items belong (bs ++ more)) (item_at ((b ∷ bs) ++ more)) ≡ Some (read.0, read.1 ++ more)
go_by b bs more None is later read found = cc
go_by b bs more (Some item) is later read found =
    let parts = front_parts (bytes_of item.0) (items (item.1 - 1) bs) read found in
    let r = parts.0 in
    let here = item_more b bs more item r is (parts.1.0) in
    ap (go_on (λ belong. items belong (bs ++ more))) here
    ∙ ap (with_front (bytes_of item.0)) (later (item.1 - 1) r (parts.1.0))
    ∙ ap (λ (p : List ℕ × List ℕ). Some (p.0, p.1 ++ more)) (parts.1.1)

byte_by : (b : ℕ) (bs more : List ℕ) (quote : Bool) → nat_eq b 34 ≡ quote → ((belong : ℕ) → More belong bs more) → More 0 (b ∷ bs) more
byte_by b bs more true is later read found =
    let front : ◌≡◌ {A = Text} (items 0 (b ∷ bs)) (Some ([], bs)) = rw is refl in
    let whole : ◌≡◌ {A = Text} (items 0 (b ∷ (bs ++ more))) (Some ([], bs ++ more)) = rw is refl in
    let same = same_Some {A = List ℕ × List ℕ} ([], bs) read (sym front ∙ found) in
    whole ∙ ap (λ (p : List ℕ × List ℕ). Some (p.0, p.1 ++ more)) same
byte_by b bs more false is later read found =
    let front : items 0 (b ∷ bs) ≡ go_on (λ belong. items belong bs) (item_at (b ∷ bs)) = rw is refl in
    let whole : items 0 (b ∷ (bs ++ more)) ≡ go_on (λ belong. items belong (bs ++ more)) (item_at (b ∷ (bs ++ more))) = rw is refl in
    whole ∙ go_by b bs more (item_at (b ∷ bs)) refl later read (sym front ∙ found)

items_more : (belong : ℕ) (text more : List ℕ) → More belong text more
items_more belong [] more read is = cc
items_more (suc belong) (b ∷ bs) more read is = items_more belong bs more read is
items_more zero (b ∷ bs) more read is = byte_by b bs more (nat_eq b 34) refl (λ belong. items_more belong bs more) read is

string_by : (quote : Bool) (text more : List ℕ) (read : List ℕ × List ℕ) → (if quote then items 0 text else None) ≡ Some read
    → (if quote then items 0 (text ++ more) else None) ≡ Some (read.0, read.1 ++ more)
string_by true text more read is = items_more 0 text more read is
string_by false text more read is = cc

pub string_more : (text more : List ℕ) (read : List ℕ × List ℕ) → string_at text ≡ Some read → string_at (text ++ more) ≡ Some (read.0, read.1 ++ more)
string_more [] more read is = cc
string_more (b ∷ bs) more read is =
    ap (λ q. if q then items 0 (bs ++ more) else None) (begins_more 34 (b ∷ bs) more (omega arith)) ∙ string_by (begins 34 (b ∷ bs)) bs more read is
