-- The members of a message: which one a name is of, and what they tell.
use Rattle.std.specs.Option.{option_map}
use Rattle.json_bytes.specs.Listed.{valued}
use Rattle.json_bytes.specs.Strings.{meant}
use Rattle.json_bytes.specs.Values.{string_of}
use Rattle.tape_import.specs.Asciicast.{date_of, term_of}
use Rattle.tape_import.specs.TlogMessage.{count_of, head_of, is_versioned, message_by, message_told, shown_of, stream_by, typed_of}
use Rattle.tape_import.specs.TlogTiming.{Stream}
use Rattle.tape_import.specs.declared.tlog_message.Head.{Head}
use Rattle.std.proofs.Common.{◌≡◌, ◌≢◌, Bool, true, false, List, ℕ, codes, length, nat_eq, take, Option, Some, None, if◌then◌else◌, refl, ap, sym, ◌∙◌, arith}
use Rattle.std.specs.Cmp.Lexicographic.{bytes_decides, pointwise, unequal}
use Rattle.std.specs.List.{starts_with}
use Rattle.std.proofs.lemmas.Cmp.{nat_list_eq_equiv}
use Rattle.std.proofs.lemmas.List.{take_all}
use Rattle.json_bytes.specs.Values.{Json}
use Rattle.tape_import.specs.Asciicast.{is_word}
use Rattle.tape_import.specs.KeptTlog.{Tells, field_named, with_member, word_of}
use Rattle.tape_import.specs.declared.tlog_fields.Field.{Field}
use Rattle.tape_import.specs.declared.tlog_fields.Field.TheVariants as field
use Rattle.tape_import.specs.declared.tlog_fields.Fields.{Fields}

-- a name that begins with a word of its own length is that word
pub word_begins : (name word : List ℕ) → length name ≡ length word → starts_with nat_eq name word ≡ is_word word name
word_begins name word same =
    nat_list_eq_equiv.symm word (take (length word) name) ∙ ap (λ n. pointwise nat_eq n word) (take_all (length word) name (omega arith))

pub word_longer : (name word : List ℕ) → length name ≢ length word → is_word word name ≡ false
word_longer name word other = unequal nat_eq name word other

same_field : (one wanted : Field) → Some one ≡ Some wanted → one ≡ wanted
same_field one wanted is = cc

-- a name that has a member is that member's
is_by : (test : Bool) (word name : List ℕ) (one wanted : Field) (more : Option Field) → is_word word name ≡ test → word ≡ word_of one
    → (more ≡ Some wanted → name ≡ word_of wanted) → (if test then Some one else more) ≡ Some wanted → name ≡ word_of wanted
is_by true word name one wanted more is of_one other found = (bytes_decides name word).0 is ∙ of_one ∙ ap word_of (same_field one wanted found)
is_by false word name one wanted more is of_one other found = other found

pub named_is : (name : List ℕ) (wanted : Field) → field_named name ≡ Some wanted → name ≡ word_of wanted
named_is name wanted found =
    is_by (is_word (codes "ver") name) (codes "ver") name field.Version wanted _ refl refl (λ found.
    is_by (is_word (codes "id") name) (codes "id") name field.Number wanted _ refl refl (λ found.
    is_by (is_word (codes "pos") name) (codes "pos") name field.Pos wanted _ refl refl (λ found.
    is_by (is_word (codes "rec") name) (codes "rec") name field.Recording wanted _ refl refl (λ found.
    is_by (is_word (codes "term") name) (codes "term") name field.Term wanted _ refl refl (λ found.
    is_by (is_word (codes "time") name) (codes "time") name field.Time wanted _ refl refl (λ found.
    is_by (is_word (codes "timing") name) (codes "timing") name field.Timing wanted _ refl refl (λ found.
    is_by (is_word (codes "in_txt") name) (codes "in_txt") name field.TypedText wanted _ refl refl (λ found.
    is_by (is_word (codes "in_bin") name) (codes "in_bin") name field.TypedBytes wanted _ refl refl (λ found.
    is_by (is_word (codes "out_txt") name) (codes "out_txt") name field.ShownText wanted _ refl refl (λ found.
    is_by (is_word (codes "out_bin") name) (codes "out_bin") name field.ShownBytes wanted _ refl refl (λ found.
    cc) found) found) found) found) found) found) found) found) found) found) found

-- and one that has none is no member's
not_by : (test : Bool) (one : Field) (more : Option Field) → (if test then Some one else more) ≡ None → (test ≡ false) × (more ≡ None)
not_by true one more none = cc
not_by false one more none = (refl, none)

other_told : (word name : List ℕ) (v : Json) (told : List ℕ → Option Json) → is_word word name ≡ false → with_member name v told word ≡ told word
other_told word name v told other = rw other refl

pub unnamed_tells : (name : List ℕ) (v : Json) (told : List ℕ → Option Json) (fields : Fields) → field_named name ≡ None → Tells told fields → Tells (with_member name v told) fields
unnamed_tells name v told fields none tells =
    let n0 = not_by (is_word (codes "ver") name) field.Version _ none in
    let n1 = not_by (is_word (codes "id") name) field.Number _ (n0.1) in
    let n2 = not_by (is_word (codes "pos") name) field.Pos _ (n1.1) in
    let n3 = not_by (is_word (codes "rec") name) field.Recording _ (n2.1) in
    let n4 = not_by (is_word (codes "term") name) field.Term _ (n3.1) in
    let n5 = not_by (is_word (codes "time") name) field.Time _ (n4.1) in
    let n6 = not_by (is_word (codes "timing") name) field.Timing _ (n5.1) in
    let n7 = not_by (is_word (codes "in_txt") name) field.TypedText _ (n6.1) in
    let n8 = not_by (is_word (codes "in_bin") name) field.TypedBytes _ (n7.1) in
    let n9 = not_by (is_word (codes "out_txt") name) field.ShownText _ (n8.1) in
    let n10 = not_by (is_word (codes "out_bin") name) field.ShownBytes _ (n9.1) in
    record {
      version = rw (other_told (codes "ver") name v told (n0.0)) tells.version;
      number = rw (other_told (codes "id") name v told (n1.0)) tells.number;
      pos = rw (other_told (codes "pos") name v told (n2.0)) tells.pos;
      recording = rw (other_told (codes "rec") name v told (n3.0)) tells.recording;
      term = rw (other_told (codes "term") name v told (n4.0)) tells.term;
      time = rw (other_told (codes "time") name v told (n5.0)) tells.time;
      timing = rw (other_told (codes "timing") name v told (n6.0)) tells.timing;
      typed_text = rw (other_told (codes "in_txt") name v told (n7.0)) tells.typed_text;
      typed_bytes = rw (other_told (codes "in_bin") name v told (n8.0)) tells.typed_bytes;
      shown_text = rw (other_told (codes "out_txt") name v told (n9.0)) tells.shown_text;
      shown_bytes = rw (other_told (codes "out_bin") name v told (n10.0)) tells.shown_bytes;
    }

-- the message that they tell
no_message : (versioned : Bool) (head : Option Head) (pos : Option ℕ) (timing : Option (List ℕ)) (typed : Option Stream)
    → (if versioned then message_by head pos timing typed None else None) ≡ None
no_message false head pos timing typed = refl
no_message true None pos timing typed = refl
no_message true (Some head) None timing typed = refl
no_message true (Some head) (Some pos) None typed = refl
no_message true (Some head) (Some pos) (Some timing) None = refl
no_message true (Some head) (Some pos) (Some timing) (Some typed) = refl

one_message : (versioned : Bool) (head : Option Head) (pos : Option ℕ) (timing : Option (List ℕ)) (typed shown : Option Stream)
    (h : Head) (p : ℕ) (t : List ℕ) (i o : Stream) → versioned ≡ true → head ≡ Some h → pos ≡ Some p → timing ≡ Some t → typed ≡ Some i → shown ≡ Some o
    → (if versioned then message_by head pos timing typed shown else None) ≡ Some (record { head = h; pos = p; timing = t; typed = i; shown = o })
one_message versioned head pos timing typed shown h p t i o a b c d e f = rw (a, b, c, d, e, f) refl

one_head : (number : Option ℕ) (n : ℕ) (name term : Option (List ℕ)) (date : Option ℕ) (name' term' : Option (List ℕ)) (date' : Option ℕ)
    → number ≡ Some n → name ≡ name' → term ≡ term' → date ≡ date'
    → option_map {U = Head} (λ n. record { number = n; recording = name; term = term; date = date }) number ≡ Some (record { number = n; recording = name'; term = term'; date = date' })
one_head number n name term date name' term' date' a b c d = rw (a, b, c, d) refl

both_given : (a b : Option (List ℕ)) (a' b' : Option (List ℕ)) → a ≡ a' → b ≡ b' → stream_by a b ≡ stream_by a' b'
both_given a b a' b' is same = ap (λ t. stream_by t b) is ∙ ap (stream_by a') same

pub untold : (told : List ℕ → Option Json) (fields : Fields) → Tells told fields
    → stream_by (option_map meant fields.shown.text) (option_map (λ b. b.items) fields.shown.bytes) ≡ None → message_told told ≡ None
untold told fields tells none =
    let no : shown_of told ≡ None = sym (both_given _ _ _ _ tells.shown_text tells.shown_bytes) ∙ none in
    ap (λ (o : Option Stream). if is_versioned (string_of (told (codes "ver"))) then message_by (head_of told) (count_of (told (codes "pos"))) (string_of (told (codes "timing"))) (typed_of told) o else None) no
    ∙ no_message (is_versioned (string_of (told (codes "ver")))) (head_of told) (count_of (told (codes "pos"))) (string_of (told (codes "timing"))) (typed_of told)

pub is_told : (told : List ℕ → Option Json) (fields : Fields) (n p : ℕ) (t : List ℕ) (i o : Stream) → Tells told fields
    → fields.is_versioned ≡ true → fields.number ≡ Some n → fields.pos ≡ Some p → option_map meant fields.timing ≡ Some t
    → stream_by (option_map meant fields.typed.text) (option_map (λ b. b.items) fields.typed.bytes) ≡ Some i
    → stream_by (option_map meant fields.shown.text) (option_map (λ b. b.items) fields.shown.bytes) ≡ Some o
    → message_told told ≡ Some (record {
      head = record {
        number = n;
        recording = option_map meant fields.recording;
        term = term_of (option_map (valued 63) fields.term);
        date = date_of (option_map (valued 63) fields.time);
      };
      pos = p;
      timing = t;
      typed = i;
      shown = o;
    })
is_told told fields n p t i o tells version number pos timing typed shown =
    one_message (is_versioned (string_of (told (codes "ver")))) (head_of told) (count_of (told (codes "pos"))) (string_of (told (codes "timing"))) (typed_of told) (shown_of told)
    _ p t i o (sym tells.version ∙ version)
    (one_head (count_of (told (codes "id"))) n (string_of (told (codes "rec"))) (term_of (told (codes "term"))) (date_of (told (codes "time")))
    (option_map meant fields.recording) (term_of (option_map (valued 63) fields.term)) (date_of (option_map (valued 63) fields.time))
    (sym tells.number ∙ number) (sym tells.recording) (ap term_of (sym tells.term)) (ap date_of (sym tells.time)))
    (sym tells.pos ∙ pos) (sym tells.timing ∙ timing)
    (sym (both_given _ _ _ _ tells.typed_text tells.typed_bytes) ∙ typed) (sym (both_given _ _ _ _ tells.shown_text tells.shown_bytes) ∙ shown)
