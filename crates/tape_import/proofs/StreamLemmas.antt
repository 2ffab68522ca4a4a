-- What is taken off a stream that lies from a place on in its text and its bytes.
use Rattle.std.proofs.Common.{◌≡◌, ℕ, ◌+◌, true, false, List, [], length, take, drop, nat_le, Some, None, refl, ap, ◌∙◌, arith, drop-drop}
use Rattle.std.proofs.lemmas.List.{drop_all, take_all}
use Rattle.tape_import.specs.TlogTiming.{Stream, bytes_taken, characters_len, text_taken}

pub text_passed : (count len at next : ℕ) (text bytes : List ℕ) → characters_len count (drop at text) ≡ Some len → at + len ≡ next
    → text_taken count (record { text = drop at text; bytes = bytes }) ≡ Some (take len (drop at text), record { text = drop next text; bytes = bytes })
text_passed count len at next text bytes is sum =
    rw is (ap (λ t. Some (take len (drop at text), record { text = t; bytes = bytes })) (drop-drop len at text ∙ ap (λ n. drop n text) sum))

pub no_text : (count : ℕ) (stream : Stream) → characters_len count stream.text ≡ None → text_taken count stream ≡ None
no_text count stream is = rw is refl

pub all_taken : (count len at : ℕ) (text bytes : List ℕ) → characters_len count (drop at text) ≡ Some len → at ≡ 0 → len ≡ length text
    → text_taken count (record { text = drop at text; bytes = bytes }) ≡ Some (text, record { text = []; bytes = bytes })
all_taken count len at text bytes is first all =
    let front : take len (drop at text) ≡ text = ap (λ n. take len (drop n text)) first ∙ take_all len text (omega arith) in
    let behind : drop len (drop at text) ≡ [] = ap (λ n. drop len (drop n text)) first ∙ drop_all len text (omega arith) in
    rw (is, front, behind) refl

pub bytes_passed : (skipped count len at next start end : ℕ) (text bytes : List ℕ) → nat_le count (length (drop start bytes)) ≡ true
    → characters_len skipped (drop at text) ≡ Some len → at + len ≡ next → start + count ≡ end
    → bytes_taken skipped count (record { text = drop at text; bytes = drop start bytes })
    ≡ Some (take count (drop start bytes), record { text = drop next text; bytes = drop end bytes })
bytes_passed skipped count len at next start end text bytes few is sum more =
    let text_behind : drop len (drop at text) ≡ drop next text = drop-drop len at text ∙ ap (λ n. drop n text) sum in
    let bytes_behind : drop count (drop start bytes) ≡ drop end bytes = drop-drop count start bytes ∙ ap (λ n. drop n bytes) more in
    rw (few, is, text_behind, bytes_behind) refl

pub few_bytes : (skipped count : ℕ) (stream : Stream) → nat_le count (length stream.bytes) ≡ false → bytes_taken skipped count stream ≡ None
few_bytes skipped count stream few = rw few refl

pub no_skipped : (skipped count : ℕ) (stream : Stream) → nat_le count (length stream.bytes) ≡ true → characters_len skipped stream.text ≡ None → bytes_taken skipped count stream ≡ None
no_skipped skipped count stream some is = rw (some, is) refl
