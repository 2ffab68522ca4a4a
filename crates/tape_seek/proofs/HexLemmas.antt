-- When hexadecimal digits are bytes, and bytes that are written in hexadecimal one piece after another.
use Rattle.std.proofs.Common.{◌≡◌, ◌≢◌, ℕ, ◌%◌, ◌<◌, Bool, true, false, cond, nat_lt, is_some, IsSomeAnd, List, [], ◌∷◌, ◌++◌, length, get_or, codes, Option, None, Result, Ok, Err, refl, ap, sym, ◌∙◌, subst, arith, append_assoc, append-nil}
use Rattle.std.specs.Char.{is_ascii_hexdigit}
use Rattle.std.specs.List.{AllPass, list_all}
use Rattle.std.specs.Result.{result_ok}
use Rattle.std.specs.Str.{bytes_eq}
use Rattle.std.proofs.lemmas.Bool.{false≢true, lt-ltb, ltb-true}
use Rattle.std.proofs.lemmas.Bool.Decides.{nat_tests}
use Rattle.std.proofs.lemmas.List.Sums.{AllPass-from_list_all, list_all-from_AllPass}
use Rattle.hex.specs.Hex.{decode_of, encode_lower, encode_with, is_hex_digit}
use Rattle.hex.specs.declared.error.FromHexError.{FromHexError}
use Rattle.hex.proofs.HexLemmas.{decode_of-digits, decode_of-ok}
use Rattle.tape_core.specs.declared.devices.Watched.{Watched}
use Rattle.tape_core.specs.Devices.{Gave}
use Rattle.tape_seek.specs.Requests.{bytes_of, pairs_of}

-- std and the crate hex mean the same digits
same_digits : (c : ℕ) → is_ascii_hexdigit c ≡ is_hex_digit c
same_digits c = grind (arith, nat_tests)

decodes : (text : List ℕ) (r : Result (List ℕ) FromHexError) → decode_of text ≡ r → (t : Bool)
    → list_all is_ascii_hexdigit text ≡ t → length text % 2 ≡ 0 → t ≡ is_some (result_ok r)
decodes text (Ok bytes) is true all even = refl
decodes text (Err e) is true all even =
    let digits : AllPass is_hex_digit text = λ k d lt. sym (same_digits (get_or text k d)) ∙ AllPass-from_list_all is_ascii_hexdigit text all k d lt in
    let r = decode_of-digits text even digits in
    cc (sym is ∙ r.1)
decodes text (Ok bytes) is false all even =
    let ok = decode_of-ok text bytes is in
    let digits : AllPass is_ascii_hexdigit text = λ k d lt. same_digits (get_or text k d) ∙ ok.1 k d lt in
    absurd (false≢true (sym all ∙ list_all-from_AllPass is_ascii_hexdigit text digits))
decodes text (Err e) is false all even = refl

-- an even number of digits, at least two, are bytes where all of them are digits
pub pairs_test : (text : List ℕ) → 0 < length text → length text % 2 ≡ 0 → list_all is_ascii_hexdigit text ≡ is_some (pairs_of text)
pairs_test text some even =
    rw (lt-ltb 0 (length text) some) (decodes text (decode_of text) refl (list_all is_ascii_hexdigit text) refl even)

some_bytes : (text : List ℕ) (r : Result (List ℕ) FromHexError) → decode_of text ≡ r → is_some (result_ok r) ≡ true
    → 0 < length text → IsSomeAnd (result_ok r) (λ bytes. bytes ≢ [])
some_bytes text (Ok bytes) is some long =
    let ok = decode_of-ok text bytes is in
    λ none. let short : length bytes ≡ 0 = ap length none in absurd (omega (arith, ok.2, short))
some_bytes text (Err e) is some long = absurd (false≢true some)

pairs_case : (text : List ℕ) (t : Bool) → nat_lt 0 (length text) ≡ t
    → is_some (cond t (result_ok (decode_of text)) None) ≡ true
    → IsSomeAnd (cond t (result_ok (decode_of text)) None) (λ bytes. bytes ≢ [])
pairs_case text true long some = some_bytes text (decode_of text) refl some (ltb-true 0 (length text) long)
pairs_case text false long some = absurd (false≢true some)

-- digits that are bytes are at least one byte
pub pairs_some : (text : List ℕ) → bytes_eq text (codes "-") ≡ false → is_some (pairs_of text) ≡ true
    → IsSomeAnd (bytes_of text) (λ bytes. bytes ≢ [])
pairs_some text other some = rw other (pairs_case text (nat_lt 0 (length text)) refl some)

encode-append : (digits first second : List ℕ) → encode_with digits (first ++ second) ≡ encode_with digits first ++ encode_with digits second
unfolding encode_with
encode-append digits [] second = refl
encode-append digits (x ∷ first) second = rw (encode-append digits first second) refl

-- what was given in hexadecimal, where these bytes are left
pub record HexBefore {O : Type 0} (contents : O → Option (List ℕ)) (old new : Watched O) (bytes rest : List ℕ) : Type 0 where
  pub gone : List ℕ
  pub cut : bytes ≡ gone ++ rest
  pub gave : Gave contents old new (encode_lower gone)

-- before the first piece
pub hex_none : {O : Type 0} (contents : O → Option (List ℕ)) (out : Watched O) (bytes rest : List ℕ) → rest ≡ bytes
    → Gave contents out out [] → HexBefore contents out out bytes rest
unfolding encode_with
hex_none contents out bytes rest same gave = record { gone = []; cut = sym same; gave = gave }

-- one more piece
pub hex_more : {O : Type 0} {contents : O → Option (List ℕ)} {a b c : Watched O} {bytes rest : List ℕ} (piece left : List ℕ)
    → rest ≡ piece ++ left → (h : HexBefore contents a b bytes rest)
    → Gave contents a c (encode_lower h.gone ++ encode_lower piece) → HexBefore contents a c bytes left
hex_more {contents = contents} {a = a} {c = c} piece left parts h gave = record {
  gone = h.gone ++ piece;
  cut = h.cut ∙ ap (λ (l : List ℕ). h.gone ++ l) parts ∙ sym (append_assoc h.gone piece left);
  gave = subst (Gave contents a c) (sym (encode-append _ h.gone piece)) gave;
}

-- after the last piece
pub hex_all : {O : Type 0} {contents : O → Option (List ℕ)} {a b : Watched O} {bytes rest : List ℕ} → rest ≡ []
    → HexBefore contents a b bytes rest → Gave contents a b (encode_lower bytes)
hex_all {contents = contents} {a = a} {b = b} none h =
    subst (λ (l : List ℕ). Gave contents a b (encode_lower l)) (sym (h.cut ∙ ap (λ (l : List ℕ). h.gone ++ l) none ∙ append-nil h.gone)) h.gave
