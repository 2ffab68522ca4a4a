-- What is written of an edit is read as that edit.
use Rattle.std.proofs.Common.{◌≡◌, ◌≢◌, ℕ, ◌<◌, ◌≤◌, All, Bool, true, false, ◌&&◌, List, [], ◌∷◌, length, get_or, codes, map, min, nat_eq, Some, None, Ok, refl, ap, ◌∙◌, arith, append_assoc}
use Rattle.std.specs.Fmt.{decimal}
use Rattle.std.specs.List.{AllByRecursion, join_with_byte, list_all}
use Rattle.std.specs.Option.{option_map}
use Rattle.std.specs.Result.{result_ok}
use Rattle.std.specs.Str.{bytes_eq}
use Rattle.std.proofs.lemmas.Bool.{lt-ltb}
use Rattle.std.proofs.lemmas.Bool.Decides.{nat_tests}
use Rattle.std.proofs.lemmas.List.Elements.{All-append, All-cons, All-head, All-tail}
use Rattle.std.proofs.lemmas.List.Sums.{AllPass-from_list_all}
use Rattle.hex.specs.Hex.{IsBytes, decode_of, encode_lower, is_hex_digit}
use Rattle.hex.proofs.HexLemmas.{decode_of-encode_lower, decode_of-ok}
use Rattle.tape_core.specs.Seconds.{last_moment}
use Rattle.tape_core.specs.Text.{IsWord, fields, is_plain, lines_of}
use Rattle.tape_core.specs.Written.{seconds_form}
use Rattle.tape_core.proofs.ReadBackLemmas.{next_line, seconds_form_read}
use Rattle.tape_core.proofs.WordLemmas.{decimal_read, decimal_word, first_word, one_word, seconds_word}
use Rattle.tape_seek.specs.declared.edits.Edit.{Edit}
use Rattle.tape_seek.specs.declared.edits.Edit.TheVariants.{Insert, Delete, Replace, Retime, Cap}
use Rattle.tape_seek.specs.declared.requests.Request.TheVariants as asks
use Rattle.tape_seek.specs.Edits.{CanBeLogged}
use Rattle.tape_seek.specs.Requests.{bytes_of, form_of, one_field, place_of, request, request_of_fields}
use Rattle.tape_seek.specs.WrittenLog.{edit_fields, edit_line, hex_form, log_text}

-- a line that has no field or several has not one
pub not_one : (rest : List (List ℕ)) → length rest ≢ 1 → one_field rest ≡ None
not_one [] h = refl
not_one (a ∷ []) h = absurd (h refl)
not_one (a ∷ b ∷ more) h = refl

-- ---- the words of an edit's line

literal_word : (text : List ℕ) → 0 < length text → list_all is_plain text ≡ true → IsWord text
literal_word text some plain = record { some = some; plain = AllPass-from_list_all is_plain text plain }

plain_hex : (b : ℕ) → is_hex_digit b ≡ true → is_plain b ≡ true
plain_hex b h = grind (arith, nat_tests)

hex_word : (bytes : List ℕ) → IsBytes bytes → IsWord (hex_form bytes)
hex_word [] are = literal_word (codes "-") (omega arith) refl
hex_word (b ∷ bs) are =
    let ok = decode_of-ok (encode_lower (b ∷ bs)) (b ∷ bs) (decode_of-encode_lower (b ∷ bs) are) in
    record {
      some = omega (arith, ok.2);
      plain = λ k d lt. plain_hex (get_or (encode_lower (b ∷ bs)) k d) (ok.1 k d lt);
    }

place_word : (n : ℕ) → n ≤ last_moment → IsWord (decimal n)
place_word n small = decimal_word n (omega arith)

delay_word : (us : ℕ) → us ≤ last_moment → IsWord (seconds_form us)
delay_word us small = seconds_word us (omega arith)

line_words : (edit : Edit) → CanBeLogged edit → AllByRecursion IsWord (edit_fields edit)
line_words (Insert at delay bytes) can = (literal_word (codes "insert") (omega arith) refl, (place_word at can.numbers.0, (delay_word delay can.numbers.1, (hex_word bytes can.bytes, tt))))
line_words (Delete from to) can = (literal_word (codes "delete") (omega arith) refl, (place_word from can.numbers.0, (place_word to can.numbers.1, tt)))
line_words (Replace at bytes) can = (literal_word (codes "replace") (omega arith) refl, (place_word at can.numbers, (hex_word bytes can.bytes, tt)))
line_words (Retime at delay) can = (literal_word (codes "retime") (omega arith) refl, (place_word at can.numbers.0, (delay_word delay can.numbers.1, tt)))
line_words (Cap max) can = (literal_word (codes "cap") (omega arith) refl, (delay_word max can.numbers, tt))

-- words joined by one space are found again
joined_fields : (words : List (List ℕ)) → AllByRecursion IsWord words
    → fields (join_with_byte 32 words) ≡ words
joined_fields [] are = refl
joined_fields (word ∷ []) are = one_word word are.0
joined_fields (word ∷ next ∷ more) are =
    first_word word (join_with_byte 32 (next ∷ more)) 32 are.0 refl ∙ ap (λ l. word ∷ l) (joined_fields (next ∷ more) are.1)

-- ---- what the words are read as

place_read : (n : ℕ) → n ≤ last_moment → place_of (decimal n) ≡ Some n
place_read n small = ap (option_map (λ m. min m last_moment)) (decimal_read n (omega arith)) ∙ ap Some (omega arith)

and_false : (t : Bool) → (t && false) ≡ false
and_false true = refl
and_false false = refl

no_dash : (text : List ℕ) → 1 < length text → bytes_eq text (codes "-") ≡ false
no_dash [] long = absurd (omega arith)
no_dash (x ∷ []) long = absurd (omega arith)
no_dash (x ∷ y ∷ rest) long = and_false (nat_eq x 45)

pairs_read : (text bytes : List ℕ) → 1 < length text → decode_of text ≡ Ok bytes → bytes_of text ≡ Some bytes
pairs_read text bytes long back = rw (no_dash text long, lt-ltb 0 (length text) (omega arith)) (ap result_ok back)

bytes_read : (bytes : List ℕ) → IsBytes bytes → bytes_of (hex_form bytes) ≡ Some bytes
bytes_read [] are = refl
bytes_read (b ∷ bs) are =
    let back = decode_of-encode_lower (b ∷ bs) are in
    let ok = decode_of-ok (encode_lower (b ∷ bs)) (b ∷ bs) back in
    pairs_read (encode_lower (b ∷ bs)) (b ∷ bs) (omega (arith, ok.2)) back

words_read : (edit : Edit) → CanBeLogged edit → request_of_fields (edit_fields edit) ≡ Some (asks.Edit edit)
unfolding form_of
words_read (Insert at delay bytes) can = rw (place_read at can.numbers.0, seconds_form_read delay can.numbers.1, bytes_read bytes can.bytes) refl
words_read (Delete from to) can = rw (place_read from can.numbers.0, place_read to can.numbers.1) refl
words_read (Replace at bytes) can = rw (place_read at can.numbers, bytes_read bytes can.bytes) refl
words_read (Retime at delay) can = rw (place_read at can.numbers.0, seconds_form_read delay can.numbers.1) refl
words_read (Cap max) can = rw (seconds_form_read max can.numbers) refl

-- the line of an edit that a log can hold
pub written_edit_read : (edit : Edit) → CanBeLogged edit → request (edit_line edit) ≡ Some (asks.Edit edit)
unfolding request edit_line
written_edit_read edit can = ap request_of_fields (joined_fields (edit_fields edit) (line_words edit can)) ∙ words_read edit can

-- ---- the lines of a log

abbrev HasNoFeed : List ℕ → Type 0
HasNoFeed text = All (λ b. nat_eq b 10 ≡ false) text

no_feed : (b : ℕ) → is_plain b ≡ true → nat_eq b 10 ≡ false
no_feed b h = grind (arith, nat_tests)

word_has_no_feed : (word : List ℕ) → IsWord word → HasNoFeed word
word_has_no_feed word is = λ k d lt. no_feed (get_or word k d) (is.plain k d lt)

joined_has_no_feed : (words : List (List ℕ)) → AllByRecursion IsWord words → HasNoFeed (join_with_byte 32 words)
joined_has_no_feed [] are = λ k d lt. absurd (omega arith)
joined_has_no_feed (word ∷ []) are = word_has_no_feed word are.0
joined_has_no_feed (word ∷ next ∷ more) are =
    All-append (λ b. nat_eq b 10 ≡ false) word (32 ∷ join_with_byte 32 (next ∷ more)) (word_has_no_feed word are.0)
    (All-cons (λ b. nat_eq b 10 ≡ false) 32 (join_with_byte 32 (next ∷ more)) refl (joined_has_no_feed (next ∷ more) are.1))

line_has_no_feed : (edit : Edit) → CanBeLogged edit → HasNoFeed (edit_line edit)
unfolding edit_line
line_has_no_feed edit can = joined_has_no_feed (edit_fields edit) (line_words edit can)

pub written_log_lines : (edits : List Edit) → All CanBeLogged edits
    → lines_of (log_text edits) ≡ map edit_line edits
unfolding log_text
written_log_lines [] are = refl
written_log_lines (edit ∷ more) are =
    ap lines_of (append_assoc (edit_line edit) (10 ∷ []) (log_text more))
    ∙ next_line (edit_line edit) (log_text more) (line_has_no_feed edit (All-head CanBeLogged edit more are))
    ∙ ap (λ l. edit_line edit ∷ l) (written_log_lines more (All-tail CanBeLogged edit more are))

written_lines_read : (edits : List Edit) → All CanBeLogged edits
    → map request (map edit_line edits) ≡ map (λ edit. Some (asks.Edit edit)) edits
written_lines_read [] are = refl
written_lines_read (edit ∷ more) are =
    ap (λ r. r ∷ map request (map edit_line more)) (written_edit_read edit (All-head CanBeLogged edit more are))
    ∙ ap (λ l. Some (asks.Edit edit) ∷ l) (written_lines_read more (All-tail CanBeLogged edit more are))

pub written_log_read : (edits : List Edit) → All CanBeLogged edits
    → map request (lines_of (log_text edits)) ≡ map (λ edit. Some (asks.Edit edit)) edits
written_log_read edits are = ap (map request) (written_log_lines edits are) ∙ written_lines_read edits are
