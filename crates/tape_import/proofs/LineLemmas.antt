-- Where the first line of a text ends, by the first LF that was found.
use Rattle.std.proofs.Common.{◌≡◌, ℕ, ◌+◌, ◌<◌, ◌==◌, Bool, true, false, List, [], ◌∷◌, length, take, drop, get_or, nat_eq, Some, None, ap, arith, refl, ◌∙◌}
use Rattle.std.specs.List.{All, after_first, before_first, position_or_len, slice_split}
use Rattle.std.proofs.lemmas.Bool.Decides.{nat_tests}
use Rattle.std.proofs.lemmas.List.Splits.{length-slice_split, slice_split_first, slice_split_none}
use Rattle.std.proofs.lemmas.List.Sums.{fails_before_first, position_or_len_is}
use Rattle.memchr.specs.Find.{IsFirstByte, is_byte}
use Rattle.tape_core.specs.Text.{lines_of, without_empty_last}

abbrev pub is_feed : ℕ → Bool
is_feed b = b == 10

fails : (b : Bool) → ((b ≡ true) → ⊥) → b ≡ false
fails true never = absurd (never refl)
fails false never = refl

pub kept : (piece : List ℕ) (more : List (List ℕ)) → 0 < length more → without_empty_last (piece ∷ more) ≡ piece ∷ without_empty_last more
kept piece [] some = absurd (omega arith)
kept piece (next ∷ more) some = refl

-- before it and behind it
pub line_ends : (text : List ℕ) (at : ℕ) → IsFirstByte (is_byte 10) text (Some at) → lines_of text ≡ take at text ∷ lines_of (drop (at + 1) text)
line_ends text at is =
    let place : position_or_len is_feed text ≡ at =
    position_or_len_is is_feed text at 0 (omega (arith, is.0.high)) (λ k lt. fails (is_feed (get_or text k 0)) (is.0.before k (omega arith) lt)) (λ lt. is.1) in
    let some = length-slice_split is_feed (after_first is_feed text) in
    ap without_empty_last (slice_split_first is_feed text 0 (omega (arith, place, is.0.high)))
    ∙ kept (before_first is_feed text) (slice_split is_feed (after_first is_feed text)) (omega arith)
    ∙ ap (λ n. take n text ∷ lines_of (drop (n + 1) text)) place

-- where there is none, the text is the line
pub line_alone : (text : List ℕ) → 0 < length text → IsFirstByte (is_byte 10) text None → lines_of text ≡ text ∷ lines_of []
line_alone text some none =
    let place : position_or_len is_feed text ≡ length text =
    position_or_len_is is_feed text (length text) 0 (omega arith) (λ k lt. fails (is_feed (get_or text k 0)) (none k (omega arith) lt)) (λ lt. absurd (omega arith)) in
    let all : All (λ b. is_feed b ≡ false) text = λ k d lt. fails_before_first is_feed text k d (omega (arith, place)) in
    let long : nat_eq (length text) 0 ≡ false = grind (arith, nat_tests) in
    ap without_empty_last (slice_split_none is_feed text all) ∙ rw long refl
