-- Records one behind another.
use Rattle.std.proofs.Common.{◌≡◌, ℕ, zero, suc, ◌+◌, ◌<◌, List, [], ◌∷◌, length, take, drop, min, Some, None, refl, ap, sym, ◌∙◌, arith, inl, inr}
use Rattle.std.proofs.lemmas.List.{drop-drop, length-take, take_all}
use Rattle.std.proofs.lemmas.Bool.{cases_lt}
use Rattle.std.proofs.Math.ListN.{drop_of_length-le}
use Rattle.tape_import.specs.declared.fault.EventFault.{EventFault}
use Rattle.tape_import.specs.declared.ttyrec.Reading.{Reading}
use Rattle.tape_import.specs.Ttyrec.{data_of, fault_at, head_len, records, told_of, with_record}

-- as many items as there are of the first n are the first n
pub take_again : (n : ℕ) (xs : List ℕ) → take (length (take n xs)) xs ≡ take n xs
take_again n xs = elim (cases_lt (length xs) n) [
  | inr le ↦ let all : min n (length xs) ≡ n = omega arith in rw (length-take n xs, all) refl
  | inl lt ↦
      let all : min n (length xs) ≡ length xs = omega arith in
      rw (length-take n xs, all) (take_all (length xs) xs (omega arith) ∙ sym (take_all n xs (omega arith)))
]

-- and what stands behind them stands behind the first n
pub drop_again : (n : ℕ) (xs : List ℕ) → drop (length (take n xs)) xs ≡ drop n xs
drop_again n xs = elim (cases_lt (length xs) n) [
  | inr le ↦ let all : min n (length xs) ≡ n = omega arith in rw (length-take n xs, all) refl
  | inl lt ↦
      let all : min n (length xs) ≡ length xs = omega arith in
      rw (length-take n xs, all) (drop_of_length-le xs (omega arith) ∙ sym (drop_of_length-le xs (omega arith)))
]

-- bytes that belong to the record before are passed over
passed_over : (belong : ℕ) (so_far : Reading) (text : List ℕ) → records belong so_far text ≡ records 0 so_far (drop belong text)
passed_over zero so_far text = refl
passed_over (suc belong) so_far [] = refl
passed_over (suc belong) so_far (b ∷ bs) = passed_over belong so_far bs

-- reading ends before a record with a fault
pub ended : (so_far : Reading) (text : List ℕ) (fault : EventFault) → 0 < length text → fault_at so_far text ≡ Some fault
    → records 0 so_far text ≡ record { read = so_far; fault = Some fault; left = length text }
ended so_far [] fault some is = absurd (omega arith)
ended so_far (b ∷ bs) fault some is = rw is refl

-- and goes on behind any other
pub one_more : (so_far : Reading) (text : List ℕ) → 0 < length text → fault_at so_far text ≡ None
    → records 0 so_far text ≡ records 0 (with_record so_far text) (drop (head_len + length (data_of text)) text)
one_more so_far [] some is = absurd (omega arith)
one_more so_far (b ∷ bs) some is =
    let text = b ∷ bs in
    let told = told_of text in
    let more = with_record so_far text in
    let behind : drop (length (data_of text)) (drop 11 bs) ≡ drop told (drop 11 bs) = drop_again told (drop 11 bs) in
    let first : head_len + length (data_of text) ≡ suc (11 + length (data_of text)) = omega arith in
    let stands : drop (11 + length (data_of text)) bs ≡ drop (head_len + length (data_of text)) text = rw first refl in
    let goes : records 0 so_far text ≡ records (11 + told) more bs = rw is refl in
    goes ∙ passed_over (11 + told) more bs
    ∙ ap (records 0 more) (sym (drop-drop told 11 bs) ∙ sym behind ∙ drop-drop (length (data_of text)) 11 bs ∙ stands)
