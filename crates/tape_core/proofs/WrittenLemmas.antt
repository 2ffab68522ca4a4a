-- Texts written from their end, one part before another.
use Rattle.std.proofs.Common.{◌≡◌, ℕ, suc, ◌+◌, ◌-◌, ◌/◌, ◌%◌, ◌^◌, ◌<◌, ◌≤◌, List, [], ◌∷◌, ◌++◌, length, set, take, drop, replicate, ap, sym, ◌∙◌, arith, append_assoc, length-append, length-take, length-drop}
use borrow.Rule.Slice.PartMut.{put_mid}
use Rattle.std.specs.Fmt.{decimal}
use Rattle.std.proofs.lemmas.Fmt.{length-decimal-le}
use Rattle.std.proofs.lemmas.List.{drop-append-le, drop-drop, drop-take, drop_at, drop_all, drop-set, take-append-drop, take-append-le, take-replicate, length-replicate}
use Rattle.tape_core.specs.Written.{seconds_form, six_digits}

-- how long the parts of seconds are
pub short_whole : (us : ℕ) → us < 2 ^ 64 → length (decimal (us / 1000000)) ≤ 14
short_whole us small = length-decimal-le 14 (us / 1000000) (omega arith) (omega arith) (omega arith)

pub short_decimals : (us : ℕ) → length (decimal (us % 1000000)) ≤ 6
short_decimals us = length-decimal-le 6 (us % 1000000) (omega arith) (omega arith) (omega arith)

pub length-six_digits : (us : ℕ) → length (six_digits (us % 1000000)) ≡ 6
length-six_digits us =
    let short = short_decimals us in
    omega (arith, length-append (replicate (6 - length (decimal (us % 1000000))) 48) (decimal (us % 1000000)), length-replicate {A = ℕ} (6 - length (decimal (us % 1000000))) 48)

pub length-seconds_form : (us : ℕ) → length (seconds_form us) ≡ length (decimal (us / 1000000)) + 7
unfolding seconds_form
length-seconds_form us = omega (arith, length-append (decimal (us / 1000000)) (46 ∷ six_digits (us % 1000000)), length-six_digits us)

-- digits written over the end of a point and six zeros, which stand before the rest
pub decimals_written : (front rest digits new : List ℕ) (point start : ℕ) → length front ≡ point
    → start + length digits ≡ point + 7 → length digits ≤ 6
    → take start new ≡ take start (front ++ ((46 ∷ replicate 6 48) ++ rest))
    → drop start new ≡ digits ++ drop (point + 7) (front ++ ((46 ∷ replicate 6 48) ++ rest))
    → drop point new ≡ (46 ∷ (replicate (6 - length digits) 48 ++ digits)) ++ rest
decimals_written front rest digits new point start long placed short before written =
    let k = 6 - length digits in
    let old = front ++ ((46 ∷ replicate 6 48) ++ rest) in
    let at : start ≡ point + suc k = omega arith in
    let tail : drop point old ≡ (46 ∷ replicate 6 48) ++ rest = drop_at front ((46 ∷ replicate 6 48) ++ rest) point long in
    let behind : drop (point + 7) old ≡ rest = sym (drop-drop 7 point old) ∙ ap (drop 7) tail in
    let reaches : start ≤ length old = omega (arith, length-append front ((46 ∷ replicate 6 48) ++ rest)) in
    let within : point ≤ length (take start new) = omega (arith, ap length before, length-take start old) in
    let zeros : take k (replicate 6 48 ++ rest) ≡ replicate k 48 = take-append-le k (replicate 6 48) rest (omega arith) ∙ take-replicate k 6 48 (omega arith) in
    let head : drop point (take start new) ≡ 46 ∷ replicate k 48 =
    ap (drop point) (before ∙ ap (λ n. take n old) at) ∙ drop-take point (suc k) old ∙ ap (take (suc k)) tail ∙ ap (λ zs. 46 ∷ zs) zeros in
    ap (drop point) (sym (take-append-drop start new)) ∙ drop-append-le point (take start new) (drop start new) within
    ∙ ap (λ x. x ++ drop start new) head ∙ ap (λ x. (46 ∷ replicate k 48) ++ x) (written ∙ ap (λ x. digits ++ x) behind)
    ∙ ap (λ x. 46 ∷ x) (sym (append_assoc (replicate k 48) digits rest))

-- decimals, and then the whole seconds before them
pub seconds_written : (us : ℕ) (buf mid buf' buf'' : List ℕ) (end first start : ℕ) → 21 ≤ end → end ≤ length buf → mid ≡ 46 ∷ replicate 6 48
    → first + length (decimal (us % 1000000)) ≡ end → take first buf' ≡ take first (put_mid (end - 7) (end - (end - 7)) buf mid)
    → drop first buf' ≡ decimal (us % 1000000) ++ drop end (put_mid (end - 7) (end - (end - 7)) buf mid)
    → drop start buf'' ≡ decimal (us / 1000000) ++ drop (end - 7) buf'
    → drop start buf'' ≡ seconds_form us ++ drop end buf
unfolding seconds_form
seconds_written us buf mid buf' buf'' end first start room within is placed before written whole =
    let point = end - 7 in
    let digits = decimal (us % 1000000) in
    let rest = drop (end - point) (drop point buf) in
    let at : point + 7 ≡ end = omega arith in
    let all : point + (end - point) ≡ end = omega arith in
    let behind : rest ≡ drop end buf = drop-drop (end - point) point buf ∙ ap (λ n. drop n buf) all in
    let front : length (take point buf) ≡ point = omega (arith, length-take point buf) in
    let old = ap (λ m. take point buf ++ (m ++ rest)) is in
    let tail = decimals_written (take point buf) rest digits buf' point first front (omega arith) (short_decimals us) (before ∙ ap (take first) old)
    (written ∙ ap (λ x. digits ++ drop end x) old ∙ ap (λ n. digits ++ drop n (take point buf ++ ((46 ∷ replicate 6 48) ++ rest))) (sym at)) in
    whole ∙ ap (λ x. decimal (us / 1000000) ++ x) (tail ∙ ap (λ x. (46 ∷ six_digits (us % 1000000)) ++ x) behind)
    ∙ sym (append_assoc (decimal (us / 1000000)) (46 ∷ six_digits (us % 1000000)) (drop end buf))

-- a write to a part keeps the length
pub length-put_mid : (a k : ℕ) (xs ys : List ℕ) → a + k ≤ length xs → length ys ≡ k → length (put_mid a k xs ys) ≡ length xs
length-put_mid a k xs ys within same =
    omega (arith, length-append (take a xs) (ys ++ drop k (drop a xs)), length-append ys (drop k (drop a xs)), length-take a xs, length-drop k (drop a xs), length-drop a xs)

-- a timing line: LF, the count before it, a space, and what was written before that
pub line_written : (buf buf' buf'' seconds : List ℕ) (count end first start : ℕ) → end + 1 ≡ length buf → 0 < first
    → first ≤ end → length buf' ≡ length buf
    → drop first buf' ≡ decimal count ++ drop end (set buf end 10) → drop start buf'' ≡ seconds ++ drop (first - 1) (set buf' (first - 1) 32)
    → drop start buf'' ≡ seconds ++ 32 ∷ decimal count ++ 10 ∷ []
line_written buf buf' buf'' seconds count end first start last some within same counted spaced =
    let next : first - 1 + 1 ≡ first = omega arith in
    let feed : drop end (set buf end 10) ≡ 10 ∷ [] = drop-set buf end 10 (omega arith) ∙ ap (λ x. 10 ∷ x) (drop_all (end + 1) buf (omega arith)) in
    let space : drop (first - 1) (set buf' (first - 1) 32) ≡ 32 ∷ (decimal count ++ 10 ∷ []) =
    drop-set buf' (first - 1) 32 (omega arith) ∙ ap (λ n. 32 ∷ drop n buf') next ∙ ap (λ x. 32 ∷ x) (counted ∙ ap (λ x. decimal count ++ x) feed) in
    spaced ∙ ap (λ x. seconds ++ x) space ∙ sym (append_assoc seconds (32 ∷ decimal count) (10 ∷ []))
