-- What no byte changes.
use Rattle.std.proofs.Common.{◌≡◌, ℕ, ◌+◌, ◌==◌, Bool, true, false, not, ◌&&◌, ◌||◌, List, length, Option, Some, None, refl, ap, arith, nat_lt, slice_index, cond, is_none, ◌∙◌}
use Rattle.std.proofs.lemmas.Bool.Decides.{nat_tests}
use Rattle.std.proofs.lemmas.List.Folds.{fold_stays}
use Rattle.std.specs.Prelude.{fold}
use Rattle.job_files.specs.Beginning.{after_byte, is_all, is_past, is_settled, is_whole, magic_of, packing_after}
use Rattle.job_files.specs.declared.beginning.Beginning.{Beginning}
use Rattle.job_files.specs.declared.beginning.FirstField.{FirstField}
use Rattle.job_files.specs.declared.beginning.FirstField.TheVariants.{Awaited, Letter, Stream, Other}
use Rattle.job_files.specs.declared.packing.Packing.{Packing}
use Rattle.job_files.specs.declared.packing.Packing.TheVariants as packing

abbrev of_parts : Bool → Option ℕ → Bool → Packing → FirstField → Beginning
of_parts e s t p f = record { empty = e; session = s; started = t; packing = p; first = f }

cond_second : {A : Type 0} (b : Bool) (x y : A) → not b ≡ true → cond b x y ≡ y
cond_second true x y e = absurd (cc)
cond_second false x y e = refl

packing_stays : (p : Packing) (byte : ℕ) → is_past p ≡ true → packing_after p byte ≡ p
packing_stays packing.Awaited byte past = absurd (cc)
packing_stays (packing.Come packer n) byte past =
    cond_second (nat_lt n (length (magic_of packer)))
    (cond (slice_index (magic_of packer) n == byte) (packing.Come packer (n + 1)) packing.Other) (packing.Come packer n) past
packing_stays packing.Other byte past = refl

-- both, where they hold together
first : (a b : Bool) → (a && b) ≡ true → a ≡ true
first true b e = refl
first false b e = absurd (cc)

second : (a b : Bool) → (a && b) ≡ true → b ≡ true
second true b e = e
second false b e = absurd (cc)

-- all but how many bytes are a compressed file's
others_stay : (e : Bool) (s : Option ℕ) (t : Bool) (p : Packing) (f : FirstField) (byte : ℕ)
    → (not e && (is_none s || is_all s)) ≡ true → is_whole f ≡ true
    → after_byte (of_parts e s t p f) byte ≡ of_parts e s t (packing_after p byte) f
others_stay true s t p f byte settled whole = absurd (cc)
others_stay false s t p Awaited byte settled whole = absurd (cc)
others_stay false s t p Letter byte settled whole = absurd (cc)
others_stay false None t p Stream byte settled whole = refl
others_stay false None t p Other byte settled whole = refl
others_stay false (Some n) t p Stream byte settled whole = grind (arith, nat_tests)
others_stay false (Some n) t p Other byte settled whole = grind (arith, nat_tests)

-- a beginning that is settled stays, whatever comes
byte_stays : (b : Beginning) (byte : ℕ) → is_settled b ≡ true → after_byte b byte ≡ b
byte_stays b byte settled =
    let one = first (not b.empty && (is_none b.session || is_all b.session)) (is_past b.packing && is_whole b.first) settled in
    let other = second (not b.empty && (is_none b.session || is_all b.session)) (is_past b.packing && is_whole b.first) settled in
    others_stay b.empty b.session b.started b.packing b.first byte one (second (is_past b.packing) (is_whole b.first) other)
    ∙ ap (λ p. of_parts b.empty b.session b.started p b.first)
    (packing_stays b.packing byte (first (is_past b.packing) (is_whole b.first) other))

pub settled_stays : (b : Beginning) (bytes : List ℕ) → is_settled b ≡ true → fold after_byte b bytes ≡ b
settled_stays b bytes settled = fold_stays after_byte b (λ byte. byte_stays b byte settled) bytes
