-- What lists of edits make of a recording.
use Rattle.std.proofs.Common.{◌≡◌, ℕ, suc, ◌+◌, ◌≤◌, List, [], ◌∷◌, ◌++◌, length, map, take, drop, refl, ap, ap₂, sym, ◌∙◌, arith, append_assoc, inl, inr, length-append}
use Rattle.std.proofs.lemmas.Bool.{cases_lt, le-ltb, lt-ltb}
use Rattle.std.proofs.lemmas.List.{drop-drop, drop_at, take-append-drop, take_at}
use Rattle.std.proofs.lemmas.List.Sums.{fold-append}
use Rattle.tape_core.specs.declared.chunk.Chunk.{Chunk}
use Rattle.tape_core.specs.Edited.{changed_at, with_chunks}
use Rattle.tape_core.specs.Tape.{Tape}
use Rattle.tape_seek.specs.declared.edits.Edit.{Edit}
use Rattle.tape_seek.specs.Edits.{edited, edited_all}
use Rattle.tape_cut.specs.CutEdits.{deleting, inserting, retiming}
use Rattle.tape_cut.proofs.Shapes.{headed, placed}

pub edited-append : (tape : Tape) (first second : List Edit) → edited_all tape (first ++ second) ≡ edited_all (edited_all tape first) second
edited-append tape first second = fold-append edited tape first second

pub delete_makes : (tape : Tape) (from to : ℕ) → from ≤ to
    → edited_all tape (deleting from to) ≡ with_chunks (take from tape.chunks ++ drop to tape.chunks) tape
delete_makes tape from to le =
    elim (cases_lt from to) [
      | inl lt ↦ rw (lt-ltb from to lt) refl
      | inr ge ↦
          let same : from ≡ to = omega arith in
          rw (le-ltb from to ge) (ap (λ cs. with_chunks cs tape) (sym (take-append-drop from tape.chunks) ∙ ap (λ n. take from tape.chunks ++ drop n tape.chunks) same))
    ]

pub insert_makes : (parts : List (List ℕ)) (tape : Tape) (xs zs : List Chunk) (at delay : ℕ) → tape.chunks ≡ xs ++ zs → length xs ≡ at
    → edited_all tape (inserting at delay parts) ≡ with_chunks (xs ++ (placed delay parts ++ zs)) tape
insert_makes [] tape xs zs at delay is len = ap (λ cs. with_chunks cs tape) is
insert_makes (part ∷ parts) tape xs zs at delay is len =
    let chunk : Chunk = record { delay = delay; bytes = part } in
    let more = length-append xs (chunk ∷ []) in
    let there : take at tape.chunks ++ chunk ∷ drop at tape.chunks ≡ (xs ++ chunk ∷ []) ++ zs =
    ap (λ cs. take at cs ++ chunk ∷ drop at cs) is
    ∙ ap₂ (λ (f b : List Chunk). f ++ chunk ∷ b) (take_at xs zs at len) (drop_at xs zs at len)
    ∙ sym (append_assoc xs (chunk ∷ []) zs) in
    insert_makes parts (with_chunks (take at tape.chunks ++ chunk ∷ drop at tape.chunks) tape) (xs ++ chunk ∷ []) zs (at + 1) 0 there (omega (arith, more))
    ∙ ap (λ cs. with_chunks cs tape) (append_assoc xs (chunk ∷ []) (placed 0 parts ++ zs))

changed_head : (change : Chunk → Chunk) (xs zs : List Chunk) (z : Chunk) (at : ℕ) → length xs ≡ at
    → changed_at change at (xs ++ z ∷ zs) ≡ xs ++ change z ∷ zs
changed_head change xs zs z at len =
    let rest : drop at (xs ++ z ∷ zs) ≡ z ∷ zs = drop_at xs (z ∷ zs) at len in
    let behind : drop (at + 1) (xs ++ z ∷ zs) ≡ zs = sym (drop-drop 1 at (xs ++ z ∷ zs)) ∙ ap (drop 1) rest in
    ap₂ (λ (f b : List Chunk). f ++ map change (take 1 b) ++ drop (at + 1) (xs ++ z ∷ zs)) (take_at xs (z ∷ zs) at len) rest
    ∙ ap (λ b. xs ++ change z ∷ [] ++ b) behind ∙ append_assoc xs (change z ∷ []) zs

pub retime_makes : (zs xs : List Chunk) (tape : Tape) (at delay : ℕ) → tape.chunks ≡ xs ++ zs → length xs ≡ at
    → edited_all tape (retiming zs at delay) ≡ with_chunks (xs ++ headed delay zs) tape
retime_makes [] xs tape at delay is len = ap (λ cs. with_chunks cs tape) is
retime_makes (z ∷ zs) xs tape at delay is len =
    ap (λ cs. with_chunks cs tape)
    (ap (changed_at (λ c. record c { delay = delay }) at) is ∙ changed_head (λ c. record c { delay = delay }) xs zs z at len)

pub length-placed : (delay : ℕ) (parts : List (List ℕ)) → length (placed delay parts) ≡ length parts
length-placed delay [] = refl
length-placed delay (part ∷ parts) = ap (λ n. suc n) (length-placed 0 parts)

-- pieces come in, and what follows them is retimed
pub replaced_by : (parts : List (List ℕ)) (tape : Tape) (xs zs : List Chunk) (at delay next : ℕ) → tape.chunks ≡ xs ++ zs → length xs ≡ at
    → edited_all tape (inserting at delay parts ++ retiming zs (at + length parts) next)
    ≡ with_chunks (xs ++ (placed delay parts ++ headed next zs)) tape
replaced_by parts tape xs zs at delay next is len =
    let put = placed delay parts in
    let long : length (xs ++ put) ≡ at + length parts = omega (arith, length-append xs put, length-placed delay parts) in
    edited-append tape (inserting at delay parts) (retiming zs (at + length parts) next)
    ∙ ap (λ t. edited_all t (retiming zs (at + length parts) next)) (insert_makes parts tape xs zs at delay is len)
    ∙ retime_makes zs (xs ++ put) (with_chunks (xs ++ (put ++ zs)) tape) (at + length parts) next (sym (append_assoc xs put zs)) long
    ∙ ap (λ cs. with_chunks cs tape) (append_assoc xs put (headed next zs))
