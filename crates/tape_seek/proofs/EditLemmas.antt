-- Edits without a fault: what they meet, and which chunks they leave.
use Rattle.std.proofs.Common.{◌≡◌, ℕ, ◌+◌, ◌-◌, ◌<◌, ◌≤◌, Bool, true, false, ◌||◌, cond, ltb, leb, List, ◌++◌, length, map, min, take, drop, get_or, ap, refl, sym, arith, length-append, length-take, length-drop}
use Rattle.std.specs.Prelude.{Option, Some, None}
use Rattle.std.proofs.lemmas.Bool.{le-ltb, leb-false, lt-leb, ltb-false}
use Rattle.std.proofs.lemmas.List.{length-map}
use Rattle.std.proofs.lemmas.List.Edits.{length-insert}
use Rattle.std.proofs.lemmas.List.Sums.{get_or-le-sum_by}
use Rattle.tape_core.specs.declared.chunk.Chunk.{Chunk}
use Rattle.tape_core.specs.Edited.{capped_chunk, changed_at, replaced}
use Rattle.tape_core.specs.Tape.{Tape, body_len, longest_body, longest_chunk, longest_delay, most_chunks}
use Rattle.tape_core.proofs.EditedLemmas.{body_len-replaced}
use Rattle.tape_core.proofs.FirstLemmas.{first_kept}
use Rattle.tape_seek.specs.declared.edits.Edit.{Edit}
use Rattle.tape_seek.specs.declared.edits.Edit.TheVariants.{Insert, Delete, Replace, Retime, Cap}
use Rattle.tape_seek.specs.declared.edits.EditFault.TheVariants.{TooManyBytes}
use Rattle.tape_seek.specs.Edits.{HasShortNumbers, edit_fault, edited, first_touched}
use Rattle.tape_seek.specs.Kept.{SameFront}

none_some : {A : Type 0} (x : A) → ◌≡◌ {A = Option A} (Some x) None → ⊥
none_some x e = cc

-- where the first fault of a list is none, the first test fails, and so do the others
no_first : {A : Type 0} (b : Bool) (x : A) (rest : Option A) → cond b (Some x) rest ≡ None → (b ≡ false) × (rest ≡ None)
no_first true x rest e = absurd (none_some x e)
no_first false x rest e = (refl, e)

neither : (x y : Bool) → (x || y) ≡ false → (x ≡ false) × (y ≡ false)
neither true y e = cc
neither false y e = (refl, e)

-- ---- what an edit without a fault meets

pub record InsertsWell (tape : Tape) (at delay : ℕ) (bytes : List ℕ) : Type 0 where
  pub place : at ≤ length tape.chunks
  pub delay_ : delay ≤ longest_delay
  pub len : length bytes ≤ longest_chunk
  pub few : length tape.chunks < most_chunks
  pub body : body_len (edited tape (Insert at delay bytes)).chunks ≤ longest_body

pub inserts_well : (tape : Tape) (at delay : ℕ) (bytes : List ℕ) → edit_fault tape (Insert at delay bytes) ≡ None
    → InsertsWell tape at delay bytes
inserts_well tape at delay bytes sound =
    let one = no_first _ _ _ sound in
    let two = no_first _ _ _ one.1 in
    let three = no_first _ _ _ two.1 in
    let four = no_first _ _ _ three.1 in
    let five = no_first _ _ _ four.1 in
    record {
      place = ltb-false (length tape.chunks) at one.0;
      delay_ = ltb-false longest_delay delay two.0;
      len = ltb-false longest_chunk (length bytes) three.0;
      few = leb-false most_chunks (length tape.chunks) four.0;
      body = ltb-false longest_body (body_len (edited tape (Insert at delay bytes)).chunks) five.0;
    }

pub record DeletesWell (tape : Tape) (from to : ℕ) : Type 0 where
  pub some : from < to
  pub within : to ≤ length tape.chunks

pub deletes_well : (tape : Tape) (from to : ℕ) → edit_fault tape (Delete from to) ≡ None → DeletesWell tape from to
deletes_well tape from to sound =
    let one = no_first _ _ _ sound in
    let parts = neither (leb to from) (ltb (length tape.chunks) to) one.0 in
    record {
      some = leb-false to from parts.0;
      within = ltb-false (length tape.chunks) to parts.1;
    }

pub record ReplacesWell (tape : Tape) (at : ℕ) (bytes : List ℕ) : Type 0 where
  pub place : at < length tape.chunks
  pub len : length bytes ≤ longest_chunk
  pub body : body_len (edited tape (Replace at bytes)).chunks ≤ longest_body

pub replaces_well : (tape : Tape) (at : ℕ) (bytes : List ℕ) → edit_fault tape (Replace at bytes) ≡ None
    → ReplacesWell tape at bytes
replaces_well tape at bytes sound =
    let one = no_first _ _ _ sound in
    let two = no_first _ _ _ one.1 in
    let three = no_first _ _ _ two.1 in
    record {
      place = leb-false (length tape.chunks) at one.0;
      len = ltb-false longest_chunk (length bytes) two.0;
      body = ltb-false longest_body (body_len (edited tape (Replace at bytes)).chunks) three.0;
    }

pub record RetimesWell (tape : Tape) (at delay : ℕ) : Type 0 where
  pub place : at < length tape.chunks
  pub delay_ : delay ≤ longest_delay

pub retimes_well : (tape : Tape) (at delay : ℕ) → edit_fault tape (Retime at delay) ≡ None → RetimesWell tape at delay
retimes_well tape at delay sound =
    let one = no_first _ _ _ sound in
    let two = no_first _ _ _ one.1 in
    record {
      place = leb-false (length tape.chunks) at one.0;
      delay_ = ltb-false longest_delay delay two.0;
    }

pub caps_well : (tape : Tape) (max : ℕ) → edit_fault tape (Cap max) ≡ None → max ≤ longest_delay
caps_well tape max sound = ltb-false longest_delay max (no_first _ _ _ sound).0

-- ---- why a replace is refused

-- In its place, and with bytes that a chunk can hold, it is judged by the body alone: by what the other chunks have.
pub replace_judged : (tape : Tape) (at : ℕ) (bytes : List ℕ) (chunk : Chunk) (over : Bool)
    → at < length tape.chunks → chunk ≡ get_or tape.chunks at chunk → length bytes ≤ longest_chunk
    → ltb longest_body (body_len tape.chunks - length chunk.bytes + length bytes) ≡ over
    → cond over (Some TooManyBytes) None ≡ edit_fault tape (Replace at bytes)
replace_judged tape at bytes chunk over place is short judged =
    let part = get_or-le-sum_by (λ x. length x.bytes) tape.chunks at chunk place in
    let here = ap (λ x. length x.bytes) is in
    let more = body_len-replaced tape at bytes chunk place is in
    let whole : body_len (replaced at bytes tape).chunks ≡ body_len tape.chunks - length chunk.bytes + length bytes
    = omega arith in
    rw (lt-leb (length tape.chunks) at place, le-ltb longest_chunk (length bytes) short, whole, judged) refl

-- ---- its numbers are those of a request line

pub has_short_numbers : (tape : Tape) (edit : Edit) → length tape.chunks ≤ most_chunks → edit_fault tape edit ≡ None
    → HasShortNumbers edit
has_short_numbers tape (Insert at delay bytes) few sound = let well = inserts_well tape at delay bytes sound in (omega (arith, well.place), omega (arith, well.delay_))
has_short_numbers tape (Delete from to) few sound = let well = deletes_well tape from to sound in (omega (arith, well.some, well.within), omega (arith, well.within))
has_short_numbers tape (Replace at bytes) few sound = let well = replaces_well tape at bytes sound in omega (arith, well.place)
has_short_numbers tape (Retime at delay) few sound = let well = retimes_well tape at delay sound in (omega (arith, well.place), omega (arith, well.delay_))
has_short_numbers tape (Cap max) few sound = let low = caps_well tape max sound in omega (arith, low)

-- ---- which chunks it leaves

length-changed : (change : Chunk → Chunk) (chunks : List Chunk) (at : ℕ) → at < length chunks
    → length (changed_at change at chunks) ≡ length chunks
length-changed change chunks at lt =
    let a = length-append (take at chunks ++ map change (take 1 (drop at chunks))) (drop (at + 1) chunks) in
    let b = length-append (take at chunks) (map change (take 1 (drop at chunks))) in
    omega (arith, length-map (take 1 (drop at chunks)) change, length-take 1 (drop at chunks), length-take at chunks, length-drop at chunks, length-drop (at + 1) chunks)

same_some : (a b : ℕ) → Some a ≡ Some b → a ≡ b
same_some a b e = cc

-- the chunks before the first that it touches
pub front_stays : (tape : Tape) (edit : Edit) (place n : ℕ) → edit_fault tape edit ≡ None
    → first_touched edit ≡ Some place → n ≤ length tape.chunks
    → SameFront tape.chunks (edited tape edit).chunks (min n place)
front_stays tape (Insert at delay bytes) place n sound is low =
    let well = inserts_well tape at delay bytes sound in
    let here = same_some at place is in
    record {
      within = omega (arith, length-insert tape.chunks at (record { delay = delay; bytes = bytes }) well.place);
      bytes = λ k le. first_kept.inserted tape at k (record { delay = delay; bytes = bytes }) (omega arith) well.place;
    }
front_stays tape (Delete from to) place n sound is low =
    let well = deletes_well tape from to sound in
    let here = same_some from place is in
    let few : from ≤ length tape.chunks = omega (arith, well.some, well.within) in
    record {
      within = omega (arith, length-append (take from tape.chunks) (drop to tape.chunks), length-take from tape.chunks);
      bytes = λ k le. first_kept.removed tape from to k (omega arith) few;
    }
front_stays tape (Replace at bytes) place n sound is low =
    let well = replaces_well tape at bytes sound in
    let here = same_some at place is in
    record {
      within = omega (arith, length-changed (λ c. record c { bytes = bytes }) tape.chunks at well.place);
      bytes = λ k le. first_kept.replaced tape at k bytes (omega arith);
    }
front_stays tape (Retime at delay) place n sound is low = absurd (none_some place (sym is))
front_stays tape (Cap max) place n sound is low = absurd (none_some place (sym is))

-- all bytes, where it touches those of none
pub all_stays : (tape : Tape) (edit : Edit) (n : ℕ) → edit_fault tape edit ≡ None
    → first_touched edit ≡ None → n ≤ length tape.chunks → SameFront tape.chunks (edited tape edit).chunks n
all_stays tape (Insert at delay bytes) n sound is low = absurd (none_some at is)
all_stays tape (Delete from to) n sound is low = absurd (none_some from is)
all_stays tape (Replace at bytes) n sound is low = absurd (none_some at is)
all_stays tape (Retime at delay) n sound is low =
    let well = retimes_well tape at delay sound in
    record {
      within = omega (arith, length-changed (λ c. record c { delay = delay }) tape.chunks at well.place);
      bytes = λ k le. first_kept.retimed tape at delay k;
    }
all_stays tape (Cap max) n sound is low = record {
  within = omega (arith, length-map tape.chunks (capped_chunk max));
  bytes = λ k le. first_kept.capped tape max k;
}
