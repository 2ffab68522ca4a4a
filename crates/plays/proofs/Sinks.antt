-- Sending in parts, and what the list keeps.
use Rattle.std.proofs.Common.{◌≡◌, ℕ, zero, suc, ◌+◌, ◌-◌, ◌≤◌, List, [], ◌∷◌, ◌++◌, length, take, drop, sym, ap, ◌∙◌, arith}
use Rattle.std.proofs.Math.Seq.{take-append_seam, take-length, drop-nil}
use Rattle.std.proofs.lemmas.List.{append_assoc, length-append, length-drop, length-take, take-take, append-nil}
use Rattle.plays.specs.Sink.{Sink, after_sending, KeepsFront}

drop-parts : (n : ℕ) (first second : List ℕ) → drop n (first ++ second) ≡ drop n first ++ drop (n - length first) second
drop-parts zero first second = let none : 0 - length first ≡ 0 = omega arith in simp none
drop-parts (suc n) [] second = let whole : suc n - 0 ≡ suc n = omega arith in simp whole
drop-parts (suc n) (x ∷ first) second =
    drop-parts n first second ∙ ap (λ (k : ℕ). drop n first ++ drop k second) (omega arith)

same_sink : (bytes list : List ℕ) (place at : ℕ) → bytes ≡ list → place ≡ at
    → ◌≡◌ {A = Sink} (record { bytes = bytes; place = place }) (record { bytes = list; place = at })
same_sink bytes list place at same_bytes same_place = cc

pub sends_nothing : (sink : Sink) → after_sending sink [] ≡ sink
sends_nothing sink = same_sink _ _ _ _ (simp (drop-nil, append-nil)) (omega arith)

pub stays_as_sent : (sink : Sink) (bytes : List ℕ) → bytes ≡ [] → sink ≡ after_sending sink bytes
stays_as_sent sink bytes none = sym (ap (after_sending sink) none ∙ sends_nothing sink)

-- two texts, one after the other, are sent as one
pub after_sending-append : (sink : Sink) (first second : List ℕ)
    → after_sending (after_sending sink first) second ≡ after_sending sink (first ++ second)
after_sending-append sink first second =
    let past = length sink.bytes - sink.place in
    let len = length-append sink.bytes (drop past first) in
    let front = length-drop past first in
    let gone : length (sink.bytes ++ drop past first) - (sink.place + length first) ≡ past - length first = omega arith in
    let len_all = length-append first second in
    same_sink _ _ _ _ (simp (gone, append_assoc, drop-parts)) (omega arith)

pub keeps_itself : (sink : Sink) → KeepsFront sink sink
keeps_itself sink = take-length sink.bytes

-- the list is no shorter
pub keeps_length : (a b : Sink) → KeepsFront a b → length a.bytes ≤ length b.bytes
keeps_length a b keeps = omega (arith, ap length keeps, length-take (length a.bytes) b.bytes)

pub keeps_trans : (a b c : Sink) → KeepsFront a b → KeepsFront b c → KeepsFront a c
keeps_trans a b c first second =
    sym (take-take (length a.bytes) (length b.bytes) c.bytes (keeps_length a b first)) ∙ ap (take (length a.bytes)) second ∙ first

pub keeps_sent : (sink : Sink) (bytes : List ℕ) → KeepsFront sink (after_sending sink bytes)
keeps_sent sink bytes = take-append_seam sink.bytes (drop (length sink.bytes - sink.place) bytes)

pub keeps_after : (a b : Sink) (bytes : List ℕ) → b ≡ after_sending a bytes → KeepsFront a b
keeps_after a b bytes same = ap (λ (s : Sink). take (length a.bytes) s.bytes) same ∙ keeps_sent a bytes
