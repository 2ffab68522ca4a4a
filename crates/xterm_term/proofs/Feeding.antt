-- Bytes that are taken a few at a time.
use Rattle.std.proofs.Common.{◌≡◌, ℕ, ◌+◌, ◌<◌, List, [], ◌∷◌, ◌++◌, length, take, drop, get_or, refl, sym, ap, subst, ◌∙◌, arith}
use Rattle.std.proofs.Math.Seq.{take-add}
use Rattle.std.proofs.lemmas.List.{append-nil, length-append, take-append-drop, drop-drop}
use Rattle.xterm_term.specs.Term.{Term, step, reply_to, play, sent}
use Rattle.xterm_term.specs.Seen.{Seen, Shows}
use Rattle.plays.specs.Sink.{Sink, after_sending, HasRoom, KeepsFront}
use Rattle.plays.proofs.Sinks.{after_sending-append, keeps_length}
use Rattle.xterm_term.proofs.Steps.{plays_in_parts, sends_in_parts}

pub play_on : (x : Term) (bytes : List ℕ) (at n : ℕ) → play x (take (at + n) bytes) ≡ play (play x (take at bytes)) (take n (drop at bytes))
play_on x bytes at n = ap (play x) (take-add at n bytes) ∙ plays_in_parts x (take at bytes) (take n (drop at bytes))

pub sent_on : (x : Term) (bytes : List ℕ) (at n : ℕ)
    → sent x (take (at + n) bytes) ≡ sent x (take at bytes) ++ sent (play x (take at bytes)) (take n (drop at bytes))
sent_on x bytes at n = ap (sent x) (take-add at n bytes) ∙ sends_in_parts x (take at bytes) (take n (drop at bytes))

-- the sink after a few more bytes
pub sink_on : (x : Term) (bytes : List ℕ) (at n : ℕ) (first then_ now_ : Sink)
    → then_ ≡ after_sending first (sent x (take at bytes))
    → now_ ≡ after_sending then_ (sent (play x (take at bytes)) (take n (drop at bytes)))
    → now_ ≡ after_sending first (sent x (take (at + n) bytes))
sink_on x bytes at n first then_ now_ before after =
    after
    ∙ ap (λ (s : Sink). after_sending s (sent (play x (take at bytes)) (take n (drop at bytes)))) before
    ∙ after_sending-append first (sent x (take at bytes)) (sent (play x (take at bytes)) (take n (drop at bytes)))
    ∙ ap (after_sending first) (sym (sent_on x bytes at n))

-- what is sent in two parts is as long as both
length-sent : (x : Term) (at : ℕ) (bytes : List ℕ)
    → length (sent x bytes) ≡ length (sent x (take at bytes)) + length (sent (play x (take at bytes)) (drop at bytes))
length-sent x at bytes =
    ap (λ (l : List ℕ). length (sent x l)) (sym (take-append-drop at bytes))
    ∙ ap length (sends_in_parts x (take at bytes) (drop at bytes))
    ∙ length-append (sent x (take at bytes)) (sent (play x (take at bytes)) (drop at bytes))

-- what was fed: the bytes up to a place, and the rest of them is left
pub record Fed (start now_ : Seen) (first then_ : Sink) (bytes rest : List ℕ) : Type 0 where
  pub at : ℕ
  pub left : rest ≡ drop at bytes
  pub shows : (x : Term) → Shows start x → Shows now_ (play x (take at bytes))
  pub sent : (x : Term) → Shows start x → then_ ≡ after_sending first (sent x (take at bytes))

pub left_on : (bytes rest : List ℕ) (at n : ℕ) → rest ≡ drop at bytes → drop n rest ≡ drop (at + n) bytes
left_on bytes rest at n left = ap (drop n) left ∙ drop-drop n at bytes

-- room for all is room for what a front of the bytes sends ..
pub room_for_front : (x : Term) (bytes : List ℕ) (at : ℕ) (sink : Sink) → HasRoom sink (sent x bytes) → HasRoom sink (sent x (take at bytes))
room_for_front x bytes at sink room = let all = length-sent x at bytes in omega arith

-- .. and for the rest of them
pub room_on : (x : Term) (bytes : List ℕ) (at : ℕ) (first then_ : Sink)
    → then_ ≡ after_sending first (sent x (take at bytes)) → KeepsFront first then_ → HasRoom first (sent x bytes)
    → HasRoom then_ (sent (play x (take at bytes)) (drop at bytes))
room_on x bytes at first then_ before keeps room =
    let all = length-sent x at bytes in
    let place : then_.place ≡ first.place + length (sent x (take at bytes)) = ap (λ (s : Sink). s.place) before in
    let longer = keeps_length first then_ keeps in
    omega arith

-- ---- one byte

pub one_played : (x : Term) (bytes : List ℕ) → 0 < length bytes → step x (get_or bytes 0 0) ≡ play x (take 1 bytes)
unfolding play
one_played x [] some = absurd (omega arith)
one_played x (byte ∷ rest) some = refl

pub one_sent : (x : Term) (bytes : List ℕ) → 0 < length bytes → reply_to x (get_or bytes 0 0) ≡ sent x (take 1 bytes)
unfolding sent
one_sent x [] some = absurd (omega arith)
one_sent x (byte ∷ rest) some = sym (append-nil (reply_to x byte))

pub room_for_one : (x : Term) (bytes : List ℕ) (sink : Sink) → 0 < length bytes → HasRoom sink (sent x bytes) → HasRoom sink (reply_to x (get_or bytes 0 0))
room_for_one x bytes sink some room =
    subst (HasRoom sink) (sym (one_sent x bytes some)) (room_for_front x bytes 1 sink room)
