-- Bytes that are played some after others.
use Rattle.std.proofs.Common.{◌≡◌, ℕ, ◌+◌, ◌≤◌, List, [], ◌++◌, length, take, drop, sym, ap, ◌∙◌, subst, append-nil, refl, arith}
use Rattle.std.proofs.Math.Seq.{take-add}
use Rattle.std.proofs.lemmas.List.{drop-drop, length-drop, take-append-drop}
use Rattle.std.specs.Prelude.{Option}
use Rattle.tape_core.specs.declared.devices.Watched.{Watched}
use Rattle.transcripts.specs.Told.{Back, Tells, TellsFront}
use Rattle.transcripts.proofs.ToldLemmas.{front_first, front_second, tells_both, tells_none}
use Rattle.screen_transcript.specs.declared.transcriber.Transcriber.{Transcriber}
use Rattle.screen_transcript.specs.Playing.{IsPlayed}
use Rattle.screen_transcript.specs.Transcribed.{Transcribed, left, play_on}
use Rattle.screen_transcript.proofs.PartLemmas.{left_parts, plays_parts}

-- the bytes up to a place were played, and the rest is left
pub record Passed (old new : Transcriber) (bytes rest : List ℕ) : Type 0 where
  pub at : ℕ
  pub left : rest ≡ drop at bytes
  pub played : (x : Transcribed) → IsPlayed old x → IsPlayed new (play_on x (take at bytes))

pub passed_none : (old : Transcriber) (bytes : List ℕ) → Passed old old bytes bytes
unfolding play_on
passed_none old bytes = record { at = 0; left = refl; played = λ x is. is }

pub passed_more : (old mid new : Transcriber) (bytes rest next : List ℕ) (n : ℕ) → Passed old mid bytes rest → next ≡ drop n rest
    → ((x : Transcribed) → IsPlayed mid x → IsPlayed new (play_on x (take n rest))) → Passed old new bytes next
passed_more old mid new bytes rest next n passed is more = record {
  at = passed.at + n;
  left = is ∙ ap (drop n) passed.left ∙ drop-drop n passed.at bytes;
  played = λ x was.
      subst (IsPlayed new)
      (sym (plays_parts x (take passed.at bytes) (take n rest))
      ∙ ap (λ l. play_on x (take passed.at bytes ++ take n l)) passed.left ∙ ap (play_on x) (sym (take-add passed.at n bytes)))
      (more (play_on x (take passed.at bytes)) (passed.played x was));
}

pub passed_all : (old new : Transcriber) (bytes rest : List ℕ) → Passed old new bytes rest → rest ≡ []
    → (x : Transcribed) → IsPlayed old x → IsPlayed new (play_on x bytes)
passed_all old new bytes rest passed none x was =
    subst (λ l. IsPlayed new (play_on x l))
    (sym (append-nil (take passed.at bytes)) ∙ ap (λ l. take passed.at bytes ++ l) (sym none ∙ passed.left) ∙ take-append-drop passed.at bytes)
    (passed.played x was)

-- ---- the rows that leave at them

-- those that leave at some of the bytes are a beginning
pub front_taken : {W : Type 0} {contents : W → Option (List ℕ)} {a b : Watched W} {y z : Back} (x : Transcribed) (bytes : List ℕ) (n : ℕ)
    → TellsFront contents a y b z (left x (take n bytes)) → TellsFront contents a y b z (left x bytes)
front_taken {contents = contents} {a = a} {b = b} {y = y} {z = z} x bytes n told =
    subst (TellsFront contents a y b z) (sym (left_parts x (take n bytes) (drop n bytes)) ∙ ap (left x) (take-append-drop n bytes))
    (front_first (left (play_on x (take n bytes)) (drop n bytes)) told)

-- so many of the bytes were played, and the rows that leave at them told
pub record Telling {W : Type 0} (contents : W → Option (List ℕ)) (before : Watched W) (back : Back) (old : Transcriber) (writer : Watched W) (rows : Back)
    (new : Transcriber) (bytes : List ℕ) (taken : ℕ) : Type 0 where
  pub within : taken ≤ length bytes
  pub played : (x : Transcribed) → IsPlayed old x → IsPlayed new (play_on x (take taken bytes))
  pub tells : (x : Transcribed) → IsPlayed old x → Tells contents before back writer rows (left x (take taken bytes))

module _ {W : Type 0} (contents : W → Option (List ℕ)) (before : Watched W) (back : Back) (old : Transcriber) (bytes : List ℕ) where
  pub telling_none : Telling contents before back old before back old bytes 0
  unfolding play_on left
  telling_none = record { within = omega arith; played = λ x is. is; tells = λ x is. tells_none before back }

  pub telling_more : (writer next : Watched W) (rows after : Back) (mid new : Transcriber) (taken n : ℕ) (rest : List ℕ)
      → Telling contents before back old writer rows mid bytes taken → rest ≡ drop taken bytes → n ≤ length rest
      → ((x : Transcribed) → IsPlayed mid x → IsPlayed new (play_on x (take n rest)))
      → ((x : Transcribed) → IsPlayed mid x → Tells contents writer rows next after (left x (take n rest)))
      → Telling contents before back old next after new bytes (taken + n)
  telling_more writer next rows after mid new taken n rest telling is within played tells = record {
    within = omega (arith, within, telling.within, ap length is, length-drop taken bytes);
    played = λ x was.
        subst (IsPlayed new)
        (sym (plays_parts x (take taken bytes) (take n rest)) ∙ ap (λ l. play_on x (take taken bytes ++ take n l)) is
        ∙ ap (play_on x) (sym (take-add taken n bytes)))
        (played (play_on x (take taken bytes)) (telling.played x was));
    tells = λ x was.
        subst (Tells contents before back next after)
        (sym (left_parts x (take taken bytes) (take n rest)) ∙ ap (λ l. left x (take taken bytes ++ take n l)) is
        ∙ ap (left x) (sym (take-add taken n bytes)))
        (tells_both (tells (play_on x (take taken bytes)) (telling.played x was)) (telling.tells x was));
  }

  pub telling_front : (writer next : Watched W) (rows after : Back) (mid : Transcriber) (taken : ℕ) (rest : List ℕ)
      → Telling contents before back old writer rows mid bytes taken → rest ≡ drop taken bytes
      → ((x : Transcribed) → IsPlayed mid x → TellsFront contents writer rows next after (left x rest))
      → (x : Transcribed) → IsPlayed old x → TellsFront contents before back next after (left x bytes)
  telling_front writer next rows after mid taken rest telling is front x was =
      subst (TellsFront contents before back next after)
      (sym (left_parts x (take taken bytes) rest) ∙ ap (λ l. left x (take taken bytes ++ l)) is ∙ ap (left x) (take-append-drop taken bytes))
      (front_second (front (play_on x (take taken bytes)) (telling.played x was)) (telling.tells x was))
