-- Bytes that are played piece by piece.
use Rattle.std.proofs.Common.{◌≡◌, ℕ, ◌+◌, ◌<◌, List, [], ◌++◌, length, take, drop, refl, sym, ap, ◌∙◌, subst, append-nil}
use Rattle.std.proofs.Math.Seq.{take-add}
use Rattle.std.proofs.lemmas.List.{drop-drop, take-append-drop}
use Rattle.std.specs.Prelude.{Option, slice_index}
use Rattle.tape_core.specs.declared.devices.Watched.{Watched}
use Rattle.transcripts.specs.Told.{Back, TellsFront}
use Rattle.transcripts.proofs.ToldLemmas.{front_first}
use Rattle.xterm_term.specs.Console.{Console}
use Rattle.xterm_term.specs.Seen.{Shows}
use Rattle.xterm_term.specs.Term.{play}
use Rattle.xterm_transcript.specs.declared.transcriber.Piece.{Piece}
use Rattle.xterm_transcript.specs.declared.transcriber.Transcriber.{Transcriber}
use Rattle.xterm_transcript.specs.Playing.{Comes, IsPlayed, broken_rows, home_by, mended}
use Rattle.xterm_transcript.specs.Transcribed.{Transcribed, left, play_on}
use Rattle.xterm_transcript.proofs.PartLemmas.{left_parts, plays_parts, plays_term}
use Rattle.xterm_transcript.proofs.PieceLemmas.{first_of}
use Rattle.xterm_transcript.proofs.PutLemmas.{mended_plays}

-- a piece
pub piece_played : (now : Transcriber) (x : Transcribed) (bytes : List ℕ) (piece : Piece) → Shows now.terminal (play x.term bytes)
    → now.home ≡ home_by piece.after x.home now.terminal.console.picture → Comes x bytes piece now.parser → IsPlayed now (play_on x bytes)
piece_played now x bytes piece shows home comes =
    let there : Shows now.terminal (play_on x bytes).term = subst (Shows now.terminal) (sym (plays_term x bytes)) shows in
    record {
      shows = there;
      state = comes.shown;
      home = home ∙ ap (λ (s : Console). home_by piece.after x.home s.picture) (sym there.console) ∙ sym comes.home;
    }

-- ---- what was broken off before

-- the piece of the bytes behind that, and the bytes themselves
pub mended_played : (now : Transcriber) (x : Transcribed) (bytes : List ℕ) (n : ℕ) → 0 < n → 0 < length (take n bytes)
    → IsPlayed now (play_on (mended x (slice_index bytes 0)) (take n bytes)) → IsPlayed now (play_on x (take n bytes))
mended_played now x bytes n some long is =
    let first = first_of n bytes some in
    subst (IsPlayed now)
    (ap (λ byte. play_on (mended x byte) (take n bytes)) (sym first) ∙ sym (mended_plays x (take n bytes) long).1) is

pub mended_left : (x : Transcribed) (bytes : List ℕ) (n : ℕ) → 0 < n → 0 < length (take n bytes)
    → broken_rows x (slice_index bytes 0) ++ left (mended x (slice_index bytes 0)) (take n bytes) ≡ left x (take n bytes)
mended_left x bytes n some long =
    ap (λ byte. broken_rows x byte ++ left (mended x byte) (take n bytes)) (sym (first_of n bytes some))
    ∙ sym (mended_plays x (take n bytes) long).0

-- some of the rows that leave at some of the bytes
pub front_taken : {W : Type 0} {contents : W → Option (List ℕ)} {a b : Watched W} {x y : Back} (t : Transcribed) (bytes : List ℕ) (n : ℕ)
    → TellsFront contents a x b y (left t (take n bytes)) → TellsFront contents a x b y (left t bytes)
front_taken {contents = contents} {a = a} {b = b} {x = x} {y = y} t bytes n told =
    subst (TellsFront contents a x b y)
    (sym (left_parts t (take n bytes) (drop n bytes)) ∙ ap (left t) (take-append-drop n bytes))
    (front_first (left (play_on t (take n bytes)) (drop n bytes)) told)

-- ---- the bytes so far

-- the bytes up to a place were played, and the rest is left
pub record Passed (old new : Transcriber) (bytes rest : List ℕ) : Type 0 where
  pub at : ℕ
  pub rest_is : rest ≡ drop at bytes
  pub played : (x : Transcribed) → IsPlayed old x → IsPlayed new (play_on x (take at bytes))

pub passed_none : (old : Transcriber) (bytes : List ℕ) → Passed old old bytes bytes
unfolding play_on
passed_none old bytes = record { at = 0; rest_is = refl; played = λ x is. is }

pub passed_more : (old mid new : Transcriber) (bytes rest next : List ℕ) (n : ℕ) → Passed old mid bytes rest → next ≡ drop n rest
    → ((x : Transcribed) → IsPlayed mid x → IsPlayed new (play_on x (take n rest))) → Passed old new bytes next
passed_more old mid new bytes rest next n passed is more = record {
  at = passed.at + n;
  rest_is = is ∙ ap (drop n) passed.rest_is ∙ drop-drop n passed.at bytes;
  played = λ x was.
      subst (IsPlayed new)
      (sym (plays_parts x (take passed.at bytes) (take n rest))
      ∙ ap (λ l. play_on x (take passed.at bytes ++ take n l)) passed.rest_is ∙ ap (play_on x) (sym (take-add passed.at n bytes)))
      (more (play_on x (take passed.at bytes)) (passed.played x was));
}

pub passed_all : (old new : Transcriber) (bytes rest : List ℕ) → Passed old new bytes rest → rest ≡ []
    → (x : Transcribed) → IsPlayed old x → IsPlayed new (play_on x bytes)
passed_all old new bytes rest passed none x was =
    subst (λ l. IsPlayed new (play_on x l))
    (sym (append-nil (take passed.at bytes)) ∙ ap (λ l. take passed.at bytes ++ l) (sym none ∙ passed.rest_is) ∙ take-append-drop passed.at bytes)
    (passed.played x was)
