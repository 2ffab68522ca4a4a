-- Bytes of which the rows are told a few at a time.
use Rattle.std.proofs.Common.{◌≡◌, ℕ, ◌+◌, List, [], ◌++◌, Option, take, drop, refl, ap, sym, subst, ◌∙◌, append_assoc, append-nil}
use Rattle.std.proofs.Math.Seq.{take-add}
use Rattle.std.proofs.lemmas.List.{drop-drop, take-append-drop}
use Rattle.chunk_walk.specs.declared.stop.WalkFault.{WalkFault}
use Rattle.tape_core.specs.declared.devices.Watched.{Watched}
use Rattle.transcripts.specs.Told.{Back, StopsIn, Tells, TellsFront}
use Rattle.transcripts.specs.Transcript.{Leaving}
use Rattle.transcripts.proofs.ToldLemmas.{front_first, stops_second, tells_both, tells_none}

-- the bytes up to a place were played and the rows that leave at them told, and the rest of the bytes is left
pub record Sofar {P T W : Type 0} (played : P → T → List ℕ → Type 0) (leaving : Leaving P) (contents : W → Option (List ℕ))
    (old new : T) (first last : Watched W) (before after : Back) (bytes rest : List ℕ) : Type 0 where
  pub at : ℕ
  pub left : rest ≡ drop at bytes
  pub plays : (profile : P) (front : List ℕ) → played profile old front → played profile new (front ++ take at bytes)
  pub told : (profile : P) (front : List ℕ) → played profile old front
      → Tells contents first before last after (leaving profile front (take at bytes))

-- all of them
all_of : (bytes rest : List ℕ) (at : ℕ) → rest ≡ drop at bytes → rest ≡ [] → take at bytes ≡ bytes
all_of bytes rest at left none =
    sym (append-nil (take at bytes)) ∙ ap (λ l. take at bytes ++ l) (sym none ∙ left) ∙ take-append-drop at bytes

module _ {P T W : Type 0} (played : P → T → List ℕ → Type 0) (leaving : Leaving P) {contents : W → Option (List ℕ)}
    (nothing : (profile : P) (before : List ℕ) → leaving profile before [] ≡ [])
    (parts : (profile : P) (before first second : List ℕ) → leaving profile before (first ++ second) ≡ leaving profile before first ++ leaving profile (before ++ first) second) where
  pub sofar_none : (old : T) (first : Watched W) (before : Back) (bytes : List ℕ) → Sofar played leaving contents old old first first before before bytes bytes
  sofar_none old first before bytes = record {
    at = 0;
    left = refl;
    plays = λ profile front is. subst (played profile old) (sym (append-nil front)) is;
    told = λ profile front is. subst (Tells contents first before first before) (sym (nothing profile front)) (tells_none first before);
  }

  pub sofar_more : (old mid new : T) (first second third : Watched W) (x y z : Back) (bytes rest next : List ℕ) (n : ℕ)
      → Sofar played leaving contents old mid first second x y bytes rest → next ≡ drop n rest
      → ((profile : P) (front : List ℕ) → played profile mid front → played profile new (front ++ take n rest))
      → ((profile : P) (front : List ℕ) → played profile mid front → Tells contents second y third z (leaving profile front (take n rest)))
      → Sofar played leaving contents old new first third x z bytes next
  sofar_more old mid new first second third x y z bytes rest next n sofar is goes_on telling =
      let here : take n rest ≡ take n (drop sofar.at bytes) = ap (take n) sofar.left in
      record {
        at = sofar.at + n;
        left = is ∙ ap (drop n) sofar.left ∙ drop-drop n sofar.at bytes;
        plays = λ profile front was.
            subst (played profile new)
            (append_assoc front (take sofar.at bytes) (take n rest) ∙ ap (λ l. front ++ (take sofar.at bytes ++ l)) here
            ∙ ap (λ l. front ++ l) (sym (take-add sofar.at n bytes)))
            (goes_on profile (front ++ take sofar.at bytes) (sofar.plays profile front was));
        told = λ profile front was.
            subst (Tells contents first x third z)
            (ap (λ l. leaving profile front (take sofar.at bytes) ++ leaving profile (front ++ take sofar.at bytes) l) here
            ∙ sym (parts profile front (take sofar.at bytes) (take n (drop sofar.at bytes)))
            ∙ ap (leaving profile front) (sym (take-add sofar.at n bytes)))
            (tells_both (telling profile (front ++ take sofar.at bytes) (sofar.plays profile front was)) (sofar.told profile front was));
      }

  pub sofar_plays : (old new : T) (first last : Watched W) (x y : Back) (bytes rest : List ℕ)
      → Sofar played leaving contents old new first last x y bytes rest → rest ≡ []
      → (profile : P) (front : List ℕ) → played profile old front → played profile new (front ++ bytes)
  sofar_plays old new first last x y bytes rest sofar none profile front was =
      subst (λ l. played profile new (front ++ l)) (all_of bytes rest sofar.at sofar.left none) (sofar.plays profile front was)

  pub sofar_tells : (old new : T) (first last : Watched W) (x y : Back) (bytes rest : List ℕ)
      → Sofar played leaving contents old new first last x y bytes rest → rest ≡ []
      → (profile : P) (front : List ℕ) → played profile old front → Tells contents first x last y (leaving profile front bytes)
  sofar_tells old new first last x y bytes rest sofar none profile front was =
      subst (λ l. Tells contents first x last y (leaving profile front l)) (all_of bytes rest sofar.at sofar.left none) (sofar.told profile front was)

  -- a stop in the rest is one in all
  pub sofar_stops : (old mid : T) (first second last : Watched W) (x y : Back) (bytes rest : List ℕ) (fault : WalkFault)
      → Sofar played leaving contents old mid first second x y bytes rest
      → ((profile : P) (front : List ℕ) → played profile mid front → StopsIn contents second y last (leaving profile front rest) fault)
      → (profile : P) (front : List ℕ) → played profile old front → StopsIn contents first x last (leaving profile front bytes) fault
  sofar_stops old mid first second last x y bytes rest fault sofar stops profile front was =
      let before = take sofar.at bytes in
      let more = leaving profile (front ++ before) rest in
      let all : leaving profile front before ++ more ≡ leaving profile front bytes =
      sym (parts profile front before rest)
      ∙ ap (λ l. leaving profile front (before ++ l)) sofar.left ∙ ap (leaving profile front) (take-append-drop sofar.at bytes) in
      subst (λ l. StopsIn contents first x last l fault) all
      (stops_second first second last x y (leaving profile front before) more fault (sofar.told profile front was)
      (stops profile (front ++ before) (sofar.plays profile front was)))

  -- the rows of some of the bytes are a beginning of those of all
  pub front_of_some : (first last : Watched W) (x y : Back) (bytes : List ℕ) (n : ℕ) (profile : P) (front : List ℕ)
      → TellsFront contents first x last y (leaving profile front (take n bytes)) → TellsFront contents first x last y (leaving profile front bytes)
  front_of_some first last x y bytes n profile front told =
      subst (TellsFront contents first x last y)
      (sym (parts profile front (take n bytes) (drop n bytes)) ∙ ap (leaving profile front) (take-append-drop n bytes))
      (front_first (leaving profile (front ++ take n bytes) (drop n bytes)) told)
