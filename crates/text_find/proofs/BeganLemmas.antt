-- Texts of which a beginning was given.
use Rattle.std.proofs.Common.{◌≡◌, ℕ, ◌+◌, ◌-◌, ◌<◌, ◌≤◌, List, [], ◌∷◌, ◌++◌, length, get_or, take, drop, Option, refl, ap, sym, ◌∙◌, arith, append_assoc, append-nil, subst}
use Rattle.std.specs.List.{flat_map}
use Rattle.std.proofs.lemmas.List.{take-append-drop, take_more}
use Rattle.std.proofs.lemmas.List.Concat.{flat_map-append}
use Rattle.tape_core.specs.declared.devices.Watched.{Watched}
use Rattle.tape_core.specs.Devices.{Gave}
use Rattle.tape_core.proofs.GaveLemmas.{gave_join, gave_none}
use Rattle.chunk_walk.proofs.TextLemmas.{one_more, texts_around, texts_cut, texts_from}
use Rattle.text_find.specs.Lines.{Began}

-- nothing of it
pub began_none : {T : Type 0} (contents : T → Option (List ℕ)) (a : Watched T) (text : List ℕ) → Began contents a a text
began_none contents a text = record { front = []; rest = text; cut = refl; gave = gave_none contents a }

-- nothing, by a writer that stayed
pub began_stays : {T : Type 0} (contents : T → Option (List ℕ)) (a b : Watched T) (text : List ℕ) → b ≡ a → Began contents a b text
began_stays contents a b text same = subst (λ w. Began contents a w text) (sym same) (began_none contents a text)

-- all of it
pub began_whole : {T : Type 0} (contents : T → Option (List ℕ)) (a b : Watched T) (text : List ℕ) → Gave contents a b text → Began contents a b text
began_whole contents a b text gave = record { front = text; rest = []; cut = sym (append-nil text); gave = gave }

-- a beginning of what comes behind another text
pub began_behind : {T : Type 0} (contents : T → Option (List ℕ)) (a b c : Watched T) (text x y z : List ℕ) → text ≡ (x ++ y) ++ z
    → Gave contents a b x → Began contents b c y → Began contents a c text
began_behind contents a b c text x y z cut gave began = record {
  front = x ++ began.front;
  rest = began.rest ++ z;
  cut = cut ∙ ap (λ t. (x ++ t) ++ z) began.cut ∙ ap (λ t. t ++ z) (sym (append_assoc x began.front began.rest))
      ∙ append_assoc (x ++ began.front) began.rest z;
  gave = gave_join contents a b c x began.front gave began.gave;
}

-- a beginning of the first of two texts, and of the second
pub began_first : {T : Type 0} (contents : T → Option (List ℕ)) (a b : Watched T) (x y : List ℕ) → Began contents a b x → Began contents a b (x ++ y)
began_first contents a b x y began = began_behind contents a a b (x ++ y) [] x y refl (gave_none contents a) began

pub began_second : {T : Type 0} (contents : T → Option (List ℕ)) (a b c : Watched T) (x y : List ℕ) → Gave contents a b x → Began contents b c y → Began contents a c (x ++ y)
began_second contents a b c x y gave began = began_behind contents a b c (x ++ y) x y [] (sym (append-nil (x ++ y))) gave began

-- of many texts, in one of them
pub began_within : {T : Type 0} (contents : T → Option (List ℕ)) (a b c : Watched T) (f : ℕ → List ℕ) (start end index : ℕ) → start ≤ index → index < end
    → Gave contents a b (texts_from f start (index - start)) → Began contents b c (f index) → Began contents a c (texts_from f start (end - start))
began_within contents a b c f start end index low high gave began =
    began_behind contents a b c (texts_from f start (end - start)) (texts_from f start (index - start)) (f index) (texts_from f (start + (index - start + 1)) (end - start - (index - start + 1)))
    (texts_cut f start end index (f index) low high refl) gave began

-- of those from the first on
pub first_more : (f : ℕ → List ℕ) (n : ℕ) → texts_from f 0 (n + 1) ≡ texts_from f 0 n ++ f n
first_more f n = one_more f 0 n ∙ ap (λ k. texts_from f 0 n ++ f k) (omega arith)

first_cut : (f : ℕ → List ℕ) (n all : ℕ) → n < all → texts_from f 0 all ≡ (texts_from f 0 n ++ f n) ++ texts_from f (0 + (n + 1)) (all - (n + 1))
first_cut f n all lt = texts_around f 0 n all lt ∙ ap (λ k. (texts_from f 0 n ++ f k) ++ texts_from f (0 + (n + 1)) (all - (n + 1))) (omega arith)

pub began_at : {T : Type 0} (contents : T → Option (List ℕ)) (a b c : Watched T) (f : ℕ → List ℕ) (n all : ℕ) → n < all
    → Gave contents a b (texts_from f 0 n) → Began contents b c (f n) → Began contents a c (texts_from f 0 all)
began_at contents a b c f n all lt gave began =
    began_behind contents a b c (texts_from f 0 all) (texts_from f 0 n) (f n) (texts_from f (0 + (n + 1)) (all - (n + 1))) (first_cut f n all lt) gave began

-- of many texts, one for each element of a list
pub listed_cut : {X : Type 0} (f : X → List ℕ) (xs : List X) (i : ℕ) (d : X) → i < length xs
    → flat_map f xs ≡ (flat_map f (take i xs) ++ f (get_or xs i d)) ++ flat_map f (drop (i + 1) xs)
listed_cut f xs i d lt =
    ap (flat_map f) (sym (take-append-drop (i + 1) xs))
    ∙ flat_map-append f (take (i + 1) xs) (drop (i + 1) xs)
    ∙ ap (λ l. flat_map f l ++ flat_map f (drop (i + 1) xs)) (take_more xs i d lt)
    ∙ ap (λ l. l ++ flat_map f (drop (i + 1) xs)) (flat_map-append f (take i xs) (get_or xs i d ∷ []) ∙ ap (λ l. flat_map f (take i xs) ++ l) (append-nil (f (get_or xs i d))))

pub listed_more : {X : Type 0} (f : X → List ℕ) (xs : List X) (i : ℕ) (d : X) → i < length xs
    → flat_map f (take (i + 1) xs) ≡ flat_map f (take i xs) ++ f (get_or xs i d)
listed_more f xs i d lt =
    ap (flat_map f) (take_more xs i d lt) ∙ flat_map-append f (take i xs) (get_or xs i d ∷ []) ∙ ap (λ l. flat_map f (take i xs) ++ l) (append-nil (f (get_or xs i d)))

-- what a writer that had stayed was given
pub gave_again : {T : Type 0} (contents : T → Option (List ℕ)) (a b c d : Watched T) (text : List ℕ) → b ≡ a → Gave contents b c text → d ≡ c → Gave contents a d text
gave_again contents a b c d text stayed gave is =
    subst (λ w. Gave contents a w text) (sym is) (subst (λ w. Gave contents w c text) stayed gave)
