-- The pieces of a text, put in one by one.
use Rattle.std.proofs.Common.{◌≡◌, ℕ, ◌+◌, ◌-◌, ◌<◌, ◌≤◌, min, List, [], ◌∷◌, ◌++◌, length, take, drop, refl, ap, sym, ◌∙◌, arith, append-nil, append_assoc, subst, length-drop}
use Rattle.std.proofs.lemmas.List.{drop-drop, drop_all}
use Rattle.tape_core.specs.Tape.{longest_chunk}
use Rattle.tape_seek.specs.declared.edits.Edit.{Edit}
use Rattle.tape_seek.specs.declared.edits.Edit.TheVariants.{Insert}
use Rattle.tape_seek.specs.declared.edits.EditFault.{EditFault}
use Rattle.tape_seek.specs.State.{StateOf}
use Rattle.tape_cut.specs.CutEdits.{inserting}
use Rattle.tape_cut.specs.Cuts.{pieces}
use Rattle.tape_cut.specs.Making.{AreMade, IsRefused}
use Rattle.tape_cut.proofs.CodeLemmas.{inserting_next, pieces_next}
use Rattle.tape_cut.proofs.MakingLemmas.{made_more, none_made, refused_behind, refused_more}
use Rattle.tape_cut.proofs.PieceLemmas.{no_pieces}

-- The first bytes of a text are put in, and the rest is to be put in from a place on.
pub record IsPutting {P : Type 0} (old new : StateOf P) (at delay : ℕ) (text : List ℕ) (place wait start : ℕ) : Type 0 where
  pub done : List Edit
  pub made : AreMade done old new
  pub left : inserting at delay (pieces text) ≡ done ++ inserting place wait (pieces (drop start text))
  pub places : at + length (pieces text) ≡ place + length (pieces (drop start text))
  pub within : start ≤ length text
  pub small : place ≤ at + start

pub putting_none : {P : Type 0} (s : StateOf P) (at delay : ℕ) (text : List ℕ) → IsPutting s s at delay text at delay 0
putting_none s at delay text = record {
  done = [];
  made = none_made s;
  left = refl;
  places = refl;
  within = omega arith;
  small = omega arith;
}

module _ {P : Type 0} (old mid new : StateOf P) (at delay : ℕ) (text : List ℕ) (place wait start len : ℕ)
    (putting : IsPutting old mid at delay text place wait start) where
  rest_is : drop len (drop start text) ≡ drop (start + len) text
  rest_is = drop-drop len start text

  module _ (more : start < length text) (is : len ≡ min longest_chunk (length text - start)) (bytes : List ℕ)
      (these : bytes ≡ take len (drop start text)) where
    left_len : length (drop start text) ≡ length text - start
    left_len = length-drop start text

    some : 0 < length (drop start text)
    some = omega (arith, left_len)

    len_is : len ≡ min longest_chunk (length (drop start text))
    len_is = is ∙ ap (min longest_chunk) (sym left_len)

    all_is : inserting at delay (pieces text)
        ≡ (putting.done ++ Insert place wait bytes ∷ []) ++ inserting (place + 1) 0 (pieces (drop (start + len) text))
    all_is =
        putting.left
        ∙ ap (λ es. putting.done ++ es) (inserting_next place wait (drop start text) len some len_is
        ∙ ap (λ bs. Insert place wait bs ∷ inserting (place + 1) 0 (pieces (drop len (drop start text)))) (sym these)
        ∙ ap (λ ts. Insert place wait bytes ∷ inserting (place + 1) 0 (pieces ts)) rest_is)
        ∙ sym (append_assoc putting.done (Insert place wait bytes ∷ []) (inserting (place + 1) 0 (pieces (drop (start + len) text))))

    pub putting_more : AreMade (Insert place wait bytes ∷ []) mid new → IsPutting old new at delay text (place + 1) 0 (start + len)
    putting_more one =
        let count = ap length (pieces_next (drop start text) len some len_is) in
        let same = ap (λ ts. length (pieces ts)) rest_is in
        let places = putting.places in
        let within = putting.within in
        let small = putting.small in
        record {
          done = putting.done ++ Insert place wait bytes ∷ [];
          made = made_more putting.done (Insert place wait bytes ∷ []) old mid new putting.made one;
          left = all_is;
          places = omega arith;
          within = omega arith;
          small = omega arith;
        }

    pub putting_refused : (fault : EditFault) → IsRefused (Insert place wait bytes ∷ []) mid new fault
        → IsRefused (inserting at delay (pieces text)) old new fault
    putting_refused fault refused =
        subst (λ es. IsRefused es old new fault) (sym all_is)
        (refused_more (putting.done ++ Insert place wait bytes ∷ []) (inserting (place + 1) 0 (pieces (drop (start + len) text))) old new fault
        (refused_behind putting.done (Insert place wait bytes ∷ []) old mid new fault putting.made refused))

pub putting_all : {P : Type 0} (old new : StateOf P) (at delay : ℕ) (text : List ℕ) (place wait start : ℕ)
    → IsPutting old new at delay text place wait start → length text ≤ start
    → AreMade (inserting at delay (pieces text)) old new × (place ≡ at + length (pieces text))
putting_all old new at delay text place wait start putting done =
    let none : drop start text ≡ [] = drop_all start text done in
    let no_more : pieces (drop start text) ≡ [] = ap pieces none ∙ no_pieces in
    let all : inserting at delay (pieces text) ≡ putting.done =
    putting.left ∙ ap (λ parts. putting.done ++ inserting place wait parts) no_more ∙ append-nil putting.done in
    (subst (λ es. AreMade es old new) (sym all) putting.made, omega (arith, putting.places, ap length no_more))
