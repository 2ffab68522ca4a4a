-- What a list of calls leaves and feeds, a call more at its end.
use Rattle.std.proofs.Common.{◌≡◌, ℕ, List, [], ◌∷◌, ◌++◌, refl, sym, ap, ◌∙◌, append-nil, append_assoc}
use Rattle.std.specs.Prelude.{fold}
use Rattle.tape_seek.specs.Calls.{Call, HasRun, IsTold, after_call, fed_after, marks_after, told_by, told_from}
use Rattle.tape_seek.specs.Calls.Call.{Edited, EditRefused, Sought, SeekRefused}
use Rattle.tape_seek.specs.Calls.HasRun.{Opened, Accepted, RefusedEdit, Answered, RefusedSeek}
use Rattle.tape_seek.specs.Marks.{Marks, fed_by, first_marks}
use Rattle.tape_seek.specs.State.{StateOf}

marks_more : (every : ℕ) (marks : Marks) (calls : List Call) (call : Call)
    → fold (after_call every) marks (calls ++ call ∷ []) ≡ after_call every (fold (after_call every) marks calls) call
marks_more every marks [] call = refl
marks_more every marks (one ∷ more) call = marks_more every (after_call every marks one) more call

told_more : (every : ℕ) (marks : Marks) (calls : List Call) (call : Call)
    → told_from every marks (calls ++ call ∷ []) ≡ told_from every marks calls ++ told_by every (fold (after_call every) marks calls) call
told_more every marks [] call = append-nil (told_by every marks call)
told_more every marks (one ∷ more) call =
    ap (λ l. told_by every marks one ++ l) (told_more every (after_call every marks one) more call)
    ∙ sym (append_assoc (told_by every marks one) (told_from every (after_call every marks one) more) _)

-- a call that tells no number
told_nothing : (every : ℕ) (calls : List Call) (call : Call) (fed : List ℕ)
    → told_by every (marks_after every calls) call ≡ []
    → fed ≡ fed_after every calls → fed ≡ fed_after every (calls ++ call ∷ [])
told_nothing every calls call fed none is =
    is ∙ sym (append-nil (fed_after every calls)) ∙ ap (λ l. fed_after every calls ++ l) (sym none) ∙ sym (told_more every first_marks calls call)

pub runs_are_told : {P : Type 0} (every : ℕ) (calls : List Call) (fed : List ℕ) (s : StateOf P) → HasRun every calls fed s
    → IsTold every calls fed s
runs_are_told every calls fed s (Opened profile tape new is) = record {
  spaced = ap (λ (t : StateOf _). t.every) is;
  stands = ap (λ (t : StateOf _). t.marks) is;
  feeds = refl;
}
runs_are_told every calls fed s (Accepted before fed' old new edit ran is) =
    let told = runs_are_told every before fed' old ran in
    record {
      spaced = ap (λ (t : StateOf _). t.every) is ∙ told.spaced;
      stands = ap (λ (t : StateOf _). t.marks) is ∙ ap (λ (n : ℕ). after_call n old.marks (Edited edit)) told.spaced
          ∙ ap (λ (m : Marks). after_call every m (Edited edit)) told.stands ∙ sym (marks_more every first_marks before (Edited edit));
      feeds = told_nothing every before (Edited edit) fed' refl told.feeds;
    }
runs_are_told every calls fed s (RefusedEdit before fed' old new ran is) =
    let told = runs_are_told every before fed' old ran in
    record {
      spaced = ap (λ (t : StateOf _). t.every) is ∙ told.spaced;
      stands = ap (λ (t : StateOf _). t.marks) is ∙ told.stands ∙ sym (marks_more every first_marks before EditRefused);
      feeds = told_nothing every before EditRefused fed' refl told.feeds;
    }
runs_are_told every calls fed s (Answered before fed' old new count number ran is counts) =
    let told = runs_are_told every before fed' old ran in
    record {
      spaced = ap (λ (t : StateOf _). t.every) is ∙ told.spaced;
      stands = ap (λ (t : StateOf _). t.marks) is ∙ ap (λ (m : Marks). after_call every m (Sought count)) told.stands
          ∙ sym (marks_more every first_marks before (Sought count));
      feeds = ap (λ (l : List ℕ). l ++ number ∷ []) told.feeds
          ∙ ap (λ (n : ℕ). fed_after every before ++ n ∷ []) (counts ∙ ap (λ (n : ℕ). fed_by n count old.marks) told.spaced ∙ ap (fed_by every count) told.stands)
          ∙ sym (told_more every first_marks before (Sought count));
    }
runs_are_told every calls fed s (RefusedSeek before fed' old new ran is) =
    let told = runs_are_told every before fed' old ran in
    record {
      spaced = ap (λ (t : StateOf _). t.every) is ∙ told.spaced;
      stands = ap (λ (t : StateOf _). t.marks) is ∙ ap (λ (n : ℕ). after_call n old.marks SeekRefused) told.spaced
          ∙ ap (λ (m : Marks). after_call every m SeekRefused) told.stands ∙ sym (marks_more every first_marks before SeekRefused);
      feeds = told_nothing every before SeekRefused fed' refl told.feeds;
    }
