-- Lists of edits that are made one behind another.
use Rattle.std.proofs.Common.{◌≡◌, ℕ, List, [], ◌∷◌, ◌++◌, Option, Some, None, Ok, Err, refl, ap, ap₂, sym, ◌∙◌, append_assoc, inl, inr, subst}
use Rattle.std.specs.Prelude.{◌⊎◌, Result, unwrap_or}
use Rattle.std.specs.Option.{option_or}
use Rattle.tape_core.specs.Tape.{Tape}
use Rattle.tape_seek.specs.declared.edits.Edit.{Edit}
use Rattle.tape_seek.specs.declared.edits.EditFault.{EditFault}
use Rattle.tape_seek.specs.declared.edits.EditFault.TheVariants.{OutOfMemory}
use Rattle.tape_seek.specs.Edits.{edit_fault, edited, edited_all}
use Rattle.tape_seek.specs.State.{KeepsHistory, StateOf, accepted}
use Rattle.tape_cut.specs.CutEdits.{cut_edits, excerpt_edits, first_fault}
use Rattle.tape_cut.specs.Making.{AreMade, IsRefused, Making, OnlySought}
use Rattle.tape_cut.proofs.EditLemmas.{edited-append}

-- the first fault of two lists, one behind the other
behind_step : (edit : Edit) (first second : List Edit) (tape : Tape) (f : Option EditFault) → edit_fault tape edit ≡ f
    → first_fault tape (edit ∷ first) ≡ None
    → (first_fault (edited tape edit) first ≡ None
    → first_fault (edited tape edit) (first ++ second) ≡ first_fault (edited_all (edited tape edit) first) second)
    → first_fault tape ((edit ∷ first) ++ second) ≡ first_fault (edited_all tape (edit ∷ first)) second
behind_step edit first second tape None is none rest =
    let left : first_fault (edited tape edit) first ≡ None = ap (λ o. option_or o (first_fault (edited tape edit) first)) (sym is) ∙ none in
    ap (λ o. option_or o (first_fault (edited tape edit) (first ++ second))) is ∙ rest left
behind_step edit first second tape (Some f) is none rest =
    let wrong : Some f ≡ None = ap (λ o. option_or o (first_fault (edited tape edit) first)) (sym is) ∙ none in cc

pub first_fault-behind : (first second : List Edit) (tape : Tape) → first_fault tape first ≡ None
    → first_fault tape (first ++ second) ≡ first_fault (edited_all tape first) second
first_fault-behind [] second tape none = refl
first_fault-behind (edit ∷ first) second tape none =
    behind_step edit first second tape (edit_fault tape edit) refl none (λ rest. first_fault-behind first second (edited tape edit) rest)

before_step : (edit : Edit) (first second : List Edit) (tape : Tape) (fault : EditFault) (f : Option EditFault) → edit_fault tape edit ≡ f
    → first_fault tape (edit ∷ first) ≡ Some fault
    → (first_fault (edited tape edit) first ≡ Some fault → first_fault (edited tape edit) (first ++ second) ≡ Some fault)
    → first_fault tape ((edit ∷ first) ++ second) ≡ Some fault
before_step edit first second tape fault None is some rest =
    let left : first_fault (edited tape edit) first ≡ Some fault = ap (λ o. option_or o (first_fault (edited tape edit) first)) (sym is) ∙ some in
    ap (λ o. option_or o (first_fault (edited tape edit) (first ++ second))) is ∙ rest left
before_step edit first second tape fault (Some f) is some rest =
    let same : Some f ≡ Some fault = ap (λ o. option_or o (first_fault (edited tape edit) first)) (sym is) ∙ some in
    ap (λ o. option_or o (first_fault (edited tape edit) (first ++ second))) is ∙ same

pub first_fault-before : (first second : List Edit) (tape : Tape) (fault : EditFault) → first_fault tape first ≡ Some fault
    → first_fault tape (first ++ second) ≡ Some fault
first_fault-before [] second tape fault some = cc
first_fault-before (edit ∷ first) second tape fault some =
    before_step edit first second tape fault (edit_fault tape edit) refl some (λ rest. first_fault-before first second (edited tape edit) fault rest)

history_on : {P : Type 0} (a b c : StateOf P) → KeepsHistory a b → KeepsHistory b c → KeepsHistory a c
history_on a b c first second = λ o is. second o (first o is)

-- ---- one list behind another

pub made_more : {P : Type 0} (first second : List Edit) (a b c : StateOf P) → AreMade first a b → AreMade second b c → AreMade (first ++ second) a c
made_more first second a b c one other = record {
  recording = other.recording ∙ ap (λ t. edited_all t second) one.recording ∙ sym (edited-append a.recording first second);
  faultless = first_fault-behind first second a.recording one.faultless ∙ ap (λ t. first_fault t second) (sym one.recording) ∙ other.faultless;
  history = history_on a b c one.history other.history;
}

pub refused_more : {P : Type 0} (first second : List Edit) (a b : StateOf P) (fault : EditFault) → IsRefused first a b fault
    → IsRefused (first ++ second) a b fault
refused_more first second a b fault refused = record {
  why = elim refused.why [ inl memory ↦ inl memory | inr has ↦ inr (first_fault-before first second a.recording fault has) ];
  before = refused.before;
  behind = refused.behind ++ second;
  cut = ap (λ es. es ++ second) refused.cut ∙ append_assoc refused.before refused.behind second;
  recording = refused.recording;
  history = refused.history;
}

pub refused_behind : {P : Type 0} (first second : List Edit) (a b c : StateOf P) (fault : EditFault) → AreMade first a b
    → IsRefused second b c fault → IsRefused (first ++ second) a c fault
refused_behind first second a b c fault one refused = record {
  why = elim refused.why [
    | inl memory ↦ inl memory
    | inr has ↦ inr (first_fault-behind first second a.recording one.faultless ∙ ap (λ t. first_fault t second) (sym one.recording) ∙ has)
  ];
  before = first ++ refused.before;
  behind = refused.behind;
  cut = ap (λ es. first ++ es) refused.cut ∙ sym (append_assoc first refused.before refused.behind);
  recording = refused.recording ∙ ap (λ t. edited_all t refused.before) one.recording ∙ sym (edited-append a.recording first refused.before);
  history = history_on a b c one.history refused.history;
}

pub making_behind : {A P : Type 0} (result : Result A EditFault) (first second : List Edit) (a b c : StateOf P) → AreMade first a b
    → Making result second b c → Making result (first ++ second) a c
making_behind (Ok value) first second a b c one making = made_more first second a b c one making
making_behind (Err fault) first second a b c one making = refused_behind first second a b c fault one making

-- ---- none, and one

pub none_made : {P : Type 0} (s : StateOf P) → AreMade [] s s
none_made s = record { recording = refl; faultless = refl; history = λ o is. is }

pub no_memory : {P : Type 0} (edits : List Edit) (a b : StateOf P) → OnlySought a b → IsRefused edits a b OutOfMemory
no_memory edits a b sought = record {
  why = inl refl;
  before = [];
  behind = edits;
  cut = refl;
  recording = sought.recording;
  history = λ o is. sought.recording ∙ is ∙ ap (edited_all o) (sym sought.log);
}

pub one_made : {P : Type 0} (edit : Edit) (a b : StateOf P) → b ≡ accepted edit a → edit_fault a.recording edit ≡ None → KeepsHistory a b
    → AreMade (edit ∷ []) a b
one_made edit a b is none history = record {
  recording = ap (λ s. s.recording) is;
  faultless = ap (λ o. option_or o None) none;
  history = history;
}

fault_told : (f : Option EditFault) (fault : EditFault) → fault ≡ unwrap_or f OutOfMemory → (fault ≡ OutOfMemory) ⊎ (option_or f None ≡ Some fault)
fault_told None fault is = inl is
fault_told (Some f) fault is = inr (ap Some (sym is))

pub one_refused : {P : Type 0} (edit : Edit) (a b : StateOf P) (fault : EditFault) → b ≡ a
    → fault ≡ unwrap_or (edit_fault a.recording edit) OutOfMemory → KeepsHistory a b → IsRefused (edit ∷ []) a b fault
one_refused edit a b fault is told history = record {
  why = fault_told (edit_fault a.recording edit) fault told;
  before = [];
  behind = edit ∷ [];
  cut = refl;
  recording = ap (λ s. s.recording) is;
  history = history;
}

-- ---- behind a seek

pub sought_first : {A P : Type 0} (result : Result A EditFault) (edits : List Edit) (a b c : StateOf P) → OnlySought a b
    → Making result edits b c → Making result edits a c
sought_first result edits a b c sought making = making_behind result [] edits a b c
    (record {
      recording = sought.recording;
      faultless = refl;
      history = λ o is. sought.recording ∙ is ∙ ap (edited_all o) (sym sought.log);
    }) making

-- ---- lists that are made of others

module _ {P : Type 0} (all : List Edit) where
  pub refused_first : (first rest : List Edit) (a b : StateOf P) (fault : EditFault) → all ≡ first ++ rest → IsRefused first a b fault
      → IsRefused all a b fault
  refused_first first rest a b fault is refused = subst (λ es. IsRefused es a b fault) (sym is) (refused_more first rest a b fault refused)

  pub refused_second : (first second rest : List Edit) (a b c : StateOf P) (fault : EditFault) → all ≡ first ++ (second ++ rest)
      → AreMade first a b → IsRefused second b c fault → IsRefused all a c fault
  refused_second first second rest a b c fault is one refused =
      subst (λ es. IsRefused es a c fault) (sym is) (refused_behind first (second ++ rest) a b c fault one (refused_more second rest b c fault refused))

  pub refused_third : (first second third rest : List Edit) (a b c d : StateOf P) (fault : EditFault) → all ≡ first ++ (second ++ (third ++ rest))
      → AreMade first a b → AreMade second b c → IsRefused third c d fault → IsRefused all a d fault
  refused_third first second third rest a b c d fault is one other refused =
      subst (λ es. IsRefused es a d fault) (sym is)
      (refused_behind first (second ++ (third ++ rest)) a b d fault one
      (refused_behind second (third ++ rest) b c d fault other (refused_more third rest c d fault refused)))

  pub all_three : {A : Type 0} (result : Result A EditFault) (first second third : List Edit) (a b c d : StateOf P)
      → all ≡ first ++ (second ++ third) → AreMade first a b → AreMade second b c → Making result third c d → Making result all a d
  all_three result first second third a b c d is one other making =
      subst (λ es. Making result es a d) (sym is)
      (making_behind result first (second ++ third) a b d one (making_behind result second third b c d other making))

  pub all_four : {A : Type 0} (result : Result A EditFault) (first second third fourth : List Edit) (a b c d e : StateOf P)
      → all ≡ first ++ (second ++ (third ++ fourth)) → AreMade first a b → AreMade second b c → AreMade third c d → Making result fourth d e
      → Making result all a e
  all_four result first second third fourth a b c d e is one other next making =
      subst (λ es. Making result es a e) (sym is)
      (making_behind result first (second ++ (third ++ fourth)) a b e one
      (making_behind result second (third ++ fourth) b c e other (making_behind result third fourth c d e next making)))

-- a text that is taken at a seek
pub cut_behind : {A P : Type 0} (result : Result A EditFault) (from to : ℕ) (given text : List ℕ) (a b c : StateOf P) → OnlySought a b
    → given ≡ text → Making result (cut_edits from to given b.recording) b c → Making result (cut_edits from to text a.recording) a c
cut_behind result from to given text a b c sought is making =
    sought_first result (cut_edits from to text a.recording) a b c sought
    (subst (λ es. Making result es b c) (ap₂ (λ t r. cut_edits from to t r) is sought.recording) making)

pub excerpt_behind : {A P : Type 0} (result : Result A EditFault) (from : ℕ) (to : Option ℕ) (given text : List ℕ) (a b c : StateOf P)
    → OnlySought a b → given ≡ text → Making result (excerpt_edits from to given b.recording) b c
    → Making result (excerpt_edits from to text a.recording) a c
excerpt_behind result from to given text a b c sought is making =
    sought_first result (excerpt_edits from to text a.recording) a b c sought
    (subst (λ es. Making result es b c) (ap₂ (λ t r. excerpt_edits from to t r) is sought.recording) making)
