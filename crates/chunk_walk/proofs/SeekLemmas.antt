-- What seeks leave of a session, and a walk of its writer.
use Rattle.std.proofs.Common.{◌≡◌, ℕ, false, List, ◌++◌, Option, ap, subst, sym, ◌∙◌, arith, append_assoc}
use Rattle.tape_core.specs.declared.devices.Watched.{Watched}
use Rattle.tape_core.specs.Devices.{Gave, TookPart}
use Rattle.tape_core.specs.Due.{first}
use Rattle.tape_core.specs.Tape.{Tape}
use Rattle.tape_core.proofs.GaveLemmas.{gave_early, gave_join}
use Rattle.tape_seek.specs.Edits.{edited_all}
use Rattle.tape_seek.specs.State.{KeepsHistory, StateOf}
use Rattle.chunk_walk.specs.Stops.{OnlySeeks, StopsSound}
use Rattle.chunk_walk.specs.Walk.{TextOfChunk, text_of}

pub only_seeks_more : {P : Type 0} {a b c : StateOf P} → OnlySeeks a b → OnlySeeks b c → OnlySeeks a c
only_seeks_more h k = record {
  profile = k.profile ∙ h.profile;
  recording = k.recording ∙ h.recording;
  log = k.log ∙ h.log;
  every = k.every ∙ h.every;
  frontier = omega (arith, h.frontier, k.frontier);
}

pub seeks_keep_history : {P : Type 0} (old new : StateOf P) → OnlySeeks old new → KeepsHistory old new
seeks_keep_history old new seeks = λ o is. seeks.recording ∙ is ∙ ap (edited_all o) (sym seeks.log)

-- the text of a chunk stays as seeks are made
pub text_stays : {P : Type 0} (text : TextOfChunk P) (a b : StateOf P) (index : ℕ) → OnlySeeks a b
    → text_of text b.profile b.recording index ≡ text_of text a.profile a.recording index
text_stays {P = P} text a b index h =
    ap (λ (p : P). text_of text p b.recording index) h.profile ∙ ap (λ (t : Tape). text_of text a.profile t index) h.recording

-- and so does what is kept of the terminal, there and back
pub kept_there : {P K : Type 0} (keeps : P → K → List ℕ → Type 0) (a b : StateOf P) (kept : K) (count : ℕ) → OnlySeeks a b
    → keeps a.profile kept (first a.recording.chunks count) → keeps b.profile kept (first b.recording.chunks count)
kept_there {P = P} keeps a b kept count h is =
    subst (λ (p : P). keeps p kept (first b.recording.chunks count)) (sym h.profile)
    (subst (λ (t : Tape). keeps a.profile kept (first t.chunks count)) (sym h.recording) is)

pub kept_back : {P K : Type 0} (keeps : P → K → List ℕ → Type 0) (a b : StateOf P) (kept : K) (count : ℕ) → OnlySeeks a b
    → keeps b.profile kept (first b.recording.chunks count) → keeps a.profile kept (first a.recording.chunks count)
kept_back {P = P} keeps a b kept count h is =
    subst (λ (p : P). keeps p kept (first a.recording.chunks count)) h.profile
    (subst (λ (t : Tape). keeps b.profile kept (first t.chunks count)) h.recording is)

-- a walk that memory was refused to, alone and between two texts
pub ends_sound : {T : Type 0} (contents : T → Option (List ℕ)) (a b : Watched T) (text : List ℕ) → StopsSound contents a b text
    → TookPart contents a b text false
ends_sound contents a b text h = gave_early contents a b text h.front h.rest false h.cut h.sound h.gave

pub ends_between : {T : Type 0} (contents : T → Option (List ℕ)) (a b c : Watched T) (text x y z : List ℕ) → text ≡ x ++ y ++ z
    → StopsSound contents b c y → Gave contents a b x → TookPart contents a c text false
ends_between contents a b c text x y z cut h gave =
    gave_early contents a c text (x ++ h.front) (h.rest ++ z) false
    (cut ∙ ap (λ t. (x ++ t) ++ z) h.cut ∙ ap (λ t. t ++ z) (sym (append_assoc x h.front h.rest)) ∙ append_assoc (x ++ h.front) h.rest z)
    h.sound (gave_join contents a b c x h.front gave h.gave)
