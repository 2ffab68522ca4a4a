-- What is told behind what was told before.
use Rattle.std.proofs.Common.{◌≡◌, ℕ, ◌+◌, Bool, true, false, ◌<◌, length, arith, List, [], ◌∷◌, ◌++◌, Option, refl, ap, sym, subst, ◌∙◌, append_assoc, append-nil}
use Rattle.std.specs.Prelude.{replicate, if◌then◌else◌}
use Rattle.chunk_walk.specs.Stops.{StopsPrint}
use Rattle.chunk_walk.specs.declared.stop.WalkFault.{WalkFault}
use Rattle.chunk_walk.specs.declared.stop.WalkFault.TheVariants as stops
use Rattle.held.specs.Held.{Holds, Wrote}
use Rattle.held.proofs.HeldLemmas.{wrote_both}
use Rattle.tape_core.specs.declared.devices.Watched.{Watched}
use Rattle.tape_core.specs.Devices.{Gave, TookPart, has_failed}
use Rattle.tape_core.proofs.GaveLemmas.{gave_early}
use Rattle.transcripts.specs.Told.{Back, BeginsRow, EndsRow, PutsPart, StopsIn, Tells, TellsFront, Told}
use Rattle.transcripts.specs.Transcript.{text_of, without_blank_end}
use Rattle.transcripts.proofs.RowLemmas.{blank_ends, ink_ends, text_blank, text_front, text_ink}

-- the fault of a writer that has failed
pub fault_failed : (failed : Bool) → failed ≡ true → stops.Write ≡ (if failed then stops.Write else stops.Memory)
fault_failed failed is = sym (ap (λ (b : Bool). if b then stops.Write else stops.Memory) is)

module _ {W : Type 0} {contents : W → Option (List ℕ)} where
  -- no row
  pub tells_none : (a : Watched W) (x : Back) → Tells contents a x a x []
  tells_none a x start rows told = subst (Told contents start a x) (sym (append-nil rows)) told

  -- rows behind others
  pub tells_both : {a b c : Watched W} {x y z : Back} {s t : List (List ℕ)} → Tells contents b y c z t → Tells contents a x b y s
      → Tells contents a x c z (s ++ t)
  tells_both {a} {b} {c} {x} {y} {z} {s} {t} second first start rows told =
      subst (Told contents start c z) (append_assoc rows s t) (second start (rows ++ s) (first start rows told))

  -- a blank row is held back
  pub tells_blank : (a : Watched W) (x y : Back) → y.held ≡ x.held → y.blank ≡ x.blank + 1 → Tells contents a x a y ([] ∷ [])
  tells_blank a x y same more start rows told = record {
    text = subst (λ h. Holds contents start a h (text_of (rows ++ [] ∷ []))) (sym same)
        (subst (Holds contents start a x.held) (sym (text_blank rows)) told.text);
    blank = subst (λ n. rows ++ [] ∷ [] ≡ without_blank_end (rows ++ [] ∷ []) ++ replicate n []) (sym more) (blank_ends rows x.blank told.blank);
  }

  -- a row with ink goes out
  pub tells_ink : (a b : Watched W) (x y : Back) (byte : ℕ) (text : List ℕ) → y.blank ≡ 0
      → Wrote contents a x.held b y.held (replicate x.blank 10 ++ ((byte ∷ text) ++ 10 ∷ [])) → Tells contents a x b y ((byte ∷ text) ∷ [])
  tells_ink a b x y byte text none wrote start rows told = record {
    text = subst (Holds contents start b y.held) (sym (text_ink rows x.blank byte text told.blank)) (wrote start (text_of rows) told.text);
    blank = subst (λ n. rows ++ (byte ∷ text) ∷ [] ≡ without_blank_end (rows ++ (byte ∷ text) ∷ []) ++ replicate n []) (sym none) (ink_ends rows byte text);
  }

  -- a row by its text
  pub tells_text : (a b : Watched W) (x y : Back) (text : List ℕ) → 0 < length text → y.blank ≡ 0
      → Wrote contents a x.held b y.held (replicate x.blank 10 ++ (text ++ 10 ∷ [])) → Tells contents a x b y (text ∷ [])
  tells_text a b x y [] some none wrote = absurd (omega arith)
  tells_text a b x y (byte ∷ text) some none wrote = tells_ink a b x y byte text none wrote

  -- ---- a row in parts

  pub puts_none : (a : Watched W) (x : Back) → PutsPart contents a x a x []
  puts_none a x start back text begun = subst (BeginsRow contents start back a x) (sym (append-nil text)) begun

  pub puts_both : {a b c : Watched W} {x y z : Back} {s t : List ℕ} → PutsPart contents b y c z t → PutsPart contents a x b y s
      → PutsPart contents a x c z (s ++ t)
  puts_both {a} {b} {c} {x} {y} {z} {s} {t} second first start back text begun =
      subst (BeginsRow contents start back c z) (append_assoc text s t) (second start back (text ++ s) (first start back text begun))

  pub puts_behind : (a b : Watched W) (x y : Back) (part : List ℕ) → y.blank ≡ x.blank → Wrote contents a x.held b y.held part
      → PutsPart contents a x b y part
  puts_behind a b x y part same wrote start back text begun = record {
    wrote = subst (Wrote contents start back.held b y.held) (append_assoc (replicate back.blank 10) text part) (wrote_both wrote begun.wrote);
    none = same ∙ begun.none;
  }

  pub ends_behind : (a b : Watched W) (x y : Back) → y.blank ≡ x.blank → Wrote contents a x.held b y.held (10 ∷ []) → EndsRow contents a x b y
  ends_behind a b x y same wrote start back text some begun =
      tells_text start b back y text some (same ∙ begun.none)
      (subst (Wrote contents start back.held b y.held) (append_assoc (replicate back.blank 10) text (10 ∷ [])) (wrote_both wrote begun.wrote))

  -- ---- beginnings

  pub front_whole : {a b : Watched W} {x y : Back} {s : List (List ℕ)} → Tells contents a x b y s → TellsFront contents a x b y s
  front_whole {s = s} tells = record { front = s; rest = []; cut = sym (append-nil s); tells = tells }

  pub front_none : (a : Watched W) (x : Back) (s : List (List ℕ)) → TellsFront contents a x a x s
  front_none a x s = record { front = []; rest = s; cut = refl; tells = tells_none a x }

  pub front_first : {a b : Watched W} {x y : Back} {s : List (List ℕ)} (t : List (List ℕ)) → TellsFront contents a x b y s
      → TellsFront contents a x b y (s ++ t)
  front_first t told = record {
    front = told.front;
    rest = told.rest ++ t;
    cut = ap (λ l. l ++ t) told.cut ∙ append_assoc told.front told.rest t;
    tells = told.tells;
  }

  pub front_second : {a b c : Watched W} {x y z : Back} {s t : List (List ℕ)} → TellsFront contents b y c z t → Tells contents a x b y s
      → TellsFront contents a x c z (s ++ t)
  front_second {s = s} told tells = record {
    front = s ++ told.front;
    rest = told.rest;
    cut = ap (λ l. s ++ l) told.cut ∙ sym (append_assoc s told.front told.rest);
    tells = tells_both told.tells tells;
  }

  -- ---- ends

  took_stops : (failed : Bool) (a b : Watched W) (text : List ℕ) → TookPart contents a b text failed
      → StopsPrint contents a b text (if failed then stops.Write else stops.Memory)
  took_stops true a b text took = took
  took_stops false a b text took = took

  -- a beginning of the rows stops the print, by whether the writer has failed
  pub front_stops : (a b : Watched W) (x y : Back) (s : List (List ℕ)) (fault : WalkFault) → fault ≡ (if has_failed b then stops.Write else stops.Memory)
      → TellsFront contents a x b y s → StopsIn contents a x b s fault
  front_stops a b x y s fault is told start rows behind before =
      let after = told.tells start rows before in
      let text = text_front (rows ++ told.front) (told.rest ++ behind) in
      let regrouped : rows ++ s ++ behind ≡ (rows ++ told.front) ++ (told.rest ++ behind) =
      ap (λ l. rows ++ l ++ behind) told.cut ∙ ap (λ l. l ++ behind) (sym (append_assoc rows told.front told.rest))
      ∙ append_assoc (rows ++ told.front) told.rest behind in
      let cut : text_of (rows ++ s ++ behind) ≡ after.text.sent ++ (y.held ++ text.rest) =
      ap text_of regrouped ∙ text.is ∙ ap (λ l. l ++ text.rest) after.text.all ∙ append_assoc after.text.sent y.held text.rest in
      subst (StopsPrint contents start b (text_of (rows ++ s ++ behind))) (sym is)
      (took_stops (has_failed b) start b (text_of (rows ++ s ++ behind))
      (gave_early contents start b (text_of (rows ++ s ++ behind)) after.text.sent (y.held ++ text.rest) (has_failed b) cut refl after.text.gave))

  -- in the first of two groups of rows, and in the second
  pub stops_first : (a b : Watched W) (x : Back) (s t : List (List ℕ)) (fault : WalkFault) → StopsIn contents a x b s fault → StopsIn contents a x b (s ++ t) fault
  stops_first a b x s t fault stops start rows behind told =
      subst (λ l. StopsPrint contents start b (text_of l) fault) (regroup rows s t behind) (stops start rows (t ++ behind) told)
    where
      regroup : (rows s t behind : List (List ℕ)) → rows ++ s ++ (t ++ behind) ≡ rows ++ (s ++ t) ++ behind
      regroup rows s t behind = sym (append_assoc (rows ++ s) t behind) ∙ ap (λ l. l ++ behind) (append_assoc rows s t)

  pub stops_second : (a b c : Watched W) (x y : Back) (s t : List (List ℕ)) (fault : WalkFault) → Tells contents a x b y s → StopsIn contents b y c t fault
      → StopsIn contents a x c (s ++ t) fault
  stops_second a b c x y s t fault tells stops start rows behind told =
      subst (λ l. StopsPrint contents start c (text_of (l ++ behind)) fault) (append_assoc rows s t)
      (stops start (rows ++ s) behind (tells start rows told))

  -- ---- the whole

  -- nothing was told of which nothing is held
  pub told_nothing : (nothing : (a : Watched W) → Gave contents a a []) (a : Watched W) → Told contents a a (record { held = []; blank = 0 }) []
  unfolding text_of
  told_nothing nothing a = record { text = record { sent = []; gave = nothing a; all = refl }; blank = refl }

  -- what is held back goes out behind it
  pub told_gave : ((a b c : Watched W) (x y : List ℕ) → Gave contents b c y → Gave contents a b x → Gave contents a c (x ++ y))
      → (a b c : Watched W) (x : Back) (rows : List (List ℕ)) → Told contents a b x rows → Gave contents b c x.held → Gave contents a c (text_of rows)
  told_gave joins a b c x rows told out = subst (Gave contents a c) (sym told.text.all) (joins a b c told.text.sent x.held out told.text.gave)

  -- a stop in all rows is one of the print
  pub stops_print : (a b : Watched W) (x : Back) (rows : List (List ℕ)) (fault : WalkFault) → Told contents a a x [] → StopsIn contents a x b rows fault
      → StopsPrint contents a b (text_of rows) fault
  stops_print a b x rows fault told stops =
      subst (λ l. StopsPrint contents a b (text_of l) fault) (append-nil rows) (stops a [] [] told)
