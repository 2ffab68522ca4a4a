-- What was given to a writer that tells of its failing only at the end.
use Rattle.std.proofs.Common.{◌≡◌, ℕ, Bool, false, true, List, [], ◌++◌, refl, sym, ◌∙◌, ap, subst, append_assoc, append-nil, Option, Result, Ok, Err}
use Rattle.std.specs.Io.KnownBytes.{Appends}
use Rattle.tape_core.specs.declared.devices.Watched.{Watched}
use Rattle.tape_core.specs.declared.fault.Fault.{Fault}
use Rattle.tape_core.specs.Devices.{inner_of, has_failed, Took, TookPart, Puts, Gave, HasOutcome, Outcome}
use Rattle.tape_core.proofs.DeviceLemmas.{appends-append, appends-none, written-append, written_none, took_flushed, stopped_before, stopped_flushing}

true_isnt_false : true ≡ false → ⊥
true_isnt_false h = (cc)

opened : {T : Type 0} {contents : T → Option (List ℕ)} {a b : Watched T} {x : List ℕ} → Gave contents a b x → Outcome contents a b x
unfolding HasOutcome
opened h = h.outcome

closed : {T : Type 0} {contents : T → Option (List ℕ)} {a b : Watched T} {x : List ℕ} → Outcome contents a b x → Gave contents a b x
unfolding HasOutcome
closed h = record { outcome = h }

-- nothing was given
pub gave_none : {T : Type 0} (contents : T → Option (List ℕ)) (a : Watched T) → Gave contents a a []
gave_none contents a = closed (record {
  front = [];
  rest = [];
  cut = refl;
  grown = appends-none (contents (inner_of a));
  whole = λ sound. (sound, refl);
  written = λ _. written_none a;
  dropped = λ _. refl;
})

both_given : {T : Type 0} {contents : T → Option (List ℕ)} {a b c : Watched T} {x y : List ℕ} (failed : Bool) → has_failed b ≡ failed
    → Outcome contents a b x → Outcome contents b c y → Outcome contents a c (x ++ y)
both_given {contents = contents} {a = a} {b = b} {c = c} {x = x} {y = y} false is h k =
    let all = (h.whole is).1 in
    let x_is : x ≡ h.front = h.cut ∙ ap (λ t. h.front ++ t) all ∙ append-nil h.front in
    record {
      front = h.front ++ k.front;
      rest = k.rest;
      cut = ap (λ t. t ++ y) x_is ∙ ap (λ t. h.front ++ t) k.cut ∙ sym (append_assoc h.front k.front k.rest);
      grown = appends-append (contents (inner_of a)) (contents (inner_of b)) (contents (inner_of c)) h.front k.front h.grown k.grown;
      whole = λ sound. ((h.whole is).0, (k.whole sound).1);
      written = λ sound. written-append a b c x y (h.written is) (k.written sound);
      dropped = λ had. absurd (true_isnt_false (sym had ∙ (h.whole is).0));
    }
both_given {contents = contents} {a = a} {b = b} {c = c} {x = x} {y = y} true is h k =
    let none = k.dropped is in
    record {
      front = h.front;
      rest = h.rest ++ y;
      cut = ap (λ t. t ++ y) h.cut ∙ append_assoc h.front h.rest y;
      grown =
          subst (λ t. Appends (contents (inner_of a)) (contents (inner_of c)) t) (ap (λ t. h.front ++ t) none ∙ append-nil h.front)
          (appends-append (contents (inner_of a)) (contents (inner_of b)) (contents (inner_of c)) h.front k.front h.grown k.grown);
      whole = λ sound. absurd (true_isnt_false (sym is ∙ (k.whole sound).0));
      written = λ sound. absurd (true_isnt_false (sym is ∙ (k.whole sound).0));
      dropped = h.dropped;
    }

-- THE law: one text after another
pub gave_join : {T : Type 0} (contents : T → Option (List ℕ)) (a b c : Watched T) (x y : List ℕ) → Gave contents a b x → Gave contents b c y
    → Gave contents a c (x ++ y)
gave_join contents a b c x y h k = closed (both_given (has_failed b) refl (opened h) (opened k))

-- what was given to a writer that hasn't failed was taken
pub gave_took : {T : Type 0} (contents : T → Option (List ℕ)) (a b : Watched T) (x : List ℕ) → has_failed b ≡ false → Gave contents a b x
    → Took contents a b x
gave_took contents a b x is h =
    let o = opened h in
    let x_is : x ≡ o.front = o.cut ∙ ap (λ t. o.front ++ t) (o.whole is).1 ∙ append-nil o.front in
    record {
      sound = is;
      grown = subst (λ t. Appends (contents (inner_of a)) (contents (inner_of b)) t) (sym x_is) o.grown;
      written = o.written is;
    }

-- what was given to a writer that has failed since went out in part
pub gave_part : {T : Type 0} (contents : T → Option (List ℕ)) (a b : Watched T) (x : List ℕ) (failed : Bool) → has_failed b ≡ failed
    → Gave contents a b x → TookPart contents a b x failed
gave_part contents a b x failed is h =
    let o = opened h in
    record { failing = is; front = o.front; rest = o.rest; cut = o.cut; grown = o.grown }

-- what was taken was given, and so was what was taken in part by a writer that failed
pub took_gave : {T : Type 0} (contents : T → Option (List ℕ)) (a b : Watched T) (x : List ℕ) → has_failed a ≡ false → Took contents a b x
    → Gave contents a b x
took_gave contents a b x was h = closed (record {
  front = x;
  rest = [];
  cut = sym (append-nil x);
  grown = h.grown;
  whole = λ _. (was, refl);
  written = λ _. h.written;
  dropped = λ had. absurd (true_isnt_false (sym had ∙ was));
})

pub part_gave : {T : Type 0} (contents : T → Option (List ℕ)) (a b : Watched T) (x : List ℕ) → has_failed a ≡ false
    → TookPart contents a b x true → Gave contents a b x
part_gave contents a b x was h = closed (record {
  front = h.front;
  rest = h.rest;
  cut = h.cut;
  grown = h.grown;
  whole = λ sound. absurd (true_isnt_false (sym h.failing ∙ sound));
  written = λ sound. absurd (true_isnt_false (sym h.failing ∙ sound));
  dropped = λ had. absurd (true_isnt_false (sym had ∙ was));
})

pub put_gave : {T : Type 0} (contents : T → Option (List ℕ)) (a b : Watched T) (x : List ℕ) (result : Result (Unit {0}) Fault)
    → has_failed a ≡ false → Puts contents a b x result → Gave contents a b x
put_gave contents a b x (Ok done) was h = took_gave contents a b x was h
put_gave contents a b x (Err fault) was h = part_gave contents a b x was h.1

-- a writer that had failed and was left alone was given any text
pub gave_failed : {T : Type 0} (contents : T → Option (List ℕ)) (a : Watched T) (x : List ℕ) → has_failed a ≡ true → Gave contents a a x
gave_failed contents a x had = closed (record {
  front = [];
  rest = x;
  cut = refl;
  grown = appends-none (contents (inner_of a));
  whole = λ sound. absurd (true_isnt_false (sym had ∙ sound));
  written = λ sound. absurd (true_isnt_false (sym had ∙ sound));
  dropped = λ _. refl;
})

-- what was given and no failure is known of, and then a flush
pub gave_settled : {T : Type 0} (contents : T → Option (List ℕ)) (a b c : Watched T) (x : List ℕ) (result : Result (Unit {0}) Fault)
    → has_failed b ≡ false → Gave contents a b x → Puts contents b c [] result → Puts contents a c x result
gave_settled contents a b c x (Ok done) is h k = took_flushed (gave_took contents a b x is h) k
gave_settled contents a b c x (Err fault) is h k = (k.0, stopped_flushing (gave_took contents a b x is h) k.1)

-- texts that ended early, behind what was given
pub gave_early : {T : Type 0} (contents : T → Option (List ℕ)) (a b : Watched T) (text x y : List ℕ) (failed : Bool) → text ≡ x ++ y
    → has_failed b ≡ failed → Gave contents a b x → TookPart contents a b text failed
gave_early contents a b text x y failed cut is gave =
    subst (λ t. TookPart contents a b t failed) (sym cut) (stopped_before y (gave_part contents a b x failed is gave))

-- a writer that failed in a text was given all that stands behind it
pub gave_no_more : {T : Type 0} (contents : T → Option (List ℕ)) (a b : Watched T) (text x y : List ℕ) → text ≡ x ++ y
    → has_failed b ≡ true → Gave contents a b x → Gave contents a b text
gave_no_more contents a b text x y cut is gave =
    subst (Gave contents a b) (sym cut) (gave_join contents a b b x y gave (gave_failed contents b y is))
