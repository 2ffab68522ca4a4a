-- One piece after another, of what a reader tells or a writer takes.
use Rattle.std.proofs.Common.{◌≡◌, ℕ, Bool, false, true, List, [], ◌∷◌, ◌++◌, map, refl, take, drop, sym, ◌∙◌, ap, subst, append_assoc, append-nil, Option, Some, None, ◌||◌, length, nat_lt, arith}
use Rattle.std.specs.List.{flat_map}
use Rattle.std.specs.Io.KnownBytes.{Appends, Consumes}
use Rattle.std.proofs.lemmas.Bool.{le-ltb, lt-ltb}
use Rattle.std.proofs.lemmas.List.{take-append-drop}
use Rattle.tape_core.specs.declared.devices.Watched.{Watched}
use Rattle.tape_core.specs.Devices.{inner_of, has_failed, has_written, Took, TookPart, joined}

-- known bytes that grow by x and then by y grow by both
pub appends-append : (a b c : Option (List ℕ)) (x y : List ℕ) → Appends a b x → Appends b c y → Appends a c (x ++ y)
appends-append None b c x y h k = tt
appends-append (Some s) None c x y h k = absurd h
appends-append (Some s) (Some t) None x y h k = absurd k
appends-append (Some s) (Some t) (Some u) x y h k = rw (k, h) (append_assoc s x y)

-- known bytes that stay have grown by nothing
pub appends-none : (a : Option (List ℕ)) → Appends a a []
appends-none None = tt
appends-none (Some s) = sym (append-nil s)

or_false : (b : Bool) → (b || false) ≡ b
or_false true = refl
or_false false = refl

-- a writer that was given nothing has taken as much as before
pub written_none : {T : Type 0} (a : Watched T) → has_written a ≡ (has_written a || nat_lt 0 0)
written_none a = sym (or_false (has_written a))

-- something of two texts is something of one
some_of_both : (b : Bool) (x y : List ℕ) → ((b || nat_lt 0 (length x)) || nat_lt 0 (length y)) ≡ (b || nat_lt 0 (length (x ++ y)))
some_of_both true x y = refl
some_of_both false [] y = ap (λ w. w || nat_lt 0 (length y)) (le-ltb 0 0 (omega arith))
some_of_both false (a ∷ x) y =
    ap (λ w. w || nat_lt 0 (length y)) (lt-ltb 0 (length (a ∷ x)) (omega arith)) ∙ sym (lt-ltb 0 (length (a ∷ x ++ y)) (omega arith))

-- whether a byte of two texts was taken
pub written-append : {T : Type 0} (a b c : Watched T) (x y : List ℕ) → has_written b ≡ (has_written a || nat_lt 0 (length x))
    → has_written c ≡ (has_written b || nat_lt 0 (length y)) → has_written c ≡ (has_written a || nat_lt 0 (length (x ++ y)))
written-append a b c x y h k = k ∙ ap (λ w. w || nat_lt 0 (length y)) h ∙ some_of_both (has_written a) x y

-- a writer that is sound has taken nothing yet
pub took_none : {T : Type 0} (contents : T → Option (List ℕ)) (a : Watched T) → has_failed a ≡ false → Took contents a a []
took_none contents a sound = record { sound = sound; grown = appends-none (contents (inner_of a)); written = written_none a }

-- one text after another
pub took-append : {T : Type 0} {contents : T → Option (List ℕ)} {a b c : Watched T} {x y : List ℕ} → Took contents a b x
    → Took contents b c y → Took contents a c (x ++ y)
took-append {contents = contents} {a = a} {b = b} {c = c} {x = x} {y = y} h k = record {
  sound = k.sound;
  grown = appends-append (contents (inner_of a)) (contents (inner_of b)) (contents (inner_of c)) x y h.grown k.grown;
  written = written-append a b c x y h.written k.written;
}

-- one text after another, stopped in the second
pub stopped-append : {T : Type 0} {contents : T → Option (List ℕ)} {a b c : Watched T} {x y : List ℕ} {failed : Bool}
    → Took contents a b x → TookPart contents b c y failed → TookPart contents a c (x ++ y) failed
stopped-append {contents = contents} {a = a} {b = b} {c = c} {x = x} {y = y} h k = record {
  failing = k.failing;
  front = x ++ k.front;
  rest = k.rest;
  cut = rw k.cut (sym (append_assoc x k.front k.rest));
  grown = appends-append (contents (inner_of a)) (contents (inner_of b)) (contents (inner_of c)) x k.front h.grown k.grown;
}

-- stopped in the first of two texts
pub stopped_before : {T : Type 0} {contents : T → Option (List ℕ)} {a b : Watched T} {x : List ℕ} {failed : Bool} (y : List ℕ)
    → TookPart contents a b x failed → TookPart contents a b (x ++ y) failed
stopped_before {x = x} y h = record {
  failing = h.failing;
  front = h.front;
  rest = h.rest ++ y;
  cut = ap (λ t. t ++ y) h.cut ∙ append_assoc h.front h.rest y;
  grown = h.grown;
}

-- a text, and then a flush
pub took_flushed : {T : Type 0} {contents : T → Option (List ℕ)} {a b c : Watched T} {x : List ℕ} → Took contents a b x
    → Took contents b c [] → Took contents a c x
took_flushed {contents = contents} {a = a} {c = c} {x = x} h k =
    subst (λ t. Took contents a c t) (append-nil x) (took-append h k)

-- a text, and then a flush that failed
pub stopped_flushing : {T : Type 0} {contents : T → Option (List ℕ)} {a b c : Watched T} {x : List ℕ} {failed : Bool}
    → Took contents a b x → TookPart contents b c [] failed → TookPart contents a c x failed
stopped_flushing {contents = contents} {a = a} {c = c} {x = x} {failed = failed} h k =
    subst (λ t. TookPart contents a c t failed) (append-nil x) (stopped-append h k)

-- what `put` has done of a text where this rest of it is left
pub record PutBefore {T : Type 0} (contents : T → Option (List ℕ)) (old new : Watched T) (text rest : List ℕ) : Type 0 where
  pub gone : List ℕ
  pub cut : text ≡ gone ++ rest
  pub took : Took contents old new gone

-- one more piece
pub put_more : {T : Type 0} {contents : T → Option (List ℕ)} {a b c : Watched T} {text rest : List ℕ} (n : ℕ)
    → PutBefore contents a b text rest → Took contents b c (take n rest) → PutBefore contents a c text (drop n rest)
put_more {rest = rest} n h k = record {
  gone = h.gone ++ take n rest;
  cut = h.cut ∙ ap (λ t. h.gone ++ t) (sym (take-append-drop n rest)) ∙ sym (append_assoc h.gone (take n rest) (drop n rest));
  took = took-append h.took k;
}

-- stopped before a piece or in it
pub put_stopped : {T : Type 0} {contents : T → Option (List ℕ)} {a b c : Watched T} {text rest : List ℕ}
    → PutBefore contents a b text rest → TookPart contents b c [] true → TookPart contents a c text true
put_stopped {contents = contents} {a = a} {c = c} {rest = rest} h k =
    subst (λ t. TookPart contents a c t true) (sym h.cut) (stopped_before rest (stopped_flushing h.took k))

-- what `slurp` has read so far
pub record ToldFront {T : Type 0} (remaining : T → Option (List ℕ)) (old new : Watched T) (text : List ℕ) : Type 0 where
  pub sound : has_failed new ≡ false
  pub told : Consumes (remaining (inner_of old)) (remaining (inner_of new)) text

-- pieces joined are the pieces in turn
pub joined_flat : {X : Type 0} (f : X → List ℕ) (xs : List X) → joined (map f xs) ≡ flat_map f xs
joined_flat f [] = refl
joined_flat f (x ∷ []) = sym (append-nil (f x))
joined_flat f (x ∷ y ∷ more) = ap (λ t. f x ++ t) (joined_flat f (y ∷ more))
