-- Rows, and their text.
use Rattle.std.proofs.Common.{◌≡◌, ℕ, zero, suc, ◌+◌, List, [], ◌∷◌, ◌++◌, refl, ap, sym, ◌∙◌, append_assoc, append-nil, add-one}
use Rattle.std.specs.Prelude.{replicate}
use Rattle.std.specs.List.{flat_map}
use Rattle.std.proofs.lemmas.List.Concat.{flat_map-append}
use Rattle.transcripts.specs.Transcript.{led_by, line, text_of, without_blank_end}

-- a blank row at the end is left out
pub end_blank : (rows : List (List ℕ)) → without_blank_end (rows ++ [] ∷ []) ≡ without_blank_end rows
end_blank [] = refl
end_blank (row ∷ rows) = ap (led_by row) (end_blank rows)

-- a row before some stays
led_some : (row next : List ℕ) (rows : List (List ℕ)) → led_by row (next ∷ rows) ≡ row ∷ next ∷ rows
led_some [] next rows = refl
led_some (byte ∷ text) next rows = refl

led_end : (row last : List ℕ) (rows : List (List ℕ)) → led_by row (rows ++ last ∷ []) ≡ row ∷ (rows ++ last ∷ [])
led_end row last [] = led_some row last []
led_end row last (next ∷ rows) = led_some row next (rows ++ last ∷ [])

-- before one with ink all rows stay
pub end_ink : (rows : List (List ℕ)) (byte : ℕ) (text : List ℕ)
    → without_blank_end (rows ++ (byte ∷ text) ∷ []) ≡ rows ++ (byte ∷ text) ∷ []
end_ink [] byte text = refl
end_ink (row ∷ rows) byte text = ap (led_by row) (end_ink rows byte text) ∙ led_end row (byte ∷ text) rows

-- ---- blank rows

pub blank_more : {X : Type 0} (n : ℕ) (x : X) → replicate (n + 1) x ≡ replicate n x ++ x ∷ []
blank_more zero x = refl
blank_more (suc n) x = rw (add-one) (ap (λ l. x ∷ l) (sym (rw add-one at (sym (blank_more n x)))))

pub blank_text : (n : ℕ) → flat_map line (replicate n []) ≡ replicate n 10
blank_text zero = refl
blank_text (suc n) = ap (λ l. 10 ∷ l) (blank_text n)

-- ---- texts

-- the text of rows is a beginning of that of these rows and more
record Splits (row : List ℕ) (rows more : List (List ℕ)) : Type 0 where
  rest : List (List ℕ)
  is : led_by row (rows ++ more) ≡ led_by row rows ++ rest

splits : (row : List ℕ) (rows more : List (List ℕ)) → Splits row rows more
splits [] [] more = record { rest = led_by [] more; is = refl }
splits [] (next ∷ rows) more = record { rest = more; is = refl }
splits (byte ∷ text) rows more = record { rest = more; is = refl }

record Front (rows more : List (List ℕ)) : Type 0 where
  rest : List (List ℕ)
  is : without_blank_end (rows ++ more) ≡ without_blank_end rows ++ rest

front : (rows more : List (List ℕ)) → Front rows more
front [] more = record { rest = without_blank_end more; is = refl }
front (row ∷ rows) more =
    let others = front rows more in
    let split = splits row (without_blank_end rows) others.rest in
    record { rest = split.rest; is = ap (led_by row) others.is ∙ split.is }

pub record TextFront (rows more : List (List ℕ)) : Type 0 where
  pub rest : List ℕ
  pub is : text_of (rows ++ more) ≡ text_of rows ++ rest

pub text_front : (rows more : List (List ℕ)) → TextFront rows more
unfolding text_of
text_front rows more =
    let split = front rows more in
    record {
      rest = flat_map line split.rest;
      is = ap (flat_map line) split.is ∙ flat_map-append line (without_blank_end rows) split.rest;
    }

-- a row with ink goes out behind the blank ones that were held back
pub text_ink : (rows : List (List ℕ)) (n byte : ℕ) (text : List ℕ) → rows ≡ without_blank_end rows ++ replicate n []
    → text_of (rows ++ (byte ∷ text) ∷ []) ≡ text_of rows ++ (replicate n 10 ++ ((byte ∷ text) ++ 10 ∷ []))
unfolding text_of
text_ink rows n byte text is =
    let last = (byte ∷ text) ∷ [] in
    let written = without_blank_end rows in
    ap (flat_map line) (end_ink rows byte text)
    ∙ flat_map-append line rows last
    ∙ ap (λ l. flat_map line l ++ flat_map line last) is
    ∙ ap (λ l. l ++ flat_map line last) (flat_map-append line written (replicate n []) ∙ ap (λ l. flat_map line written ++ l) (blank_text n))
    ∙ append_assoc (flat_map line written) (replicate n 10) (flat_map line last)
    ∙ ap (λ l. flat_map line written ++ (replicate n 10 ++ l)) (append-nil (line (byte ∷ text)))

pub text_blank : (rows : List (List ℕ)) → text_of (rows ++ [] ∷ []) ≡ text_of rows
unfolding text_of
text_blank rows = ap (flat_map line) (end_blank rows)

-- behind a row with ink none is held back
pub ink_ends : (rows : List (List ℕ)) (byte : ℕ) (text : List ℕ)
    → rows ++ (byte ∷ text) ∷ [] ≡ without_blank_end (rows ++ (byte ∷ text) ∷ []) ++ replicate 0 []
ink_ends rows byte text = sym (append-nil _ ∙ end_ink rows byte text)

-- behind a blank one there is one more
pub blank_ends : (rows : List (List ℕ)) (n : ℕ) → rows ≡ without_blank_end rows ++ replicate n []
    → rows ++ [] ∷ [] ≡ without_blank_end (rows ++ [] ∷ []) ++ replicate (n + 1) []
blank_ends rows n is =
    ap (λ l. l ++ [] ∷ []) is ∙ append_assoc (without_blank_end rows) (replicate n []) ([] ∷ [])
    ∙ ap (λ l. without_blank_end rows ++ l) (sym (blank_more n [])) ∙ ap (λ l. l ++ replicate (n + 1) []) (sym (end_blank rows))
