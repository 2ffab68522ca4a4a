-- A text that can be taken out of a recording.
use Rattle.std.proofs.Common.{◌≡◌, ℕ, ◌<◌, true, false, ◌==◌, not, List, [], ◌∷◌, length, get_or, refl, sym, subst, arith, inl, inr}
use Rattle.std.specs.List.{All, list_all}
use Rattle.std.proofs.lemmas.Bool.{and_parts, cases_Bool, cond-false, cond-true, not-true}
use Rattle.std.proofs.lemmas.List.Sums.{AllPass-from_list_all}
use Rattle.tape_core.specs.Tape.{Tape}
use Rattle.tape_core.specs.Written.{script_text}
use Rattle.tape_redact.proofs.RedactLemmas.{lines_stay}
use Rattle.tape_redact.specs.Law.{SameLines}
use Rattle.tape_redact.specs.Recording.{can_be_hidden, is_hidable, script_without}
use Rattle.tape_redact.specs.Redacted.{redacted}

pub has_a_byte : (text : List ℕ) → can_be_hidden text ≡ true → 0 < length text
unfolding can_be_hidden
has_a_byte [] h = absurd (cc)
has_a_byte (b ∷ text) h = omega arith

pub has_no_lf : (text : List ℕ) → can_be_hidden text ≡ true → All (λ b. (b == 10) ≡ false) text
unfolding can_be_hidden
has_no_lf text h =
    let each = AllPass-from_list_all is_hidable text (and_parts (not (length text == 0)) (list_all is_hidable text) h).1 in
    λ k d lt. not-true (get_or text k d == 10) (and_parts (not (get_or text k d == 10)) (not (get_or text k d == 42)) (each k d lt)).0

-- without it a script has its LFs where they were
pub lines_without : (text : List ℕ) (tape : Tape) → SameLines (script_text tape) (script_without text tape)
lines_without text tape =
    let old = script_text tape in
    elim (cases_Bool (can_be_hidden text)) [
      | inl t ↦ subst (SameLines old) (sym (cond-true (can_be_hidden text) (redacted text old) old t)) (lines_stay text old (has_no_lf text t))
      | inr f ↦ subst (SameLines old) (sym (cond-false (can_be_hidden text) (redacted text old) old f)) (record { long = refl; ends = refl })
    ]
