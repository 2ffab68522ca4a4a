-- How long the text of what is pending is.
use Rattle.std.proofs.Common.{◌≡◌, ℕ, ◌+◌, ◌*◌, ◌≤◌, Bool, true, false, List, [], ◌∷◌, ◌++◌, length, inl, inr, lit<, arith}
use Rattle.std.specs.Prelude.{codes, decimal, Some, if◌then◌else◌}
use Rattle.std.proofs.Math.Dec.{lit≤}
use Rattle.std.proofs.lemmas.Bool.{cases_Bool}
use Rattle.std.proofs.lemmas.Fmt.{length-decimal-le}
use Rattle.std.proofs.lemmas.List.{length-append}
use Rattle.std.proofs.lemmas.List.Elements.{recursion_from_All}
use Rattle.vt_parser.specs.declared.commands.Mode.{Mode}
use Rattle.vt_parser.specs.declared.states.ParserState.{ParserState}
use Rattle.vt_parser.specs.Decimals.{params_text}
use Rattle.vt_parser.specs.Forms.{after_mark, is_well_formed, is_private, params, has_more}
use Rattle.vt_parser.specs.Syntax.{escape}
use Rattle.vt_parser.specs.View.{control_sequence_view, parser_view}
use Rattle.vt_parser.proofs.LawLemmas.{params_proper}
use Rattle.vt_parser.proofs.Shapes.{Form, nothing, escaped, controlled, stringed, lone, addressed, lined, form}
use Rattle.vt_parser.proofs.Written.{Small}
use Rattle.parser_state.specs.PendingText.{begun_text, pending_text}

-- a text has at most so many bytes
pub record Short (text : List ℕ) (most : ℕ) : Type 0 where
  pub fits : length text ≤ most

pub both : {first second : List ℕ} {m n : ℕ} → Short first m → Short second n → Short (first ++ second) (m + n)
both {first = first} {second = second} a b = record { fits = omega (arith, length-append first second, a.fits, b.fits) }

pub literally : (text : List ℕ) (n : ℕ) → length text ≤ n → Short text n
literally text n fits = record { fits = fits }

pub weaken : {text : List ℕ} {m : ℕ} (n : ℕ) → Short text m → m ≤ n → Short text n
weaken n short more = record { fits = omega (arith, short.fits) }

pub where_is_short : (holds : Bool) (text : List ℕ) (n : ℕ) → length text ≤ n → Short (if holds then text else []) n
where_is_short true text n fits = record { fits = fits }
where_is_short false text n fits = record { fits = omega arith }

params_short : (numbers : List ℕ) → Small numbers → length (params_text numbers) ≤ 5 * length numbers
params_short [] small = omega arith
params_short (number ∷ []) small = omega (arith, length-decimal-le 4 number (lit< tt) (omega (arith, small.0)) (omega (arith, small.0)))
params_short (number ∷ next ∷ rest) small =
    let rest_short = params_short (next ∷ rest) small.1 in
    let here = length-decimal-le 4 number (lit< tt) (omega (arith, small.0)) (omega (arith, small.0)) in
    omega (arith, rest_short, here, length-append (decimal number) (59 ∷ params_text (next ∷ rest)))

begun_short : (private : Bool) (numbers : List ℕ) (over : Bool) → Small numbers → length numbers ≤ 16 → Short (begun_text private numbers over) 84
begun_short private numbers over small few =
    let text : Short (params_text numbers) 80 = record { fits = omega (arith, params_short numbers small) } in
    weaken 84
    (both (both (both (literally (escape ∷ codes "[") 2 (lit≤ tt)) (where_is_short private (codes "?") 1 (lit≤ tt))) text) (where_is_short over (codes ";") 1 (lit≤ tt)))
    (lit≤ tt)

text_short : (text : List ℕ) → Short (pending_text (control_sequence_view text)) 84
text_short [] = record { fits = lit≤ tt }
text_short (byte ∷ rest) =
    let text = byte ∷ rest in
    let bare = after_mark text in
    let proper = params_proper bare in
    elim (cases_Bool (is_well_formed text)) [
      | inl well ↦ simp well (begun_short (is_private text) (params bare) (has_more bare) (recursion_from_All _ (params bare) proper.1) proper.0.1)
      | inr ill ↦ simp ill (record { fits = lit≤ tt })
    ]

pending_short : (mode : Mode) (pending : List ℕ) (state : ParserState) → Form mode pending state → Short (pending_text state) 84
pending_short _ _ _ (nothing mode) = record { fits = lit≤ tt }
pending_short _ _ _ (escaped [] all) = record { fits = lit≤ tt }
pending_short _ _ _ (escaped (inter ∷ []) all) = record { fits = lit≤ tt }
pending_short _ _ _ (escaped (inter ∷ next ∷ rest) all) = record { fits = lit≤ tt }
pending_short _ _ _ (controlled text all) = text_short text
pending_short _ _ _ (stringed opening is) = record { fits = lit≤ tt }
pending_short _ _ _ lone = record { fits = lit≤ tt }
pending_short _ _ _ addressed = record { fits = lit≤ tt }
pending_short _ _ _ (lined line is) = record { fits = lit≤ tt }

pub pending_is_short : (mode : Mode) (pending : List ℕ) (state : ParserState) → parser_view mode pending ≡ Some state → Short (pending_text state) 84
pending_is_short mode pending state is = pending_short mode pending state (form mode pending state is)
