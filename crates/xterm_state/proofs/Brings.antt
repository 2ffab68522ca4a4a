-- What bytes bring where nothing is pending: whatever the last character is, and with it told.
use Rattle.std.proofs.Common.{◌≡◌, ℕ, ◌≤◌, true, false, List, [], ◌∷◌, ◌++◌, refl, ap, ◌∙◌, arith}
use Rattle.std.proofs.Math.Dec.{lit<, lit≤}
use Rattle.std.specs.Prelude.{decimal, nat_le, Option}
use Rattle.std.proofs.lemmas.Bool.Decides.{nat_tests}
use Rattle.std.proofs.lemmas.Fmt.{decimal_digit, decimal_step}
use Rattle.std.proofs.lemmas.List.{append-nil}
use Rattle.vt_parser.specs.Decimals.{params_text}
use Rattle.vt_parser.specs.Forms.{is_control_sequence_final}
use Rattle.vt_parser.specs.Syntax.{escape}
use Rattle.xterm_term.specs.Console.{Console}
use Rattle.xterm_term.specs.Effect.{control_sequence_effect, control_sequence_reply}
use Rattle.xterm_term.specs.Term.{Term, play}
use Rattle.xterm_term.proofs.Runs.{on_ground}
use Rattle.xterm_term.proofs.Steps.{plays_in_parts}
use Rattle.xterm_escaped.proofs.Cells.{LawsBelow}
use Rattle.xterm_escaped.proofs.Led.{Leads, ended, leads_as, leads_both, leads_none, private_leads, sequence_leads}
use Rattle.xterm_escaped.proofs.Numbers.{params_further}
use Rattle.xterm_escaped.proofs.Params.{IsShort, are_params, low_text}

-- from one console to another, but for the last character
pub record Brings (s : Console) (bytes : List ℕ) (t : Console) : Type 0 where
  pub leads : Leads s bytes t

-- whatever the last character was, to this one
pub record Settles (s : Console) (bytes : List ℕ) (t : Console) : Type 0 where
  pub played : (last : Option ℕ) (reports : List ℕ) → play (on_ground (ended last s) reports) bytes ≡ on_ground t reports

-- from a console with its last character to another
pub record Goes (s : Console) (bytes : List ℕ) (t : Console) : Type 0 where
  pub played : (reports : List ℕ) → play (on_ground s reports) bytes ≡ on_ground t reports

pub nothing_brings : (s : Console) → Brings s [] s
nothing_brings s = record { leads = leads_none s }

pub joined : {s t u : Console} {first second : List ℕ} → Brings s first t → Brings t second u → Brings s (first ++ second) u
joined {s = s} {t = t} {u = u} {first = first} {second = second} one two = record { leads = leads_both s t u first second one.leads two.leads }

pub brings_as : {s t u : Console} {first second : List ℕ} → Brings s first t → first ≡ second → t ≡ u → Brings s second u
brings_as {s = s} {t = t} {u = u} {first = first} {second = second} one text same = record { leads = leads_as s t u first second one.leads text same }

pub settled : {s t u : Console} {first second : List ℕ} → Brings s first t → Settles t second u → Settles s (first ++ second) u
settled {s = s} {t = t} {u = u} {first = first} {second = second} one two = record {
  played = λ last reports.
      let here = one.leads last reports in
      plays_in_parts (on_ground (ended last s) reports) first second ∙ ap (λ (x : Term). play x second) here.1 ∙ two.played here.0 reports;
}

pub gone : {s t u : Console} {first second : List ℕ} → Settles s first t → Goes t second u → Settles s (first ++ second) u
gone {s = s} {t = t} {u = u} {first = first} {second = second} one two = record {
  played = λ last reports.
      plays_in_parts (on_ground (ended last s) reports) first second ∙ ap (λ (x : Term). play x second) (one.played last reports) ∙ two.played reports;
}

pub goes_nowhere : (s : Console) → Goes s [] s
unfolding play
goes_nowhere s = record { played = λ reports. refl }

pub goes_on : {s t u : Console} {first second : List ℕ} → Goes s first t → Goes t second u → Goes s (first ++ second) u
goes_on {s = s} {t = t} {u = u} {first = first} {second = second} one two = record {
  played = λ reports. plays_in_parts (on_ground s reports) first second ∙ ap (λ (x : Term). play x second) (one.played reports) ∙ two.played reports;
}

-- where something behind tells the last character
pub brings_goes : {s t u : Console} {first second : List ℕ} → Brings s first t → Settles t second u → Goes s (first ++ second) u
brings_goes {s = s} {t = t} {u = u} {first = first} {second = second} one two =
    let all = settled one two in record { played = λ reports. all.played s.last reports }

-- ---- sequences of one number

one_short : (n : ℕ) → n ≤ 9999 → IsShort 16 (n ∷ [])
one_short n small = let test : nat_le n 9999 ≡ true = grind (arith, nat_tests) in record { few = omega arith; all = simp test }

module _ (laws : LawsBelow) where
  pub private_brings : (s t : Console) (n last : ℕ) (digits : List ℕ) → params_text (n ∷ []) ≡ digits → n ≤ 9999 → s.title ≡ false
      → is_control_sequence_final last ≡ true
      → ((l : Option ℕ) → control_sequence_effect true last (n ∷ []) (ended l s) ≡ ended l t)
      → Brings s (escape ∷ 91 ∷ 63 ∷ (digits ++ last ∷ [])) t
  private_brings s t n last digits written small title final effects =
      let short = one_short n small in record {
        leads = leads_as s t t (escape ∷ 91 ∷ 63 ∷ (params_text (n ∷ []) ++ last ∷ [])) _
            (private_leads laws.privates s t (n ∷ []) last title (are_params (n ∷ []) (omega arith) short) (low_text (n ∷ []) short.all) final effects)
            (ap (λ (text : List ℕ). escape ∷ 91 ∷ 63 ∷ (text ++ last ∷ [])) written) refl;
      }

  pub sequence_brings : (s t : Console) (n last : ℕ) (digits : List ℕ) → params_text (n ∷ []) ≡ digits → n ≤ 9999 → s.title ≡ false
      → is_control_sequence_final last ≡ true
      → ((l : Option ℕ) → control_sequence_effect false last (n ∷ []) (ended l s) ≡ ended l t)
      → ((l : Option ℕ) → control_sequence_reply false last (n ∷ []) (ended l s) ≡ [])
      → Brings s (escape ∷ 91 ∷ (digits ++ last ∷ [])) t
  sequence_brings s t n last digits written small title final effects silent =
      let short = one_short n small in record {
        leads = leads_as s t t (escape ∷ 91 ∷ (params_text (n ∷ []) ++ last ∷ [])) _
            (sequence_leads laws.sequences s t (n ∷ []) last title (are_params (n ∷ []) (omega arith) short) (low_text (n ∷ []) short.all) final effects silent)
            (ap (λ (text : List ℕ). escape ∷ 91 ∷ (text ++ last ∷ [])) written) refl;
      }

-- ---- numbers of more than one digit

pub digits_20 : params_text (20 ∷ []) ≡ 50 ∷ 48 ∷ []
digits_20 =
    params_further 20 [] ∙ append-nil (decimal 20) ∙ decimal_step 20 (lit≤ tt) (lit< tt)
    ∙ ap (λ digits. digits ++ 48 ∷ []) (decimal_digit 2 (lit< tt))

pub digits_1047 : params_text (1047 ∷ []) ≡ 49 ∷ 48 ∷ 52 ∷ 55 ∷ []
digits_1047 =
    params_further 1047 [] ∙ append-nil (decimal 1047) ∙ decimal_step 1047 (lit≤ tt) (lit< tt)
    ∙ ap (λ digits. digits ++ 55 ∷ [])
    (decimal_step 104 (lit≤ tt) (lit< tt)
    ∙ ap (λ digits. digits ++ 52 ∷ []) (decimal_step 10 (lit≤ tt) (lit< tt) ∙ ap (λ digits. digits ++ 48 ∷ []) (decimal_digit 1 (lit< tt))))
