-- Bytes that come before the end of a sequence: nothing changes on the screen.
use Rattle.std.proofs.Common.{◌≡◌, ℕ, zero, suc, ◌+◌, ◌<◌, ◌≤◌, List, [], ◌∷◌, ◌++◌, length, take, ap, ap₂, refl, subst, sym, ◌∙◌, arith}
use Rattle.std.specs.Prelude.{Option, None}
use Rattle.std.proofs.lemmas.List.{take-take}
use Rattle.vt_parser.specs.declared.commands.Command.{Command}
use Rattle.vt_parser.specs.declared.commands.Mode.{Mode}
use Rattle.vt_parser.specs.declared.commands.Mode.TheVariants.{Ansi}
use Rattle.vt_parser.specs.Fold.{Waits}
use Rattle.vt_parser.specs.Step.{command_of, pending_after}
use Rattle.vt_term.specs.Console.{Console, effect_of}
use Rattle.vt_term.specs.Effect.{effect, reply}
use Rattle.vt_term.specs.Replies.{reply_of}
use Rattle.vt_term.specs.Term.{Term, mode_of, play, reply_to, sent, step}
use Rattle.screen_print.specs.EachByte.{still_within}
use Rattle.screen_print.specs.Fresh.{IsWaiting, Keeps}
use Rattle.screen_print.specs.Stills.{Still, still_of}

-- a byte that gives no command
module _ (x : Term) (byte : ℕ) (mode : mode_of x ≡ Ansi) (none : command_of Ansi x.pending byte ≡ None) where
  gives_none : command_of (mode_of x) x.pending byte ≡ None
  gives_none = ap (λ (m : Mode). command_of m x.pending byte) mode ∙ none

  stays : (step x byte).console ≡ x.console
  stays = ap (λ (c : Option Command). effect_of effect c x.console) gives_none

  waits_on : (step x byte).pending ≡ pending_after Ansi x.pending byte
  waits_on = ap (λ (m : Mode). pending_after m x.pending byte) mode

  unanswered : reply_to x byte ≡ []
  unanswered = ap (λ (c : Option Command). reply_of reply c x.console) gives_none

waits_same : (bytes : List ℕ) (count : ℕ) (x : Term) → mode_of x ≡ Ansi → Waits x.pending bytes → (play x (take count bytes)).console ≡ x.console
unfolding play
waits_same bytes zero x mode waits = refl
waits_same [] (suc count) x mode waits = refl
waits_same (byte ∷ rest) (suc count) x mode waits =
    let here = stays x byte mode waits.0 in
    waits_same rest count (step x byte) (ap (λ (s : Console). s.modes.mode) here ∙ mode) (subst (λ l. Waits l rest) (sym (waits_on x byte mode waits.0)) waits.2) ∙ here

waits_silent : (bytes : List ℕ) (x : Term) → mode_of x ≡ Ansi → Waits x.pending bytes → sent x bytes ≡ []
unfolding sent
waits_silent [] x mode waits = refl
waits_silent (byte ∷ rest) x mode waits =
    let here = stays x byte mode waits.0 in
    ap₂ (λ a b. a ++ b) (unanswered x byte mode waits.0)
    (waits_silent rest (step x byte) (ap (λ (s : Console). s.modes.mode) here ∙ mode) (subst (λ l. Waits l rest) (sym (waits_on x byte mode waits.0)) waits.2))

keeps_same : (text : List ℕ) (one : Still) → length one.rows ≡ 24 → Keeps text one one
keeps_same text one whole = record {
  whole = whole;
  whole_too = whole;
  kept = λ line low high column from under within begun. record { within = within; begins = begun; left = refl };
}

-- nothing changes at so many bytes
all_same : (n : ℕ) (bytes : List ℕ) (x : Term) → IsWaiting x (take n bytes) → (k : ℕ) → k ≤ n → (play x (take k bytes)).console ≡ x.console
all_same n bytes x waiting k few = ap (λ b. (play x b).console) (sym (take-take k n bytes few)) ∙ waits_same (take n bytes) k x waiting.mode waiting.waits

pub waiting_same : (n : ℕ) (bytes : List ℕ) (x : Term) → IsWaiting x (take n bytes) → (play x (take n bytes)).console ≡ x.console
waiting_same n bytes x waiting = all_same n bytes x waiting n (omega arith)

pub waiting_silent : (bytes : List ℕ) (x : Term) → IsWaiting x bytes → sent x bytes ≡ []
waiting_silent bytes x waiting = waits_silent bytes x waiting.mode waiting.waits

-- so a text stays at each of them
pub waiting_keeps : (text bytes : List ℕ) (n count : ℕ) (x : Term) → length x.console.picture.rows ≡ 24 → IsWaiting x (take n bytes) → count < n
    → Keeps text (still_within x bytes count) (still_within x bytes (count + 1))
waiting_keeps text bytes n count x whole waiting lt =
    let same : (k : ℕ) → k ≤ n → still_of x.console ≡ still_within x bytes k = λ k few. sym (ap still_of (all_same n bytes x waiting k few)) in
    subst (λ (other : Still). Keeps text (still_within x bytes count) other) (same (count + 1) (omega (arith, lt)))
    (subst (λ (one : Still). Keeps text one (still_of x.console)) (same count (omega (arith, lt))) (keeps_same text (still_of x.console) whole))
