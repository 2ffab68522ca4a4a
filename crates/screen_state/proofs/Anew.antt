-- Whatever a terminal is in, it begins anew.
use Rattle.std.proofs.Common.{◌≡◌, ℕ, List, [], ◌∷◌, ◌++◌, append-nil, refl, ap, ap₂, ◌∙◌}
use Rattle.vt_parser.specs.declared.commands.Mode.{Mode}
use Rattle.vt_parser.specs.declared.commands.Mode.TheVariants.{Ansi, Vt52}
use Rattle.vt_parser.specs.declared.syntax.Context.{Context}
use Rattle.vt_parser.specs.declared.syntax.Context.TheVariants.{Ground, Sequence, Text}
use Rattle.vt_parser.specs.declared.syntax.Action.TheVariants.{Begin}
use Rattle.vt_parser.specs.Syntax.{escape, action_of}
use Rattle.vt_parser.specs.Step.{context_of, command_of, pending_after}
use Rattle.vt_term.specs.Console.{Console, reset_console}
use Rattle.vt_term.specs.Printing.{Brings, on_ground}
use Rattle.vt_term.specs.Term.{Term, mode_of, reply_to, step, play, sent}
use Rattle.vt_term.proofs.Printed.{escapes_bring}
use Rattle.screen_state.specs.StateText.{anew_text}
use Rattle.screen_state.proofs.Below.{joined}
use Rattle.screen_state.proofs.Modes.{in_mode, leaves}

-- ESC begins a sequence wherever it comes
begins : (at : Context) → action_of at 27 ≡ Begin
begins Ground = refl
begins Sequence = refl
begins Text = refl

escape_step : (x : Term) → (step x 27 ≡ record { console = x.console; pending = 27 ∷ []; reports = x.reports }) × (reply_to x 27 ≡ [])
unfolding command_of pending_after
escape_step x =
    let here = begins (context_of (mode_of x) x.pending) in
    (simp (here, append-nil), simp here)

-- what is pending before an ESC plays no part
unpends : (x : Term) (bytes : List ℕ)
    → (play x (27 ∷ bytes) ≡ play (on_ground x.console x.reports) (27 ∷ bytes))
    × (sent x (27 ∷ bytes) ≡ sent (on_ground x.console x.reports) (27 ∷ bytes))
unfolding play sent
unpends x bytes =
    let here = escape_step x in
    let there = escape_step (on_ground x.console x.reports) in (
      cc (ap (λ (y : Term). play y bytes) here.0, ap (λ (y : Term). play y bytes) there.0),
      cc (ap₂ (λ (l : List ℕ) (y : Term). l ++ sent y bytes) here.1 here.0, ap₂ (λ (l : List ℕ) (y : Term). l ++ sent y bytes) there.1 there.0),
    )

-- `ESC <` leads to ANSI mode from either mode
to_ansi : (mode : Mode) (c : Console) → Brings (in_mode mode c.sets.vt52_graphics c) (escape ∷ 60 ∷ []) (in_mode Ansi c.sets.vt52_graphics c)
to_ansi Ansi c = escapes_bring (in_mode Ansi c.sets.vt52_graphics c) 60 refl refl refl refl refl
to_ansi Vt52 c = leaves c c.sets.vt52_graphics

pub anew_brings : (c : Console) → Brings c anew_text (reset_console c.profile)
anew_brings c =
    let ansi = in_mode Ansi c.sets.vt52_graphics c in
    joined (to_ansi c.modes.mode c) (escapes_bring ansi 99 refl refl refl refl refl)

-- any terminal, by a text that begins with ESC
pub makes : (x : Term) (c : Console) (bytes : List ℕ) → Brings x.console (27 ∷ bytes) c
    → (play x (27 ∷ bytes) ≡ on_ground c x.reports) × (sent x (27 ∷ bytes) ≡ [])
makes x c bytes brings =
    let here = unpends x bytes in
    (here.0 ∙ brings.played x.reports, here.1 ∙ brings.silent x.reports)
