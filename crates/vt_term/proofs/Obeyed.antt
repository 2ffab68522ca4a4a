-- What a token does that a parser beside the console read.
use Rattle.std.proofs.Common.{◌≡◌, ℕ, true, List, [], ◌∷◌, map, refl, sym, ap, subst, ◌∙◌}
use Rattle.std.specs.Prelude.{Some}
use Rattle.std.specs.List.{list_all}
use Rattle.std.proofs.lemmas.Bool.{and_parts}
use Rattle.vt_parser.specs.declared.commands.Mode.{Mode}
use Rattle.vt_parser.specs.declared.commands.Token.{Token}
use Rattle.vt_parser.specs.declared.commands.Token.TheVariants.{Show}
use Rattle.vt_parser.specs.Syntax.{is_graphic}
use Rattle.vt_parser.specs.Step.{mode_after}
use Rattle.vt_parser.specs.Fold.{pending_after_bytes}
use Rattle.vt_parser.specs.Token.{command_of_token, TellsOf}
use Rattle.vt_parser.proofs.LawLemmas.{graphic_is_shown}
use Rattle.vt_term.specs.Console.{Console, IsSafe}
use Rattle.vt_term.specs.Effect.{IsRead, glyph_for, glyphs_shown, token_effect, token_reply}
use Rattle.vt_term.specs.Printing.{on_ground}
use Rattle.vt_term.specs.Term.{Term, mode_of, play, sent}
use Rattle.vt_term.proofs.Printed.{characters_bring}
use Rattle.vt_term.proofs.Safe.{safe_effect}
use Rattle.vt_term.proofs.Steps.{played, safe_play, term}

-- bytes that come to a token have its effect, and its reply is sent
pub token_plays : (x : Term) (bytes : List ℕ) (token : Token) → TellsOf (mode_of x) (mode_of x) x.pending bytes (Some token)
    → ((play x bytes).console ≡ token_effect token x.console) × (sent x bytes ≡ token_reply token x.console)
token_plays x bytes (Show run) told =
    let here : x ≡ on_ground x.console x.reports = ap (λ (p : List ℕ). term x.console p x.reports) told.ground in
    let brings = characters_bring x.console bytes told.graphic in (
      ap (λ (y : Term). (play y bytes).console) here
          ∙ ap (λ (y : Term). y.console) (brings.played x.reports)
          ∙ ap (λ (l : List ℕ). glyphs_shown (map (glyph_for x.console) l) x.console) (sym told.whole),
      ap (λ (y : Term). sent y bytes) here ∙ brings.silent x.reports,
    )
token_plays x bytes token told =
    let after = played (mode_of x) (mode_of x) x.console x.pending x.reports bytes (Some (command_of_token token)) refl refl told in
    (ap (λ (y : Term). y.console) after.0, after.1)

-- what is read keeps a console safe
pub token_safe : (token : Token) (s : Console) → IsRead token → IsSafe s → IsSafe (token_effect token s)
token_safe (Show run) s read safe =
    subst IsSafe (ap (λ (y : Term). y.console) ((characters_bring s run.now read).played [])) (safe_play (on_ground s []) run.now safe)
token_safe token s read safe = safe_effect (command_of_token token) s read safe

-- behind graphic characters nothing is pending where nothing was
pub run_leaves_nothing : (given mode : Mode) (bytes : List ℕ) → list_all is_graphic bytes ≡ true → pending_after_bytes given mode [] bytes ≡ []
run_leaves_nothing given mode [] graphic = refl
run_leaves_nothing given mode (byte ∷ rest) graphic =
    let parts = and_parts (is_graphic byte) (list_all is_graphic rest) graphic in
    ap (λ (p : List ℕ). pending_after_bytes given (mode_after given mode byte) p rest) (graphic_is_shown mode byte parts.0).1
    ∙ run_leaves_nothing given (mode_after given mode byte) rest parts.1
