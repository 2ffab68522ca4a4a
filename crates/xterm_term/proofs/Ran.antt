-- What a run of bytes leaves of a terminal.
use Rattle.std.proofs.Common.{◌≡◌, ℕ, Bool, true, false, List, [], ◌∷◌, map, refl, sym, ap, ap₂, subst, ◌∙◌}
use Rattle.std.specs.Prelude.{Some}
use Rattle.std.specs.List.{list_all}
use Rattle.vt_parser.specs.declared.commands.Mode.TheVariants.{Ansi}
use Rattle.vt_parser.specs.declared.states.ParserState.{ParserState}
use Rattle.vt_parser.specs.declared.states.ParserState.TheVariants.{Ground}
use Rattle.vt_parser.specs.Syntax.{is_graphic}
use Rattle.xterm_term.specs.Console.{Console, IsSafe}
use Rattle.xterm_term.specs.Puts.{put, all_put, character_for}
use Rattle.xterm_term.specs.Term.{Term, play, sent}
use Rattle.xterm_term.specs.Seen.{Seen, Shows, IsTerminal}
use Rattle.xterm_term.specs.SameSize.{SameSize}
use Rattle.xterm_term.specs.Law.{LawsBelow}
use Rattle.xterm_term.proofs.Runs.{on_ground, run_played}
use Rattle.xterm_term.proofs.Sizes.{both, put_keeps_size}
use Rattle.xterm_term.proofs.Told.{seen}

all_size : (characters : List ℕ) (s : Console) → SameSize s (all_put characters s)
all_size [] s = record { columns = refl; lines = refl }
all_size (character ∷ characters) s =
    both s (put character s) (all_put characters (put character s)) (put_keeps_size character s) (all_size characters (put character s))

pub run_size : (before now_ : Seen) (run : List ℕ) (t : Console) → before ≡ now_ → t ≡ all_put (map (character_for before.console) run) before.console
    → SameSize now_.console t
run_size before now_ run t same told =
    subst (λ (s : Seen). SameSize s.console t) same
    (subst (SameSize before.console) (sym told) (all_size (map (character_for before.console) run) before.console))

-- a term by its parts
whole : (x : Term) (s : Console) → x.console ≡ s → x.sequence ≡ [] → x.character ≡ [] → x ≡ on_ground s x.reports
whole x s console sequence character =
    ap (λ (t : Console). record { console = t; sequence = x.sequence; character = x.character; reports = x.reports }) console
    ∙ ap₂ (λ (p c : List ℕ). record { console = s; sequence = p; character = c; reports = x.reports }) sequence character

module _ (laws : LawsBelow) where
  all_safe : (characters : List ℕ) (s : Console) → IsSafe s → IsSafe (all_put characters s)
  all_safe [] s safe = safe
  all_safe (character ∷ characters) s safe = all_safe characters (put character s) (laws.puts_keep_safe character s safe)

  pub run_terminal : {origins : List ℕ} (before : Seen) (run : List ℕ) (t : Console) → IsTerminal before → t ≡ all_put (map (character_for before.console) run) before.console
      → IsTerminal (seen origins t before.state before.character)
  run_terminal before run t is told =
      let x = is.term.0 in
      let shows = is.term.1 in
      record {
        safe = subst IsSafe (sym told) (all_safe (map (character_for before.console) run) before.console is.safe);
        term = (
          record { console = t; sequence = x.sequence; character = x.character; reports = [] },
          record { console = refl; state = shows.state; character = shows.character },
        );
      }

  -- a term of which ground is seen
  pub at_ground : (now_ : Seen) (x : Term) → Shows now_ x → now_.state ≡ Ground → now_.character ≡ [] → x ≡ on_ground now_.console x.reports
  at_ground now_ x shows state character =
      let none : x.sequence ≡ [] = laws.ground_is_empty.1 Ansi x.sequence (shows.state ∙ ap (λ (s : ParserState). Some s) state) in
      let no_character : x.character ≡ [] = shows.character ∙ character in
      whole x now_.console shows.console none no_character

  pub run_silent : (now_ : Seen) (x : Term) (run : List ℕ) → Shows now_ x → list_all is_graphic run ≡ true → now_.console.title ≡ false
      → now_.state ≡ Ground → now_.character ≡ [] → sent x run ≡ []
  run_silent now_ x run shows graphic title state character =
      ap (λ (y : Term). sent y run) (at_ground now_ x shows state character)
      ∙ (run_played laws.graphic_is_shown now_.console x.reports run graphic title).1

  pub run_shown : {origins : List ℕ} (before now_ : Seen) (x : Term) (run : List ℕ) (t : Console) → before ≡ now_ → Shows now_ x → list_all is_graphic run ≡ true
      → now_.console.title ≡ false → now_.state ≡ Ground → now_.character ≡ []
      → t ≡ all_put (map (character_for before.console) run) before.console
      → Shows (seen origins t before.state before.character) (play x run)
  run_shown {origins} before now_ x run t same shows graphic title state character told =
      let played = ap (λ (y : Term). play y run) (at_ground now_ x shows state character)
      ∙ (run_played laws.graphic_is_shown now_.console x.reports run graphic title).0 in
      let console : all_put (map (character_for now_.console) run) now_.console ≡ t =
      ap (λ (s : Seen). all_put (map (character_for s.console) run) s.console) (sym same) ∙ sym told in
      let before_state : before.state ≡ Ground = ap (λ (s : Seen). s.state) same ∙ state in
      let before_character : before.character ≡ [] = ap (λ (s : Seen). s.character) same ∙ character in
      subst (Shows (seen origins t before.state before.character)) (sym played)
      (record {
        console = console;
        state = laws.ground_is_empty.0 Ansi ∙ ap (λ (s : ParserState). Some s) (sym before_state);
        character = sym before_character;
      })
