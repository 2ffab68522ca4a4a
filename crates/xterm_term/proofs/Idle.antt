-- What a terminal shows after a control, and after a whole character, where nothing is pending.
use Rattle.std.proofs.Common.{◌≡◌, ℕ, ◌<◌, Bool, true, false, List, [], ◌∷◌, ◌++◌, length, refl, sym, ap, ap₂, subst, ◌∙◌, nat_le, arith}
use Rattle.std.specs.Prelude.{Some}
use Rattle.std.proofs.lemmas.Bool.Decides.{nat_tests}
use Rattle.std.proofs.lemmas.List.{append-nil, length-append}
use Rattle.characters.specs.declared.utf8.Reading.TheVariants.{Character, More}
use Rattle.characters.specs.Utf8.{begins, Spells, SpellsOn}
use Rattle.vt_parser.specs.declared.commands.Mode.TheVariants.{Ansi}
use Rattle.vt_parser.specs.declared.states.ParserState.{ParserState}
use Rattle.vt_parser.specs.declared.states.ParserState.TheVariants.{Ground}
use Rattle.vt_parser.specs.Syntax.{is_within}
use Rattle.vt_parser.specs.Law.{ControlIsGiven}
use Rattle.xterm_term.specs.Rows.{named, effect_of}
use Rattle.xterm_term.specs.Console.{Console, IsSafe, forgotten}
use Rattle.xterm_term.specs.Controls.{controls, control_effect}
use Rattle.xterm_term.specs.Effect.{effect, reply}
use Rattle.xterm_term.specs.Puts.{put}
use Rattle.xterm_term.specs.Term.{Term, Outcome, outcome, outcome_of, read, syntax_read, is_control, step, play, sent}
use Rattle.xterm_term.specs.Seen.{Seen, Shows, IsTerminal}
use Rattle.xterm_term.specs.SameSize.{SameSize}
use Rattle.xterm_term.specs.Law.{LawsBelow}
use Rattle.xterm_term.proofs.ByteKinds.{next}
use Rattle.xterm_term.proofs.Ran.{at_ground}
use Rattle.xterm_term.proofs.Runs.{on_ground, silent, stepped}
use Rattle.xterm_term.proofs.Stays.{safe_play, size_stays}
use Rattle.xterm_term.proofs.Told.{seen}

-- bytes that lead from a console to another, and send nothing
pub record Brings (s t : Console) (bytes : List ℕ) : Type 0 where
  pub played : (reports : List ℕ) → play (on_ground s reports) bytes ≡ on_ground t reports
  pub sends : (reports : List ℕ) → sent (on_ground s reports) bytes ≡ []

-- ---- a control

effective : (byte : ℕ) → is_within 8 15 byte ≡ true → is_control byte ≡ true
effective byte is = grind (arith, nat_tests)

not_upper : (byte : ℕ) → is_within 8 15 byte ≡ true → nat_le 128 byte ≡ false
not_upper byte is = grind (arith, nat_tests)

module _ (given : ControlIsGiven) where
  control_shown : (s : Console) (byte : ℕ) → is_within 8 15 byte ≡ true
      → syntax_read s [] byte ≡ silent (forgotten (effect_of control_effect (named controls byte) s))
  unfolding effect reply
  control_shown s byte is =
      let command = (given Ansi byte is).0 in
      let pending = (given Ansi byte is).1 in
      let control = effective byte is in
      simp (command, pending, control)

  control_read : (s : Console) (byte : ℕ) → is_within 8 15 byte ≡ true → s.title ≡ false
      → outcome_of s [] [] byte ≡ silent (forgotten (effect_of control_effect (named controls byte) s))
  unfolding outcome_of read
  control_read s byte is title = let upper = not_upper byte is in simp (title, upper) (control_shown s byte is)

  pub control_brings : (s : Console) (byte : ℕ) → is_within 8 15 byte ≡ true → s.title ≡ false
      → Brings s (forgotten (effect_of control_effect (named controls byte) s)) (byte ∷ [])
  unfolding play sent
  control_brings s byte is title =
      let t : Console = forgotten (effect_of control_effect (named controls byte) s) in
      let here = control_read s byte is title in
      record {
        played = λ reports. ap (λ (o : Outcome). stepped reports o) here ∙ ap (on_ground t) (append-nil reports);
        sends = λ reports. append-nil _ ∙ ap (λ (o : Outcome). o.reply) here;
      }

-- ---- a character

abbrev pub halfway : Console → List ℕ → List ℕ → Term
halfway s character reports = record { console = s; sequence = []; character = character; reports = reports }

upper_byte : (byte : ℕ) → begins byte ≡ true → nat_le 128 byte ≡ true
upper_byte byte is = grind (arith, nat_tests)

pub begun : (s : Console) (byte : ℕ) → s.title ≡ false → begins byte ≡ true → outcome_of s [] [] byte ≡ outcome s [] (byte ∷ []) []
unfolding outcome_of read
begun s byte title is = let upper = upper_byte byte is in simp (title, upper, is)

spelled : (bytes : List ℕ) (s : Console) (character reports : List ℕ) (c : ℕ) → 0 < length character → SpellsOn character bytes c
    → (play (halfway s character reports) bytes ≡ on_ground (put c s) reports) × (sent (halfway s character reports) bytes ≡ [])
unfolding play sent
spelled [] s character reports c some spells = absurd spells
spelled (byte ∷ []) s character reports c some spells =
    let here = next s [] character byte (Character c) some (sym spells) in (
      ap (λ (o : Outcome). stepped reports o) (sym here) ∙ ap (on_ground (put c s)) (append-nil reports),
      append-nil _ ∙ ap (λ (o : Outcome). o.reply) (sym here),
    )
spelled (byte ∷ more ∷ rest) s character reports c some spells =
    let here = next s [] character byte More some (sym spells.0) in
    let moved : step (halfway s character reports) byte ≡ halfway s (character ++ byte ∷ []) reports
    = ap (λ (o : Outcome). stepped reports o) (sym here) ∙ ap (halfway s (character ++ byte ∷ [])) (append-nil reports) in
    let longer = length-append character (byte ∷ []) in
    let later = spelled (more ∷ rest) s (character ++ byte ∷ []) reports c (omega arith) spells.1 in (
      ap (λ (x : Term). play x (more ∷ rest)) moved ∙ later.0,
      ap₂ (λ (l : List ℕ) (x : Term). l ++ sent x (more ∷ rest)) (ap (λ (o : Outcome). o.reply) (sym here)) moved ∙ later.1,
    )

pub character_brings : (s : Console) (bytes : List ℕ) (c : ℕ) → s.title ≡ false → Spells bytes c → Brings s (put c s) bytes
unfolding play sent
character_brings s [] c title spells = absurd spells
character_brings s (byte ∷ rest) c title spells =
    let here = begun s byte title spells.0 in
    let moved : (reports : List ℕ) → step (on_ground s reports) byte ≡ halfway s (byte ∷ []) reports
    = λ reports. ap (λ (o : Outcome). stepped reports o) here ∙ ap (halfway s (byte ∷ [])) (append-nil reports) in
    record {
      played = λ reports. ap (λ (x : Term). play x rest) (moved reports) ∙ (spelled rest s (byte ∷ []) reports c (omega arith) spells.1).0;
      sends = λ reports.
          ap₂ (λ (l : List ℕ) (x : Term). l ++ sent x rest) (ap (λ (o : Outcome). o.reply) here) (moved reports)
          ∙ (spelled rest s (byte ∷ []) reports c (omega arith) spells.1).1;
    }

-- ---- what it is for a terminal

pub character_left : (before now_ : Seen) (bytes : List ℕ) (c : ℕ) (t : Console) → before ≡ now_ → now_.console.title ≡ false → Spells bytes c
    → t ≡ put c before.console → Brings before.console t bytes
character_left before now_ bytes c t same title spells told =
    subst (λ (u : Console). Brings before.console u bytes) (sym told)
    (character_brings before.console bytes c (ap (λ (s : Seen). s.console.title) same ∙ title) spells)

pub control_left : ControlIsGiven → (before now_ : Seen) (byte : ℕ) (t : Console) → before ≡ now_ → now_.console.title ≡ false
    → is_within 8 15 byte ≡ true → t ≡ forgotten (effect_of control_effect (named controls byte) before.console)
    → Brings before.console t (byte ∷ [])
control_left given before now_ byte t same title is told =
    subst (λ (u : Console). Brings before.console u (byte ∷ [])) (sym told)
    (control_brings given before.console byte is (ap (λ (s : Seen). s.console.title) same ∙ title))

here : {before now_ : Seen} {t : Console} {bytes : List ℕ} → before ≡ now_ → Brings before.console t bytes → Brings now_.console t bytes
here {before} {now_} {t} {bytes} same brings = subst (λ (s : Seen). Brings s.console t bytes) same brings

module _ (laws : LawsBelow) where
  pub brought : {origins : List ℕ} (before now_ : Seen) (x : Term) (bytes : List ℕ) (t : Console) → before ≡ now_ → Shows now_ x → now_.state ≡ Ground
      → now_.character ≡ [] → Brings before.console t bytes → Shows (seen origins t before.state before.character) (play x bytes)
  brought {origins} before now_ x bytes t same shows state character brings =
      let played = ap (λ (y : Term). play y bytes) (at_ground laws now_ x shows state character) ∙ (here same brings).played x.reports in
      let before_state : before.state ≡ Ground = ap (λ (s : Seen). s.state) same ∙ state in
      let before_character : before.character ≡ [] = ap (λ (s : Seen). s.character) same ∙ character in
      subst (Shows (seen origins t before.state before.character)) (sym played)
      (record {
        console = refl;
        state = laws.ground_is_empty.0 Ansi ∙ ap (λ (s : ParserState). Some s) (sym before_state);
        character = sym before_character;
      })

  pub brought_silent : (before now_ : Seen) (x : Term) (bytes : List ℕ) (t : Console) → before ≡ now_ → Shows now_ x → now_.state ≡ Ground
      → now_.character ≡ [] → Brings before.console t bytes → sent x bytes ≡ []
  brought_silent before now_ x bytes t same shows state character brings =
      ap (λ (y : Term). sent y bytes) (at_ground laws now_ x shows state character) ∙ (here same brings).sends x.reports

  pub brought_terminal : {origins : List ℕ} (before now_ : Seen) (bytes : List ℕ) (t : Console) → before ≡ now_ → IsTerminal before → now_.state ≡ Ground
      → now_.character ≡ [] → Brings before.console t bytes → IsTerminal (seen origins t before.state before.character)
  brought_terminal {origins} before now_ bytes t same is state character brings =
      let x = is.term.0 in
      let after = brought {origins = origins} before now_ x bytes t same (subst (λ (s : Seen). Shows s x) same is.term.1) state character brings in
      record {
        safe = subst IsSafe after.console (safe_play laws x bytes (subst IsSafe (sym is.term.1.console) is.safe));
        term = (play x bytes, after);
      }

  pub brought_size : (before now_ : Seen) (bytes : List ℕ) (t : Console) → before ≡ now_ → IsTerminal before → now_.state ≡ Ground
      → now_.character ≡ [] → Brings before.console t bytes → SameSize now_.console t
  brought_size before now_ bytes t same is state character brings =
      let x = is.term.0 in
      let shows : Shows now_ x = subst (λ (s : Seen). Shows s x) same is.term.1 in
      let after = brought {origins = []} before now_ x bytes t same shows state character brings in
      subst (λ (s : Console). SameSize s t) shows.console (subst (SameSize x.console) after.console (size_stays x bytes))
