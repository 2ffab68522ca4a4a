-- Terms of which the same is seen.
use Rattle.std.proofs.Common.{◌≡◌, ℕ, Bool, true, false, not, List, [], ◌∷◌, ◌++◌, refl, sym, ap, ap₂, subst, ◌∙◌, ◌==◌, ◌&&◌, ◌||◌, nat_le}
use Rattle.std.specs.Prelude.{Option, if◌then◌else◌}
use Rattle.characters.specs.declared.utf8.Reading.{Reading}
use Rattle.characters.specs.declared.utf8.Reading.TheVariants.{Character, More, Broken}
use Rattle.characters.specs.Utf8.{begins, reading, replacement}
use Rattle.vt_parser.specs.declared.commands.Mode.TheVariants.{Ansi}
use Rattle.vt_parser.specs.declared.commands.Command.{Command}
use Rattle.vt_parser.specs.declared.states.ParserState.{ParserState}
use Rattle.vt_parser.specs.declared.states.ParserState.TheVariants.{Ground}
use Rattle.vt_parser.specs.Syntax.{escape}
use Rattle.vt_parser.specs.Forms.{is_string_begun}
use Rattle.vt_parser.specs.Step.{pending_after}
use Rattle.xterm_term.specs.Rows.{effect_of}
use Rattle.xterm_term.specs.Console.{Console}
use Rattle.xterm_term.specs.Puts.{put}
use Rattle.xterm_term.specs.Replies.{reply_of}
use Rattle.xterm_term.specs.Effect.{effect, reply}
use Rattle.xterm_term.specs.Term.{Term, Outcome, step, play, sent, read, title_read, upper_read, syntax_read, gone_on, outcome_of, outcome_at, is_ground, is_control, ends_title, ends_last, forgotten_if}
use Rattle.xterm_term.specs.Seen.{Seen, Shows}
use Rattle.xterm_term.specs.Reading.{Stands}
use Rattle.xterm_term.specs.Law.{LawsBelow, SeenDecides}
use Rattle.xterm_term.proofs.Parts.{ground_shown, text_shown, stands_after}

-- outcomes of which the same is seen
record Alike (o q : Outcome) : Type 0 where
  console : o.console ≡ q.console
  state : (state : ParserState) × Stands o.sequence state × Stands q.sequence state
  character : o.character ≡ q.character
  reply : o.reply ≡ q.reply

alike_if : (b : Bool) (o q p r : Outcome) → Alike o q → Alike p r → Alike (if b then o else p) (if b then q else r)
alike_if true o q p r alike other = alike
alike_if false o q p r alike other = other

module _ (laws : LawsBelow) where
  nothing : (state : ParserState) × Stands [] state × Stands [] state
  nothing = (Ground, laws.ground_is_empty.0 Ansi, laws.ground_is_empty.0 Ansi)

  -- what is pending after a byte
  after : (p q : List ℕ) (state : ParserState) (byte : ℕ) → Stands p state → Stands q state
      → (next : ParserState) × Stands (pending_after Ansi p byte) next × Stands (pending_after Ansi q byte) next
  after p q state byte shown_p shown_q =
      let next = laws.stays_shown Ansi Ansi p state byte shown_p in
      let same = laws.state_decides Ansi Ansi Ansi p q state byte shown_p shown_q in (
        next.0,
        stands_after byte (pending_after Ansi p byte) next.0 next.1,
        stands_after byte (pending_after Ansi q byte) next.0 (sym same.1 ∙ next.1),
      )

  title_alike : (s : Console) (p q : List ℕ) (state : ParserState) (byte : ℕ) → Stands p state → Stands q state
      → Alike (title_read s p byte) (title_read s q byte)
  title_alike s p q state byte shown_p shown_q =
      alike_if (byte == escape) _ _ _ _
      (record { console = refl; state = after p q state byte shown_p shown_q; character = refl; reply = refl })
      (alike_if (ends_title byte) _ _ _ _
      (record { console = refl; state = (state, shown_p, shown_q); character = refl; reply = refl })
      (record { console = refl; state = (state, shown_p, shown_q); character = refl; reply = refl }))

  upper_alike : (s : Console) (byte : ℕ) → Alike (upper_read s byte) (upper_read s byte)
  upper_alike s byte =
      alike_if (begins byte) _ _ _ _
      (record { console = refl; state = nothing; character = refl; reply = refl })
      (record { console = refl; state = nothing; character = refl; reply = refl })

  ground_same : (p q : List ℕ) (state : ParserState) → Stands p state → Stands q state → is_ground p ≡ is_ground q
  ground_same p q state shown_p shown_q = sym (ground_shown p state shown_p) ∙ ground_shown q state shown_q

  text_same : (p q : List ℕ) (state : ParserState) → Stands p state → Stands q state → is_string_begun p ≡ is_string_begun q
  text_same p q state shown_p shown_q = sym (text_shown p state shown_p) ∙ text_shown q state shown_q

  ends_same : (p q : List ℕ) (state : ParserState) (byte : ℕ) → Stands p state → Stands q state → ends_last p byte ≡ ends_last q byte
  ends_same p q state byte shown_p shown_q =
      let next = after p q state byte shown_p shown_q in
      let text = text_same p q state shown_p shown_q in
      let now = ground_same p q state shown_p shown_q in
      let then_ = ground_same (pending_after Ansi p byte) (pending_after Ansi q byte) next.0 next.1 next.2 in
      ap₂ (λ (a b : Bool). a || b)
      (ap (λ (a : Bool). is_control byte && not a) text)
      (ap₂ (λ (a b : Bool). not a && b) now then_)

  syntax_alike : (s : Console) (p q : List ℕ) (state : ParserState) (byte : ℕ) → Stands p state → Stands q state
      → Alike (syntax_read s p byte) (syntax_read s q byte)
  syntax_alike s p q state byte shown_p shown_q =
      let same = (laws.state_decides Ansi Ansi Ansi p q state byte shown_p shown_q).0 in
      record {
        console = ap₂ (λ (ends : Bool) (command : Option Command). forgotten_if ends (effect_of effect command s)) (ends_same p q state byte shown_p shown_q) same;
        state = after p q state byte shown_p shown_q;
        character = refl;
        reply = ap (λ (command : Option Command). reply_of reply command s) same;
      }

  -- with another test that is the same
  alike_by : (b d : Bool) (o q p r : Outcome) → b ≡ d → Alike o q → Alike p r → Alike (if b then o else p) (if d then q else r)
  alike_by b d o q p r same alike other =
      subst (λ (e : Bool). Alike (if b then o else p) (if e then q else r)) same (alike_if b o q p r alike other)

  read_alike : (s : Console) (p q : List ℕ) (state : ParserState) (byte : ℕ) → Stands p state → Stands q state
      → Alike (read s p byte) (read s q byte)
  unfolding read
  read_alike s p q state byte shown_p shown_q =
      alike_if s.title _ _ _ _ (title_alike s p q state byte shown_p shown_q)
      (alike_by (is_ground p && nat_le 128 byte) (is_ground q && nat_le 128 byte) _ _ _ _
      (ap (λ (a : Bool). a && nat_le 128 byte) (ground_same p q state shown_p shown_q))
      (upper_alike s byte) (syntax_alike s p q state byte shown_p shown_q))

  gone_alike : (r : Reading) (s : Console) (p q character : List ℕ) (state : ParserState) (byte : ℕ) → Stands p state → Stands q state
      → Alike (gone_on r s p character byte) (gone_on r s q character byte)
  gone_alike (Character c) s p q character state byte shown_p shown_q =
      record { console = refl; state = (state, shown_p, shown_q); character = refl; reply = refl }
  gone_alike More s p q character state byte shown_p shown_q =
      record { console = refl; state = (state, shown_p, shown_q); character = refl; reply = refl }
  gone_alike Broken s p q character state byte shown_p shown_q = read_alike (put replacement s) p q state byte shown_p shown_q

  outcome_alike : (s : Console) (p q character : List ℕ) (state : ParserState) (byte : ℕ) → Stands p state → Stands q state
      → Alike (outcome_of s p character byte) (outcome_of s q character byte)
  unfolding outcome_of
  outcome_alike s p q character state byte shown_p shown_q =
      alike_if (is_ground character) _ _ _ _ (read_alike s p q state byte shown_p shown_q)
      (gone_alike (reading character byte) s p q character state byte shown_p shown_q)

  -- the outcome at a term goes by what is seen of its console and character
  at_seen : (seen : Seen) (x : Term) (byte : ℕ) → Shows seen x → outcome_at x byte ≡ outcome_of seen.console x.sequence seen.character byte
  at_seen seen x byte shows = ap₂ (λ (s : Console) (c : List ℕ). outcome_of s x.sequence c byte) shows.console shows.character

  alike_at : (seen : Seen) (x y : Term) (byte : ℕ) → Shows seen x → Shows seen y → Alike (outcome_at x byte) (outcome_at y byte)
  alike_at seen x y byte shows_x shows_y =
      subst (λ (o : Outcome). Alike o (outcome_at y byte)) (sym (at_seen seen x byte shows_x))
      (subst (λ (o : Outcome). Alike (outcome_of seen.console x.sequence seen.character byte) o) (sym (at_seen seen y byte shows_y))
      (outcome_alike seen.console x.sequence y.sequence seen.character seen.state byte shows_x.state shows_y.state))

  pub seen_decides : SeenDecides
  unfolding play sent
  seen_decides seen x y [] shows_x shows_y = ((seen, shows_x, shows_y), refl)
  seen_decides seen x y (byte ∷ bytes) shows_x shows_y =
      let alike = alike_at seen x y byte shows_x shows_y in
      let o : Outcome = outcome_at y byte in
      let next : Seen = record { console = o.console; state = alike.state.0; character = o.character; origins = [] } in
      let rest = seen_decides next (step x byte) (step y byte) bytes
      (record { console = alike.console; state = alike.state.1; character = alike.character })
      (record { console = refl; state = alike.state.2; character = refl }) in
      (rest.0, ap₂ (λ (l m : List ℕ). l ++ m) alike.reply rest.1)
