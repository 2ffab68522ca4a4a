-- Sequences that erase the rest of the cursor's row.
use Rattle.std.proofs.Common.{◌≡◌, inl, inr, ℕ, zero, suc, ◌<◌, false, List, [], ◌∷◌, take, refl, sym, ap, subst, ◌∙◌, ◌&&◌, nat_le, arith}
use Rattle.std.proofs.lemmas.List.{append-nil}
use Rattle.vt_parser.specs.Forms.{is_whole, meaning, numbers}
use Rattle.vt_parser.specs.Step.{command_of, context_of, pending_after}
use Rattle.xterm_screen.specs.Picture.{Picture}
use Rattle.xterm_screen.specs.Erasures.{columns_erased}
use Rattle.xterm_term.specs.Ahead.{ErasesRight, IsErasing}
use Rattle.xterm_term.specs.Console.{Console}
use Rattle.xterm_term.specs.Effect.{effect}
use Rattle.xterm_term.specs.Law.{LawsBelow}
use Rattle.xterm_term.specs.Seen.{Seen, Shows}
use Rattle.xterm_term.specs.Term.{Outcome, Term, is_ground, play, step, syntax_read}
use Rattle.vt_parser.specs.declared.states.ParserState.TheVariants.{Ground}
use Rattle.xterm_term.proofs.Ahead.{IsOpen}
use Rattle.xterm_term.proofs.ByteKinds.{first, other}
use Rattle.xterm_term.proofs.Ran.{at_ground}
use Rattle.xterm_term.proofs.Runs.{on_ground, stepped}

-- a terminal behind bytes of a sequence
abbrev amid : Console → List ℕ → List ℕ → Term
amid s sequence reports = record { console = s; sequence = sequence; character = []; reports = reports }

-- a byte of one
walked : (s : Console) (sequence reports : List ℕ) (byte : ℕ) → s.title ≡ false → (is_ground sequence && nat_le 128 byte) ≡ false
    → step (amid s sequence reports) byte ≡ stepped reports (syntax_read s sequence byte)
walked s sequence reports byte title low = ap (λ (o : Outcome). stepped reports o) (sym (other s sequence byte title low ∙ first s sequence [] byte refl))

escape_walked : (s : Console) (reports : List ℕ) → s.title ≡ false → step (on_ground s reports) 27 ≡ amid s (27 ∷ []) reports
unfolding command_of pending_after context_of
escape_walked s reports title = walked s [] reports 27 title refl ∙ ap (amid s (27 ∷ [])) (append-nil reports)

bracket_walked : (s : Console) (reports : List ℕ) → s.title ≡ false → step (amid s (27 ∷ []) reports) 91 ≡ amid s (27 ∷ 91 ∷ []) reports
unfolding command_of pending_after context_of is_whole meaning
bracket_walked s reports title = walked s (27 ∷ []) reports 91 title refl ∙ ap (amid s (27 ∷ 91 ∷ [])) (append-nil reports)

zero_walked : (s : Console) (reports : List ℕ) → s.title ≡ false → step (amid s (27 ∷ 91 ∷ []) reports) 48 ≡ amid s (27 ∷ 91 ∷ 48 ∷ []) reports
unfolding command_of pending_after context_of is_whole meaning
zero_walked s reports title = walked s (27 ∷ 91 ∷ []) reports 48 title refl ∙ ap (amid s (27 ∷ 91 ∷ 48 ∷ [])) (append-nil reports)

-- what the last byte leaves
abbrev Erased : Console → Term → Type 0
Erased s x = x.console.picture ≡ columns_erased s.picture.column s.picture.columns s.rendition.paper s.picture

last_walked : (s : Console) (reports : List ℕ) → s.title ≡ false → Erased s (step (amid s (27 ∷ 91 ∷ []) reports) 75)
unfolding command_of pending_after context_of is_whole meaning numbers effect
last_walked s reports title = ap (λ (x : Term). x.console.picture) (walked s (27 ∷ 91 ∷ []) reports 75 title refl)

last_walked_by_zero : (s : Console) (reports : List ℕ) → s.title ≡ false → Erased s (step (amid s (27 ∷ 91 ∷ 48 ∷ []) reports) 75)
unfolding command_of pending_after context_of is_whole meaning numbers effect
last_walked_by_zero s reports title = ap (λ (x : Term). x.console.picture) (walked s (27 ∷ 91 ∷ 48 ∷ []) reports 75 title refl)

-- behind each of its bytes but the last the console is as it was
plainly : (s : Console) (reports : List ℕ) → s.title ≡ false → ErasesRight (on_ground s reports) (27 ∷ 91 ∷ 75 ∷ [])
unfolding play
plainly s reports title =
    let one = escape_walked s reports title in
    let two = ap (λ (x : Term). step x 91) one ∙ bracket_walked s reports title in
    record {
      before = λ count lt. among count lt one two;
      rows = ap (λ (x : Term). (step x 75).console.picture.rows) two ∙ ap (λ (p : Picture). p.rows) (last_walked s reports title);
    }
  where
    among : (count : ℕ) → count < 3 → step (on_ground s reports) 27 ≡ amid s (27 ∷ []) reports → step (step (on_ground s reports) 27) 91 ≡ amid s (27 ∷ 91 ∷ []) reports
        → (play (on_ground s reports) (take count (27 ∷ 91 ∷ 75 ∷ []))).console.picture ≡ s.picture
    among zero lt one two = refl
    among (suc zero) lt one two = ap (λ (x : Term). x.console.picture) one
    among (suc (suc zero)) lt one two = ap (λ (x : Term). x.console.picture) two
    among (suc (suc (suc more))) lt one two = absurd (omega (arith, lt))

by_zero : (s : Console) (reports : List ℕ) → s.title ≡ false → ErasesRight (on_ground s reports) (27 ∷ 91 ∷ 48 ∷ 75 ∷ [])
unfolding play
by_zero s reports title =
    let one = escape_walked s reports title in
    let two = ap (λ (x : Term). step x 91) one ∙ bracket_walked s reports title in
    let three = ap (λ (x : Term). step x 48) two ∙ zero_walked s reports title in
    record {
      before = λ count lt. among count lt one two three;
      rows = ap (λ (x : Term). (step x 75).console.picture.rows) three ∙ ap (λ (p : Picture). p.rows) (last_walked_by_zero s reports title);
    }
  where
    among : (count : ℕ) → count < 4 → step (on_ground s reports) 27 ≡ amid s (27 ∷ []) reports → step (step (on_ground s reports) 27) 91 ≡ amid s (27 ∷ 91 ∷ []) reports
        → step (step (step (on_ground s reports) 27) 91) 48 ≡ amid s (27 ∷ 91 ∷ 48 ∷ []) reports
        → (play (on_ground s reports) (take count (27 ∷ 91 ∷ 48 ∷ 75 ∷ []))).console.picture ≡ s.picture
    among zero lt one two three = refl
    among (suc zero) lt one two three = ap (λ (x : Term). x.console.picture) one
    among (suc (suc zero)) lt one two three = ap (λ (x : Term). x.console.picture) two
    among (suc (suc (suc zero))) lt one two three = ap (λ (x : Term). x.console.picture) three
    among (suc (suc (suc (suc more)))) lt one two three = absurd (omega (arith, lt))

pub erases : LawsBelow → (seen : Seen) (x : Term) (bytes : List ℕ) → IsOpen seen → seen.state ≡ Ground → Shows seen x → IsErasing bytes → ErasesRight x bytes
erases laws seen x bytes open_ ground shows is =
    subst (λ (y : Term). ErasesRight y bytes) (sym (at_ground laws seen x shows ground open_.character)) (elim is [
      | inl e ↦ subst (ErasesRight (on_ground seen.console x.reports)) (sym e) (plainly seen.console x.reports open_.title)
      | inr e ↦ subst (ErasesRight (on_ground seen.console x.reports)) (sym e) (by_zero seen.console x.reports open_.title)
    ])
