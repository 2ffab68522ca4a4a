-- What the bytes of a token do to a tally and to the marks.
use Rattle.std.proofs.Common.{◌≡◌, ℕ, zero, suc, ◌+◌, ◌<◌, ◌≤◌, ◌&&◌, Bool, true, false, List, [], ◌∷◌, ◌++◌, take, drop, length, get_or, refl, sym, ap, ap₂, ◌∙◌, subst, arith}
use Rattle.std.specs.Prelude.{Option, Some, None, fold}
use Rattle.std.specs.List.{list_all, prefix_len}
use Rattle.std.proofs.lemmas.Bool.{and_parts, false≢true}
use Rattle.std.proofs.lemmas.List.{append-nil}
use Rattle.std.proofs.lemmas.List.Sums.{fold-append}
use Rattle.vt_parser.specs.declared.commands.Mode.{Mode}
use Rattle.vt_parser.specs.declared.commands.Mode.TheVariants.{Ansi}
use Rattle.vt_parser.specs.declared.commands.Command.{Command}
use Rattle.vt_parser.specs.declared.commands.Token.{Token}
use Rattle.vt_parser.specs.declared.commands.Token.TheVariants.{Show}
use Rattle.vt_parser.specs.declared.states.Formless.{Formless}
use Rattle.vt_parser.specs.Syntax.{is_graphic}
use Rattle.vt_parser.specs.Step.{pending_after}
use Rattle.vt_parser.specs.Fold.{pending_after_bytes, Gives}
use Rattle.vt_parser.specs.Formless.{formless_of, NoneEndsBehind}
use Rattle.vt_parser.specs.Token.{command_of_token, TellsOf}
use Rattle.vt_parser.specs.View.{parser_view}
use Rattle.vt_parser.proofs.LawLemmas.{graphic_is_shown, runs_are_graphic}
use Rattle.xterm_term.specs.Term.{is_ground}
use Rattle.xterm_term.proofs.Taken.{front_within}
use Rattle.tape_check.specs.declared.quiet.Marks.{Marks}
use Rattle.tape_check.specs.declared.tally.Reader.{Reader}
use Rattle.tape_check.specs.Unplayed.{command_names, formless_names}
use Rattle.tape_check.specs.Quiet.{loud_form}
use Rattle.tape_check.specs.Scan.{counted}
use Rattle.tape_check.specs.Counting.{entries_of}
use Rattle.tape_check.specs.Tally.{Tally, any_today, forms_at, title_by, tallied}
use Rattle.tape_check.specs.Tallying.{marks_after, AreSyntax, Knows, IsAt}
use Rattle.tape_check.proofs.ScanLemmas.{mode_same, told}
use Rattle.tape_check.proofs.TallyLemmas.{idle, idle_stays, knows_after, low, no_form, syntax_tallied}

-- ---- marks

pub knows_many : (bytes : List ℕ) (m : Marks) (pending : List ℕ) → Knows m pending
    → Knows (fold marks_after m bytes) (pending_after_bytes Ansi Ansi pending bytes)
knows_many [] m pending knows = knows
knows_many (byte ∷ rest) m pending knows =
    subst (λ (n : Mode). Knows (fold marks_after (marks_after m byte) rest) (pending_after_bytes Ansi n (pending_after Ansi pending byte) rest))
    (sym (mode_same Ansi byte)) (knows_many rest (marks_after m byte) (pending_after Ansi pending byte) (knows_after m pending byte knows))

-- where nothing is pending they may be any
pub knows_nothing : (m : Marks) (pending : List ℕ) → pending ≡ [] → Knows m pending
knows_nothing m pending none = subst (Knows m) (sym none) (λ begun. absurd (false≢true begun))

-- ---- fronts

all_front : (bytes : List ℕ) (n : ℕ) → list_all is_graphic bytes ≡ true → list_all is_graphic (take n bytes) ≡ true
all_front bytes zero graphic = refl
all_front [] (suc n) graphic = refl
all_front (byte ∷ rest) (suc n) graphic =
    let parts = and_parts (is_graphic byte) (list_all is_graphic rest) graphic in
    ap₂ (λ (a b : Bool). a && b) parts.0 (all_front rest n parts.1)

pub syntax_front : (sequence bytes : List ℕ) (n : ℕ) → AreSyntax sequence bytes → AreSyntax sequence (take n bytes)
syntax_front sequence bytes zero are = tt
syntax_front sequence [] (suc n) are = tt
syntax_front sequence (byte ∷ rest) (suc n) are = (are.0, all_front rest n are.1)

never : (b : Bool) → (b && false) ≡ false
never true = refl
never false = refl

-- ---- what bytes do

-- a tally that reads neither a title nor a character
abbrev at : List ℕ → List (List ℕ × ℕ) → ℕ → Tally
at sequence entries parts =
    record { title = false; sequence = sequence; character = []; entries = entries; parts = parts }

-- what a command and the sequences without one leave of it
abbrev left : Option Command → List ℕ → List (List ℕ × ℕ) → List (List ℕ) → ℕ → Tally
left command sequence entries forms parts = record {
  title = title_by command false;
  sequence = sequence;
  character = [];
  entries = fold counted entries (forms ++ command_names any_today command);
  parts = parts;
}

module _ (parts : ℕ) where
  gives_left : (rest : List ℕ) (byte : ℕ) (sequence : List ℕ) (entries : List (List ℕ × ℕ)) (command : Option Command)
      → AreSyntax sequence (byte ∷ rest) → Gives Ansi Ansi sequence (byte ∷ rest) command
      → NoneEndsBehind Ansi Ansi sequence (byte ∷ rest)
      → fold tallied (at sequence entries parts) (byte ∷ rest)
      ≡ left command (pending_after_bytes Ansi Ansi sequence (byte ∷ rest)) entries (forms_at sequence byte) parts
  gives_left [] byte sequence entries command are gives none =
      syntax_tallied (at sequence entries parts) byte refl refl are.0
      ∙ ap (λ (c : Option Command). left c (pending_after Ansi sequence byte) entries (forms_at sequence byte) parts) gives
  gives_left (next ∷ rest) byte sequence entries command are gives none =
      let after = pending_after Ansi sequence byte in
      let forms = forms_at sequence byte in
      let same = mode_same Ansi byte in
      let graphic = and_parts (is_graphic next) (list_all is_graphic rest) are.1 in
      let ends : formless_of Ansi after next ≡ None = subst (λ (m : Mode). formless_of m after next ≡ None) same none.0 in
      let here = syntax_tallied (at sequence entries parts) byte refl refl are.0
      ∙ ap (λ (c : Option Command). left c after entries forms parts) gives.0
      ∙ ap (λ (l : List (List ℕ)). at after (fold counted entries l) parts) (append-nil forms) in
      let later = gives_left rest next after (fold counted entries forms) command
      (ap (λ (b : Bool). is_ground after && b) (low next graphic.0) ∙ never (is_ground after), graphic.1)
      (subst (λ (m : Mode). Gives Ansi m after (next ∷ rest) command) same gives.1)
      (subst (λ (m : Mode). NoneEndsBehind Ansi m after (next ∷ rest)) same none.1) in
      ap (λ (t : Tally). fold tallied t (next ∷ rest)) here ∙ later
      ∙ ap (λ (f : Option Formless). left command (pending_after_bytes Ansi Ansi after (next ∷ rest)) (fold counted entries forms)
      (formless_names (loud_form (drop 2 after) f)) parts) ends
      ∙ ap (λ (e : List (List ℕ × ℕ)). record (left command (pending_after_bytes Ansi Ansi after (next ∷ rest)) entries forms parts) { entries = e })
      (sym (fold-append counted entries forms (command_names any_today command)))
      ∙ ap (λ (m : Mode). left command (pending_after_bytes Ansi m after (next ∷ rest)) entries forms parts) (sym same)

  run_leaves : (bytes : List ℕ) → list_all is_graphic bytes ≡ true → pending_after_bytes Ansi Ansi [] bytes ≡ []
  run_leaves [] graphic = refl
  run_leaves (byte ∷ rest) graphic =
      let each = and_parts (is_graphic byte) (list_all is_graphic rest) graphic in
      ap₂ (λ (m : Mode) (p : List ℕ). pending_after_bytes Ansi m p rest) (mode_same Ansi byte) (graphic_is_shown Ansi byte each.0).1
      ∙ run_leaves rest each.1

  told_left : (rest : List ℕ) (byte : ℕ) (sequence : List ℕ) (entries : List (List ℕ × ℕ)) (token : Option Token)
      → AreSyntax sequence (byte ∷ rest) → TellsOf Ansi Ansi sequence (byte ∷ rest) token
      → NoneEndsBehind Ansi Ansi sequence (byte ∷ rest)
      → fold tallied (at sequence entries parts) (byte ∷ rest)
      ≡ left (told token) (pending_after_bytes Ansi Ansi sequence (byte ∷ rest)) entries (forms_at sequence byte) parts
  told_left rest byte sequence entries None are tells none = gives_left rest byte sequence entries None are tells none
  told_left rest byte sequence entries (Some (Show run)) are tells none =
      subst (λ (p : List ℕ). fold tallied (at p entries parts) (byte ∷ rest)
      ≡ left (told (Some (Show run))) (pending_after_bytes Ansi Ansi p (byte ∷ rest)) entries (forms_at p byte) parts) (sym tells.ground)
      (idle_stays (idle entries parts) (byte ∷ rest) refl tells.graphic
      ∙ ap₂ (λ (p : List ℕ) (f : Option Formless). at p (fold counted entries (formless_names (loud_form [] f) ++ [])) parts)
      (sym (run_leaves (byte ∷ rest) tells.graphic)) (sym (no_form byte)))
  told_left rest byte sequence entries (Some token) are tells none =
      gives_left rest byte sequence entries (Some (command_of_token token)) are tells none

-- ---- the reader behind a token

pub token_taken : (mid new : Reader) (t : Tally) (taken : List ℕ) (first : ℕ) (given token : Option Token) → 0 < length taken
    → get_or taken 0 0 ≡ first → given ≡ token → t.title ≡ false → t.character ≡ [] → AreSyntax t.sequence taken
    → IsAt mid (record t { entries = fold counted t.entries (forms_at t.sequence first) })
    → TellsOf Ansi Ansi t.sequence taken given → NoneEndsBehind Ansi Ansi t.sequence taken
    → parser_view Ansi (pending_after_bytes Ansi Ansi t.sequence taken) ≡ Some new.parser
    → new.title ≡ title_by (told token) mid.title → new.decoder ≡ mid.decoder → new.parts ≡ mid.parts
    → Knows new.marks (pending_after_bytes Ansi Ansi t.sequence taken)
    → entries_of new.counts ≡ fold counted (entries_of mid.counts) (command_names any_today (told token))
    → IsAt new (fold tallied t taken)
token_taken mid new t [] first given token some is same title character are there tells none state title_is decoder_is parts_is knows more =
    absurd (omega arith)
token_taken mid new t (byte ∷ rest) first given token some is same title character are there tells none state title_is decoder_is parts_is knows more =
    let bytes = byte ∷ rest in
    let names = command_names any_today (told token) in
    let here : t ≡ at t.sequence t.entries t.parts
    = ap₂ (λ (b : Bool) (l : List ℕ). record { title = b; sequence = t.sequence; character = l; entries = t.entries; parts = t.parts })
    title character in
    let done = ap (λ (u : Tally). fold tallied u bytes) here
    ∙ told_left t.parts rest byte t.sequence t.entries token are (subst (TellsOf Ansi Ansi t.sequence bytes) same tells) none in
    subst (IsAt new) (sym done) (record {
      title = ap (title_by (told token)) (sym title ∙ there.title) ∙ sym title_is;
      state = state;
      character = sym character ∙ there.character ∙ sym decoder_is;
      marks = knows;
      entries = fold-append counted t.entries (forms_at t.sequence byte) names
          ∙ ap (λ (b : ℕ). fold counted (fold counted t.entries (forms_at t.sequence b)) names) is
          ∙ ap (λ (e : List (List ℕ × ℕ)). fold counted e names) there.entries ∙ sym more;
      parts = there.parts ∙ sym parts_is;
    })

-- ---- one byte

pub one_taken : (t : Tally) (byte n : ℕ) → 0 < n → fold tallied t (take n (byte ∷ [])) ≡ tallied t byte
one_taken t byte zero some = absurd (omega arith)
one_taken t byte (suc n) some = nothing n
  where
    nothing : (n : ℕ) → fold tallied (tallied t byte) (take n []) ≡ tallied t byte
    nothing zero = refl
    nothing (suc n) = refl

-- ---- what is taken together

pub together : (bytes : List ℕ) (n m : ℕ) → 0 < length bytes → n ≡ prefix_len is_graphic (take m (drop 1 bytes))
    → n ≤ length (take m (drop 1 bytes)) → list_all is_graphic (drop 1 (take (1 + n) bytes)) ≡ true
together [] n m some same within = absurd (omega arith)
together (byte ∷ rest) n m some same within =
    let more : 1 + n ≡ suc n = omega arith in
    ap (λ (k : ℕ). list_all is_graphic (drop 1 (take k (byte ∷ rest)))) more
    ∙ ap (list_all is_graphic) (sym (front_within rest n m within))
    ∙ runs_are_graphic (take m rest) n (omega (arith, same))
