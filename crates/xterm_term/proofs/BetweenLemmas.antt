-- What a terminal shows once something was done to it between bytes.
use Rattle.std.proofs.Common.{◌≡◌, ℕ, Bool, List, [], refl, sym, ap, subst, ◌∙◌}
use Rattle.xterm_term.specs.Console.{Console, IsSafe}
use Rattle.xterm_term.specs.SameSize.{SameSize}
use Rattle.xterm_term.specs.Seen.{IsTerminal, Seen, Shows}
use Rattle.xterm_term.specs.Term.{Term}
use Rattle.xterm_term.proofs.Told.{seen}

-- another console that is safe, and other bytes of a character
pub changed_terminal : {origins : List ℕ} (before : Seen) (t : Console) (character : List ℕ) → IsTerminal before → IsSafe t
    → IsTerminal (seen origins t before.state character)
changed_terminal before t character is safe =
    let x = is.term.0 in
    let shows = is.term.1 in
    record {
      safe = safe;
      term = (
        record { console = t; sequence = x.sequence; character = character; reports = [] },
        record { console = refl; state = shows.state; character = refl },
      );
    }

-- it shows the term with these
pub changed_shows : {origins : List ℕ} (before now_ : Seen) (x : Term) (change : Console → Console) (t : Console) → before ≡ now_ → Shows now_ x
    → t ≡ change before.console → Shows (seen origins t before.state before.character) (record x { console = change x.console })
changed_shows before now_ x change t same shows told =
    let inside : Shows before x = subst (λ (s : Seen). Shows s x) (sym same) shows in
    record { console = ap change inside.console ∙ sym told; state = inside.state; character = inside.character }

pub cut_shows : {origins : List ℕ} (before now_ : Seen) (x : Term) (change : Console → Console) (t : Console) (character : List ℕ) → before ≡ now_
    → Shows now_ x → t ≡ change before.console → character ≡ []
    → Shows (seen origins t before.state character) (record x { console = change x.console; character = [] })
cut_shows before now_ x change t character same shows told none =
    let inside : Shows before x = subst (λ (s : Seen). Shows s x) (sym same) shows in
    record { console = ap change inside.console ∙ sym told; state = inside.state; character = sym none }

pub changed_size : (before now_ : Seen) (change : Console → Console) (t : Console) → before ≡ now_ → t ≡ change before.console
    → SameSize before.console (change before.console) → SameSize now_.console t
changed_size before now_ change t same told size =
    subst (λ (s : Seen). SameSize s.console t) same (subst (SameSize before.console) (sym told) size)
