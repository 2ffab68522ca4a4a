-- What a byte comes to, by what is pending.
use Rattle.std.proofs.Common.{◌≡◌, ℕ, ◌<◌, true, false, List, [], ◌∷◌, length, refl, sym, ap, subst, ◌&&◌, nat_le, arith}
use Rattle.characters.specs.declared.utf8.Reading.{Reading}
use Rattle.characters.specs.Utf8.{reading}
use Rattle.vt_parser.specs.declared.states.ParserState.{ParserState}
use Rattle.xterm_term.specs.Console.{Console}
use Rattle.xterm_term.specs.Term.{Outcome, title_read, upper_read, syntax_read, read, gone_on, outcome_of, is_ground}
use Rattle.xterm_term.specs.Reading.{ComesTo}

pub titled : (s : Console) (sequence : List ℕ) (byte : ℕ) → s.title ≡ true → title_read s sequence byte ≡ read s sequence byte
unfolding read
titled s sequence byte title = simp title

pub upper : (s : Console) (sequence : List ℕ) (byte : ℕ) → s.title ≡ false → (is_ground sequence && nat_le 128 byte) ≡ true
    → upper_read s byte ≡ read s sequence byte
unfolding read
upper s sequence byte title is = simp (title, is)

pub other : (s : Console) (sequence : List ℕ) (byte : ℕ) → s.title ≡ false → (is_ground sequence && nat_le 128 byte) ≡ false
    → syntax_read s sequence byte ≡ read s sequence byte
unfolding read
other s sequence byte title is = simp (title, is)

pub first : (s : Console) (sequence character : List ℕ) (byte : ℕ) → character ≡ [] → read s sequence byte ≡ outcome_of s sequence character byte
unfolding outcome_of
first s sequence [] byte none = refl
first s sequence (c ∷ rest) byte none = absurd cc

pub next : (s : Console) (sequence character : List ℕ) (byte : ℕ) (r : Reading) → 0 < length character → r ≡ reading character byte
    → gone_on r s sequence character byte ≡ outcome_of s sequence character byte
unfolding outcome_of
next s sequence [] byte r some same = absurd (omega arith)
next s sequence (c ∷ rest) byte r some same = ap (λ (q : Reading). gone_on q s sequence (c ∷ rest) byte) same

-- parts that come to an outcome come to one that is the same
pub come : (o q : Outcome) (s : Console) (left : ParserState) (bytes more : List ℕ) → ComesTo o s left bytes → o ≡ q → more ≡ bytes → ComesTo q s left more
come o q s left bytes more comes same bytes_same =
    subst (λ (r : Outcome). ComesTo r s left more) same (subst (λ (l : List ℕ). ComesTo o s left l) (sym bytes_same) comes)
