-- Characters of one column, and those of several bytes that stand side by side.
use Rattle.std.proofs.Common.{◌≡◌, ℕ, ◌+◌, ◌-◌, ◌<◌, ◌≤◌, Bool, true, false, List, [], ◌∷◌, ◌++◌, length, take, drop, get_or, map, refl, sym, ap, ap₂, subst, ◌∙◌, arith}
use Rattle.std.specs.Prelude.{Some}
use Rattle.std.specs.List.{list_all}
use Rattle.std.proofs.Math.Seq.{take-add}
use Rattle.std.proofs.lemmas.List.{append-nil, append_assoc, get_or-take, length-take-le, map-append}
use Rattle.std.proofs.lemmas.List.Folds.{list_all-append}
use Rattle.std.proofs.lemmas.List.Sums.{fold-append}
use Rattle.characters.specs.Utf8.{Spells}
use Rattle.xterm_screen.specs.Picture.{Picture}
use Rattle.xterm_screen.specs.Puts.{run_shown}
use Rattle.xterm_term.specs.Ahead.{is_narrow}
use Rattle.xterm_term.specs.Console.{Console}
use Rattle.xterm_term.specs.Puts.{put, all_put}
use Rattle.xterm_term.specs.Reading.{SpellsEach}
use Rattle.xterm_term.specs.Seen.{Seen}
use Rattle.xterm_term.specs.Term.{Term, play, sent}
use Rattle.xterm_term.proofs.Idle.{Brings, character_brings}
use Rattle.xterm_term.proofs.Runs.{all_in_parts, on_ground, put_at_once, put_others}
use Rattle.xterm_term.proofs.Steps.{plays_in_parts, sends_in_parts}

-- ---- lists, part by part

pub all_in_more : (p : ℕ → Bool) (xs : List ℕ) (x : ℕ) → list_all p xs ≡ true → p x ≡ true → list_all p (xs ++ x ∷ []) ≡ true
all_in_more p xs x all is = list_all-append p xs (x ∷ []) ∙ simp (all, is) refl

pub all_put_on : (first second : List ℕ) (s : Console) → all_put (first ++ second) s ≡ all_put second (all_put first s)
all_put_on first second s = fold-append (λ (t : Console) (character : ℕ). put character t) s first second

-- the characters of bytes, and then those of as many of the rest of them
pub spelled_part_put : (f : ℕ → ℕ) (bytes : List ℕ) (at n : ℕ) (s t u : Console) → t ≡ all_put (map f (take at bytes)) s
    → u ≡ all_put (map f (take n (drop at bytes))) t → u ≡ all_put (map f (take (at + n) bytes)) s
spelled_part_put f bytes at n s t u before after =
    let first = take at bytes in
    let second = take n (drop at bytes) in
    after ∙ ap (all_put (map f second)) before ∙ sym (all_put_on (map f first) (map f second) s)
    ∙ ap (λ (l : List ℕ). all_put l s) (sym (map-append f first second) ∙ ap (map f) (sym (take-add at n bytes)))

-- the same of characters
pub part_put : (letters : List ℕ) (at n : ℕ) (s t u : Console) → t ≡ all_put (take at letters) s → u ≡ all_put (take n (drop at letters)) t
    → u ≡ all_put (take (at + n) letters) s
part_put letters at n s t u before after =
    after ∙ ap (all_put (take n (drop at letters))) before ∙ sym (all_put_on (take at letters) (take n (drop at letters)) s)
    ∙ ap (λ (l : List ℕ). all_put l s) (sym (take-add at n letters))

-- ---- characters that are shown at once

pub front_put : (letters : List ℕ) (n last : ℕ) (s : Console) (picture : Picture) → list_all is_narrow letters ≡ true → 0 < n → n ≤ length letters
    → last ≡ get_or letters (n - 1) last
    → picture ≡ run_shown (take n letters) s.rendition s.modes.autowrap s.modes.insert s.picture
    → record s { picture = picture; last = Some last } ≡ all_put (take n letters) s
front_put letters n last s picture narrow some within is shown =
    let front = take n letters in
    let long : length front ≡ n = length-take-le n letters within in
    let same : last ≡ get_or front (length front - 1) last
    = is ∙ sym (get_or-take n letters (n - 1) last (omega arith)) ∙ ap (λ (k : ℕ). get_or front (k - 1) last) (sym long) in
    ap (λ (character : ℕ). record s { picture = picture; last = Some character }) same
    ∙ put_at_once front last s picture (all_in_parts is_narrow letters n narrow).0 (omega (arith, long)) shown

-- ---- characters of several bytes

pub spelled_alone : (bytes : List ℕ) (character : ℕ) → Spells bytes character → SpellsEach bytes (character ∷ [])
spelled_alone bytes character spells = (bytes, [], sym (append-nil bytes), spells, refl)

both_spelled : (bytes more : List ℕ) (characters others : List ℕ) → SpellsEach bytes characters → SpellsEach more others
    → SpellsEach (bytes ++ more) (characters ++ others)
both_spelled bytes more [] others none spelled = subst (λ (l : List ℕ). SpellsEach (l ++ more) others) (sym none) spelled
both_spelled bytes more (first ∷ characters) others spelled behind = (
  spelled.0,
  spelled.1 ++ more,
  ap (λ (l : List ℕ). l ++ more) spelled.2 ∙ append_assoc spelled.0 spelled.1 more,
  spelled.3,
  both_spelled spelled.1 more characters others spelled.4 behind,
)

-- the first bytes, and as many of the rest of them
pub spelled_in_parts : (bytes : List ℕ) (at n : ℕ) (characters others : List ℕ) → SpellsEach (take at bytes) characters
    → SpellsEach (take n (drop at bytes)) others → SpellsEach (take (at + n) bytes) (characters ++ others)
spelled_in_parts bytes at n characters others spelled behind =
    subst (λ (l : List ℕ). SpellsEach l (characters ++ others)) (sym (take-add at n bytes))
    (both_spelled (take at bytes) (take n (drop at bytes)) characters others spelled behind)

pub spelled_on : (bytes : List ℕ) (at n : ℕ) (characters : List ℕ) (character : ℕ) → SpellsEach (take at bytes) characters
    → Spells (take n (drop at bytes)) character → SpellsEach (take (at + n) bytes) (characters ++ character ∷ [])
spelled_on bytes at n characters character spelled spells =
    spelled_in_parts bytes at n characters (character ∷ []) spelled (spelled_alone (take n (drop at bytes)) character spells)

brings_nothing : (s : Console) → Brings s s []
unfolding play sent
brings_nothing s = record { played = λ reports. refl; sends = λ reports. refl }

brings_both : (s t u : Console) (first second : List ℕ) → Brings s t first → Brings t u second → Brings s u (first ++ second)
brings_both s t u first second one other = record {
  played = λ reports.
      plays_in_parts (on_ground s reports) first second ∙ ap (λ (x : Term). play x second) (one.played reports) ∙ other.played reports;
  sends = λ reports.
      sends_in_parts (on_ground s reports) first second
      ∙ ap₂ (λ (l : List ℕ) (x : Term). l ++ sent x second) (one.sends reports) (one.played reports) ∙ other.sends reports;
}

letters_bring : (s : Console) (bytes characters : List ℕ) → s.title ≡ false → SpellsEach bytes characters
    → Brings s (all_put characters s) bytes
letters_bring s bytes [] title none = subst (Brings s s) (sym none) (brings_nothing s)
letters_bring s bytes (character ∷ characters) title spelled =
    subst (Brings s (all_put characters (put character s))) (sym spelled.2)
    (brings_both s (put character s) (all_put characters (put character s)) spelled.0 spelled.1
    (character_brings s spelled.0 character title spelled.3)
    (letters_bring (put character s) spelled.1 characters ((put_others character s).title ∙ title) spelled.4))

-- what it is for a terminal
pub letters_left : (before now_ : Seen) (bytes characters : List ℕ) (t : Console) → before ≡ now_ → now_.console.title ≡ false
    → SpellsEach bytes characters → t ≡ all_put characters before.console → Brings before.console t bytes
letters_left before now_ bytes characters t same title spelled told =
    subst (λ (u : Console). Brings before.console u bytes) (sym told)
    (letters_bring before.console bytes characters (ap (λ (s : Seen). s.console.title) same ∙ title) spelled)
