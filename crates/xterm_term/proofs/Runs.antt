-- Runs of graphic characters.
use Rattle.std.proofs.Common.{◌≡◌, ℕ, zero, suc, ◌≤◌, ◌<◌, ◌-◌, take, drop, length, get_or, Bool, true, false, List, [], ◌∷◌, ◌++◌, map, refl, sym, ap, ap₂, ◌∙◌, arith, nat_le}
use Rattle.std.specs.Prelude.{Option, Some, if◌then◌else◌}
use Rattle.std.specs.List.{list_all, prefix_len}
use Rattle.std.proofs.lemmas.Bool.{and_parts}
use Rattle.std.proofs.lemmas.List.{append-nil, take-append-drop}
use Rattle.std.proofs.lemmas.List.Folds.{list_all-append}
use Rattle.std.proofs.lemmas.Bool.Decides.{nat_tests}
use Rattle.characters.specs.Width.{width}
use Rattle.characters.specs.Law.{AsciiIsNarrow}
use Rattle.vt_parser.specs.declared.commands.Mode.TheVariants.{Ansi}
use Rattle.vt_parser.specs.Syntax.{is_graphic}
use Rattle.vt_parser.specs.Law.{GraphicIsShown}
use Rattle.xterm_screen.specs.Picture.{Picture}
use Rattle.xterm_screen.specs.Puts.{run_shown}
use Rattle.xterm_term.specs.declared.sets.Sets.{Sets}
use Rattle.xterm_term.specs.declared.sets.CharacterSet.TheVariants.{Ascii}
use Rattle.xterm_term.specs.Ahead.{is_narrow}
use Rattle.xterm_term.specs.Sets.{character_of, set_in_use}
use Rattle.xterm_term.specs.Console.{Console}
use Rattle.xterm_term.specs.Puts.{put, put_by_width, is_c1, shown_with, all_put, character_for}
use Rattle.xterm_term.specs.Effect.{effect, reply}
use Rattle.xterm_term.specs.Term.{Term, Outcome, outcome, outcome_of, read, syntax_read, is_control, step, play, sent, reply_to}

-- the last one of characters, where there is one, else what was there
abbrev pub last_of : Option ℕ → List ℕ → Option ℕ
last_of last [] = last
last_of last (character ∷ characters) = last_of (Some character) characters

-- all are shown at once
abbrev pub shown_at_once : List ℕ → Console → Console
shown_at_once characters s = record s {
  picture = run_shown characters s.rendition s.modes.autowrap s.modes.insert s.picture;
  last = last_of s.last characters;
}

no_c1 : (character : ℕ) → is_graphic character ≡ true → is_c1 character ≡ false
no_c1 character is = grind (arith, nat_tests)

-- graphic characters of ASCII are shown in one column
pub ascii_is_narrow : AsciiIsNarrow → (character : ℕ) → is_graphic character ≡ true → is_narrow character ≡ true
ascii_is_narrow narrow character is = simp (no_c1 character is, narrow character is)

pub run_is_narrow : AsciiIsNarrow → (characters : List ℕ) → list_all is_graphic characters ≡ true → list_all is_narrow characters ≡ true
run_is_narrow narrow [] graphic = refl
run_is_narrow narrow (character ∷ characters) graphic =
    let parts = and_parts (is_graphic character) (list_all is_graphic characters) graphic in
    simp (ascii_is_narrow narrow character parts.0) (run_is_narrow narrow characters parts.1)

narrow_parts : (character : ℕ) → is_narrow character ≡ true → (is_c1 character ≡ false) × (width character ≡ 1)
narrow_parts character is = (grind (arith, nat_tests), grind (arith, nat_tests))

-- one that is
pub put_narrow : (character : ℕ) (s : Console) → is_narrow character ≡ true → put character s ≡ shown_with false character s
unfolding put
put_narrow character s is = let parts = narrow_parts character is in simp (parts.0, parts.1)

-- many that are
letters_put : (letters : List ℕ) (s : Console) → list_all is_narrow letters ≡ true → all_put letters s ≡ shown_at_once letters s
letters_put [] s narrow = refl
letters_put (letter ∷ letters) s narrow =
    let parts = and_parts (is_narrow letter) (list_all is_narrow letters) narrow in
    ap (all_put letters) (put_narrow letter s parts.0) ∙ letters_put letters (shown_with false letter s) parts.1

pub ascii_put : AsciiIsNarrow → (characters : List ℕ) (s : Console) → list_all is_graphic characters ≡ true
    → all_put characters s ≡ shown_at_once characters s
ascii_put narrow characters s graphic = letters_put characters s (run_is_narrow narrow characters graphic)

-- in ASCII bytes are characters as they stand
pub ascii_map : (bytes : List ℕ) → map (character_of Ascii) bytes ≡ bytes
unfolding character_of
ascii_map [] = refl
ascii_map (byte ∷ bytes) = ap (λ (l : List ℕ). byte ∷ l) (ascii_map bytes)

-- ---- what a character leaves alone

pub record Others (s t : Console) : Type 0 where
  pub sets : t.sets ≡ s.sets
  pub title : t.title ≡ s.title

others_if : (b : Bool) (s t u : Console) → Others s t → Others s u → Others s (if b then t else u)
others_if true s t u others other = others
others_if false s t u others other = other

others_by_width : (n character : ℕ) (s : Console) → Others s (put_by_width n character s)
others_by_width zero character s = record { sets = refl; title = refl }
others_by_width (suc n) character s = record { sets = refl; title = refl }

pub put_others : (character : ℕ) (s : Console) → Others s (put character s)
unfolding put
put_others character s =
    others_if (is_c1 character) s _ _ (record { sets = refl; title = refl }) (others_by_width (width character) character s)

-- ---- what a run of bytes plays to

-- a term with nothing pending
abbrev pub on_ground : Console → List ℕ → Term
on_ground s reports = record { console = s; sequence = []; character = []; reports = reports }

low : (byte : ℕ) → is_graphic byte ≡ true → nat_le 128 byte ≡ false
low byte is = grind (arith, nat_tests)

no_control : (byte : ℕ) → is_graphic byte ≡ true → is_control byte ≡ false
no_control byte is = grind (arith, nat_tests)

-- an outcome that does nothing but to change the console
abbrev pub silent : Console → Outcome
silent s = outcome s [] [] []

-- the term that an outcome leaves
abbrev pub stepped : List ℕ → Outcome → Term
stepped reports o = record { console = o.console; sequence = o.sequence; character = o.character; reports = reports ++ o.reply }

module _ (shown : GraphicIsShown) where
  byte_shown : (s : Console) (byte : ℕ) → is_graphic byte ≡ true → syntax_read s [] byte ≡ silent (put (character_for s byte) s)
  unfolding effect reply
  byte_shown s byte graphic =
      let command = (shown Ansi byte graphic).0 in
      let pending = (shown Ansi byte graphic).1 in
      let control = no_control byte graphic in
      simp (command, pending, control)

  pub byte_read : (s : Console) (byte : ℕ) → is_graphic byte ≡ true → s.title ≡ false → outcome_of s [] [] byte ≡ silent (put (character_for s byte) s)
  unfolding outcome_of read
  byte_read s byte graphic title = let upper = low byte graphic in simp (title, upper) (byte_shown s byte graphic)

  step_run : (s : Console) (reports : List ℕ) (byte : ℕ) → is_graphic byte ≡ true → s.title ≡ false
      → step (on_ground s reports) byte ≡ on_ground (put (character_for s byte) s) reports
  step_run s reports byte graphic title =
      let read = byte_read s byte graphic title in
      ap (λ (o : Outcome). stepped reports o) read ∙ ap (on_ground (put (character_for s byte) s)) (append-nil reports)

  reply_run : (s : Console) (reports : List ℕ) (byte : ℕ) → is_graphic byte ≡ true → s.title ≡ false → reply_to (on_ground s reports) byte ≡ []
  reply_run s reports byte graphic title = ap (λ (o : Outcome). o.reply) (byte_read s byte graphic title)

  pub run_played : (s : Console) (reports bytes : List ℕ) → list_all is_graphic bytes ≡ true → s.title ≡ false
      → (play (on_ground s reports) bytes ≡ on_ground (all_put (map (character_for s) bytes) s) reports) × (sent (on_ground s reports) bytes ≡ [])
  unfolding play sent
  run_played s reports [] graphic title = (refl, refl)
  run_played s reports (byte ∷ bytes) graphic title =
      let parts = and_parts (is_graphic byte) (list_all is_graphic bytes) graphic in
      let t : Console = put (character_for s byte) s in
      let others = put_others (character_for s byte) s in
      let first = step_run s reports byte parts.0 title in
      let rest = run_played t reports bytes parts.1 (others.title ∙ title) in
      let sets = ap (λ (sets : Sets). on_ground (all_put (map (character_of (set_in_use sets)) bytes) t) reports) others.sets in (
        ap (λ (x : Term). play x bytes) first ∙ rest.0 ∙ sets,
        ap₂ (λ (l : List ℕ) (x : Term). l ++ sent x bytes) (reply_run s reports byte parts.0 title) first ∙ rest.1,
      )

-- what holds of all holds of each part
pub all_in_parts : (p : ℕ → Bool) (xs : List ℕ) (n : ℕ) → list_all p xs ≡ true
    → (list_all p (take n xs) ≡ true) × (list_all p (drop n xs) ≡ true)
all_in_parts p xs n all =
    and_parts (list_all p (take n xs)) (list_all p (drop n xs))
    (sym (list_all-append p (take n xs) (drop n xs)) ∙ ap (list_all p) (take-append-drop n xs) ∙ all)

-- no byte of a run is anything but a graphic character
pub run_is_graphic : (bytes : List ℕ) (n : ℕ) → n ≤ prefix_len is_graphic bytes → list_all is_graphic (take n bytes) ≡ true
run_is_graphic bytes zero le = refl
run_is_graphic [] (suc n) le = refl
run_is_graphic (byte ∷ rest) (suc n) le = grind (arith, run_is_graphic rest n)

pub run_graphic : (bytes : List ℕ) (n : ℕ) → n ≡ prefix_len is_graphic bytes → list_all is_graphic (take n bytes) ≡ true
run_graphic bytes n same = run_is_graphic bytes n (omega arith)

-- ---- the last one

pub last_told : (last : Option ℕ) (letters : List ℕ) (none : ℕ) → 0 < length letters
    → Some (get_or letters (length letters - 1) none) ≡ last_of last letters
last_told last [] none some = absurd (omega arith)
last_told last (letter ∷ []) none some = refl
last_told last (letter ∷ next ∷ rest) none some =
    let there : length (letter ∷ next ∷ rest) - 1 ≡ suc (length (next ∷ rest) - 1) = omega arith in
    ap (λ (k : ℕ). Some (get_or (letter ∷ next ∷ rest) k none)) there ∙ last_told (Some letter) (next ∷ rest) none (omega arith)

pub put_at_once : (letters : List ℕ) (none : ℕ) (s : Console) (picture : Picture) → list_all is_narrow letters ≡ true → 0 < length letters
    → picture ≡ run_shown letters s.rendition s.modes.autowrap s.modes.insert s.picture
    → record s { picture = picture; last = Some (get_or letters (length letters - 1) none) } ≡ all_put letters s
put_at_once letters none s picture narrow some shown =
    ap₂ (λ (p : Picture) (l : Option ℕ). record s { picture = p; last = l }) shown (last_told s.last letters none some)
    ∙ sym (letters_put letters s narrow)

pub put_nothing : (bytes : List ℕ) (s : Console) → length bytes ≡ 0 → s ≡ all_put bytes s
put_nothing [] s none = refl
put_nothing (byte ∷ rest) s none = absurd (omega arith)
