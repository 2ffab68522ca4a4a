-- Plain words on a command line: none is a flag, and a walk over them is one that computes.
use Rattle.std.proofs.Common.{◌≡◌, ℕ, ◌&&◌, ◌||◌, Bool, true, false, not, List, [], ◌∷◌, map, Option, Some, None, position, refl, ◌∙◌, ap, ap₂, is_some, if◌then◌else◌}
use Rattle.std.specs.List.{fold}
use Rattle.std.specs.Option.{option_and_then, option_map_or}
use Rattle.std.specs.Str.{bytes_eq}
use Rattle.clap.specs.Lexer.{strip_byte, long_of, long_of_rest, short_of_rest}
use Rattle.clap.specs.Words.{Shape, Text}
use Rattle.clap.specs.Takes.{bundle_passes, flag_word_passes, other_passes, step_passes, turn_passes, walk_passes, word_passes}
use Rattle.clap.specs.Walk.{Held, Rule, Step, Walk, Waiting, after_step, idle, option, positional, long_or_other, plain_word, short_or_plain, subcommand_met, subcommand_or_other, trailing, walked, walked_from, word_met}
use Rattle.command_line.specs.Lines.{IsPlain}

pub both_true : (a b : Bool) → a ≡ true → b ≡ true → (a && b) ≡ true
both_true a b e f = ap₂ (λ x y. x && y) e f

pub first_true : (a b : Bool) → (a && b) ≡ true → a ≡ true
first_true true b e = refl
first_true false b e = e

pub second_true : (a b : Bool) → (a && b) ≡ true → b ≡ true
second_true true b e = e
second_true false b e = absurd (cc)

pub is_not : (a : Bool) → not a ≡ true → a ≡ false
is_not true e = absurd (cc)
is_not false e = refl

-- ---- a plain word is no flag

pub no_hyphen : (word : Text) → IsPlain word → strip_byte 45 word ≡ None
no_hyphen [] plain = refl
no_hyphen (c ∷ rest) plain = ap (λ b. if b then Some rest else None) plain

pub no_hyphens : (word : Text) → IsPlain word → bytes_eq word (45 ∷ 45 ∷ []) ≡ false
no_hyphens [] plain = refl
no_hyphens (c ∷ rest) plain = ap (λ b. b && bytes_eq rest (45 ∷ [])) plain

pub no_name : (waiting : Waiting) (word : Text) → subcommand_met [] waiting word ≡ None
no_name idle word = refl
no_name (option id) word = refl
no_name positional word = refl

module _ (word : Text) (plain : IsPlain word) where
  -- so it is a value
  pub is_value : (c : List Rule) (waiting : Waiting) (position : ℕ) (h : Held)
      → word_met c [] false waiting position word h ≡ plain_word c waiting word h
  is_value c waiting position h =
      ap (λ o. subcommand_or_other c o waiting position word h) (no_name waiting word)
      ∙ ap (λ b. if b then (h, trailing position) else long_or_other c waiting word (long_of word) h) (no_hyphens word plain)
      ∙ ap (λ o. long_or_other c waiting word (option_and_then long_of_rest (option_and_then (strip_byte 45) o)) h) (no_hyphen word plain)
      ∙ ap (λ o. short_or_plain c waiting word (option_and_then short_of_rest o) h) (no_hyphen word plain)

  -- and no call for help
  pub value_passes_by : (s : Shape) (waiting : Waiting) (h : Held) → word_passes s [] false waiting word h ≡ true
  value_passes_by s waiting h =
      ap (λ o. other_passes s o word h) (no_name waiting word)
      ∙ ap (λ b. b || (flag_word_passes s.rules s.args_override_self (long_of word) word h)) (no_hyphens word plain)
      ∙ ap (λ o. flag_word_passes s.rules s.args_override_self (option_and_then long_of_rest (option_and_then (strip_byte 45) o)) word h)
      (no_hyphen word plain)
      ∙ ap (λ o. option_map_or (λ flags. bundle_passes s.rules s.args_override_self flags h) (option_and_then short_of_rest o) true)
      (no_hyphen word plain)

-- ---- a walk over words of which some are plain

-- a word that is written out, or a plain one
pub data Word : Type 0 where
  literal : Text → Word
  value_word : Text → Word

abbrev pub text_of : Word → Text
text_of (literal text) = text
text_of (value_word text) = text

abbrev pub ArePlain : List Word → Type 0
ArePlain [] = Unit {0}
ArePlain (literal text ∷ rest) = ArePlain rest
ArePlain (value_word text ∷ rest) = IsPlain text × ArePlain rest

-- the walk, which computes whatever the plain words are
abbrev pub stepped : List Rule → Walk → Word → Walk
stepped c w (literal text) = walked c [] w text
stepped c w (value_word text) = after_step c text w (plain_word c w.waiting text w.held).0 (plain_word c w.waiting text w.held).1

abbrev pub step_is_taken : Shape → Walk → Word → Bool
step_is_taken s w (literal text) = turn_passes s [] w text
step_is_taken s w (value_word text) =
    not w.is_trailing && (not (is_some w.stopped)
    && step_passes s w.position (plain_word s.rules w.waiting text w.held).0 (plain_word s.rules w.waiting text w.held).1)

abbrev pub are_taken : Shape → Walk → List Word → Bool
are_taken s w [] = true
are_taken s w (word ∷ rest) = step_is_taken s w word && are_taken s (stepped s.rules w word) rest

pub is_none : {X : Type 0} (o : Option X) → not (is_some o) ≡ true → o ≡ None
is_none None e = refl
is_none (Some x) e = absurd (cc)

-- the walk over a plain word that nothing stops
module _ (s : Shape) (w : Walk) (text : Text) (plain : IsPlain text) (untrailing : w.is_trailing ≡ false)
    (unstopped : w.stopped ≡ None) where
  -- what the word does, by whether a `--` stands before it
  abbrev pub met_where : Bool → Held × Step
  met_where is_trailing = word_met s.rules [] is_trailing w.waiting w.position text w.held

  pub plain_step : walked s.rules [] w text ≡ stepped s.rules w (value_word text)
  unfolding walked
  plain_step =
      ap (λ o. walked_from s.rules [] o w text) unstopped
      ∙ ap (λ b. after_step s.rules text w (met_where b).0 (met_where b).1) untrailing
      ∙ ap (λ met. after_step s.rules text w met.0 met.1) (is_value text plain s.rules w.waiting w.position w.held)

  abbrev pub turn_where : Option (Text × List Text) → Bool → Bool
  turn_where stopped is_trailing =
      is_some stopped || (word_passes s [] is_trailing w.waiting text w.held
      && step_passes s w.position (met_where is_trailing).0 (met_where is_trailing).1)

  pub plain_turn : step_passes s w.position (plain_word s.rules w.waiting text w.held).0 (plain_word s.rules w.waiting text w.held).1 ≡ true
      → turn_passes s [] w text ≡ true
  plain_turn passes =
      ap (λ o. turn_where o w.is_trailing) unstopped
      ∙ ap (turn_where None) untrailing
      ∙ both_true _ _ (value_passes_by text plain s w.waiting w.held)
      (ap (λ met. step_passes s w.position met.0 met.1) (is_value text plain s.rules w.waiting w.position w.held) ∙ passes)

-- what is walked, where it passes
pub record Goes (s : Shape) (w : Walk) (words : List Word) : Type 0 where
  pub to : fold (walked s.rules []) w (map text_of words) ≡ fold (stepped s.rules) w words
  pub passes : walk_passes s [] w (map text_of words) ≡ true

pub goes_on : (s : Shape) (w : Walk) (word : Word) (rest : List Word)
    → walked s.rules [] w (text_of word) ≡ stepped s.rules w word → turn_passes s [] w (text_of word) ≡ true
    → Goes s (stepped s.rules w word) rest → Goes s w (word ∷ rest)
unfolding walk_passes
goes_on s w word rest step turn g = record {
  to = ap (λ x. fold (walked s.rules []) x (map text_of rest)) step ∙ g.to;
  passes = both_true _ _ turn (ap (λ x. walk_passes s [] x (map text_of rest)) step ∙ g.passes);
}

pub goes : (s : Shape) (words : List Word) (w : Walk) → ArePlain words → are_taken s w words ≡ true → Goes s w words
unfolding walk_passes
goes s [] w plain taken = record { to = refl; passes = refl }
goes s (literal text ∷ rest) w plain taken =
    goes_on s w (literal text) rest refl (first_true _ _ taken) (goes s rest (stepped s.rules w (literal text)) plain (second_true _ _ taken))
goes s (value_word text ∷ rest) w plain taken =
    let here = first_true _ _ taken in
    let untrailing = is_not _ (first_true _ _ here) in
    let unstopped = is_none _ (first_true _ _ (second_true _ _ here)) in
    goes_on s w (value_word text) rest (plain_step s w text plain.0 untrailing unstopped)
    (plain_turn s w text plain.0 untrailing unstopped (second_true _ _ (second_true _ _ here)))
    (goes s rest (stepped s.rules w (value_word text)) plain.1 (second_true _ _ taken))
