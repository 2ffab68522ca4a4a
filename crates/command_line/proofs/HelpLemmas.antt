-- Words that name the subcommand `help` aren't taken: clap answers them with help.
use Rattle.std.proofs.Common.{◌≡◌, ℕ, Bool, true, false, not, ◌&&◌, ◌||◌, List, [], ◌∷◌, ◌++◌, Option, Some, None, refl, sym, ◌∙◌, ap, ap₂, inl, inr, codes, find, is_some, option_map, if◌then◌else◌}
use Rattle.std.proofs.Math.Bool.{or-false}
use Rattle.std.proofs.lemmas.Slice.Eq.{bytes_eq-Decides}
use Rattle.std.specs.List.{fold, list_all, list_any}
use Rattle.std.specs.Str.{bytes_eq}
use Rattle.clap.proofs.SimpleLemmas.{is_nil}
use Rattle.clap.specs.Faults.{other_fault, step_fault, turn_fault, walk_fault, word_fault}
use Rattle.clap.specs.Kinds.{Kinds, or_else}
use Rattle.clap.specs.Lexer.{long_of, short_of}
use Rattle.clap.specs.Simple.{entered, label_of, rows_at}
use Rattle.clap.specs.Walk.{Held, Names, Outcome, Rule, Step, Waiting, Walk, after_flag, after_step, answers_to, arg_by_index, arg_by_long, bundle, done, idle, is_empty, long_met, long_or_other, next, option, plain_word, positional, short_or_plain, subcommand, subcommand_met, subcommand_or_other, to_positional, trailing, value, waits, walked, walked_from, word_met}
use Rattle.clap.specs.Words.{App, Row, Shape, Text}
use Rattle.clap.specs.declared.error.ErrorKind.TheVariants.{DisplayHelp, InvalidSubcommand}
use Rattle.command_line.specs.CommandLine.{IsNamed}

first_true : (a b : Bool) → (a && b) ≡ true → a ≡ true
first_true true b e = refl
first_true false b e = e

second_true : (a b : Bool) → (a && b) ≡ true → b ≡ true
second_true true b e = e
second_true false b e = absurd (cc)

-- ---- which subcommand a word is

abbrev met_name : Step → Option Text
met_name (subcommand name) = Some name
met_name (next waiting) = None
met_name (trailing position) = None
met_name value = None

-- where a walk stops at that, and the name at which one stopped
abbrev at_name : Option Text → Option (Text × List Text)
at_name None = None
at_name (Some name) = Some (name, [])

abbrev stop_name : Option (Text × List Text) → Option Text
stop_name None = None
stop_name (Some p) = Some p.0

module _ (c : List Rule) where
  plain_name : (waiting : Waiting) (word : Text) (h : Held) → met_name (plain_word c waiting word h).1 ≡ None
  plain_name idle word h = refl
  plain_name (option id) word h = refl
  plain_name positional word h = refl

  flag_name : (waiting : Waiting) (word : Text) (h : Held) (o : Outcome)
      → met_name (after_flag c waiting word h o).1 ≡ None
  flag_name waiting word h done = refl
  flag_name waiting word h (waits id) = refl
  flag_name waiting word h _ = plain_name waiting word h

  short_name : (waiting : Waiting) (word : Text) (o : Option Text) (h : Held)
      → met_name (short_or_plain c waiting word o h).1 ≡ None
  short_name waiting word None h = plain_name waiting word h
  short_name waiting word (Some flags) h = flag_name waiting word (bundle c flags h).0 (bundle c flags h).1

  long_name : (waiting : Waiting) (word : Text) (o : Option (Text × Option Text)) (h : Held)
      → met_name (long_or_other c waiting word o h).1 ≡ None
  long_name waiting word None h = short_name waiting word (short_of word) h
  long_name waiting word (Some p) h =
      flag_name waiting word (long_met c (arg_by_long c p.0) p.1 h).0 (long_met c (arg_by_long c p.0) p.1 h).1

  other_name : (b : Bool) (waiting : Waiting) (position : ℕ) (word : Text) (h : Held)
      → met_name (if b then (h, trailing position) else long_or_other c waiting word (long_of word) h).1 ≡ None
  other_name true waiting position word h = refl
  other_name false waiting position word h = long_name waiting word (long_of word) h

  -- a word is the subcommand that it names
  subcommand_name : (o : Option Text) (waiting : Waiting) (position : ℕ) (word : Text) (h : Held)
      → met_name (subcommand_or_other c o waiting position word h).1 ≡ o
  subcommand_name None waiting position word h =
      other_name (bytes_eq word (45 ∷ 45 ∷ [])) waiting position word h
  subcommand_name (Some name) waiting position word h = refl

  word_name : (names : Names) (is_trailing : Bool) (waiting : Waiting) (position : ℕ) (word : Text) (h : Held)
      → met_name (word_met c names is_trailing waiting position word h).1
      ≡ (if is_trailing then None else subcommand_met names waiting word)
  word_name names true waiting position word h = refl
  word_name names false waiting position word h =
      subcommand_name (subcommand_met names waiting word) waiting position word h

  -- ---- where a walk stops

  positional_goes_on : (o : Option Rule) (word : Text) (w : Walk) (h : Held) → w.stopped ≡ None
      → (to_positional c o word w h).stopped ≡ None
  positional_goes_on None word w h none = none
  positional_goes_on (Some a) word w h none = refl

  step_stops : (word : Text) (w : Walk) (h : Held) (step : Step) → w.stopped ≡ None
      → (after_step c word w h step).stopped ≡ at_name (met_name step)
  step_stops word w h (next waiting) none = none
  step_stops word w h (trailing position) none = none
  step_stops word w h (subcommand name) none = refl
  step_stops word w h value none = positional_goes_on (arg_by_index c w.position) word w h none

  stays_stopped : (names : Names) (words : List Text) (w : Walk) (p : Text × List Text) → w.stopped ≡ Some p
      → stop_name (fold (walked c names) w words).stopped ≡ Some p.0
  unfolding walked
  stays_stopped names [] w p some = ap stop_name some
  stays_stopped names (word ∷ rest) w p some =
      stays_stopped names rest (walked c names w word) (p.0, p.1 ++ word ∷ [])
      (ap (λ o. (walked_from c names o w word).stopped) some)

-- ---- what is told of such words

pub none_first : (a b : Kinds) → or_else a b ≡ [] → a ≡ []
none_first [] b e = refl
none_first (k ∷ ks) b e = e

none_then : (a b : Kinds) → or_else a b ≡ [] → b ≡ []
none_then [] b e = e
none_then (k ∷ ks) b e = absurd (cc)

named_help : (s : Shape) (o : Option Text) (name word : Text) (h : Held) → o ≡ Some name
    → bytes_eq name (codes "help") ≡ true → s.disable_help_subcommand ≡ false → other_fault s o word h ≡ [] → ⊥
named_help s None name word h e is enabled fault = absurd (cc)
named_help s (Some n) name word h e is enabled fault =
    let kinds : Kinds = DisplayHelp ∷ InvalidSubcommand ∷ [] in
    let same : n ≡ name = cc in
    let asked : (bytes_eq n (codes "help") && not s.disable_help_subcommand) ≡ true =
    ap₂ (λ x y. x && not y) (ap (λ t. bytes_eq t (codes "help")) same ∙ is) enabled in
    let told : kinds ≡ [] = sym (ap (λ b. if b then kinds else []) asked) ∙ fault in
    absurd (cc)

fault_of_help : (s : Shape) (is_trailing : Bool) (o : Option Text) (name word : Text) (h : Held)
    → (if is_trailing then None else o) ≡ Some name → bytes_eq name (codes "help") ≡ true
    → s.disable_help_subcommand ≡ false → (if is_trailing then [] else other_fault s o word h) ≡ [] → ⊥
fault_of_help s true o name word h e is enabled fault = absurd (cc)
fault_of_help s false o name word h e is enabled fault = named_help s o name word h e is enabled fault

module _ (s : Shape) (names : Names) (enabled : s.disable_help_subcommand ≡ false) where
  abbrev stops_by : Walk → List Text → Option Text
  stops_by w words = stop_name (fold (walked s.rules names) w words).stopped

  abbrev name_at : Walk → Text → Option Text
  name_at w word = if w.is_trailing then None else subcommand_met names w.waiting word

  abbrev step_told : Walk → Text → Kinds
  step_told w word =
      let met = word_met s.rules names w.is_trailing w.waiting w.position word w.held in
      step_fault s w.position met.0 met.1

  abbrev turn_from : Option (Text × List Text) → Walk → Text → Kinds
  turn_from stopped w word = if is_some stopped then []
      else or_else (word_fault s names w.is_trailing w.waiting word w.held) (step_told w word)

  -- the walk after a word, by the subcommand that the word is
  stops_here : (w : Walk) (word : Text) → w.stopped ≡ None
      → (walked s.rules names w word).stopped ≡ at_name (name_at w word)
  unfolding walked
  stops_here w word none =
      let met = word_met s.rules names w.is_trailing w.waiting w.position word w.held in
      ap (λ o. (walked_from s.rules names o w word).stopped) none
      ∙ step_stops s.rules word w met.0 met.1 none
      ∙ ap at_name (word_name s.rules names w.is_trailing w.waiting w.position word w.held)

  help_at : (o : Option Text) (w : Walk) (word name : Text) (rest : List Text) → name_at w word ≡ o
      → (walked s.rules names w word).stopped ≡ at_name o
      → stops_by (walked s.rules names w word) rest ≡ Some name → bytes_eq name (codes "help") ≡ true
      → word_fault s names w.is_trailing w.waiting word w.held ≡ []
      → ((walked s.rules names w word).stopped ≡ None → ⊥) → ⊥
  help_at None w word name rest e here stops is told later = later here
  help_at (Some n) w word name rest e here stops is told later =
      let same : Some n ≡ Some name =
      sym (stays_stopped s.rules names rest (walked s.rules names w word) (n, []) here) ∙ stops in
      let names_it : n ≡ name = cc in
      fault_of_help s w.is_trailing (subcommand_met names w.waiting word) n word w.held e
      (ap (λ t. bytes_eq t (codes "help")) names_it ∙ is) enabled told

  -- a walk that stops at `help` has a fault
  pub help_is_told : (words : List Text) (w : Walk) (name : Text) → w.stopped ≡ None → stops_by w words ≡ Some name
      → bytes_eq name (codes "help") ≡ true → walk_fault s names w words ≡ [] → ⊥
  unfolding walk_fault
  help_is_told [] w name none stops is fault =
      let no : None ≡ Some name = sym (ap stop_name none) ∙ stops in
      absurd (cc)
  help_is_told (word ∷ rest) w name none stops is fault =
      let after = walked s.rules names w word in
      let here = turn_fault s names w word in
      let later = walk_fault s names after rest in
      let turn : turn_from None w word ≡ [] = sym (ap (λ o. turn_from o w word) none) ∙ none_first here later fault in
      let told = word_fault s names w.is_trailing w.waiting word w.held in
      help_at (name_at w word) w word name rest refl (stops_here w word none) stops is (none_first told (step_told w word) turn)
      (λ goes_on. help_is_told rest after name goes_on stops is (none_then here later fault))

-- ---- which subcommand is entered

no_alias : (xs : List Text) (p : Text → Bool) → is_empty xs ≡ true → list_any p xs ≡ false
no_alias xs p e = ap (list_any p) (is_nil xs e)

answers_by_name : (s : Shape) (word : Text) → is_empty s.aliases ≡ true → answers_to word (label_of s) ≡ true
    → s.name ≡ word
answers_by_name s word plain answers =
    (bytes_eq-Decides s.name word).0
    (sym (or-false (bytes_eq s.name word))
    ∙ sym (ap (λ b. bytes_eq s.name word || b) (no_alias s.aliases (λ alias. bytes_eq alias word) plain)) ∙ answers)

entered_here : (f : Shape → Text × List Row) → ((s : Shape) → (f s).0 ≡ s.name) → (word : Text) (b : Bool) (s : Shape)
    (rest : List Shape) (met : Text × List Row) → (b ≡ true → s.name ≡ word)
    → option_map f (if b then Some s else find (λ x. answers_to word (label_of x)) rest) ≡ Some met
    → (option_map f (find (λ x. answers_to word (label_of x)) rest) ≡ Some met → met.0 ≡ word) → met.0 ≡ word
entered_here f named word true s rest met is e later =
    let same : f s ≡ met = cc in
    sym (ap (λ m. m.0) same) ∙ named s ∙ is refl
entered_here f named word false s rest met is e later = later e

-- where subcommands have no aliases, the one that a word enters has that name
entered_by_name : (f : Shape → Text × List Row) → ((s : Shape) → (f s).0 ≡ s.name) → (word : Text) (subs : List Shape)
    (met : Text × List Row) → list_all (λ s. is_empty s.aliases) subs ≡ true
    → option_map f (find (λ x. answers_to word (label_of x)) subs) ≡ Some met → met.0 ≡ word
entered_by_name f named word [] met plain e = absurd (cc)
entered_by_name f named word (s ∷ rest) met plain e =
    entered_here f named word (answers_to word (label_of s)) s rest met
    (answers_by_name s word (first_true _ _ plain)) e
    (λ later. entered_by_name f named word rest met (second_true _ _ plain) later)

-- the name of what is entered is that at which the walk stopped
pub stopped_name : (a : App) (stop : Option (Text × List Text)) (met : Text × List Row)
    → list_all (λ s. is_empty s.aliases) a.subs ≡ true → entered a stop ≡ Some met
    → stop_name stop ≡ Some met.0
stopped_name a None met plain e = absurd (cc)
stopped_name a (Some p) met plain e =
    ap (λ n. Some n) (sym (entered_by_name (λ s. rows_at s p.1) (λ s. refl) p.0 a.subs met plain e))

-- what is named by a list or by one more, and not by that one, is named by the list
pub named_before : (name : Option Text) (xs : List Shape) (y : Shape) → (name ≡ Some y.name → ⊥)
    → IsNamed name (xs ++ y ∷ []) → IsNamed name xs
named_before name [] y other (inl e) = absurd (other e)
named_before name [] y other (inr never) = absurd never
named_before name (x ∷ rest) y other (inl e) = inl e
named_before name (x ∷ rest) y other (inr later) = inr (named_before name rest y other later)
