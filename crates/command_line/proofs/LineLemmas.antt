-- What clap makes of a plain command line, by the subcommand and the words behind it.
use Rattle.std.proofs.Common.{◌≡◌, ◌&&◌, Bool, true, false, List, [], ◌∷◌, ◌++◌, map, Option, Some, None, Result, codes, refl, sym, ◌∙◌, ap, ap₂, subst, is_some, append_assoc, append-nil}
use Rattle.std.proofs.lemmas.List.{map-append}
use Rattle.std.specs.List.{fold, list_all}
use Rattle.clap.specs.Words.{App, Row, Shape, Text}
use Rattle.clap.specs.Simple.{built, built_leaf, entered, inherited, names_of, marked_built, with_leaf_noted}
use Rattle.clap.specs.Takes.{built_takes, default_passes, entered_passes, is_valid, level_passes, settle_passes, walk_passes}
use Rattle.clap.specs.Walk.{Held, Names, Rule, Walk, finished, nothing_held, rows_after, walk, walk_from, walked}
use Rattle.clap.proofs.OnLiterals.{clap_on_literals}
use Rattle.command_line.proofs.CommandLemmas.{is_simple_app, means}
use Rattle.command_line.proofs.PlainWords.{both_true, first_true, second_true, Word, text_of, ArePlain, stepped, are_taken, goes}
use Rattle.command_line.proofs.PlainWords.Word.{literal, value_word}
use Rattle.command_line.specs.CommandLine.{Meaning, typetool_app, clap_takes, job_in, meaning_in, meaning_of_words, subcommand_in, app_in, name_in, id_in, rule_in, flags_in, texts_in, text_in, paths_in}
use Rattle.command_line.specs.Lines.{AreGiven, IsValue, MayBeGiven, Means, arguments_in, flag_words, has_value, rows_given, value_words, words_by, words_given}
use Rattle.command_line.specs.declared.words.table.Argument.{Argument}
use Rattle.command_line.specs.declared.words.table.Subcommand.{Subcommand}
use Rattle.command_line.specs.declared.words.table.Subcommand.TheVariants.{Due}
use Rattle.command_line.specs.declared.words.values.Unreadable.{Unreadable}

-- ---- a subcommand, with the words behind its name

-- what is left to judge of a command when its words are over
abbrev settles : Shape → Held → Bool → Bool
settles s h is_entered =
    settle_passes s.rules s.args_override_self h
    && (list_all default_passes s.rules && is_valid s (finished s.rules h) is_entered)

-- where the walk stands when the words are over
abbrev end_of : Shape → List Word → Walk
end_of s words = fold (stepped s.rules) (walk_from nothing_held) words

-- whether a level takes the words, whatever the plain ones are
abbrev level_takes : Shape → List Word → Bool
level_takes s words =
    are_taken s (walk_from nothing_held) words && settles s (end_of s words).held false

level_by : (s : Shape) (words : List Word) → ArePlain words → level_takes s words ≡ true
    → level_passes s [] nothing_held (map text_of words) false ≡ true
level_by s words plain taken =
    let g = goes s words (walk_from nothing_held) plain (first_true _ _ taken) in
    both_true _ _ g.passes
    (ap (λ (x : Walk). settles s x.held false) g.to
    ∙ second_true _ _ taken)

rows_by : (s : Shape) (words : List Word) → ArePlain words → level_takes s words ≡ true
    → rows_after s.rules [] (map text_of words) ≡ finished s.rules (end_of s words).held
rows_by s words plain taken =
    ap (λ (x : Walk). finished s.rules x.held) (goes s words (walk_from nothing_held) plain (first_true _ _ taken)).to

-- where the walk of the command above stands once the subcommand was met
abbrev halted : Text → List Text → Walk
halted name words = record (walk_from nothing_held) { stopped = Some (name, words) }

halted_walk : (c : List Rule) (names : Names) (name : Text) (before words : List Text)
    → fold (walked c names) (halted name before) words ≡ halted name (before ++ words)
unfolding walked
halted_walk c names name before [] = ap (halted name) (sym (append-nil before))
halted_walk c names name before (word ∷ rest) =
    halted_walk c names name (before ++ word ∷ []) rest ∙ ap (halted name) (append_assoc before (word ∷ []) rest)

halted_passes : (s : Shape) (names : Names) (name : Text) (before words : List Text)
    → walk_passes s names (halted name before) words ≡ true
unfolding walk_passes walked
halted_passes s names name before [] = refl
halted_passes s names name before (word ∷ rest) = halted_passes s names name (before ++ word ∷ []) rest

-- a command takes words whose walk passes and ends here
takes_by : (a : App) (words : List Text) (end : Walk) → walk a.top.rules (names_of a) nothing_held words ≡ end
    → walk_passes a.top (names_of a) (walk_from nothing_held) words ≡ true → entered_passes a end.stopped ≡ true
    → settles a.top end.held (is_some (entered a end.stopped)) ≡ true
    → built_takes a nothing_held words ≡ true
takes_by a words end ends passes below here =
    let left = walk a.top.rules (names_of a) nothing_held words in
    both_true _ _ (ap (λ (x : Walk). entered_passes a x.stopped) ends ∙ below)
    (both_true _ _ passes
    (ap (λ (x : Walk). settles a.top x.held (is_some (entered a x.stopped))) ends
    ∙ here))

-- the subcommand as clap builds it
abbrev leaf : Subcommand → Shape
leaf s = built_leaf (inherited (with_leaf_noted (marked_built typetool_app.top)) (app_in s).top)

-- what is found of its arguments in these words
abbrev found_in : Subcommand → List Word → List Row
found_in s words = finished (leaf s).rules (end_of (leaf s) words).held

-- the walk of the whole command over the subcommand's name and the words behind it
enters : (s : Subcommand) (words : List Text)
    → walk (built typetool_app).top.rules (names_of (built typetool_app)) nothing_held (name_in s ∷ words) ≡ halted (name_in s) words
unfolding clap_on_literals typetool_app app_in name_in flags_in texts_in paths_in id_in rule_in
enters Due words = halted_walk (built typetool_app).top.rules (names_of (built typetool_app)) (name_in Due) [] words
enters s words = halted_walk (built typetool_app).top.rules (names_of (built typetool_app)) (name_in s) [] words

enter_passes : (s : Subcommand) (words : List Text)
    → walk_passes (built typetool_app).top (names_of (built typetool_app)) (walk_from nothing_held) (name_in s ∷ words) ≡ true
unfolding clap_on_literals typetool_app app_in name_in flags_in texts_in paths_in id_in rule_in
enter_passes Due words = halted_passes (built typetool_app).top (names_of (built typetool_app)) (name_in Due) [] words
enter_passes s words = halted_passes (built typetool_app).top (names_of (built typetool_app)) (name_in s) [] words

-- what is entered is the subcommand
entered_leaf : (s : Subcommand) (words : List Text)
    → entered (built typetool_app) (Some (name_in s, words)) ≡ Some (name_in s, rows_after (leaf s).rules [] words)
unfolding typetool_app app_in name_in flags_in texts_in paths_in id_in rule_in
entered_leaf Due words = refl
entered_leaf s words = refl

leaf_passes : (s : Subcommand) (words : List Text) → level_passes (leaf s) [] nothing_held words false ≡ true
    → entered_passes (built typetool_app) (Some (name_in s, words)) ≡ true
unfolding typetool_app app_in name_in flags_in texts_in paths_in id_in rule_in
leaf_passes Due words e = e
leaf_passes s words e = e

above_passes : settles (built typetool_app).top nothing_held true ≡ true
unfolding typetool_app app_in name_in flags_in texts_in paths_in id_in rule_in
above_passes = refl

module _ (program : Text) (s : Subcommand) (words : List Word) (plain : ArePlain words) (taken : level_takes (leaf s) words ≡ true) where
  takes_line : clap_takes (program ∷ name_in s ∷ map text_of words) ≡ true
  unfolding clap_takes typetool_app
  takes_line =
      let a = built typetool_app in
      let behind = map text_of words in
      both_true _ _ is_simple_app
      (takes_by a (name_in s ∷ behind) (halted (name_in s) behind) (enters s behind) (enter_passes s behind)
      (leaf_passes s behind (level_by (leaf s) words plain taken))
      (ap (λ o. settles a.top nothing_held (is_some o)) (entered_leaf s behind)
      ∙ above_passes))

  line_met : subcommand_in (program ∷ name_in s ∷ map text_of words) ≡ Some (name_in s, found_in s words)
  unfolding subcommand_in typetool_app
  line_met =
      let behind = map text_of words in
      ap (λ (x : Walk). entered (built typetool_app) x.stopped) (enters s behind)
      ∙ entered_leaf s behind
      ∙ ap (λ r. Some (name_in s, r)) (rows_by (leaf s) words plain taken)

  -- such a line means what the job means with the values that are found
  means_by : Means (program ∷ name_in s ∷ map text_of words) (meaning_in s (found_in s words))
  means_by = record { taken = takes_line; meant = means _ s _ line_met }

-- ---- the words of what is given

-- the same words, of which a value is a plain one
abbrev flag_marks : Option Text → List Word
flag_marks None = []
flag_marks (Some name) = literal (codes "--" ++ name) ∷ []

abbrev value_marks : Bool → Text → List Word
value_marks true value = value_word value ∷ []
value_marks false value = []

abbrev marks_by : Rule → Option Text → List Word
marks_by rule None = []
marks_by rule (Some value) = flag_marks rule.long ++ value_marks (has_value rule) value

abbrev marks_given : List Argument → List (Option Text) → List Word
marks_given (argument ∷ rest) (given ∷ more) = marks_by (rule_in argument) given ++ marks_given rest more
marks_given _ _ = []

flag_texts : (long : Option Text) → map text_of (flag_marks long) ≡ flag_words long
flag_texts None = refl
flag_texts (Some name) = refl

value_texts : (takes : Bool) (value : Text) → map text_of (value_marks takes value) ≡ value_words takes value
value_texts true value = refl
value_texts false value = refl

texts_by : (rule : Rule) (given : Option Text) → map text_of (marks_by rule given) ≡ words_by rule given
texts_by rule None = refl
texts_by rule (Some value) =
    map-append text_of (flag_marks rule.long) (value_marks (has_value rule) value)
    ∙ ap₂ (λ x y. x ++ y) (flag_texts rule.long) (value_texts (has_value rule) value)

texts_given : (arguments : List Argument) (given : List (Option Text))
    → map text_of (marks_given arguments given) ≡ words_given arguments given
texts_given [] given = refl
texts_given (argument ∷ rest) [] = refl
texts_given (argument ∷ rest) (given ∷ more) =
    map-append text_of (marks_by (rule_in argument) given) (marks_given rest more)
    ∙ ap₂ (λ x y. x ++ y) (texts_by (rule_in argument) given) (texts_given rest more)

-- and those are plain
both_plain : (one other : List Word) → ArePlain one → ArePlain other → ArePlain (one ++ other)
both_plain [] other p q = q
both_plain (literal text ∷ rest) other p q = both_plain rest other p q
both_plain (value_word text ∷ rest) other p q = (p.0, both_plain rest other p.1 q)

flag_plain : (long : Option Text) → ArePlain (flag_marks long)
flag_plain None = tt
flag_plain (Some name) = tt

value_plain : (takes : Bool) (value : Text) → IsValue takes value → ArePlain (value_marks takes value)
value_plain true value is = (is, tt)
value_plain false value is = tt

plain_by : (rule : Rule) (given : Option Text) → MayBeGiven rule given → ArePlain (marks_by rule given)
plain_by rule None may = tt
plain_by rule (Some value) may =
    both_plain (flag_marks rule.long) (value_marks (has_value rule) value) (flag_plain rule.long) (value_plain (has_value rule) value may)

plain_given : (arguments : List Argument) (given : List (Option Text)) → AreGiven arguments given
    → ArePlain (marks_given arguments given)
plain_given [] given are = tt
plain_given (argument ∷ rest) [] are = tt
plain_given (argument ∷ rest) (given ∷ more) are =
    both_plain (marks_by (rule_in argument) given) (marks_given rest more) (plain_by (rule_in argument) given are.0)
    (plain_given rest more are.1)

-- ---- two functions of what is given are equal, where they are at each choice of what is left out, whatever the values are

abbrev Unless : Bool → Type 0 → Type 0
Unless true X = Unit {0}
Unless false X = X

abbrev unless : {X : Type 0} (b : Bool) → X → Unless b X
unless true x = tt
unless false x = x

abbrev Valued : Bool → Type 0 → Type 0
Valued true X = Text → X
Valued false X = X

abbrev valued : {X : Type 0} (takes : Bool) → (Text → X) → Valued takes X
valued true f = f
valued false f = f (codes "true")

abbrev Choices : List Argument → Type 0 → Type 0
Choices [] X = X
Choices (argument ∷ rest) X =
    Unless (rule_in argument).required (Choices rest X) × Valued (has_value (rule_in argument)) (Choices rest X)

abbrev choices : {X : Type 0} (arguments : List Argument) → (List (Option Text) → X) → Choices arguments X
choices [] f = f []
choices (argument ∷ rest) f = (
  unless (rule_in argument).required (choices rest (λ more. f (None ∷ more))),
  valued (has_value (rule_in argument)) (λ value. choices rest (λ more. f (Some value ∷ more))),
)

left_out : {X : Type 0} (required : Bool) (x y : X) → required ≡ false → unless required x ≡ unless required y → x ≡ y
left_out true x y is e = absurd (cc)
left_out false x y is e = e

given_so : {X : Type 0} (takes : Bool) (f g : Text → X) (value : Text) → IsValue takes value → valued takes f ≡ valued takes g
    → f value ≡ g value
given_so true f g value is e = ap (λ h. h value) e
given_so false f g value is e = ap f is ∙ e ∙ ap g (sym is)

at_each : {X : Type 0} (arguments : List Argument) (f g : List (Option Text) → X) → choices arguments f ≡ choices arguments g
    → (given : List (Option Text)) → AreGiven arguments given → f given ≡ g given
at_each [] f g e [] are = e
at_each [] f g e (given ∷ more) are = absurd are
at_each (argument ∷ rest) f g e [] are = absurd are
at_each (argument ∷ rest) f g e (None ∷ more) are =
    at_each rest (λ m. f (None ∷ m)) (λ m. g (None ∷ m)) (left_out (rule_in argument).required _ _ are.0 (ap (λ c. c.0) e)) more are.1
at_each (argument ∷ rest) f g e (Some value ∷ more) are =
    at_each rest (λ m. f (Some value ∷ m)) (λ m. g (Some value ∷ m))
    (given_so (has_value (rule_in argument)) _ _ value are.0 (ap (λ c. c.1) e)) more are.1

-- ---- what a line means

-- whether the subcommand takes the words of what is given, and what it means with the values that are found
abbrev comes_to : Subcommand → List (Option Text) → Bool × Result Meaning Unreadable
comes_to s given =
    let words = marks_given (arguments_in s) given in
    (level_takes (leaf s) words, meaning_in s (found_in s words))

-- it takes them, and means what it does with the values that are given
abbrev should_be : Subcommand → List (Option Text) → Bool × Result Meaning Unreadable
should_be s given = (true, meaning_in s (rows_given (arguments_in s) given))

at_each_choice : (s : Subcommand) → choices (arguments_in s) (comes_to s) ≡ choices (arguments_in s) (should_be s)
unfolding clap_on_literals typetool_app app_in name_in flags_in texts_in paths_in id_in rule_in job_in text_in
at_each_choice Due = refl
at_each_choice s = refl

pub line_means : (s : Subcommand) (given : List (Option Text)) → AreGiven (arguments_in s) given → (program : Text)
    → Means (program ∷ name_in s ∷ words_given (arguments_in s) given) (meaning_in s (rows_given (arguments_in s) given))
line_means s given are program =
    let arguments = arguments_in s in
    let same = at_each arguments (comes_to s) (should_be s) (at_each_choice s) given are in
    let it = means_by program s (marks_given arguments given) (plain_given arguments given are) (ap (λ c. c.0) same) in
    record {
      taken = subst (λ w. clap_takes (program ∷ name_in s ∷ w) ≡ true) (texts_given arguments given) it.taken;
      meant =
          subst (λ w. meaning_of_words (program ∷ name_in s ∷ w) ≡ Some (comes_to s given).1) (texts_given arguments given) it.meant
          ∙ ap (λ c. Some c.1) same;
    }
