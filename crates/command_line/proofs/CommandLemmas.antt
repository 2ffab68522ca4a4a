-- What clap's answers say of the words, for the command line of this program.
use Rattle.std.proofs.Common.{◌≡◌, ◌≢◌, Bool, true, false, codes, List, [], ◌∷◌, Option, Some, None, Result, refl, sym, ◌∙◌, ap, subst, inl, inr, option_map, is_some, find, if◌then◌else◌, ℕ, ◌+◌, ◌<◌, ◌≤◌, ◌++◌, map, take, length, get_or, Ok, Err, arith, append_assoc, lit≤, suc, below_more}
use Rattle.std.specs.Prelude.{Box}
use Rattle.clap.specs.Words.{App, HasMatchesOf, FailsBy, Row, Shape, Text, fault_of, is_simple, is_simple_and_free, kind_of, subcommand_name_of, subcommand_of, subcommand_rows, subcommand_rows_of, takes, Rule, with_rule, with_subcommand}
use Rattle.clap.specs.Simple.{entered, built, help_shape, names_of, argument_words, rows_at, label_of}
use Rattle.clap.specs.Faults.{walk_fault}
use Rattle.clap.specs.Walk.{answers_to, nothing_held, stop_after, walk_from}
use Rattle.std.proofs.lemmas.Slice.Eq.{bytes_eq-Decides}
use Rattle.command_line.proofs.HelpLemmas.{help_is_told, named_before, none_first, stopped_name}
use Rattle.clap.specs.Matches.{has_subcommand}
use Rattle.std.specs.Box.{box_value}
use Rattle.clap.specs.declared.ArgMatches.{ArgMatches}
use Rattle.clap.specs.declared.ArgMatches.TheViews.{out-ArgMatches}
use Rattle.clap.specs.declared.parser.matches.ArgMatches.TheViews.{out-SubCommand}
use Rattle.clap.specs.declared.parser.matches.SubCommand.{SubCommand}
use Rattle.clap.specs.declared.Error.{Error}
use Rattle.clap.specs.declared.error.ErrorKind.TheVariants.{OutOfMemory}
use Rattle.std.specs.Option.{option_and_then}
use Rattle.std.specs.Str.{bytes_eq}
use Rattle.std.proofs.lemmas.List.{get_or_default, map-append, take_all, take_more}
use Rattle.std.proofs.lemmas.List.Sums.{fold_more}
use Rattle.command_line.specs.CommandLine.{typetool_app, clap_faults, clap_takes, subcommand_in, subcommands_in_order, app_in, after, fault_of_unread, id_in, job_in, meaning_in, meaning_of, meaning_of_words, name_in, path_count, paths_in, rule_in, source_in, text_in, texts_in, top_app, value_in, with_rules, with_subcommands, flags_in, FailsFor, IsNamed}
use Rattle.command_line.specs.declared.job.Job.{Job}
use Rattle.command_line.specs.declared.job.Job.TheVariants as jobs
use Rattle.command_line.specs.declared.player.Source.{Source}
use Rattle.command_line.specs.declared.words.table.Argument.{Argument}
use Rattle.command_line.specs.declared.words.table.Subcommand.{Subcommand}
use Rattle.command_line.specs.declared.words.table.Subcommand.TheVariants.{Due, Save, Cut, Excerpt, Mend, Import, Redact}
use Rattle.command_line.specs.declared.words.values.Unreadable.{Unreadable}
use Rattle.command_line.specs.declared.words.values.Unreadable.TheVariants as unread

-- clap says what such a command's matches are
pub is_simple_app : is_simple typetool_app ≡ true
unfolding typetool_app app_in name_in flags_in texts_in paths_in id_in rule_in
is_simple_app = refl

-- and what its faults are
pub is_free_app : is_simple_and_free typetool_app ≡ true
unfolding typetool_app app_in name_in flags_in texts_in paths_in id_in rule_in
is_free_app = refl

-- a subcommand must follow the program's name
pub needs_subcommand : typetool_app.top.subcommand_required ≡ true
unfolding typetool_app
needs_subcommand = refl

-- the faults of a parse by this command
pub fails_by : {T : Type 0} (a : App) (words : List Text) (r : Result T Error) → a ≡ typetool_app
    → (is_simple_and_free a ≡ true → FailsBy (fault_of a words) r) → FailsBy (clap_faults words) r
unfolding clap_faults
fails_by a words r e h = subst (λ b. FailsBy (fault_of b words) r) e (h (ap is_simple_and_free e ∙ is_free_app))

-- the subcommand of a parse by this command
pub met_by : (a : App) (words : List Text) (m : ArgMatches) → a ≡ typetool_app → HasMatchesOf a words m
    → subcommand_rows_of m ≡ subcommand_in words
unfolding subcommand_in
met_by a words m e h = (h (ap is_simple e ∙ is_simple_app)).1 ∙ ap (λ b. subcommand_of b words) e

is_false : (b : Bool) → (b ≡ true → ⊥) → b ≡ false
is_false true h = absurd (h refl)
is_false false h = refl

-- a parse that fails for another reason than memory has words that this command doesn't promise to take
pub not_taken : (a : App) (words : List Text) (error : Error) → a ≡ typetool_app
    → (takes a words ≡ true → kind_of error ≡ OutOfMemory) → kind_of error ≢ OutOfMemory
    → clap_takes words ≡ false
unfolding clap_takes
not_taken a words error e h other = is_false (takes typetool_app words) (λ t. other (h (ap (λ b. takes b words) e ∙ t)))

-- the name of the first subcommand that passes a test, or of a later one
found_here : (f : Shape → Text × List Row) → ((s : Shape) → (f s).0 ≡ s.name)
    → (b : Bool) (p : Shape → Bool) (s : Shape) (rest : List Shape) (met : Text × List Row)
    → option_map f (if b then Some s else find p rest) ≡ Some met
    → (option_map f (find p rest) ≡ Some met → IsNamed (Some met.0) rest) → IsNamed (Some met.0) (s ∷ rest)
found_here f named true p s rest met e next =
    let same : f s ≡ met = cc in
    inl (ap (λ m. Some m.0) (sym same) ∙ ap (λ n. Some n) (named s))
found_here f named false p s rest met e next = inr (next e)

found_named : (f : Shape → Text × List Row) → ((s : Shape) → (f s).0 ≡ s.name)
    → (p : Shape → Bool) (subs : List Shape) (met : Text × List Row) → option_map f (find p subs) ≡ Some met
    → IsNamed (Some met.0) subs
found_named f named p [] met e = absurd (cc)
found_named f named p (s ∷ rest) met e = found_here f named (p s) p s rest met e (found_named f named p rest met)

-- the subcommand that is entered has the name of one of the command's
entered_named : (a : App) (stop : Option (Text × List Text)) (met : Text × List Row) → entered a stop ≡ Some met
    → IsNamed (Some met.0) a.subs
entered_named a None met e = absurd (cc)
entered_named a (Some p) met e = found_named (λ s. rows_at s p.1) (λ s. refl) (λ s. answers_to p.0 (label_of s)) a.subs met e

-- and so has the one in words that clap takes: it isn't `help`
named_in : (words : List Text) (met : Text × List Row) → clap_faults words ≡ [] → subcommand_in words ≡ Some met
    → IsNamed (Some met.0) typetool_app.subs
unfolding subcommand_in clap_faults typetool_app app_in name_in flags_in texts_in paths_in id_in rule_in
named_in words met taken e =
    let a = built typetool_app in
    let arguments = argument_words typetool_app words in
    let stop = stop_after a.top.rules (names_of a) arguments in
    named_before (Some met.0) typetool_app.subs help_shape
    (λ help.
    let it : met.0 ≡ codes "help" = cc in
    help_is_told a.top (names_of a) refl arguments (walk_from nothing_held) met.0 refl
    (stopped_name a stop met refl e) ((bytes_eq-Decides met.0 (codes "help")).1 it)
    (none_first (walk_fault a.top (names_of a) (walk_from nothing_held) arguments) _ taken))
    (entered_named a stop met e)

module _ {Z : Type 0} where
  name_and_rows : (o : Option (Box SubCommand Z))
      → option_map (λ b. (out-SubCommand (box_value b)).name.now) o ≡ option_map (λ p. p.0) (subcommand_rows o)
  name_and_rows None = refl
  name_and_rows (Some b) = refl

  has_rows : (o : Option (Box SubCommand Z)) → is_some o ≡ is_some (subcommand_rows o)
  has_rows None = refl
  has_rows (Some b) = refl

named_if : (name : Option Text) (rows : Option (Text × List Row)) (words : List Text) → clap_faults words ≡ []
    → name ≡ option_map (λ p. p.0) rows → is_some rows ≡ true → rows ≡ subcommand_in words → IsNamed name typetool_app.subs
named_if name None words taken n some e = absurd (cc)
named_if name (Some met) words taken n some e =
    subst (λ o. IsNamed o typetool_app.subs) (sym n) (named_in words met taken (sym e))

-- a subcommand that was met has the name of one of this command's
pub named_by : (words : List Text) (m : ArgMatches) → clap_faults words ≡ [] → subcommand_rows_of m ≡ subcommand_in words
    → has_subcommand m ≡ true → IsNamed (subcommand_name_of m) typetool_app.subs
named_by words m taken e some =
    let found = (out-ArgMatches m).subcommand in
    named_if (subcommand_name_of m) (subcommand_rows_of m) words taken (name_and_rows found) (sym (has_rows found) ∙ some) e

-- a command with one argument more
pub with_rules_more : (a b : App) (arguments : List Argument) (i : ℕ) (d : Argument) (r : Rule)
    → i < length arguments → r ≡ rule_in (get_or arguments i d)
    → a ≡ with_rules b (map rule_in (take i arguments))
    → with_rule a r ≡ with_rules b (map rule_in (take (i + 1) arguments))
with_rules_more a b arguments i d r lt at e =
    let x = get_or arguments i d in
    let rules : map rule_in (take (i + 1) arguments) ≡ map rule_in (take i arguments) ++ rule_in x ∷ [] =
    ap (map rule_in) (take_more arguments i d lt) ∙ map-append rule_in (take i arguments) (x ∷ []) in
    ap (λ (c : App). with_rule c r) e
    ∙ ap (λ q. with_rule (with_rules b (map rule_in (take i arguments))) q) at
    ∙ ap (λ l. record b { top = record b.top { rules = l } })
    (append_assoc b.top.rules (map rule_in (take i arguments)) (rule_in x ∷ []) ∙ ap (λ l. b.top.rules ++ l) (sym rules))

-- a command with one subcommand more
pub with_subcommands_more : (a b : App) (subs : List Subcommand) (i : ℕ) (d : Subcommand) (s : Shape)
    → i < length subs → s ≡ (app_in (get_or subs i d)).top → a ≡ with_subcommands b (take i subs)
    → with_subcommand a s ≡ with_subcommands b (take (i + 1) subs)
with_subcommands_more a b subs i d s lt at e =
    ap (λ (c : App). with_subcommand c s) e
    ∙ ap (λ q. with_subcommand (with_subcommands b (take i subs)) q) at
    ∙ sym (fold_more (λ app x. with_subcommand app (app_in x).top) b subs i d lt)

-- with all of them
pub with_all_subcommands : (a : App) (subs : List Subcommand) (i : ℕ) → subs ≡ subcommands_in_order
    → length subs ≤ i → a ≡ with_subcommands top_app (take i subs) → a ≡ typetool_app
unfolding typetool_app
with_all_subcommands a subs i all le e =
    e ∙ ap (with_subcommands top_app) (take_all i subs le ∙ all)

-- the first subcommand with the name of one is that one
pub first_named : (s : Subcommand) → find (λ t. bytes_eq (name_in t) (name_in s)) subcommands_in_order ≡ Some s
unfolding name_in
first_named Due = refl
first_named s = refl

-- what words mean by the subcommand that clap finds in them
pub means : (words : List Text) (s : Subcommand) (rows : List Row)
    → subcommand_in words ≡ Some (name_in s, rows) → meaning_of_words words ≡ Some (meaning_in s rows)
unfolding meaning_of_words
means words s rows e =
    ap (option_and_then meaning_of) e ∙ ap (option_map (λ t. meaning_in t rows)) (first_named s)

-- where the job and the paths are read
pub means_job : (s : Subcommand) (rows : List Row) (job : Job) (text : List ℕ) (from : Source) (paths : List Text) → job_in s rows ≡ Ok job
    → text ≡ text_in s rows → from ≡ source_in rows → paths ≡ map (λ a. value_in (id_in a) rows) (paths_in s)
    → meaning_in s rows ≡ Ok (record { job = job; text = text; source = from; paths = paths })
means_job s rows job text from paths e t f p =
    let here = map (λ a. value_in (id_in a) rows) (paths_in s) in
    ap (λ r. after r (λ j. Ok (record { job = j; text = text_in s rows; source = source_in rows; paths = here }))) e
    ∙ ap (λ x. Ok (record { job = job; text = x; source = source_in rows; paths = here })) (sym t)
    ∙ ap (λ x. Ok (record { job = job; text = text; source = x; paths = here })) (sym f)
    ∙ ap (λ l. Ok (record { job = job; text = text; source = from; paths = l })) (sym p)

-- where they aren't
pub means_fault : (s : Subcommand) (rows : List Row) (fault : Unreadable) → job_in s rows ≡ Err fault
    → meaning_in s rows ≡ Err fault
means_fault s rows fault e =
    ap (λ r. after r (λ j. Ok (record {
      job = j;
      text = text_in s rows;
      source = source_in rows;
      paths = map (λ a. value_in (id_in a) rows) (paths_in s);
    }))) e

-- and the fault of the words
pub fails_unread : (words : List Text) (fault : Unreadable) → clap_faults words ≡ []
    → meaning_of_words words ≡ Some (Err fault) → FailsFor words (fault_of_unread fault)
fails_unread words unread.Seconds taken meant = (taken, meant)
fails_unread words unread.Every taken meant = (taken, meant)
fails_unread words unread.Profile taken meant = (taken, meant)
fails_unread words unread.Size taken meant = (taken, meant)
fails_unread words unread.Text taken meant = (taken, meant)
fails_unread words unread.Headers taken meant = (taken, meant)
fails_unread words unread.Prints taken meant = (taken, meant)

-- whatever job is read, it has at most so many paths
abbrev HasFew : Result Job Unreadable → ℕ → Type 0
HasFew read n = (job : Job) → read ≡ Ok job → path_count job ≤ n

few_of : (job : Job) (n : ℕ) → path_count job ≤ n → HasFew (Ok job) n
few_of job n few other e =
    let same : job ≡ other = cc in
    subst (λ j. path_count j ≤ n) same few

few_after : {A : Type 0} (read : Result A Unreadable) (next : A → Result Job Unreadable) (n : ℕ)
    → ((x : A) → HasFew (next x) n) → HasFew (after read next) n
few_after (Ok x) next n few = few x
few_after (Err fault) next n few = λ job e. absurd (cc)

-- and no job has more than four
at_most_four : (job : Job) → path_count job ≤ 4
at_most_four jobs.Save = lit≤ tt
at_most_four job = lit≤ tt

-- each subcommand has the paths that its job needs
pub enough_paths : (s : Subcommand) (rows : List Row) → HasFew (job_in s rows) (length (paths_in s))
unfolding paths_in job_in
enough_paths Save rows = λ job e. at_most_four job
enough_paths Cut rows = λ job e. at_most_four job
enough_paths Excerpt rows = λ job e. at_most_four job
enough_paths Mend rows = λ job e. at_most_four job
enough_paths Redact rows = λ job e. at_most_four job
enough_paths s rows = search (few_after, few_of, lit≤) depth 12 fits 20000

-- a name that is none of those in a list is named by none of their commands
unnamed_in : (name : Option Text) (subs : List Subcommand)
    → ((k : ℕ) → k < length subs → name ≢ Some (name_in (get_or subs k Due)))
    → IsNamed name (map (λ s. (app_in s).top) subs) → ⊥
unfolding app_in
unnamed_in name [] none named = named
unnamed_in name (s ∷ rest) none (inl e) = none 0 (omega arith) e
unnamed_in name (s ∷ rest) none (inr later) = unnamed_in name rest (λ k lt. none (suc k) (omega arith)) later

-- and the command line names no other
pub unnamed : (name : Option Text) (subs : List Subcommand) (i : ℕ) → subs ≡ subcommands_in_order
    → length subs ≤ i → ((k : ℕ) → k < i → name ≢ Some (name_in (get_or subs k Due)))
    → IsNamed name typetool_app.subs → ⊥
unfolding typetool_app
unnamed name subs i all le none named =
    unnamed_in name subs (λ k lt. none k (omega arith))
    (subst (λ l. IsNamed name (map (λ s. (app_in s).top) l)) (sym all) named)

-- a name that is none of one subcommand more
pub unnamed_more : (name : Option Text) (subs : List Subcommand) (i : ℕ) (d : Subcommand) → i < length subs
    → ((k : ℕ) → k < i → name ≢ Some (name_in (get_or subs k Due))) → name ≢ Some (name_in (get_or subs i d))
    → (k : ℕ) → k < i + 1 → name ≢ Some (name_in (get_or subs k Due))
unnamed_more name subs i d lt before here =
    below_more (λ k. name ≢ Some (name_in (get_or subs k Due))) i before
    (λ e. here (e ∙ ap (λ s. Some (name_in s)) (get_or_default subs i Due d lt)))
