-- What a plain command line means: the program's name, a job's, and then what the job's row of the table has, in its order:
-- options, of which those may be left out that need not be given, texts and paths (ours).
use Rattle.std.specs.Prelude.{◌≡◌, ◌==◌, ◌++◌, Bool, true, false, not, List, [], ◌∷◌, Option, Some, None, Result, codes}
use Rattle.clap.specs.Words.{Row, Rule, Text}
use Rattle.clap.specs.declared.builder.value_parser.Reading.TheVariants.{AsWritten}
use Rattle.clap.specs.declared.parser.matches.ValueSource.TheVariants.{CommandLine}
use Rattle.command_line.specs.CommandLine.{Meaning, clap_takes, flags_in, id_in, meaning_of_words, paths_in, rule_in, texts_in}
use Rattle.command_line.specs.declared.words.table.Argument.{Argument}
use Rattle.command_line.specs.declared.words.table.Subcommand.{Subcommand}
use Rattle.command_line.specs.declared.words.values.Unreadable.{Unreadable}

-- a word that no parser can take for a flag: it doesn't begin with a hyphen (ours)
abbrev pub begins_with_hyphen : Text → Bool
begins_with_hyphen [] = false
begins_with_hyphen (c ∷ rest) = c == 45

abbrev pub IsPlain : Text → Type 0
IsPlain word = begins_with_hyphen word ≡ false

-- the arguments of a subcommand, in the order of its line: flags, texts, paths (ours)
abbrev pub arguments_in : Subcommand → List Argument
arguments_in s = flags_in s ++ (texts_in s ++ paths_in s)

-- whether an argument has a value of its own: a flag such as `--escaped` has none (ours)
abbrev pub has_value : Rule → Bool
has_value rule = not (rule.value_names == 0)

-- a value that is given: a plain word, and `true`, as clap tells it, of a flag without one (ours)
abbrev pub IsValue : Bool → Text → Type 0
IsValue true value = IsPlain value
IsValue false value = value ≡ codes "true"

-- what may be given of an argument: nothing, where it need not be given, or such a value (ours)
abbrev pub MayBeGiven : Rule → Option Text → Type 0
MayBeGiven rule None = rule.required ≡ false
MayBeGiven rule (Some value) = IsValue (has_value rule) value

-- what may be given of each of these arguments, in turn (ours)
abbrev pub AreGiven : List Argument → List (Option Text) → Type 0
AreGiven [] [] = Unit {0}
AreGiven (argument ∷ rest) (given ∷ more) = MayBeGiven (rule_in argument) given × AreGiven rest more
AreGiven _ _ = ⊥

-- the word of a flag (ours)
abbrev pub flag_words : Option Text → List Text
flag_words None = []
flag_words (Some name) = (codes "--" ++ name) ∷ []

-- the word of a value (ours)
abbrev pub value_words : Bool → Text → List Text
value_words true value = value ∷ []
value_words false value = []

-- the words of what is given of an argument (ours)
abbrev pub words_by : Rule → Option Text → List Text
words_by rule None = []
words_by rule (Some value) = flag_words rule.long ++ value_words (has_value rule) value

-- the words of what is given of each of these arguments (ours)
abbrev pub words_given : List Argument → List (Option Text) → List Text
words_given (argument ∷ rest) (given ∷ more) = words_by (rule_in argument) given ++ words_given rest more
words_given _ _ = []

-- what is found of an argument: its value, where it is given (clap)
abbrev pub rows_by : Argument → Option Text → List Row
rows_by argument None = []
rows_by argument (Some value) = record {
  id = id_in argument;
  values = value ∷ [];
  count = None;
  source = Some CommandLine;
  reading = AsWritten;
} ∷ []

-- what is found of each of these arguments (clap)
abbrev pub rows_given : List Argument → List (Option Text) → List Row
rows_given (argument ∷ rest) (given ∷ more) = rows_by argument given ++ rows_given rest more
rows_given _ _ = []

-- clap takes these words, and they mean this: so they are read as that, or refused as that isn't readable, or memory is
-- refused (ours)
pub record Means (words : List Text) (meaning : Result Meaning Unreadable) : Type 0 where
  pub taken : clap_takes words ≡ true
  pub meant : meaning_of_words words ≡ Some meaning
