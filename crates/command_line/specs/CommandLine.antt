-- The command line: the table of subcommands, what clap is told of it, and the job and the paths that its answer means.
use Rattle.std.specs.Prelude.{◌≡◌, ℕ, ◌⊎◌, ◌++◌, Bool, true, false, List, [], ◌∷◌, map, Option, Some, None, Result, Ok, Err, codes, unwrap_or, string_bytes, chars, find, fold, nat_lt, not, ◌+◌, take, drop, position, ◌==◌, ◌&&◌, ◌||◌, if◌then◌else◌}
use Rattle.std.specs.Char.{is_control}
use Rattle.std.specs.List.{list_all, list_any}
use Rattle.std.specs.Option.{option_and_then, option_map}
use Rattle.std.specs.Path.{path_file_stem}
use Rattle.std.specs.Str.{bytes_eq}
use Rattle.clap.specs.Words.{App, IsAmong, Kinds, Row, Rule, Shape, Text, fault_of, first_of, kind_of, new_app, new_rule, subcommand_of, takes, with_subcommand}
use Rattle.clap.specs.declared.builder.ArgAction.TheVariants.{Set, SetTrue}
use Rattle.tape_core.specs.Seconds.{last_moment, seconds_of}
use Rattle.tape_seek.specs.Requests.{place_of}
use Rattle.tape_seek.specs.State.{least_every, most_every}
use Rattle.command_line.specs.declared.job.Job.{Job}
use Rattle.command_line.specs.declared.job.Job.TheVariants as job
use Rattle.command_line.specs.Measures.{within_of}
use Rattle.command_line.specs.declared.player.Measure.{Measure}
use Rattle.command_line.specs.declared.player.Player.{Player}
use Rattle.command_line.specs.declared.player.Player.TheVariants.{Vt, Today, Auto}
use Rattle.command_line.specs.declared.player.Source.{Source}
use Rattle.command_line.specs.declared.player.Source.TheVariants.{Pair}
use Rattle.command_line.specs.declared.player.Source.TheVariants as stands
use Rattle.command_line.specs.declared.player.Print.{Print}
use Rattle.command_line.specs.declared.player.Print.TheVariants as print
use Rattle.command_line.specs.declared.player.Print.TheVariants.{Plain}
use Rattle.command_line.specs.declared.words.Words.{Words}
use Rattle.command_line.specs.declared.words.WordsFault.{WordsFault}
use Rattle.command_line.specs.declared.words.WordsFault.TheVariants.{Clap, Memory, BadSeconds, BadEvery, BadProfile, BadSize, BadText, BothHeaders, BothPrints}
use Rattle.command_line.specs.declared.words.table.Argument.{Argument}
use Rattle.command_line.specs.declared.words.table.Argument.TheVariants.{At, From, To, Until, CutFrom, CutTo, KeptFrom, KeptTo, Every, Profile, Size, Escaped, State, Last, Headless, Title, Sought, Secret, Script, Timing, AnyTiming, Recording, Recorded, ItsTiming, NewScript, NewTiming}
use Rattle.command_line.specs.declared.words.table.Subcommand.{Subcommand}
use Rattle.command_line.specs.declared.words.table.Subcommand.TheVariants.{Due, Info, Check, Screen, Picture, Transcript, Changes, Find, Reports, Page, Cast, Save, Cut, Excerpt, Mend, Import, Redact, Session}
use Rattle.command_line.specs.declared.words.values.Unreadable.{Unreadable}
use Rattle.command_line.specs.declared.words.values.Unreadable.TheVariants as unread
use Rattle.tape_mend.specs.declared.opening.Header.{Header}
use Rattle.tape_mend.specs.declared.opening.Header.TheVariants.{Kept, Made}
use Rattle.tape_mend.specs.declared.opening.Header.TheVariants as header
use Rattle.vt_term.specs.declared.profile.Profile.{Profile as Played}
use Rattle.vt_term.specs.declared.profile.Profile.TheVariants.{Vt100, Vt102}

-- ---- the table

-- the subcommands, in the order in which help tells them (ours)
abbrev pub subcommands_in_order : List Subcommand
subcommands_in_order = Due ∷ Info ∷ Check ∷ Screen ∷ Picture ∷ Transcript ∷ Changes ∷ Find ∷ Reports ∷ Page ∷ Cast ∷ Save ∷ Cut ∷ Excerpt ∷ Mend ∷ Import ∷ Redact ∷ Session ∷ []

-- the name of a subcommand (ours)
unfoldable pub name_in : Subcommand → Text
name_in Due = codes "due"
name_in Info = codes "info"
name_in Check = codes "check"
name_in Screen = codes "screen"
name_in Picture = codes "picture"
name_in Transcript = codes "transcript"
name_in Changes = codes "changes"
name_in Find = codes "find"
name_in Reports = codes "reports"
name_in Page = codes "page"
name_in Cast = codes "cast"
name_in Save = codes "save"
name_in Cut = codes "cut"
name_in Excerpt = codes "excerpt"
name_in Mend = codes "mend"
name_in Import = codes "import"
name_in Redact = codes "redact"
name_in Session = codes "session"

-- the flags of a subcommand (ours)
unfoldable pub flags_in : Subcommand → List Argument
flags_in Due = At ∷ []
flags_in Info = []
flags_in Check = Profile ∷ Size ∷ []
flags_in Screen = At ∷ Escaped ∷ State ∷ Profile ∷ Size ∷ []
flags_in Picture = At ∷ Profile ∷ Size ∷ []
flags_in Transcript = From ∷ Until ∷ Profile ∷ Size ∷ []
flags_in Changes = From ∷ To ∷ Profile ∷ Size ∷ []
flags_in Find = From ∷ Until ∷ Profile ∷ Size ∷ []
flags_in Reports = At ∷ Profile ∷ Size ∷ []
flags_in Page = Profile ∷ Size ∷ Title ∷ []
flags_in Cast = Profile ∷ Size ∷ []
flags_in Save = []
flags_in Cut = CutFrom ∷ CutTo ∷ Profile ∷ Size ∷ []
flags_in Excerpt = KeptFrom ∷ KeptTo ∷ Profile ∷ Size ∷ []
flags_in Mend = Last ∷ Headless ∷ []
flags_in Import = []
flags_in Redact = Profile ∷ Size ∷ []
flags_in Session = Every ∷ Profile ∷ Size ∷ []

-- the texts of a subcommand, which stand before its paths (ours)
unfoldable pub texts_in : Subcommand → List Argument
texts_in Find = Sought ∷ []
texts_in Redact = Secret ∷ []
texts_in _ = []

-- the paths of a subcommand, in the line's order (ours)
unfoldable pub paths_in : Subcommand → List Argument
paths_in Save = Script ∷ Timing ∷ NewScript ∷ NewTiming ∷ []
paths_in Cut = Script ∷ Timing ∷ NewScript ∷ NewTiming ∷ []
paths_in Excerpt = Script ∷ Timing ∷ NewScript ∷ NewTiming ∷ []
paths_in Mend = Script ∷ AnyTiming ∷ NewScript ∷ NewTiming ∷ []
paths_in Import = Recording ∷ NewScript ∷ NewTiming ∷ []
paths_in Redact = Script ∷ Timing ∷ NewScript ∷ NewTiming ∷ []
paths_in _ = Recorded ∷ ItsTiming ∷ []

-- the name of an argument (ours)
unfoldable pub id_in : Argument → Text
id_in At = codes "at"
id_in From = codes "from"
id_in To = codes "to"
id_in Until = codes "to"
id_in CutFrom = codes "from"
id_in CutTo = codes "to"
id_in KeptFrom = codes "from"
id_in KeptTo = codes "to"
id_in Every = codes "every"
id_in Profile = codes "profile"
id_in Size = codes "size"
id_in Escaped = codes "escaped"
id_in State = codes "state"
id_in Last = codes "last"
id_in Headless = codes "headless"
id_in Title = codes "title"
id_in Sought = codes "text"
id_in Secret = codes "text"
id_in Script = codes "script"
id_in Timing = codes "timing"
id_in AnyTiming = codes "timing"
id_in Recording = codes "recording"
id_in Recorded = codes "script"
id_in ItsTiming = codes "timing"
id_in NewScript = codes "new-script"
id_in NewTiming = codes "new-timing"

-- a flag that takes seconds, such as `--at 12.5`, and must be given (ours)
abbrev pub seconds_rule : Text → Rule
seconds_rule id =
    record (new_rule id) { long = Some id; action = Some Set; required = true; value_names = 1 }

-- a flag with a value that may be left out (ours)
abbrev pub optional_rule : Text → Rule
optional_rule id = record (new_rule id) { long = Some id; action = Some Set; value_names = 1 }

-- a flag without a value (ours)
abbrev pub switch_rule : Text → Rule
switch_rule id = record (new_rule id) { long = Some id; action = Some SetTrue }

-- a text or a path that must be given (ours)
abbrev pub positional_rule : Text → Rule
positional_rule id = record (new_rule id) { action = Some Set; required = true; value_names = 1 }

-- a path that may be left out (ours)
abbrev pub optional_positional_rule : Text → Rule
optional_positional_rule id = record (new_rule id) { action = Some Set; value_names = 1 }

-- what clap is told of an argument (ours)
unfoldable pub rule_in : Argument → Rule
rule_in At = seconds_rule (id_in At)
rule_in From = optional_rule (id_in From)
rule_in To = seconds_rule (id_in To)
rule_in Until = optional_rule (id_in Until)
rule_in CutFrom = seconds_rule (id_in CutFrom)
rule_in CutTo = seconds_rule (id_in CutTo)
rule_in KeptFrom = optional_rule (id_in KeptFrom)
rule_in KeptTo = optional_rule (id_in KeptTo)
rule_in Every = optional_rule (id_in Every)
rule_in Profile = optional_rule (id_in Profile)
rule_in Size = optional_rule (id_in Size)
rule_in Escaped = switch_rule (id_in Escaped)
rule_in State = switch_rule (id_in State)
rule_in Last = switch_rule (id_in Last)
rule_in Headless = switch_rule (id_in Headless)
rule_in Title = optional_rule (id_in Title)
rule_in Sought = positional_rule (id_in Sought)
rule_in Secret = positional_rule (id_in Secret)
rule_in Script = positional_rule (id_in Script)
rule_in Timing = positional_rule (id_in Timing)
rule_in AnyTiming = positional_rule (id_in AnyTiming)
rule_in Recording = positional_rule (id_in Recording)
rule_in Recorded = positional_rule (id_in Recorded)
rule_in ItsTiming = optional_positional_rule (id_in ItsTiming)
rule_in NewScript = positional_rule (id_in NewScript)
rule_in NewTiming = positional_rule (id_in NewTiming)

-- ---- values

-- the value of an argument that must be given (ours)
abbrev pub value_in : Text → List Row → Text
value_in id rows = unwrap_or (first_of id rows) []

-- what was read, or what isn't readable (ours)
abbrev pub readable : {A : Type 0} → Unreadable → Option A → Result A Unreadable
readable fault None = Err fault
readable fault (Some x) = Ok x

-- what comes after a value that was read (ours)
abbrev pub after : {A B : Type 0} → Result A Unreadable → (A → Result B Unreadable) → Result B Unreadable
after (Ok x) next = next x
after (Err fault) next = Err fault

-- the moment that a flag gives, in microseconds (ours)
abbrev pub moment_in : Text → List Row → Result ℕ Unreadable
moment_in id rows = readable unread.Seconds (seconds_of (value_in id rows))

-- the moment in a text, if there is a text (ours)
abbrev pub moment_if : Option Text → Result (Option ℕ) Unreadable
moment_if None = Ok None
moment_if (Some text) = after (readable unread.Seconds (seconds_of text)) (λ moment. Ok (Some moment))

-- the moment that a flag gives, in microseconds, if it is given (ours)
abbrev pub moment_given_in : Text → List Row → Result (Option ℕ) Unreadable
moment_given_in id rows = moment_if (first_of id rows)

-- the moment that a flag gives, in microseconds, and the last moment there is, if it isn't given: each chunk is due by
-- then (ours)
abbrev pub moment_or_last : Option ℕ → ℕ
moment_or_last given = unwrap_or given last_moment

abbrev pub moment_or_last_in : Text → List Row → Result ℕ Unreadable
moment_or_last_in id rows = after (moment_given_in id rows) (λ given. Ok (moment_or_last given))

-- the moment that a flag gives, in microseconds, and the first moment there is, if it isn't given: no chunk is due before
-- then (ours)
abbrev pub moment_or_first : Option ℕ → ℕ
moment_or_first given = unwrap_or given 0

abbrev pub moment_or_first_in : Text → List Row → Result ℕ Unreadable
moment_or_first_in id rows = after (moment_given_in id rows) (λ given. Ok (moment_or_first given))

-- the number, if so many chunks may lie between stored terminals: from 1 to 1,000,000 (ours)
abbrev pub every_allowed : ℕ → Option ℕ
every_allowed n = if nat_lt n least_every || nat_lt most_every n then None else Some n

-- such a number in digits alone (ours)
unfoldable pub every_of : Text → Option ℕ
every_of text = option_and_then every_allowed (place_of text)

-- where `--every` isn't given (ours)
abbrev pub usual_every : ℕ
usual_every = 100

-- the number in a text, and the usual one if there is no text (ours)
abbrev pub every_if : Option Text → Result ℕ Unreadable
every_if None = Ok usual_every
every_if (Some text) = readable unread.Every (every_of text)

-- how many chunks are to lie between stored terminals (ours)
abbrev pub every_in : List Row → Result ℕ Unreadable
every_in rows = every_if (first_of (id_in Every) rows)

-- the profile of this name (ours)
unfoldable pub profile_named : Text → Option Played
profile_named name =
    if bytes_eq name (codes "vt100") then Some Vt100
    else (if bytes_eq name (codes "vt102") then Some Vt102 else None)

-- `xterm`, the name of the terminal of today (ours)
unfoldable pub is_today : Text → Bool
is_today name = bytes_eq name (codes "xterm")

-- columns, `x`, lines: digits each, within the limits of a screen (ours)
abbrev pub size_from : Option ℕ → Option ℕ → Option Measure
size_from (Some columns) (Some lines) = within_of (record { columns = columns; lines = lines })
size_from _ _ = None

abbrev pub size_cut : Text → ℕ → Option Measure
size_cut text n = size_from (place_of (take n text)) (place_of (drop (n + 1) text))

unfoldable pub size_named : Text → Option Measure
size_named text = option_and_then (size_cut text) (position (λ byte. byte == 120) text)

-- `auto`, by which the header says which terminal plays (ours)
unfoldable pub is_auto : Text → Bool
is_auto name = bytes_eq name (codes "auto")

-- the size that is asked for, if there is a text (ours)
abbrev pub size_if : Option Text → Result (Option Measure) Unreadable
size_if None = Ok None
size_if (Some text) = after (readable unread.Size (size_named text)) (λ size. Ok (Some size))

-- a VT, which takes no size (ours)
abbrev pub vt_if : Option Text → Played → Result Player Unreadable
vt_if None profile = Ok (Vt profile)
vt_if (Some text) profile = Err unread.Size

-- where the recording stands: in a pair, where a timing file is given, and else in one file (ours)
abbrev pub source_by : Option Text → Source
source_by None = stands.Recording
source_by (Some timing) = Pair

abbrev pub source_in : List Row → Source
source_in rows = source_by (first_of (id_in ItsTiming) rows)

-- which terminal plays where none is named: a VT100 a pair, and one of today a recording of another form (ours)
abbrev pub unnamed_player : Source → Option Text → Result Player Unreadable
unnamed_player Pair size = vt_if size Vt100
unnamed_player stands.Recording size = after (size_if size) (λ asked. Ok (Today asked))

-- which terminal is to play, by where the recording stands, `--profile` and `--size` (ours)
abbrev pub player_by : Source → Option Text → Option Text → Result Player Unreadable
player_by source None size = unnamed_player source size
player_by source (Some name) size =
    if is_today name then after (size_if size) (λ asked. Ok (Today asked))
    else (if is_auto name then after (size_if size) (λ asked. Ok (Auto asked))
    else after (readable unread.Profile (profile_named name)) (vt_if size))

abbrev pub player_in : List Row → Result Player Unreadable
player_in rows = player_by (source_in rows) (first_of (id_in Profile) rows) (first_of (id_in Size) rows)

-- how a screen is printed, by whether `--escaped` and `--state` are given: they exclude each other (ours)
abbrev pub print_by : Bool → Bool → Player → Result Print Unreadable
print_by false false player = Ok (Plain player)
print_by true false player = Ok (print.Escaped player)
print_by false true player = Ok (print.State player)
print_by true true player = Err unread.Prints

-- whether these characters can be looked for: one of them isn't a space, and none is a control character, below U+0020
-- or from U+007F to U+009F (ours)
unfoldable pub is_searchable : List ℕ → Bool
is_searchable text = list_any (λ c. not (c == 32)) text && list_all (λ c. not (is_control c)) text

-- the characters of a text that can be looked for (ours)
abbrev pub searchable : List ℕ → Option (List ℕ)
searchable text = if is_searchable text then Some text else None

abbrev pub searched_in : List Row → Result (List ℕ) Unreadable
searched_in rows = readable unread.Text (searchable (chars (value_in (id_in Sought) rows)))

-- whether these characters can be taken out: they can be looked for, and none is `*`, which is written over them (ours)
unfoldable pub is_secret : List ℕ → Bool
is_secret text = is_searchable text && not (list_any (λ c. c == 42) text)

-- the characters of a text that can be taken out (ours)
abbrev pub secret : List ℕ → Option (List ℕ)
secret text = if is_secret text then Some text else None

abbrev pub secret_in : List Row → Result (List ℕ) Unreadable
secret_in rows = readable unread.Text (secret (chars (value_in (id_in Secret) rows)))

-- whether a flag without a value is given: clap tells `true` then, and else `false` (ours)
abbrev pub switch_in : Text → List Row → Bool
switch_in id rows = bytes_eq (value_in id rows) (codes "true")

-- which line mending takes as the header, by whether `--last` and `--headless` are given: they exclude each other (ours)
abbrev pub header_by : Bool → Bool → Result Header Unreadable
header_by false false = Ok Kept
header_by true false = Ok header.Last
header_by false true = Ok Made
header_by true true = Err unread.Headers

abbrev pub header_in : List Row → Result Header Unreadable
header_in rows = header_by (switch_in (id_in Last) rows) (switch_in (id_in Headless) rows)

-- the job that a subcommand's values mean, or what of them isn't readable (ours)
unfoldable pub job_in : Subcommand → List Row → Result Job Unreadable
job_in Due rows = after (moment_in (id_in At) rows) (λ at. Ok (job.Due at))
job_in Info rows = Ok job.Info
job_in Check rows = after (player_in rows) (λ player. Ok (job.Check player))
job_in Screen rows =
    after (moment_in (id_in At) rows) (λ at. after (player_in rows) (λ player.
    after (print_by (switch_in (id_in Escaped) rows) (switch_in (id_in State) rows) player) (λ how.
    Ok (job.Screen at how))))
job_in Picture rows =
    after (moment_in (id_in At) rows) (λ at. after (player_in rows) (λ player.
    Ok (job.Picture at player)))
job_in Transcript rows =
    after (moment_given_in (id_in From) rows) (λ from. after (moment_given_in (id_in Until) rows) (λ to.
    after (player_in rows) (λ player. Ok (job.Transcript from to player))))
job_in Changes rows =
    after (moment_given_in (id_in From) rows) (λ from. after (moment_in (id_in To) rows) (λ to.
    after (player_in rows) (λ player. Ok (job.Changes from to player))))
job_in Find rows =
    after (moment_given_in (id_in From) rows) (λ from. after (moment_or_last_in (id_in Until) rows) (λ to.
    after (player_in rows) (λ player. after (searched_in rows) (λ text.
    Ok (job.Find from to player)))))
job_in Reports rows =
    after (moment_in (id_in At) rows) (λ at. after (player_in rows) (λ player.
    Ok (job.Reports at player)))
job_in Page rows = after (player_in rows) (λ player. Ok (job.Page player))
job_in Cast rows = after (player_in rows) (λ player. Ok (job.Cast player))
job_in Save rows = Ok job.Save
job_in Cut rows =
    after (moment_in (id_in CutFrom) rows) (λ from. after (moment_in (id_in CutTo) rows) (λ to.
    after (player_in rows) (λ player. Ok (job.Cut from to player))))
job_in Excerpt rows =
    after (moment_or_first_in (id_in KeptFrom) rows) (λ from. after (moment_given_in (id_in KeptTo) rows) (λ to.
    after (player_in rows) (λ player. Ok (job.Excerpt from to player))))
job_in Mend rows = after (header_in rows) (λ how. Ok (job.Mend how))
job_in Import rows = Ok job.Import
job_in Redact rows =
    after (player_in rows) (λ player. after (secret_in rows) (λ text.
    Ok (job.Redact player)))
job_in Session rows =
    after (every_in rows) (λ every. after (player_in rows) (λ player.
    Ok (job.Session every player)))

-- ---- what clap is told

-- a command with more arguments (ours)
abbrev pub with_rules : App → List Rule → App
with_rules a rules = record a { top = record a.top { rules = a.top.rules ++ rules } }

-- a subcommand: its flags, its texts, and then its paths (ours)
unfoldable pub app_in : Subcommand → App
app_in s =
    with_rules (with_rules (with_rules (new_app (name_in s)) (map rule_in (flags_in s)))
    (map rule_in (texts_in s))) (map rule_in (paths_in s))

-- the program's name and version, and that a subcommand must follow (ours)
abbrev pub top_app : App
top_app = record {
  top = record (new_app (codes "typetool")).top {
    has_version = true;
    arg_required_else_help = true;
    subcommand_required = true;
  };
  subs = [];
}

-- a command with these subcommands (ours)
abbrev pub with_subcommands : App → List Subcommand → App
with_subcommands a list = fold (λ app s. with_subcommand app (app_in s).top) a list

-- the whole command line (ours)
unfoldable pub typetool_app : App
typetool_app = with_subcommands top_app subcommands_in_order

-- the kinds of fault that clap finds in these words: none where it reads them (ours)
unfoldable pub clap_faults : List Text → Kinds
clap_faults words = fault_of typetool_app words

-- whether clap promises to take these words (ours)
unfoldable pub clap_takes : List Text → Bool
clap_takes words = takes typetool_app words

-- the name and the values of the subcommand that clap finds in these words (ours)
unfoldable pub subcommand_in : List Text → Option (Text × List Row)
subcommand_in words = subcommand_of typetool_app words

-- Private: the name is that of one of these subcommands (ours)
abbrev pub IsNamed : Option Text → List Shape → Type 0
IsNamed name [] = ⊥
IsNamed name (s ∷ rest) = (name ≡ Some s.name) ⊎ IsNamed name rest

-- ---- what the words mean

-- a job, the characters of the text beside it, where the recording stands, and the paths in the line's order (ours)
pub record Meaning : Type 0 where
  pub job : Job
  pub text : List ℕ
  pub source : Source
  pub paths : List Text

-- the name of a path without its ending: its last part up to the last point, where something stands before that (ours)
unfoldable pub stem_of : Text → Text
stem_of path = unwrap_or (path_file_stem path) []

-- the title of a page: the one that is given, and else the name of the script without its ending (ours)
abbrev pub title_in : List Row → Text
title_in rows = unwrap_or (first_of (id_in Title) rows) (stem_of (value_in (id_in Recorded) rows))

-- the characters of the text beside a job: what `find` looks for, what `redact` takes out, the title of a page, and none
-- for the others (ours)
unfoldable pub text_in : Subcommand → List Row → List ℕ
text_in Find rows = chars (value_in (id_in Sought) rows)
text_in Redact rows = chars (value_in (id_in Secret) rows)
text_in Page rows = chars (title_in rows)
text_in _ rows = []

-- what a subcommand means with these values, or what of them isn't readable (ours)
abbrev pub meaning_in : Subcommand → List Row → Result Meaning Unreadable
meaning_in s rows = after (job_in s rows) (λ job. Ok (record {
  job = job;
  text = text_in s rows;
  source = source_in rows;
  paths = map (λ a. value_in (id_in a) rows) (paths_in s);
}))

-- what a subcommand means by its name and its values (ours)
abbrev pub meaning_of : Text × List Row → Option (Result Meaning Unreadable)
meaning_of met = option_map (λ s. meaning_in s met.1)
    (find (λ s. bytes_eq (name_in s) met.0) subcommands_in_order)

-- what a command line means (ours)
unfoldable pub meaning_of_words : List Text → Option (Result Meaning Unreadable)
meaning_of_words words = option_and_then meaning_of (subcommand_in words)

-- the job, the text and the paths that were read (ours)
abbrev pub meaning_read : Words → Meaning
meaning_read words =
    record { job = words.job; text = words.text.items; source = words.source; paths = map string_bytes words.paths.items }

-- how many paths a job has (ours)
abbrev pub path_count : Job → ℕ
path_count job.Save = 4
path_count (job.Cut from to player) = 4
path_count (job.Excerpt from to player) = 4
path_count (job.Mend how) = 4
path_count job.Import = 3
path_count (job.Redact player) = 4
path_count _ = 2

-- which terminal a screen is of (ours)
abbrev pub player_of : Print → Player
player_of (Plain player) = player
player_of (print.Escaped player) = player
player_of (print.State player) = player

-- which terminal plays the recording for a job, if it plays it (ours)
abbrev pub played_by : Job → Option Player
played_by (job.Screen at print) = Some (player_of print)
played_by (job.Picture at player) = Some player
played_by (job.Transcript from to player) = Some player
played_by (job.Changes from to player) = Some player
played_by (job.Find from to player) = Some player
played_by (job.Reports at player) = Some player
played_by (job.Page player) = Some player
played_by (job.Cast player) = Some player
played_by (job.Cut from to player) = Some player
played_by (job.Excerpt from to player) = Some player
played_by (job.Redact player) = Some player
played_by (job.Session every player) = Some player
played_by _ = None

-- Private: the fault of words that clap takes and that aren't readable (ours)
abbrev pub fault_of_unread : Unreadable → WordsFault
fault_of_unread unread.Seconds = BadSeconds
fault_of_unread unread.Every = BadEvery
fault_of_unread unread.Profile = BadProfile
fault_of_unread unread.Size = BadSize
fault_of_unread unread.Text = BadText
fault_of_unread unread.Headers = BothHeaders
fault_of_unread unread.Prints = BothPrints

-- clap reads these words, and this of them isn't readable (ours)
abbrev pub IsUnreadable : List Text → Unreadable → Type 0
IsUnreadable words fault =
    (clap_faults words ≡ []) × (meaning_of_words words ≡ Some (Err fault))

-- why words aren't a job: clap finds a fault of that kind in them and doesn't promise to take them, or it reads them
-- and some seconds aren't readable, or the number of chunks, the profile, the size, or the text, or two headers or
-- two texts of a screen are asked for; memory may always be refused (ours)
abbrev pub FailsFor : List Text → WordsFault → Type 0
FailsFor words (Clap e) = IsAmong (kind_of e) (clap_faults words) × (clap_takes words ≡ false)
FailsFor words Memory = Unit {0}
FailsFor words BadSeconds = IsUnreadable words unread.Seconds
FailsFor words BadEvery = IsUnreadable words unread.Every
FailsFor words BadProfile = IsUnreadable words unread.Profile
FailsFor words BadSize = IsUnreadable words unread.Size
FailsFor words BadText = IsUnreadable words unread.Text
FailsFor words BothHeaders = IsUnreadable words unread.Headers
FailsFor words BothPrints = IsUnreadable words unread.Prints
