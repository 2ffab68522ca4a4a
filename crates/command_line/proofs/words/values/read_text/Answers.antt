use Rattle.std.proofs.Common.{rules}
use Rattle.std.proofs.lemmas.Str.{chars_from_encodes}
use Rattle.command_line.specs.CommandLine.{text_in}
use Rattle.command_line.proofs.words.values.read_text.Goals as goal

pub returns-in-Find : goal.returns-in-Find
unfolding text_in
returns-in-Find c = search (rules, chars_from_encodes)

pub returns-in-Page : goal.returns-in-Page
unfolding text_in
returns-in-Page c = search (rules, chars_from_encodes)

pub returns-in-Redact : goal.returns-in-Redact
unfolding text_in
returns-in-Redact c = search (rules, chars_from_encodes)
