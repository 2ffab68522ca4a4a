-- A line of any job, and the values that are plain words.
use Rattle.command_line.proofs.FlagValues.{number_in_digits, number_is_plain, seconds_are_plain, size_is_plain}
use Rattle.command_line.proofs.LineLemmas.{line_means}
use Rattle.command_line.proofs.laws.plain_lines_are_read.Goals as goal

pub returns-clause-lines : goal.returns-clause-lines
returns-clause-lines c = line_means

pub returns-clause-seconds : goal.returns-clause-seconds
returns-clause-seconds c = seconds_are_plain

pub returns-clause-number : goal.returns-clause-number
returns-clause-number c = λ text count e. number_is_plain text (number_in_digits text count e)

pub returns-clause-size : goal.returns-clause-size
returns-clause-size c = size_is_plain
