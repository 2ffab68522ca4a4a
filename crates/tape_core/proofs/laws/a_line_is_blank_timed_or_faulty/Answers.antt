use Rattle.tape_core.specs.Text.{fields}
use Rattle.tape_core.proofs.FaultLemmas.{blank_read, entry_within, faulty_line}
use Rattle.tape_core.proofs.LineLemmas.{timing_line}
use Rattle.tape_core.proofs.laws.a_line_is_blank_timed_or_faulty.Goals as goal

pub returns-clause-blank : goal.returns-clause-blank
returns-clause-blank c = λ text h. blank_read text h

pub returns-clause-timed : goal.returns-clause-timed
returns-clause-timed c = λ text entry h. (timing_line text entry h, entry_within (fields text) entry h)

pub returns-clause-faulty : goal.returns-clause-faulty
returns-clause-faulty c = λ text fault h. faulty_line text fault h
