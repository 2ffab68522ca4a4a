use Rattle.xterm_transcript.proofs.PartLemmas.{rows_nothing, rows_parts}
use Rattle.xterm_transcript.proofs.transcribes.TranscriberTranscribes.laws.Goals as goal

pub returns-clause-nothing : goal.returns-clause-nothing
returns-clause-nothing c = rows_nothing

pub returns-clause-parts : goal.returns-clause-parts
returns-clause-parts c = rows_parts
