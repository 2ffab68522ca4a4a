use Rattle.std.proofs.Common.{sym, ◌∙◌}
use Rattle.tape_import.specs.ImportedFile.{import_of}
use Rattle.tape_import.proofs.RefusalLemmas.{refused_by, whole_by}
use Rattle.tape_import.proofs.refusal.import_whole.Goals as goal

pub returns-in-Some-clause-refusal : goal.returns-in-Some-clause-refusal
returns-in-Some-clause-refusal c = λ other.
    refused_by (import_of c.args.file.now.value.items) c.in-Ok.imported.recording c.in-Ok.imported.losses c.in-Some.refusal c.in-Ok.ensures.ok
    (sym c.first_fault.ensures ∙ c.in-Some.is)

pub returns-in-None-clause-whole : goal.returns-in-None-clause-whole
returns-in-None-clause-whole c =
    whole_by (import_of c.args.file.now.value.items) c.in-Ok.imported.recording c.in-Ok.imported.losses c.in-Ok.ensures.ok
    (sym c.first_fault.ensures ∙ c.in-None.is)
