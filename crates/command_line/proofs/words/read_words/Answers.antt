use Rattle.std.proofs.Common.{◌∙◌, Some, ap, arith, map, string_bytes, sym}
use Rattle.clap.specs.Words.{found_of, rows_of}
use Rattle.command_line.proofs.CommandLemmas.{enough_paths, fails_unread, means, means_fault, means_job}
use Rattle.command_line.proofs.words.read_words.Goals as goal

pub returns-in-Ok-clause-meaning : goal.returns-in-Ok-clause-meaning
returns-in-Ok-clause-meaning c =
    let s = c.subcommand_of-subcommand.result.0 in
    let rows = rows_of (found_of c.subcommand_of-subcommand.result.1.now) in
    means (map string_bytes c.args.words.now) s rows (sym c.in_ok-matches.ensures.met ∙ c.subcommand_of-subcommand.ensures)
    ∙ ap (λ m. Some m) (means_job s rows c.in-Ok.job c.in_ok-text-in-Ok.text.items c.read_source-source.result
    (map string_bytes c.in_ok-paths-in-Ok.paths.items) (sym c.in-Ok.ensures) c.in_ok-text-in-Ok.ensures c.read_source-source.ensures c.in_ok-paths-in-Ok.ensures.paths)

pub returns-in-Ok-clause-paths : goal.returns-in-Ok-clause-paths
returns-in-Ok-clause-paths c =
    let s = c.subcommand_of-subcommand.result.0 in
    let rows = rows_of (found_of c.subcommand_of-subcommand.result.1.now) in
    omega (arith, c.in_ok-paths-in-Ok.ensures.len, enough_paths s rows c.in-Ok.job (sym c.in-Ok.ensures))

pub returns-clause-fault : goal.returns-clause-fault
returns-clause-fault c =
    let s = c.subcommand_of-subcommand.result.0 in
    let rows = rows_of (found_of c.subcommand_of-subcommand.result.1.now) in
    let unread = c.in-Err.unread in
    rw c.fault_of_unread.ensures
    (fails_unread (map string_bytes c.args.words.now) unread c.in_ok-matches.ensures.taken
    (means (map string_bytes c.args.words.now) s rows (sym c.in_ok-matches.ensures.met ∙ c.subcommand_of-subcommand.ensures)
    ∙ ap (λ m. Some m) (means_fault s rows unread (sym c.read_job.ensures ∙ c.in-Err.is))))
