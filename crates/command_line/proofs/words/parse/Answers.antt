use Rattle.std.proofs.Common.{◌≢◌, ap, ◌∙◌, Ok, Err, inl, inr}
use Rattle.clap.specs.Words.{App, kind_of}
use Rattle.clap.specs.declared.ArgMatches.{ArgMatches}
use Rattle.clap.specs.declared.error.ErrorKind.TheVariants.{OutOfMemory}
use Rattle.clap.proofs.CallerLemmas.{subcommand_required}
use Rattle.command_line.proofs.CommandLemmas.{fails_by, met_by, named_by, not_taken, needs_subcommand}
use Rattle.command_line.proofs.words.parse.Goals as goal

pub returns-in-Ok-clause-taken : goal.returns-in-Ok-clause-taken
returns-in-Ok-clause-taken c = fails_by _ _ (Ok c.in-Ok.matches) c.in_ok-command.ensures.app c.in-Ok.ensures.kinds

pub returns-in-Ok-clause-met : goal.returns-in-Ok-clause-met
returns-in-Ok-clause-met c = met_by _ _ c.in-Ok.matches c.in_ok-command.ensures.app c.in-Ok.ensures.matches

pub returns-in-Ok-clause-named : goal.returns-in-Ok-clause-named
returns-in-Ok-clause-named c =
    named_by _ c.in-Ok.matches (fails_by _ _ (Ok c.in-Ok.matches) c.in_ok-command.ensures.app c.in-Ok.ensures.kinds)
    (met_by _ _ c.in-Ok.matches c.in_ok-command.ensures.app c.in-Ok.ensures.matches)
    (subcommand_required c.in_ok-command.command c.in-Ok.matches c.in-Ok.ensures.parsed c.in_ok-command.ensures.local
    (ap (λ (a : App). a.top.subcommand_required) c.in_ok-command.ensures.app ∙ needs_subcommand))

pub returns-clause-fault : goal.returns-clause-fault
returns-clause-fault c =
    let other : kind_of c.in-Err.error ≢ OutOfMemory = λ e. c.in_default.not-OutOfMemory (c.kind.ensures ∙ e) in (
      elim (fails_by {T = ArgMatches} _ _ (Err c.in-Err.error) c.in_ok-command.ensures.app c.in-Err.ensures.kinds) [
        | inl e ↦ absurd (other e)
        | inr among ↦ among
      ],
      not_taken _ _ c.in-Err.error c.in_ok-command.ensures.app c.in-Err.ensures.passes other,
    )
