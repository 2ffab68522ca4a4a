use Rattle.std.proofs.Common.{◌<◌, ◌∙◌, length, arith}
use Rattle.clap.specs.Words.{AddsArg, app_of}
use Rattle.command_line.proofs.CommandLemmas.{with_rules_more}
use Rattle.command_line.proofs.words.command.with_arguments.Goals as goal

pub loop-argument-preserved : goal.loop-argument-preserved
loop-argument-preserved c =
    let arguments = c.args.arguments.now in
    let at = c.loop-argument.argument-index in
    let below : at < length arguments = omega arith in
    let added : AddsArg c.loop-argument.more c.arg_of.result c.in_ok-more.more = c.in_ok-more.ensures in (
      added.shape c.arg_of.ensures.local
          ∙ with_rules_more (app_of c.loop-argument.more) (app_of c.args.command) arguments at _ _ below
          c.arg_of.ensures.rule c.loop-argument.invariant.0,
      rw (c.loop-argument.invariant.1, c.arg_of.ensures.local) at added.globals,
    )
