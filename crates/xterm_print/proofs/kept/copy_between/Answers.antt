use Rattle.xterm_print.proofs.SameLemmas.{copied_between}
use Rattle.xterm_print.proofs.kept.copy_between.Goals as goal

pub returns : goal.returns
returns c =
    copied_between c.args.cells.now c.args.others.now c.copy_from_slice.new.self c.args.from c.args.to c.requires.long c.requires.apart
    c.requires.before c.requires.behind c.copy_from_slice.ensures.after
