use Rattle.std.proofs.Common.{◌++◌, ◌∙◌, List, ap₂}
use Rattle.std.proofs.lemmas.List.{take-append-drop}
use Rattle.sheet.specs.Cells.{Cell}
use Rattle.xterm_page.proofs.kept.copy_front.Goals as goal

pub returns : goal.returns
returns c =
    ap₂ (λ (a b : List Cell). a ++ b) c.copy_from_slice.ensures.after c.requires.behind ∙ take-append-drop c.args.end c.args.others.now
