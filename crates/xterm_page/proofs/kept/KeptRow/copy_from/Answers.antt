use Rattle.std.proofs.Common.{◌≡◌, ◌∙◌, ap, arith, drop, length}
use Rattle.xterm_page.proofs.UsedLemmas.{used_behind}
use Rattle.xterm_page.proofs.kept.KeptRow.copy_from.Goals as goal

pub copy_front-requires-clause-behind : goal.copy_front-requires-clause-behind
copy_front-requires-clause-behind c =
    let items = c.self.inside.cells.items in
    let end = c.max-end.result in
    let long : length items ≡ length c.args.cells.now = omega (arith, c.len.ensures, c.self.inside.cells.ok.0, c.if-len-cells.true) in
    ap (drop end) c.as_mut_slice.ensures.value
    ∙ used_behind items c.args.cells.now end c.self.inside.used c.args.used long c.self.invariant.used c.requires.used
    (omega (arith, c.max-end.ensures)) (omega (arith, c.max-end.ensures))
