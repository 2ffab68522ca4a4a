use Rattle.std.proofs.Common.{◌-◌, sym, subst, arith}
use Rattle.sheet.specs.Cells.{Cell}
use Rattle.xterm_rows.specs.Letters.{AreJoined, AreParted, AreUnlike}
use Rattle.xterm_rows.specs.Runs.{cell_behind}
use Rattle.xterm_rows.proofs.LetterLemmas.{joined_go_on, parted_begin, unlike_begin}
use Rattle.xterm_rows.proofs.runs.begins.Goals as goal

pub returns-then-are_joined : goal.returns-then-are_joined
returns-then-are_joined c =
    let cells = c.args.cells.now in
    let at = c.args.at in
    let one = c.cell_behind.result in
    let told : AreJoined one c.cell_behind-then-at-gt0.result = c.are_joined.ensures c.if-are_joined.true in
    sym (joined_go_on cells at (omega (arith, c.if-at-gt0.true))
    (subst (λ (cell : Cell). AreJoined cell (cell_behind cells at)) c.cell_behind.ensures
    (subst (λ (cell : Cell). AreJoined one cell) c.cell_behind-then-at-gt0.ensures told)))

pub returns-then-are_parted : goal.returns-then-are_parted
returns-then-are_parted c =
    let cells = c.args.cells.now in
    let at = c.args.at in
    let one = c.cell_behind-then-at-gt0-2.result in
    let told : AreParted one c.cell_behind-then-at-gt0-2-2.result = c.are_parted.ensures c.if-are_parted.true in
    sym (parted_begin cells at (omega (arith, c.if-at-gt0-2.true))
    (subst (λ (cell : Cell). AreParted cell (cell_behind cells at)) c.cell_behind-then-at-gt0-2.ensures
    (subst (λ (cell : Cell). AreParted one cell) c.cell_behind-then-at-gt0-2-2.ensures told)))

pub returns-then-is_one_drawn : goal.returns-then-is_one_drawn
returns-then-is_one_drawn c =
    let cells = c.args.cells.now in
    let at = c.args.at in
    let one = c.cell_behind-then-at-gt0-3.result in
    let told : AreUnlike one c.cell_behind-then-at-gt0-3-2.result = c.is_one_drawn.ensures c.if-is_one_drawn.true in
    sym (unlike_begin cells at (omega (arith, c.if-at-gt0-3.true))
    (subst (λ (cell : Cell). AreUnlike cell (cell_behind cells at)) c.cell_behind-then-at-gt0-3.ensures
    (subst (λ (cell : Cell). AreUnlike one cell) c.cell_behind-then-at-gt0-3-2.ensures told)))
