use Rattle.std.proofs.Common.{◌≡◌, ◌∙◌, length, ap, sym, subst}
use Rattle.std.specs.Fmt.{decimal}
use Rattle.chunk_walk.specs.ChangeLine.{change_line}
use Rattle.tape_core.specs.Devices.{Gave}
use Rattle.xterm_print.specs.ChangeLines.{rows_by}
use Rattle.xterm_print.specs.Kept.{AreApart, AreKept}
use Rattle.xterm_print.proofs.ShownLemmas.{kept_on, lines_told, screen_told, written_back}
use Rattle.xterm_print.proofs.change_lines.ChangedRowsVisitorTerminal.visit.Goals as goal

pub catch_up-requires-clause-known : goal.catch_up-requires-clause-known
catch_up-requires-clause-known g c = subst (AreApart c.args.kept.now.apart) (sym c.as_mut_slice.ensures.value) c.requires.2.1

pub returns-then-len-lines-clause-gave : goal.returns-then-len-lines-clause-gave
returns-then-len-lines-clause-gave g c = λ profile before after both shows told.
    let s = c.screen-screen.result.now in
    let terminal = c.args.terminal.now in
    let rows = rows_by profile before in
    let here = screen_told s terminal rows c.screen-screen.ensures.value c.screen-screen.ensures.touched told in
    subst (λ lines. Gave g.W.Write.contents c.args.writer.now c.put_change.new.writer (change_line decimal c.args.index c.args.due lines))
    (lines_told c.size_stays.ensures s.picture terminal profile before after c.as_mut_slice.result.now c.as_slice.result.now c.screen-screen.ensures.value
    (subst (λ rows. AreKept profile rows before) (sym c.as_mut_slice.ensures.value) both.0) shows
    (λ follow. c.as_slice.ensures.value ∙ c.catch_up.ensures.changed rows here follow))
    c.put_change.ensures

pub returns-then-len-lines-clause-keeps : goal.returns-then-len-lines-clause-keeps
returns-then-len-lines-clause-keeps g c = λ profile before after both shows told.
    let s = c.screen-screen.result.now in
    let terminal = c.args.terminal.now in
    let rows = rows_by profile before in
    let here = screen_told s terminal rows c.screen-screen.ensures.value c.screen-screen.ensures.touched told in
    let new = c.catch_up.new.rows in
    let follows = kept_on c.size_stays.ensures s.picture terminal profile before after c.as_mut_slice.result.now new c.screen-screen.ensures.value
    (subst (λ rows. AreKept profile rows before) (sym c.as_mut_slice.ensures.value) both.0) shows (c.catch_up.ensures.caught rows here) in
    let long = c.as_mut_slice.ensures.len in
    let old : length c.args.kept.now.rows.items ≡ c.args.kept.now.rows.len = sym (ap length c.as_mut_slice.ensures.value) ∙ long in
    let same = follows.lines ∙ sym both.0.lines ∙ old in
    let written = written_back c.args.kept.now.rows.len new c.args.kept.now.rows.items same old in
    (subst (λ rows. AreKept profile rows after) written follows, subst (AreApart c.catch_up.new.apart) written c.catch_up.ensures.known)
