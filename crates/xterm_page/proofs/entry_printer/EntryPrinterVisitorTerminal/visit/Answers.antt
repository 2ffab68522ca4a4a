use Rattle.std.proofs.Common.{◌≡◌, ◌∙◌, List, ℕ, length, ap, ap₂, sym, subst, arith}
use Rattle.std.specs.List.{flat_map}
use Rattle.tape_core.specs.Devices.{Gave}
use Rattle.sheet.specs.Cells.{Cell}
use Rattle.sheet.specs.Grid.{AreMarked as MarksTell}
use Rattle.xterm_screen.specs.Picture.{Picture}
use Rattle.xterm_term.specs.Console.{Console}
use Rattle.xterm_print.proofs.ShownLemmas.{written_back}
use Rattle.xterm_page.specs.Entries.{console_by, entry_of}
use Rattle.xterm_page.specs.EntryText.{next_text}
use Rattle.xterm_page.specs.Parts.{AreDistinct, AreLines, AreNumbered, AreWide, KeptAll, renewed, told}
use Rattle.xterm_page.proofs.KeptLemmas.{kept_by, wide_by}
use Rattle.xterm_page.proofs.entry_printer.EntryPrinterVisitorTerminal.visit.Goals as goal

pub changed_rows-requires : goal.changed_rows-requires
changed_rows-requires g c = omega (arith, c.as_slice.ensures.len, c.len.ensures, c.if-len-lines.true, c.lines.ensures.value)

pub put_entry-requires : goal.put_entry-requires
put_entry-requires g c =
    subst (λ (p : Picture). AreLines p.lines c.as_slice-then-len-lines.result.now) c.screen-screen.ensures.value
    (subst (AreLines c.screen-screen.result.now.picture.lines) (sym c.as_slice-then-len-lines.ensures.value) c.in_ok-changed.ensures.lines)

pub catch_up-requires : goal.catch_up-requires
catch_up-requires g c =
    let p = c.screen-screen.result.now.picture in
    record {
      rows = omega (arith, c.as_mut_slice.ensures.len, c.len.ensures, c.if-len-lines.true, c.lines.ensures.value);
      lines = subst (AreLines p.lines) (sym c.as_slice-then-len-lines-2.ensures.value) c.in_ok-changed.ensures.lines;
      numbers = subst (AreNumbered p.rows) (sym c.as_slice-then-len-lines-2.ensures.value) c.in_ok-changed.ensures.numbers;
    }

pub returns-in_ok-changed-clause-gave : goal.returns-in_ok-changed-clause-gave
returns-in_ok-changed-clause-gave g c = λ profile before after are shows tells.
    let p = c.screen-screen.result.now.picture in
    let was = c.as_slice.ensures.value ∙ are.all.rows in
    let old_rows = (console_by profile.columns profile.lines before).picture.rows in
    let marks : MarksTell c.as_slice.result.now c.screen-screen.result.now.origins p.rows =
    subst (λ (rows : List (List Cell)). MarksTell rows c.screen-screen.result.now.origins p.rows) (sym was)
    (subst (λ (q : Picture). MarksTell old_rows c.screen-screen.result.now.origins q.rows) (sym c.screen-screen.ensures.value)
    (subst (λ (t : List ℕ). MarksTell old_rows t c.args.terminal.now.console.picture.rows) (sym c.screen-screen.ensures.touched) tells)) in
    let changed = ap (flat_map told) c.as_slice-then-len-lines.ensures.value ∙ c.in_ok-changed.ensures.changed marks (subst (λ rows. AreDistinct rows c.args.kept.now.distinct) (sym c.as_slice.ensures.value) are.apart)
    ∙ ap (λ (rows : List (List Cell)). renewed c.screen-screen.result.now.origins p.lines rows p.rows) was
    ∙ ap₂ (λ (t : List ℕ) (q : Picture). renewed t q.lines old_rows q.rows) c.screen-screen.ensures.touched c.screen-screen.ensures.value in
    subst (Gave g.W.Write.contents c.args.writer.now c.put_entry.new.writer)
    (ap (λ (s : Console). next_text (entry_of c.args.due old_rows s)) (sym shows.console))
    (c.put_entry.ensures old_rows tells changed)

pub returns-in_ok-changed-clause-keeps : goal.returns-in_ok-changed-clause-keeps
returns-in_ok-changed-clause-keeps g c = λ profile before after are shows tells.
    let p = c.screen-screen.result.now.picture in
    let is = c.screen-screen.ensures.value in
    let new = c.catch_up.new.rows in
    let law = c.size_stays.ensures in
    let was = c.as_mut_slice.ensures.value ∙ are.all.rows in
    let old_rows = (console_by profile.columns profile.lines before).picture.rows in
    let marks : MarksTell c.as_mut_slice.result.now c.screen-screen.result.now.origins p.rows =
    subst (λ (rows : List (List Cell)). MarksTell rows c.screen-screen.result.now.origins p.rows) (sym was)
    (subst (λ (q : Picture). MarksTell old_rows c.screen-screen.result.now.origins q.rows) (sym is)
    (subst (λ (t : List ℕ). MarksTell old_rows t c.args.terminal.now.console.picture.rows) (sym c.screen-screen.ensures.touched) tells)) in
    let wide = wide_by law p c.args.terminal.now profile after c.as_mut_slice.result.now is shows
    (subst (λ rows. AreWide profile.lines profile.columns rows) (sym c.as_mut_slice.ensures.value) are.all.columns) in
    let copied = c.as_slice.ensures.value ∙ sym c.as_mut_slice.ensures.value in
    let changed = ap (flat_map told) c.as_slice-then-len-lines-2.ensures.value
    ∙ c.in_ok-changed.ensures.changed (subst (λ (rows : List (List Cell)). MarksTell rows c.screen-screen.result.now.origins p.rows) (sym copied) marks)
    (subst (λ rows. AreDistinct rows c.args.kept.now.distinct) (sym c.as_slice.ensures.value) are.apart)
    ∙ ap (λ (rows : List (List Cell)). renewed c.screen-screen.result.now.origins p.lines rows p.rows) copied in
    let kept = c.catch_up.ensures wide marks changed in
    let follows = kept_by law p c.args.terminal.now profile after new is shows kept in
    let long = c.as_mut_slice.ensures.len in
    let rows = c.args.kept.now.rows in
    let old : length rows.items ≡ rows.len = sym (ap length c.as_mut_slice.ensures.value) ∙ long in
    let same = follows.lines ∙ sym are.all.lines ∙ old in
    let listed = c.as_slice-then-len-lines-3.ensures.value in
    let apart = c.distinct_after-kept.ensures c.screen-screen.result.now.origins p.lines c.as_mut_slice.result.now p.rows marks
    (omega (arith, c.as_mut_slice.ensures.len, c.len.ensures, c.if-len-lines.true, c.lines.ensures.value)) (ap length (sym kept.rows) ∙ kept.lines)
    (subst (AreLines p.lines) (sym listed) c.in_ok-changed.ensures.lines)
    (ap (flat_map told) (listed ∙ sym c.as_slice-then-len-lines-2.ensures.value) ∙ changed)
    (subst (λ rows. AreDistinct rows c.args.kept.now.distinct) (sym c.as_mut_slice.ensures.value) are.apart) in
    let back = written_back rows.len new rows.items same old in
    record {
      all = subst (λ rows. KeptAll profile.lines profile.columns rows (console_by profile.columns profile.lines after).picture.rows) back follows;
      apart = subst (λ rows. AreDistinct rows c.distinct_after-kept.result) (sym kept.rows ∙ back) apart;
    }
