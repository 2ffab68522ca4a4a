use Rattle.std.proofs.Common.{sym, subst}
use Rattle.held.specs.Held.{Wrote}
use Rattle.xterm_page.proofs.StringLemmas.{one_number, no_numbers, three_numbers, two_numbers}
use Rattle.held.proofs.HeldLemmas.{wrote_both, wrote_none}
use Rattle.xterm_page.proofs.rows.put_numbers.Goals as goal

pub returns-then-paper-ne0 : goal.returns-then-paper-ne0
returns-then-paper-ne0 g c =
    let a = c.args in
    subst (Wrote g.W.Write.contents a.writer.now a.held.now.items c.put_comma_number-then-paper-ne0-2.new.writer c.put_comma_number-then-paper-ne0-2.new.held.items) (sym (three_numbers a.kind a.ink a.paper c.if-paper-ne0.true))
    (wrote_both c.put_comma_number-then-paper-ne0-2.ensures (wrote_both c.put_comma_number-then-paper-ne0.ensures c.put_comma_number.ensures))

pub returns-then-ink-ne0 : goal.returns-then-ink-ne0
returns-then-ink-ne0 g c =
    let a = c.args in
    subst (Wrote g.W.Write.contents a.writer.now a.held.now.items c.put_comma_number-then-ink-ne0-2.new.writer c.put_comma_number-then-ink-ne0-2.new.held.items) (sym (two_numbers a.kind a.ink a.paper c.if-paper-ne0.false c.if-ink-ne0.true))
    (wrote_both c.put_comma_number-then-ink-ne0-2.ensures c.put_comma_number-then-ink-ne0.ensures)

pub returns-then-kind-eq0 : goal.returns-then-kind-eq0
returns-then-kind-eq0 g c =
    let a = c.args in
    subst (Wrote g.W.Write.contents a.writer.now a.held.now.items a.writer.now a.held.now.items) (sym (no_numbers a.kind a.ink a.paper c.if-paper-ne0.false c.if-ink-ne0.false c.if-kind-eq0.true))
    (wrote_none a.writer.now a.held.now.items)

pub returns : goal.returns
returns g c =
    let a = c.args in
    subst (Wrote g.W.Write.contents a.writer.now a.held.now.items c.put_comma_number-2.new.writer c.put_comma_number-2.new.held.items) (sym (one_number a.kind a.ink a.paper c.if-paper-ne0.false c.if-ink-ne0.false c.if-kind-eq0.false))
    c.put_comma_number-2.ensures
