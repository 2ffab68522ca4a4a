use Rattle.std.proofs.Common.{◌≡◌, ◌+◌, ◌-◌, ◌∷◌, ◌++◌, ◌∙◌, [], Some, ap, append-nil, arith, map, subst, sym}
use Rattle.std.specs.List.{flat_map, range_with_len}
use Rattle.std.proofs.lemmas.List.Concat.{flat_map-append}
use Rattle.std.proofs.lemmas.List.Elements.{All-append, All-cons, All-nil}
use Rattle.xterm_page.specs.Parts.{AreLines, AreNumbered, IsNumbered, IsWithin, come_told, told}
use Rattle.xterm_page.specs.declared.kept.Block.{Block}
use Rattle.xterm_page.specs.declared.kept.Renewal.TheVariants.{Moved}
use Rattle.xterm_page.proofs.kept.push_block.Goals as goal

pub returns-then-end-from-clause-told : goal.returns-then-end-from-clause-told
returns-then-end-from-clause-told c =
    let none : c.args.end - c.args.from ≡ 0 = omega (arith, c.if-end-from.true) in
    sym (ap (λ n. flat_map told c.args.changed.now.items ++ map (λ line. (line, Some (line + c.args.shift))) (range_with_len c.args.from n)) none ∙ append-nil (flat_map told c.args.changed.now.items))

pub returns-clause-told : goal.returns-clause-told
returns-clause-told c =
    let old = c.args.changed.now.items in
    let come = come_told c.args.from c.args.end c.args.shift in
    let block : Block = record { from = c.args.from; end = c.args.end; shift = c.args.shift } in
    ap (flat_map told) c.in_ok-push.ensures.items ∙ flat_map-append told old (Moved block ∷ []) ∙ ap (λ l. flat_map told old ++ l) (append-nil come)

pub returns-clause-lines : goal.returns-clause-lines
returns-clause-lines c = λ are.
    let old = c.args.changed.now.items in
    let block : Block = record { from = c.args.from; end = c.args.end; shift = c.args.shift } in
    let come = c.requires.come (omega (arith, c.if-end-from.false)) in
    let inside : IsWithin c.args.lines (Moved block) = record { low = c.requires.low; some = omega (arith, c.if-end-from.false); up = come.0; high = come.1 } in
    subst (AreLines c.args.lines) (sym c.in_ok-push.ensures.items)
    (All-append (IsWithin c.args.lines) old (Moved block ∷ []) are (All-cons (IsWithin c.args.lines) (Moved block) [] inside (All-nil (IsWithin c.args.lines))))

pub returns-clause-numbers : goal.returns-clause-numbers
returns-clause-numbers c = λ rows are.
    let old = c.args.changed.now.items in
    let block : Block = record { from = c.args.from; end = c.args.end; shift = c.args.shift } in
    subst (AreNumbered rows) (sym c.in_ok-push.ensures.items)
    (All-append (IsNumbered rows) old (Moved block ∷ []) are (All-cons (IsNumbered rows) (Moved block) [] tt (All-nil (IsNumbered rows))))
