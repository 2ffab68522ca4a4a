use Rattle.std.proofs.Common.{◌≡◌, ◌+◌, ◌-◌, ◌∷◌, ◌++◌, ◌∙◌, ℕ, [], Option, Some, ap, append_assoc, arith, map, subst, sym}
use Rattle.std.specs.List.{flat_map}
use Rattle.std.proofs.lemmas.List.Concat.{flat_map-append}
use Rattle.std.proofs.lemmas.List.Elements.{All-append, All-cons, All-nil}
use Rattle.xterm_rows.proofs.RangeLemmas.{range_first}
use Rattle.xterm_page.specs.Parts.{AreLines, AreNumbered, IsNumbered, IsWithin, come_told, told}
use Rattle.xterm_page.specs.declared.kept.Renewal.{Renewal}
use Rattle.xterm_page.specs.declared.kept.Renewal.TheVariants.{Line}
use Rattle.xterm_page.proofs.kept.push_renewed.Goals as goal

pub returns-then-has_come_by-clause-told : goal.returns-then-has_come_by-clause-told
returns-then-has_come_by-clause-told c =
    let line = c.args.line in
    let shift = c.args.shift in
    let more = c.args.end - (line + 1) in
    let count : c.args.end - line ≡ more + 1 = omega (arith, c.requires.apart) in
    let come : ℕ → ℕ × Option ℕ = λ k. (k, Some (k + shift)) in
    c.in_ok-push_block.ensures.told
    ∙ ap (λ l. flat_map told c.args.changed.now.items ++ map come l) (range_first line (c.args.end - line) more count)
    ∙ ap (λ (o : Option ℕ). flat_map told c.args.changed.now.items ++ ((line, o) ∷ come_told (line + 1) c.args.end shift)) (sym (c.has_come_by.ensures.was c.if-has_come_by.true))

pub returns-then-has_come_by-clause-numbers : goal.returns-then-has_come_by-clause-numbers
returns-then-has_come_by-clause-numbers c = λ rows known are. c.in_ok-push_block.ensures.numbers rows are

pub returns-clause-told : goal.returns-clause-told
returns-clause-told c =
    let old = c.args.changed.now.items in
    let one : ℕ × Option ℕ = (c.args.line, c.args.renewed.was) in
    let come = come_told (c.args.line + 1) c.args.end c.args.shift in
    c.in_ok-push_block-2.ensures.told
    ∙ ap (λ l. l ++ come) (ap (flat_map told) c.in_ok-push.ensures.items ∙ flat_map-append told old (Line c.args.line c.args.renewed ∷ []))
    ∙ append_assoc (flat_map told old) (one ∷ []) come

pub returns-clause-lines : goal.returns-clause-lines
returns-clause-lines c = λ are.
    let lines = c.args.lines in
    let one : Renewal = Line c.args.line c.args.renewed in
    c.in_ok-push_block-2.ensures.lines (subst (AreLines lines) (sym c.in_ok-push.ensures.items)
    (All-append (IsWithin lines) c.args.changed.now.items (one ∷ []) are (All-cons (IsWithin lines) one [] (c.requires.low, c.requires.high) (All-nil (IsWithin lines)))))

pub returns-clause-numbers : goal.returns-clause-numbers
returns-clause-numbers c = λ rows known are.
    let one : Renewal = Line c.args.line c.args.renewed in
    c.in_ok-push_block-2.ensures.numbers rows (subst (AreNumbered rows) (sym c.in_ok-push.ensures.items)
    (All-append (IsNumbered rows) c.args.changed.now.items (one ∷ []) are (All-cons (IsNumbered rows) one [] known (All-nil (IsNumbered rows)))))
