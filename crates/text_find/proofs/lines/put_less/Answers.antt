use Rattle.std.proofs.Common.{◌≡◌, [], ◌∙◌, IfSome, Option, arith, subst, sym}
use Rattle.std.specs.Vec.{vec_len}
use Rattle.std.proofs.lemmas.Bool.{eqb-true}
use Rattle.std.proofs.lemmas.List.{nil_from_length}
use Rattle.standings.specs.Less.{PairOff}
use Rattle.standings.specs.declared.alone.Alone.{Alone}
use Rattle.tape_core.specs.Devices.{Gave}
use Rattle.text_find.specs.Lines.{less_lines}
use Rattle.text_find.proofs.LineLemmas.{none_less}
use Rattle.text_find.proofs.lines.put_less.Goals as goal

pub returns-then-is_empty-clause-gave : goal.returns-then-is_empty-clause-gave
returns-then-is_empty-clause-gave g c = λ pairs.
    let one = c.args.one.now in
    let other = c.args.other.now in
    let m = c.args.moment in
    let count : vec_len one.places ≡ 0 = eqb-true (vec_len one.places) 0 (sym c.is_empty.ensures ∙ c.if-is_empty.true) in
    let none : one.places.items ≡ [] = nil_from_length one.places.items (omega (arith, count)) in
    subst (λ ps. Gave g.W.Write.contents c.args.writer.now c.args.writer.now
    (less_lines c.args.sign m.index m.due m.len one.rows.items ps other.rows.items other.places.items))
    (sym none) (c.gives_join.ensures.nothing c.args.writer.now)

pub returns-then-none_went-clause-gave : goal.returns-then-none_went-clause-gave
returns-then-none_went-clause-gave g c = λ pairs.
    let one = c.args.one.now in
    let other = c.args.other.now in
    let m = c.args.moment in
    let there = subst (λ (told : Option Alone). IfSome told (λ alone. PairOff one.rows.items one.places.items other.rows.items other.places.items alone.one.items alone.other.items)) c.in-Some.is pairs in
    subst (λ t. Gave g.W.Write.contents c.args.writer.now c.args.writer.now t)
    (sym (none_less c.args.sign m.index m.due m.len one.rows.items one.places.items other.rows.items other.places.items (c.keeps_all-none_went.ensures c.if-none_went.true there)))
    (c.gives_join.ensures.nothing c.args.writer.now)
