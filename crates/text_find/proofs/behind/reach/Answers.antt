use Rattle.std.proofs.Common.{◌≡◌, ◌∙◌, ◌++◌, IfOk, ap, append-nil, length, subst, sym, true}
use Rattle.std.proofs.lemmas.List.{nil_from_length}
use Rattle.tape_core.specs.Due.{first}
use Rattle.text_find.specs.Lines.{AreStill}
use Rattle.text_find.proofs.CalmLemmas.{late_on}
use Rattle.text_find.proofs.behind.reach.Goals as goal

pub returns-then-not-known-clause-played : goal.returns-then-not-known-clause-played
returns-then-not-known-clause-played g c = λ profile late.
    let calm = c.args.calm.now in
    let from = first c.args.recording.now.chunks c.args.index in
    let count : length calm ≡ 0 = c.is_known-known.ensures.none c.if-not-known.true in
    let here : from ≡ from ++ calm = sym (append-nil from) ∙ ap (λ l. from ++ l) (sym (nil_from_length calm count)) in
    subst (λ b. IfOk c.reach_anew.result (λ done. done ≡ true → g.T.Plays.shows profile c.reach_anew.new.behind b)) here (c.reach_anew.ensures.played profile late)

pub returns-then-not-known-clause-steps : goal.returns-then-not-known-clause-steps
returns-then-not-known-clause-steps g c = λ profile last late are lags stood.
    let calm = c.args.calm.now in
    let from = first c.args.recording.now.chunks c.args.index in
    let count : length calm ≡ 0 = c.is_known-known.ensures.none c.if-not-known.true in
    let here : from ≡ from ++ calm = sym (append-nil from) ∙ ap (λ l. from ++ l) (sym (nil_from_length calm count)) in
    subst (λ b. IfOk c.reach_anew.result (λ done. done ≡ true → AreStill c.args.text.now (g.F.Finder.screens profile b) c.reach_anew.new.steps.sides)) here (c.reach_anew.ensures.still profile late)

pub stand_behind-requires : goal.stand_behind-requires
stand_behind-requires g c = c.is_known-known.ensures.known c.if-not-known.false

pub returns-clause-played : goal.returns-clause-played
returns-clause-played g c = λ profile late done.
    c.in_ok-play.ensures.shows profile (first c.args.recording.now.chunks c.args.index)
    (c.in_ok-bring_to.ensures.played profile
    (late_on g.T.Plays.shows g.F.Finder.screens profile c.args.recording.now.chunks c.args.text.now c.args.index c.args.behind.now c.args.steps.now c.stand_behind.new.steps c.stand_behind.ensures.count late))

pub returns-clause-steps : goal.returns-clause-steps
returns-clause-steps g c = λ profile last late are lags stood done.
    subst (λ sides. AreStill c.args.text.now (g.F.Finder.screens profile (first c.args.recording.now.chunks c.args.index ++ c.args.calm.now)) sides) (sym c.bring_to.ensures.sides)
    (c.in-Ok.ensures.steps c.args.text.now (g.F.Finder.screens profile) (first c.args.recording.now.chunks c.args.index) last are lags stood)
