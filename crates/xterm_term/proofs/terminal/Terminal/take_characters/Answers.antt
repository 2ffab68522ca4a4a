use Rattle.std.proofs.Common.{◌+◌, List, ℕ, refl, subst, sym, take}
use Rattle.xterm_term.specs.Seen.{Seen, Told, seen_of}
use Rattle.xterm_term.specs.Term.{play, sent}
use Rattle.xterm_term.proofs.SpelledLemmas.{first_brings, first_titled}
use Rattle.xterm_term.proofs.Idle.{brought, brought_silent, brought_terminal, brought_size}
use Rattle.xterm_term.proofs.terminal.Terminal.take_characters.Goals as goal

pub returns-then-is_graphic-clause-shows : goal.returns-then-is_graphic-clause-shows
unfolding play
returns-then-is_graphic-clause-shows c x shows = shows

pub returns-then-is_graphic-clause-silent : goal.returns-then-is_graphic-clause-silent
unfolding sent
returns-then-is_graphic-clause-silent c x shows = refl

pub returns-in-None-clause-shows : goal.returns-in-None-clause-shows
unfolding play
returns-in-None-clause-shows c x shows = shows

pub returns-in-None-clause-silent : goal.returns-in-None-clause-silent
unfolding sent
returns-in-None-clause-silent c x shows = refl

pub invariant_of-self : goal.invariant_of-self
invariant_of-self c =
    let before : Seen = seen_of c.self.inside.console c.self.inside.parser c.self.inside.decoder in
    let run : List ℕ = take (c.in-Some.len + c.put_spelled.result) c.args.bytes.now in
    brought_terminal c.laws_below.ensures before c.args.self.now run _ c.self.view_is c.self.invariant c.requires.state c.requires.character
    (first_brings before c.args.self.now c.args.bytes.now c.in-Some.len c.put_spelled.result c.in-Some.first _ c.self.view_is c.requires.title
    c.in-Some.ensures.spelled c.put_spelled.ensures.done)

pub returns-in-Some-clause-shows : goal.returns-in-Some-clause-shows
returns-in-Some-clause-shows c x shows =
    let before : Seen = seen_of c.self.inside.console c.self.inside.parser c.self.inside.decoder in
    let run : List ℕ = take (c.in-Some.len + c.put_spelled.result) c.args.bytes.now in
    brought c.laws_below.ensures before c.args.self.now x run _ c.self.view_is shows c.requires.state c.requires.character
    (first_brings before c.args.self.now c.args.bytes.now c.in-Some.len c.put_spelled.result c.in-Some.first _ c.self.view_is c.requires.title
    c.in-Some.ensures.spelled c.put_spelled.ensures.done)

pub returns-in-Some-clause-silent : goal.returns-in-Some-clause-silent
returns-in-Some-clause-silent c x shows =
    let before : Seen = seen_of c.self.inside.console c.self.inside.parser c.self.inside.decoder in
    let run : List ℕ = take (c.in-Some.len + c.put_spelled.result) c.args.bytes.now in
    brought_silent c.laws_below.ensures before c.args.self.now x run _ c.self.view_is shows c.requires.state c.requires.character
    (first_brings before c.args.self.now c.args.bytes.now c.in-Some.len c.put_spelled.result c.in-Some.first _ c.self.view_is c.requires.title
    c.in-Some.ensures.spelled c.put_spelled.ensures.done)

pub returns-in-Some-clause-size : goal.returns-in-Some-clause-size
returns-in-Some-clause-size c =
    let before : Seen = seen_of c.self.inside.console c.self.inside.parser c.self.inside.decoder in
    let run : List ℕ = take (c.in-Some.len + c.put_spelled.result) c.args.bytes.now in
    brought_size c.laws_below.ensures before c.args.self.now run _ c.self.view_is c.self.invariant c.requires.state c.requires.character
    (first_brings before c.args.self.now c.args.bytes.now c.in-Some.len c.put_spelled.result c.in-Some.first _ c.self.view_is c.requires.title
    c.in-Some.ensures.spelled c.put_spelled.ensures.done)

pub returns-in-Some-clause-title : goal.returns-in-Some-clause-title
returns-in-Some-clause-title c =
    let before : Seen = seen_of c.self.inside.console c.self.inside.parser c.self.inside.decoder in
    first_titled before c.args.self.now c.args.bytes.now c.in-Some.len c.put_spelled.result c.in-Some.first _ c.self.view_is c.requires.title
    c.in-Some.ensures.spelled c.put_spelled.ensures.done

pub returns-in-Some-clause-told : goal.returns-in-Some-clause-told
returns-in-Some-clause-told c = λ before was. c.put_spelled.ensures.told before (subst (λ (s : Seen). Told before s) (sym c.self.view_is) was)
