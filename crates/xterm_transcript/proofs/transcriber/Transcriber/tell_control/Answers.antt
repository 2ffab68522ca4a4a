use Rattle.std.proofs.Common.{[], ◌∷◌, false, refl, sym, ap, ◌∙◌, subst}
use Rattle.std.proofs.lemmas.Result.{err_from_is_err_and}
use Rattle.transcripts.specs.Told.{Tells, TellsFront}
use Rattle.transcripts.proofs.ToldLemmas.{front_whole}
use Rattle.xterm_term.specs.Console.{Console}
use Rattle.xterm_term.specs.Controls.{controls}
use Rattle.xterm_term.specs.Rows.{named}
use Rattle.xterm_transcript.specs.Leaving.{at_control, first_if, leaving, leaving_first}
use Rattle.xterm_transcript.proofs.PassLemmas.{piece_played}
use Rattle.xterm_transcript.proofs.PieceLemmas.{control_comes, control_shows}
use Rattle.xterm_transcript.proofs.PutLemmas.{first_is}
use Rattle.xterm_transcript.proofs.transcriber.Transcriber.tell_control.Goals as goal

pub returns-in_err-tell_first_if-clause-front : goal.returns-in_err-tell_first_if-clause-front
unfolding leaving
returns-in_err-tell_first_if-clause-front g c x is =
    let leaves = c.control_leaves-leaves.result in
    let comes = control_comes c.args.self.now x is c.args.byte c.requires.title c.requires.none c.requires.ground c.requires.effective (leaving_first leaves)
    (c.control_leaves-leaves.ensures ∙ ap (at_control (named controls c.args.byte)) c.screen.ensures.value) in
    let rows = sym (comes.rows ∙ first_is leaves x.term.console
    ∙ ap (first_if leaves) (ap (λ (s : Console). s.picture) is.shows.console ∙ sym c.screen-2.ensures.value)) in
    let p = err_from_is_err_and c.from_residual.result c.from_residual.ensures.1 in
    rw p.1 (subst (TellsFront g.W.Write.contents c.args.writer.now c.args.rows.now c.tell_first_if.new.writer c.tell_first_if.new.rows) rows
    c.in_err-tell_first_if.ensures.front)

pub returns-in_err-obey-clause-front : goal.returns-in_err-obey-clause-front
unfolding leaving
returns-in_err-obey-clause-front g c x is =
    let leaves = c.control_leaves-leaves.result in
    let comes = control_comes c.args.self.now x is c.args.byte c.requires.title c.requires.none c.requires.ground c.requires.effective (leaving_first leaves)
    (c.control_leaves-leaves.ensures ∙ ap (at_control (named controls c.args.byte)) c.screen.ensures.value) in
    let rows = sym (comes.rows ∙ first_is leaves x.term.console
    ∙ ap (first_if leaves) (ap (λ (s : Console). s.picture) is.shows.console ∙ sym c.screen-2.ensures.value)) in
    let p = err_from_is_err_and c.from_residual-in_err-obey.result c.from_residual-in_err-obey.ensures.1 in
    rw p.1 (front_whole (subst (Tells g.W.Write.contents c.args.writer.now c.args.rows.now c.tell_first_if.new.writer c.tell_first_if.new.rows) rows
    c.in_ok-tell_first_if.ensures.tells))

pub returns-clause-tells : goal.returns-clause-tells
unfolding leaving
returns-clause-tells g c x is =
    let leaves = c.control_leaves-leaves.result in
    let comes = control_comes c.args.self.now x is c.args.byte c.requires.title c.requires.none c.requires.ground c.requires.effective (leaving_first leaves)
    (c.control_leaves-leaves.ensures ∙ ap (at_control (named controls c.args.byte)) c.screen.ensures.value) in
    let rows = sym (comes.rows ∙ first_is leaves x.term.console
    ∙ ap (first_if leaves) (ap (λ (s : Console). s.picture) is.shows.console ∙ sym c.screen-2.ensures.value)) in
    subst (Tells g.W.Write.contents c.args.writer.now c.args.rows.now c.tell_first_if.new.writer c.tell_first_if.new.rows) rows c.in_ok-tell_first_if.ensures.tells

pub returns-clause-played : goal.returns-clause-played
unfolding leaving
returns-clause-played g c x is =
    let leaves = c.control_leaves-leaves.result in
    let comes = control_comes c.args.self.now x is c.args.byte c.requires.title c.requires.none c.requires.ground c.requires.effective (leaving_first leaves)
    (c.control_leaves-leaves.ensures ∙ ap (at_control (named controls c.args.byte)) c.screen.ensures.value) in
    piece_played (record { terminal = c.obey.new.self; parser = c.args.self.now.parser; home = false; reports = c.obey.new.sink })
    x (c.args.byte ∷ []) _
    (control_shows c.args.self.now x is c.args.byte c.requires.title c.requires.none c.requires.ground c.requires.effective c.obey.new.self
    (c.in_ok-obey.ensures.shows x.term is.shows))
    refl comes
