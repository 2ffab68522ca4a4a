use Rattle.std.proofs.Common.{◌≡◌, ◌≤◌, length, sym, ap, ◌∙◌, subst, arith}
use Rattle.std.specs.Result.{OnErr, OnOk}
use Rattle.tape_core.specs.Devices.{Gave}
use Rattle.tape_core.specs.Due.{due_count}
use Rattle.tape_core.specs.Tape.{Tape}
use Rattle.chunk_walk.specs.Stops.{StopsSound}
use Rattle.chunk_walk.proofs.AskedLemmas.{asked_from, asked_none}
use Rattle.chunk_walk.proofs.walk.visit_chunks.Goals as goal

pub returns-then-start-end-clause-gave : goal.returns-then-start-end-clause-gave
returns-then-start-end-clause-gave g c =
    let tape = c.args.session.now.recording in
    let high : c.due_count-end.result ≡ due_count tape.chunks c.args.to =
    c.due_count-end.ensures.count ∙ ap (λ (t : Tape). due_count t.chunks c.args.to) c.recording.ensures in
    let within : c.due_count-end.result ≤ length tape.chunks =
    subst (λ (t : Tape). c.due_count-end.result ≤ length t.chunks) c.recording.ensures c.due_count-end.ensures.within in
    let text = asked_from c.due_is_below_the_count.ensures (g.V.Visitor.text c.args.visitor.now) c.args.session.now.profile tape c.args.from c.args.to c.first_asked-start.result c.due_count-end.result c.first_asked-start.ensures high (omega arith) within in
    subst (λ t. OnOk c.visit_between.result (Gave g.W.Write.contents c.args.writer.now c.visit_between.new.writer t)) text c.visit_between.ensures.gave

pub returns-then-start-end-clause-refused : goal.returns-then-start-end-clause-refused
returns-then-start-end-clause-refused g c =
    let tape = c.args.session.now.recording in
    let high : c.due_count-end.result ≡ due_count tape.chunks c.args.to =
    c.due_count-end.ensures.count ∙ ap (λ (t : Tape). due_count t.chunks c.args.to) c.recording.ensures in
    let within : c.due_count-end.result ≤ length tape.chunks =
    subst (λ (t : Tape). c.due_count-end.result ≤ length t.chunks) c.recording.ensures c.due_count-end.ensures.within in
    let text = asked_from c.due_is_below_the_count.ensures (g.V.Visitor.text c.args.visitor.now) c.args.session.now.profile tape c.args.from c.args.to c.first_asked-start.result c.due_count-end.result c.first_asked-start.ensures high (omega arith) within in
    subst (λ t. OnErr c.visit_between.result (StopsSound g.W.Write.contents c.args.writer.now c.visit_between.new.writer t)) text c.visit_between.ensures.refused

pub returns-clause-gave : goal.returns-clause-gave
returns-clause-gave g c =
    let tape = c.args.session.now.recording in
    let high : c.due_count-end.result ≡ due_count tape.chunks c.args.to =
    c.due_count-end.ensures.count ∙ ap (λ (t : Tape). due_count t.chunks c.args.to) c.recording.ensures in
    let none = asked_none c.due_is_below_the_count.ensures (g.V.Visitor.text c.args.visitor.now) c.args.session.now.profile tape c.args.from c.args.to (omega (arith, high, c.first_asked-start.ensures)) in
    subst (Gave g.W.Write.contents c.args.writer.now c.args.writer.now) (sym none) (c.gives_join.ensures.nothing c.args.writer.now)
