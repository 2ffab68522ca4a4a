use Rattle.std.proofs.Common.{[], subst, sym}
use Rattle.std.proofs.lemmas.Result.{err_from_is_err_and}
use Rattle.transcripts.specs.Told.{Told}
use Rattle.transcripts.specs.Transcript.{rows_told}
use Rattle.transcripts.proofs.LeftLemmas.{transcript_is}
use Rattle.transcripts.proofs.ToldLemmas.{stops_print, told_gave, told_nothing}
use Rattle.transcripts.proofs.print.transcript.Goals as goal

pub returns-in_err-tell_all-clause-fault : goal.returns-in_err-tell_all-clause-fault
returns-in_err-tell_all-clause-fault g c =
    let t = g.T.Transcribes in
    let tape = c.args.recording.now in
    let start = c.args.writer.now in
    let p = err_from_is_err_and c.from_residual-in_err-tell_all.result c.from_residual-in_err-tell_all.ensures.1 in
    let is = sym (transcript_is t.leaving t.standing c.args.profile tape c.args.from c.args.to c.start_of-start.result c.end_of-end.result c.end_of-end.ensures.value c.start_of-start.ensures.value) in
    let nothing = subst (λ back. Told g.W.Write.contents start start back []) (sym c.new-rows.ensures) (told_nothing c.gives_join.ensures.nothing start) in
    rw (p.1, p.2, is) (stops_print start c.tell_all.new.writer _ (rows_told t.leaving t.standing c.args.profile tape c.start_of-start.result c.end_of-end.result) _ nothing
    (c.in_err-tell_all.ensures.fault c.args.profile c.in_ok-terminal.ensures))

pub returns-in_err-settle-clause-fault : goal.returns-in_err-settle-clause-fault
returns-in_err-settle-clause-fault g c =
    let t = g.T.Transcribes in
    let tape = c.args.recording.now in
    let start = c.args.writer.now in
    let p = err_from_is_err_and c.from_residual-in_err-settle.result c.from_residual-in_err-settle.ensures.1 in
    let is = sym (transcript_is t.leaving t.standing c.args.profile tape c.args.from c.args.to c.start_of-start.result c.end_of-end.result c.end_of-end.ensures.value c.start_of-start.ensures.value) in
    let nothing = subst (λ back. Told g.W.Write.contents start start back []) (sym c.new-rows.ensures) (told_nothing c.gives_join.ensures.nothing start) in
    let rows = rows_told t.leaving t.standing c.args.profile tape c.start_of-start.result c.end_of-end.result in
    let all = told_gave c.gives_join.ensures.both start c.tell_all.new.writer c.end.new.writer c.tell_all.new.rows rows
    (c.in_ok-tell_all.ensures.tells c.args.profile c.in_ok-terminal.ensures start [] nothing) c.end.ensures.gave in
    rw (p.1, p.2, is) ((c.in_err-settle.ensures.puts _ _ all).1)

pub returns-clause-ok : goal.returns-clause-ok
returns-clause-ok g c =
    let t = g.T.Transcribes in
    let tape = c.args.recording.now in
    let start = c.args.writer.now in
    let is = sym (transcript_is t.leaving t.standing c.args.profile tape c.args.from c.args.to c.start_of-start.result c.end_of-end.result c.end_of-end.ensures.value c.start_of-start.ensures.value) in
    let nothing = subst (λ back. Told g.W.Write.contents start start back []) (sym c.new-rows.ensures) (told_nothing c.gives_join.ensures.nothing start) in
    let rows = rows_told t.leaving t.standing c.args.profile tape c.start_of-start.result c.end_of-end.result in
    let all = told_gave c.gives_join.ensures.both start c.tell_all.new.writer c.end.new.writer c.tell_all.new.rows rows
    (c.in_ok-tell_all.ensures.tells c.args.profile c.in_ok-terminal.ensures start [] nothing) c.end.ensures.gave in
    rw is (c.in_ok-settle.ensures.puts _ _ all)
