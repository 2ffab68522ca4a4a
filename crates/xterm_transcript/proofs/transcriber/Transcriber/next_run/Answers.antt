use Rattle.std.proofs.Common.{◌≡◌, length, take, subst, ap, sym, ◌∙◌, arith}
use Rattle.std.proofs.lemmas.List.{length-take}
use Rattle.xterm_term.specs.Puts.{character_for}
use Rattle.xterm_transcript.specs.Leaving.{leaving_first, put_leaves}
use Rattle.xterm_transcript.specs.Playing.{HasRoom}
use Rattle.xterm_transcript.proofs.PieceLemmas.{comes_run, first_of}
use Rattle.xterm_transcript.proofs.transcriber.Transcriber.next_run.Goals as goal

pub returns-clause-comes : goal.returns-clause-comes
returns-clause-comes c x is =
    let n = c.run_len.result in
    let bytes = c.args.bytes.now in
    let s = c.args.self.now.terminal.console in
    let len : length (take n bytes) ≡ n = omega (arith, length-take n bytes, c.run_len.ensures.within) in
    comes_run c.args.self.now x (take n bytes) n c.at_put.result is c.requires.ground c.requires.title c.requires.none
    (omega (arith, len, c.run_len.ensures.some)) c.run_len.ensures.graphic
    (λ more. subst (HasRoom c.args.self.now.terminal) (sym len) (c.run_len.ensures.room (omega (arith, more, len))))
    (c.at_put.ensures
    ∙ ap (λ character. leaving_first (put_leaves character s)) (c.character_for.ensures ∙ ap (character_for s) (sym (first_of n bytes c.run_len.ensures.some))))
