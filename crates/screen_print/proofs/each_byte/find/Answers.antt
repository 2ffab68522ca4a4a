use Rattle.std.proofs.Common.{◌≡◌, ◌||◌, Bool, false, true, List, [], ◌∷◌, length, nat_lt, ℕ, refl, sym, ap, subst, arith, ◌∙◌}
use Rattle.std.proofs.lemmas.Bool.{false≢true}
use Rattle.std.proofs.lemmas.Bool.Decides.{nat_tests}
use Rattle.tape_core.specs.Tape.{Tape}
use Rattle.tape_seek.specs.Moments.{up_to}
use Rattle.vt_term.specs.Seen.{Shows}
use Rattle.screen_print.specs.EachByte.{StandsNowhere}
use Rattle.screen_print.proofs.each_byte.find.Goals as goal

-- a writer that has taken nothing was given nothing
none_of : (text : List ℕ) (before : Bool) → (before || nat_lt 0 (length text)) ≡ false → text ≡ []
none_of [] before e = refl
none_of (x ∷ rest) true e = absurd (false≢true (sym e))
none_of (x ∷ rest) false e = absurd (grind (arith, nat_tests, e))

pub returns-clause-nowhere : goal.returns-clause-nowhere
returns-clause-nowhere g c = λ unwritten ink.
    let s = c.args.session.now in
    let same = c.recording-recording.ensures ∙ ap (λ t. t.recording) c.in_ok-terminal.ensures.state in
    let shows = subst (λ (tape : Tape). Shows c.in_ok-terminal.terminal (up_to s.profile tape.chunks c.start_of-start.result)) (sym same) c.in_ok-terminal.ensures.shows in
    let took = c.in_ok-settle.ensures.puts _ _ (c.put_lines.ensures s.profile shows) in
    subst (λ (tape : Tape). StandsNowhere s.profile tape c.args.from c.args.to c.args.text.now) same
    (c.nowhere_means_nowhere.ensures s.profile c.recording-recording.result.now c.args.from c.args.to c.args.text.now ink
    (none_of _ _ (sym took.written ∙ unwritten)))
