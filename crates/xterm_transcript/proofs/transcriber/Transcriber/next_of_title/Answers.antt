use Rattle.std.proofs.Common.{subst, sym, arith, ◌∷◌, []}
use Rattle.std.proofs.lemmas.Bool.Decides.{nat_tests}
use Rattle.vt_parser.specs.declared.commands.Mode.TheVariants.{Ansi}
use Rattle.xterm_transcript.specs.declared.transcriber.Transcriber.{Transcriber}
use Rattle.xterm_transcript.specs.Playing.{Comes}
use Rattle.xterm_transcript.proofs.PieceLemmas.{comes_title, title_escape, title_other}
use Rattle.xterm_transcript.proofs.transcriber.Transcriber.next_of_title.Goals.{then-byte-eq-ESC, else-byte-eq-ESC}
use Rattle.xterm_transcript.proofs.transcriber.Transcriber.next_of_title.Goals as goal

pub returns-clause-comes : goal.returns-clause-comes
returns-clause-comes c x is = elim c.if-byte-eq-ESC.branch [
  | then-byte-eq-ESC w ↦
      subst (λ (t : Transcriber). Comes x (c.args.byte ∷ []) c.kept.result t.parser) (sym w.self-is)
      (comes_title c.args.self.now x c.args.byte c.kept.result w.step-begins.new.self is c.requires.title c.requires.none
      (title_escape x.term.sequence c.args.byte w.step-begins.new.self (grind (arith, nat_tests)) (w.step-begins.ensures.state Ansi x.term.sequence is.state))
      c.kept.ensures.leaving c.kept.ensures.after)
  | else-byte-eq-ESC w ↦
      subst (λ (t : Transcriber). Comes x (c.args.byte ∷ []) c.kept.result t.parser) (sym w.self-is)
      (comes_title c.args.self.now x c.args.byte c.kept.result c.args.self.now.parser is c.requires.title c.requires.none
      (title_other x.term.sequence c.args.byte c.args.self.now.parser (grind (arith, nat_tests)) is.state) c.kept.ensures.leaving c.kept.ensures.after)
]
