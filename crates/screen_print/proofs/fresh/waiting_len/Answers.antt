use Rattle.std.proofs.Common.{◌≡◌, ◌∙◌, ap, sym}
use Rattle.std.specs.Prelude.{Some}
use Rattle.vt_parser.specs.declared.commands.Mode.{Mode}
use Rattle.vt_parser.specs.declared.commands.Mode.TheVariants.{Ansi}
use Rattle.vt_parser.specs.declared.states.ParserState.{ParserState}
use Rattle.vt_parser.specs.View.{parser_view}
use Rattle.vt_term.specs.declared.modes.Modes.{Modes}
use Rattle.vt_term.specs.Console.{Console}
use Rattle.vt_term.specs.Term.{mode_of}
use Rattle.screen_print.proofs.fresh.waiting_len.Goals as goal

pub returns-clause-waiting : goal.returns-clause-waiting
returns-clause-waiting c = λ some x shows.
    let mode : mode_of x ≡ Ansi =
    ap (λ (s : Console). s.modes.mode) shows.console ∙ sym (ap (λ (m : Modes). m.mode) c.modes.ensures) ∙ c.is_ansi.ensures c.if-not-is_ansi.false in
    record {
      mode = mode;
      waits = c.waiting_run.ensures.waits x.pending
          (ap (λ (m : Mode). parser_view m x.pending) (sym mode) ∙ shows.state ∙ ap (λ (s : ParserState). Some s) (sym c.parser_state.ensures));
    }
