use Rattle.std.proofs.Common.{ap, sym, ◌∙◌}
use Rattle.std.proofs.lemmas.Bool.{not-true}
use Rattle.vt_term.specs.declared.modes.Modes.{Modes}
use Rattle.vt_term.specs.Console.{Console}
use Rattle.vt_term.specs.Term.{mode_of}
use Rattle.screen_print.proofs.SkimLemmas.{unmarked}
use Rattle.screen_print.proofs.skim.is_calm.Goals as goal

pub returns : goal.returns
returns c = λ none x shows. record {
  profile = ap (λ (s : Console). s.profile) shows.console ∙ sym c.profile.ensures ∙ c.is_vt100.ensures c.if-not-is_vt100.false;
  over = ap (λ (s : Console). s.modes.insert) shows.console ∙ sym (ap (λ (m : Modes). m.insert) c.modes.ensures) ∙ c.if-modes.false;
  pending = unmarked (mode_of x) c.args.terminal.now.state x.pending shows.state
      (λ e. c.has_mark.ensures (not-true c.has_mark.result none) (c.parser_state.ensures ∙ e));
}
