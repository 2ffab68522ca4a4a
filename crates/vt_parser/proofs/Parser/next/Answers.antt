use Rattle.std.proofs.Common.{◌≡◌, List, ℕ, take, Some, refl, sym, ap, ◌∙◌, subst, arith}
use Rattle.std.proofs.lemmas.List.{length-take}
use Rattle.vt_parser.specs.declared.states.ParserState.{ParserState}
use Rattle.vt_parser.specs.declared.commands.Mode.{Mode}
use Rattle.vt_parser.specs.View.{parser_view}
use Rattle.vt_parser.specs.Token.{TellsOf, Leads}
use Rattle.vt_parser.specs.Reading.{Reads}
use Rattle.vt_parser.proofs.Agrees.{ground_is_empty}
use Rattle.vt_parser.proofs.Endings.{none_behind}
use Rattle.vt_parser.proofs.ManyBytes.{runs_agree}
use Rattle.vt_parser.proofs.Telling.{has_params, shown_after, leads, run_leads, run_passes, run_proper, told_proper, lent_told}
use Rattle.vt_parser.proofs.Parser.next.Goals as goal

pub returns-then-run-gt0 : goal.returns-then-run-gt0
returns-then-run-gt0 c =
    let run = c.run_at-run in
    let taken = take run.result c.args.bytes.now in
    let ground = run.ensures.ground c.if-run-gt0.true in
    let P : ParserState → Type 0 = λ state. Leads state c.args.mode taken state in
    let led : Leads c.self.inside.state c.args.mode taken c.self.inside.state
    = subst P (sym ground) (run_leads c.args.mode taken run.ensures.graphic) in (
      (refl, λ _. tt, λ mode pending view. led mode pending (view ∙ ap Some (sym c.self.view_is))),
      record {
        state = tt;
        some = c.if-run-gt0.true;
        within = run.ensures.within;
        told = λ mode pending view. record {
          ground = ground_is_empty.1 mode pending (view ∙ ap Some (sym c.self.view_is ∙ ground));
          whole = refl;
          graphic = run.ensures.graphic;
        };
        formless = λ mode pending view. run_passes c.args.mode mode pending taken run.ensures.graphic
            (ground_is_empty.1 mode pending (view ∙ ap Some (sym c.self.view_is ∙ ground)));
        proper = run_proper taken (omega (arith, length-take run.result c.args.bytes.now)) run.ensures.graphic;
      },
    )

pub read-taken-requires-clause-params : goal.read-taken-requires-clause-params
read-taken-requires-clause-params c = has_params c.self.inside.state c.self.invariant.0

pub invariant_of-self-then-opens_control_sequence : goal.invariant_of-self-then-opens_control_sequence
invariant_of-self-then-opens_control_sequence c =
    let read = c.read_control_sequence-taken in
    let opens = c.opens_control_sequence.ensures c.if-opens_control_sequence.true in
    let P : Mode → Type 0 = λ mode. Reads c.self.inside.state mode c.args.bytes.now read.result read.new.params read.new.state in
    let runs : P c.args.mode = subst P (sym opens.0) (read.ensures.runs c.self.inside.state) in
    (shown_after c.self.inside.state c.args.mode _ _ c.self.invariant.0 runs.runs, read.ensures.long)

pub invariant_of-self-2 : goal.invariant_of-self-2
invariant_of-self-2 c =
    (shown_after c.self.inside.state c.args.mode _ _ c.self.invariant.0 c.read-taken.ensures.runs.runs, c.read-taken.ensures.long)

pub returns-then-opens_control_sequence : goal.returns-then-opens_control_sequence
returns-then-opens_control_sequence c =
    let read = c.read_control_sequence-taken in
    let state = c.self.inside.state in
    let given = c.args.mode in
    let taken = take read.result.0 c.args.bytes.now in
    let opens = c.opens_control_sequence.ensures c.if-opens_control_sequence.true in
    let P : Mode → Type 0 = λ mode. Reads c.self.inside.state mode c.args.bytes.now read.result read.new.params read.new.state in
    let runs : P c.args.mode = subst P (sym opens.0) (read.ensures.runs c.self.inside.state) in
    let inside : (mode : Mode) (pending : List ℕ) → parser_view mode pending ≡ Some c.args.self.now → parser_view mode pending ≡ Some state
    = λ mode pending view. view ∙ ap Some (sym c.self.view_is) in
    let told : (mode : Mode) (pending : List ℕ) → parser_view mode pending ≡ Some c.args.self.now
    → TellsOf given mode pending taken c.lent.result
    = λ mode pending view. lent_told given mode pending taken read.result.1 read.new.params c.lent.result c.lent.ensures
    (runs_agree given mode pending state taken _ (inside mode pending view) runs.runs).0 in
    let shown = c.self.invariant.0 in (
      (refl, λ _. tt, λ mode pending view. leads state given taken _ runs.runs mode pending (inside mode pending view)),
      record {
        state = tt;
        some = read.ensures.some;
        within = read.ensures.within;
        told = told;
        formless = λ mode pending view. none_behind given mode pending state taken (inside mode pending view) runs.passes;
        proper = told_proper given shown.0 shown.1 taken c.lent.result (omega (arith, length-take read.result.0 c.args.bytes.now))
            (told shown.0 shown.1 (shown.2 ∙ ap Some c.self.view_is));
      },
    )

pub returns : goal.returns
returns c =
    let read = c.read-taken in
    let state = c.self.inside.state in
    let given = c.args.mode in
    let taken = take read.result.0 c.args.bytes.now in
    let runs = read.ensures.runs in
    let inside : (mode : Mode) (pending : List ℕ) → parser_view mode pending ≡ Some c.args.self.now → parser_view mode pending ≡ Some state
    = λ mode pending view. view ∙ ap Some (sym c.self.view_is) in
    let told : (mode : Mode) (pending : List ℕ) → parser_view mode pending ≡ Some c.args.self.now
    → TellsOf given mode pending taken c.lent-2.result
    = λ mode pending view. lent_told given mode pending taken read.result.1 read.new.params c.lent-2.result c.lent-2.ensures
    (runs_agree given mode pending state taken _ (inside mode pending view) runs.runs).0 in
    let shown = c.self.invariant.0 in (
      (refl, λ _. tt, λ mode pending view. leads state given taken _ runs.runs mode pending (inside mode pending view)),
      record {
        state = tt;
        some = read.ensures.some;
        within = read.ensures.within;
        told = told;
        formless = λ mode pending view. none_behind given mode pending state taken (inside mode pending view) runs.passes;
        proper = told_proper given shown.0 shown.1 taken c.lent-2.result (omega (arith, length-take read.result.0 c.args.bytes.now))
            (told shown.0 shown.1 (shown.2 ∙ ap Some c.self.view_is));
      },
    )
