use Rattle.std.proofs.Common.{ap, sym, ◌∙◌}
use Rattle.std.specs.Prelude.{Some}
use Rattle.vt_parser.specs.declared.commands.Mode.TheVariants.{Ansi}
use Rattle.tape_check.specs.Tallying.{loud_by}
use Rattle.tape_check.proofs.TallyLemmas.{loud_told, form_counted}
use Rattle.tape_check.proofs.tally.Reader.count_form.Goals as goal

pub returns : goal.returns
returns c t at =
    let byte = c.args.byte in
    let form = c.formless_with-form.ensures Ansi t.sequence (at.state ∙ ap Some (sym c.state.ensures.value)) in
    let loud = c.loud_form-form.ensures ∙ ap (loud_by c.args.self.now.marks) form ∙ loud_told c.args.self.now.marks t.sequence byte at.marks in
    form_counted c.count_formless.result c.args.self.now c.count_formless.new.self t byte c.loud_form-form.result at loud c.count_formless.ensures
