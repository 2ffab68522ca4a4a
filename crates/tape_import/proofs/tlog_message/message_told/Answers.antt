use Rattle.std.proofs.Common.{◌∙◌, ap, refl, sym}
use Rattle.std.specs.Option.{option_map}
use Rattle.json_bytes.specs.Strings.{meant}
use Rattle.tape_import.specs.KeptTlog.{shown_stream}
use Rattle.tape_import.proofs.FieldLemmas.{is_told, untold}
use Rattle.tape_import.proofs.tlog_message.message_told.Goals as goal

pub returns-in_default : goal.returns-in_default
returns-in_default c = λ told tells.
    untold told c.args.fields tells (sym c.all_of-2.ensures ∙ ap (option_map shown_stream) c.in_default.is)

pub returns : goal.returns
returns c = λ told tells.
    let told_is = is_told told c.args.fields c.in_ok-number.number c.in_ok-pos.pos (meant c.in_ok-timing.timing) (shown_stream c.in_ok-typed.typed) (shown_stream c.in-Some.shown) tells
    c.if-not-fields.false c.in_ok-number.was c.in_ok-pos.was (ap (option_map meant) c.in_ok-timing.was)
    (sym c.all_of.ensures ∙ ap (option_map shown_stream) c.in_ok-typed.was)
    (sym c.all_of-2.ensures ∙ ap (option_map shown_stream) c.in-Some.is) in
    (_, told_is, record { head = refl; timing = refl; so_far = c.at_front.ensures })
