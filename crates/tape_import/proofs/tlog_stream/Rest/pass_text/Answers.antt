use Rattle.std.proofs.Common.{◌-◌, arith, length, sym, take}
use Rattle.json_bytes.specs.Strings.{meant}
use Rattle.tape_import.proofs.StreamLemmas.{text_passed}
use Rattle.tape_import.specs.KeptTlog.{shown_stream}
use Rattle.tape_import.proofs.tlog_stream.Rest.pass_text.Goals as goal

pub returns : goal.returns
returns c =
    let self = c.args.self.now in
    let len = c.in_ok-self.field-0 in
    let all = length (meant self.text) in (
      take len (shown_stream self).text,
      text_passed c.args.count len (all - self.text_left) (all - (self.text_left - len)) (meant self.text) (shown_stream self).bytes (sym c.in_ok-self.ensures.len) (omega (arith, c.in_ok-self.ensures.within, self.text_within)),
    )
