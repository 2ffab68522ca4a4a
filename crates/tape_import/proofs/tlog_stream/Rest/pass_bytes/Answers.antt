use Rattle.std.proofs.Common.{◌∙◌, ◌-◌, arith, length, sym, take}
use Rattle.json_bytes.specs.Strings.{meant}
use Rattle.tape_import.proofs.StreamLemmas.{bytes_passed}
use Rattle.tape_import.specs.KeptTlog.{shown_stream}
use Rattle.tape_import.proofs.tlog_stream.Rest.pass_bytes.Goals as goal

pub returns : goal.returns
returns c =
    let self = c.args.self.now in
    let len = c.in_ok-self.field-0 in
    let all = length (meant self.text) in
    let many = length self.bytes.items in (
      take c.args.count (shown_stream self).bytes,
      bytes_passed c.args.skipped c.args.count len (all - self.text_left) (all - (self.text_left - len)) (many - self.bytes_left) (many - (self.bytes_left - c.args.count))
          (meant self.text) self.bytes.items (sym c.has_bytes.ensures.few ∙ c.if-not-has_bytes.false) (sym c.in_ok-self.ensures.len)
          (omega (arith, c.in_ok-self.ensures.within, self.text_within)) (omega (arith, self.bytes_within, c.has_bytes.ensures.within c.if-not-has_bytes.false)),
    )
