use Rattle.std.proofs.Common.{◌≡◌, ◌∙◌, ◌-◌, ap, arith, length, rules, sym}
use Rattle.json_bytes.specs.Strings.{meant}
use Rattle.tape_import.proofs.StreamLemmas.{all_taken}
use Rattle.tape_import.specs.KeptTlog.{shown_stream}
use Rattle.tape_import.proofs.tlog_stream.Rest.take_text.Goals as goal

pub returns-then-len-text : goal.returns-then-len-text
returns-then-len-text c =
    let self = c.args.self.now in
    let text = meant self.text in
    let len = c.in-Some.len in
    let long : len ≡ length text = c.if-len-text.true ∙ ap length c.as_slice-text.ensures in
    let taken = all_taken c.args.count len (length text - self.text_left) text (shown_stream self).bytes (sym c.in-Some.ensures.len) (omega (arith, c.in-Some.ensures.within, self.text_within)) long in
    let all : c.from_vec.result ≡ text = c.from_vec.ensures ∙ c.in_ok-into_vec.ensures ∙ ap meant c.replace-all.ensures.value in
    taken ∙ rw (all, c.replace-all.ensures.after) (search rules)
