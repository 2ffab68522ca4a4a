use Rattle.std.proofs.Common.{◌∙◌, Some, ap, sym}
use Rattle.json_bytes.specs.Arrays.{bytes_of}
use Rattle.json_bytes.specs.Listed.{valued}
use Rattle.json_bytes.proofs.ScalarLemmas.{plain_stands}
use Rattle.tape_import.proofs.TlogLemmas.{bytes_stand}
use Rattle.tape_import.proofs.tlog_message.bytes_of.Goals as goal

pub returns-in_ok-bytes-in-Other : goal.returns-in_ok-bytes-in-Other
returns-in_ok-bytes-in-Other c =
    c.in_ok-bytes-in-Other.ensures 62
    ∙ sym (ap (λ v. bytes_of (Some (valued 63 v))) c.in-Other.is ∙ bytes_stand 63 c.in-Other.place.now)

pub returns-in-Plain : goal.returns-in-Plain
returns-in-Plain c =
    let found = c.in-Plain.field-0 in
    sym (ap (λ v. bytes_of (Some v)) (ap (valued 63) c.in-Plain.is ∙ plain_stands found.place.now found.count found.len found.plain 63))
