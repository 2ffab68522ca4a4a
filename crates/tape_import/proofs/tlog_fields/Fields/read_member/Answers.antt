use Rattle.std.proofs.Common.{◌≡◌, ◌∙◌, Some, ap, refl, subst, sym}
use Rattle.json_bytes.specs.Listed.{valued}
use Rattle.json_bytes.specs.Marks.{past_mark}
use Rattle.json_bytes.specs.Strings.{meant, string_at}
use Rattle.json_bytes.specs.Values.{named_value, value}
use Rattle.tape_import.specs.KeptTlog.{Tells, field_named, with_member}
use Rattle.tape_import.proofs.FieldLemmas.{named_is, unnamed_tells}
use Rattle.tape_import.proofs.tlog_fields.Fields.read_member.Goals as goal
use Rattle.tape_import.proofs.tlog_fields.Fields.read_member.Goals.{in-Some-field_named+in_ok-put, in_default-field_named}

pub returns : goal.returns
returns c =
    let name = meant c.in-Some.name in
    let v = valued 63 c.in-Some-2.value in
    let text = c.args.text.now in
    let reads : string_at text ≡ Some (name, c.in-Some.rest.now) = sym c.in_ok-name.ensures ∙ rw c.in-Some.is refl in
    let colon : past_mark 58 c.in-Some.rest.now ≡ Some c.in-Some-past_mark.place.now = sym c.in-Some-past_mark.ensures in
    let is : value 63 c.in-Some-past_mark.place.now ≡ Some (v, c.in-Some-2.rest.now) = sym c.in_ok-value.ensures ∙ rw c.in-Some-2.is refl in
    let named : named_value (value 63) text ≡ Some ((name, v), c.in-Some-2.rest.now) = rw (reads, colon, is) refl in
    let by_name : c.field_named.result ≡ field_named name = c.field_named.ensures ∙ ap field_named c.as_slice.ensures in (
      name,
      v,
      named,
      λ told tells. elim c.match-field_named.branch [
        | in-Some-field_named+in_ok-put w ↦
            let one = named_is name w.in-Some-field_named.field (sym by_name ∙ w.in-Some-field_named.is) in
            rw w.self-is (subst (λ n. Tells (with_member n v told) w.put.new.self) (sym one) (w.in_ok-put.ensures told tells))
        | in_default-field_named w ↦ rw w.self-is (unnamed_tells name v told c.args.self.now (sym by_name ∙ w.in_default-field_named.is) tells)
      ],
    )
