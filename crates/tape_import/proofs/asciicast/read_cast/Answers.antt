use Rattle.std.proofs.Common.{◌≡◌, ◌+◌, ◌-◌, ◌∙◌, None, ap, arith, length, subst, sym}
use Rattle.json_bytes.specs.Values.{json_of}
use Rattle.tape_core.specs.Text.{lines_of}
use Rattle.tape_import.specs.Asciicast.{asciicast_of, at_header, events, header_line, line_fault, on_line, past_header, told_size, with_line}
use Rattle.tape_import.specs.KeptCast.{HasSizes, IsCounted}
use Rattle.tape_import.proofs.CastLemmas.{line_counted, line_kept, line_taken, numbered, taken_is}
use Rattle.tape_import.proofs.asciicast.read_cast.Goals as goal

pub loop-rest-init : goal.loop-rest-init
loop-rest-init c =
    let text = c.args.text.now in
    let version = c.args.version in
    let lines = lines_of text in
    let split = c.split_header-number in
    let size = c.in_ok-told_size.field-0 in
    let cast = c.at_header-cast.result in
    let past : length lines - length (past_header lines) ≡ split.result.2 = omega (arith, split.ensures.count) in
    let told : at_header (told_size version (json_of (header_line lines))) ≡ cast =
    sym (c.at_header-cast.ensures ∙ ap at_header c.in_ok-told_size.ensures.size ∙ ap (λ l. at_header (told_size version (json_of l))) split.ensures.line) in
    let same : asciicast_of version text ≡ events version split.result.2 cast (lines_of split.result.1.now) =
    ap (λ n. events version n (at_header (told_size version (json_of (header_line lines)))) (past_header lines)) past
    ∙ ap (λ start. events version split.result.2 start (past_header lines)) told ∙ ap (events version split.result.2 cast) (sym split.ensures.rest) in
    let none : IsCounted split.result.2 (at_header size) = record { inputs = omega arith; markers = omega arith; resizes = omega arith; others = omega arith } in
    let sized : HasSizes (at_header size) = record { told = c.in_ok-told_size.ensures.small } in
    record {
      same = same;
      fits = split.ensures.within;
      counted = subst (IsCounted split.result.2) (sym c.at_header-cast.ensures) none;
      sizes = subst HasSizes (sym c.at_header-cast.ensures) sized;
    }

pub loop-rest-preserved : goal.loop-rest-preserved
loop-rest-preserved c =
    let version = c.args.version in
    let cast = c.loop-rest.cast in
    let number = c.loop-rest.number in
    let here = on_line (number + 1) cast in
    let line = c.next_line.result.0.now in
    let more = lines_of c.next_line.result.1.now in
    let sound : line_fault version here line ≡ None = sym c.in_ok-fault.ensures.fault ∙ c.in_default.is in
    let next : c.take_line.new.self ≡ with_line version here line = taken_is c.in_ok-fault.field-0 c.take_line.new.self (with_line version here line) c.in_default.is c.in_ok-fault.ensures.taken in
    record {
      same = c.loop-rest.invariant.same ∙ ap (events version number cast) c.next_line.ensures.lines ∙ line_taken version number cast line more sound
          ∙ ap (λ after. events version (number + 1) after more) (sym next);
      fits = omega (arith, c.next_line.ensures.shorter, c.loop-rest.invariant.fits);
      counted = subst (IsCounted (number + 1)) (sym next) (line_counted number version here line (numbered number (number + 1) cast c.loop-rest.invariant.counted));
      sizes = subst HasSizes (sym next) (line_kept version here line (record { told = c.loop-rest.invariant.sizes.told }));
    }
