use Rattle.std.proofs.Common.{◌≡◌, ◌+◌, take, get_or, ap, sym, ◌∙◌, refl, subst, ◌∷◌, []}
use Rattle.characters.specs.Utf8.{Decoded, decoded_on}
use Rattle.tape_core.specs.Devices.{Gave}
use Rattle.output_cast.specs.Events.{read_behind}
use Rattle.output_cast.specs.Line.{Goes, begun_line, is_some}
use Rattle.output_cast.proofs.EventLemmas.{read_more, read_none}
use Rattle.output_cast.proofs.events.put_chunk.Goals as goal

pub loop-byte-init : goal.loop-byte-init
loop-byte-init g c =
    let none = read_none c.args.decoder.now in
    record {
      goes = record {
        moment = refl;
        begun = sym (ap (λ (d : Decoded). is_some d.characters) none);
        gave = subst (Gave g.W.Write.contents c.args.writer.now c.args.writer.now)
            (sym (ap (λ (d : Decoded). begun_line c.args.moment d.characters) none)) (c.gives_join.ensures.nothing c.args.writer.now);
      };
      pending = ap (λ (d : Decoded). d.pending) (sym none);
    }

pub loop-byte-preserved : goal.loop-byte-preserved
loop-byte-preserved g c =
    let pending = c.args.decoder.now in
    let bytes = c.args.bytes.now in
    let n = c.loop-byte.byte-index in
    let byte = get_or bytes n 0 in
    let so = read_behind pending (take n bytes) in
    let more : read_behind pending (take (n + 1) bytes) ≡ decoded_on so byte = read_more pending bytes n 0 c.loop-byte-test.true in
    let on : decoded_on (record { characters = so.characters; pending = c.loop-byte.decoder }) byte ≡ read_behind pending (take (n + 1) bytes) =
    ap (λ p. decoded_on (record { characters = so.characters; pending = p }) byte) c.loop-byte.invariant.pending ∙ sym more in
    record {
      goes = subst (Goes g.W.Write.contents c.args.writer.now c.put_byte.new.writer c.put_byte.new.line c.args.moment)
          (ap (λ (d : Decoded). d.characters) on)
          (c.put_byte.ensures.goes c.args.writer.now c.args.moment so.characters c.loop-byte.invariant.goes);
      pending = c.put_byte.ensures.pending so.characters ∙ ap (λ (d : Decoded). d.pending) on;
    }
