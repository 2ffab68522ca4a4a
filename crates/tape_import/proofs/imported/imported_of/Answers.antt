use Rattle.std.proofs.Common.{ap, refl, subst, sym, ◌∙◌}
use Rattle.tape_core.specs.Tape.{Tape, fits}
use Rattle.tape_import.specs.Facts.{IsHeaderOf}
use Rattle.tape_import.proofs.ImportedLemmas.{imported_fits}
use Rattle.tape_import.proofs.imported.imported_of.Goals as goal

pub from_parts-requires : goal.from_parts-requires
from_parts-requires c =
    imported_fits c.in_ok-header.header c.args.outputs.chunks c.into_chunks-chunks.result.items c.from_vec-trailer.result c.in_ok-header.ensures.line
    c.into_chunks-chunks.ensures.chunks c.into_chunks-chunks.ensures.within

pub returns : goal.returns
returns c =
    let is = c.in_ok-recording.ensures in
    record {
      fitting = subst fits (sym is)
          (imported_fits c.in_ok-header.header c.args.outputs.chunks c.into_chunks-chunks.result.items c.from_vec-trailer.result c.in_ok-header.ensures.line
          c.into_chunks-chunks.ensures.chunks c.into_chunks-chunks.ensures.within);
      header = subst (λ h. IsHeaderOf c.args.facts.now h) (sym (ap (λ (t : Tape). t.header) is)) c.in_ok-header.ensures.told;
      chunks = ap (λ (t : Tape). t.chunks) is ∙ c.into_chunks-chunks.ensures.chunks;
      trailer = ap (λ (t : Tape). t.trailer) is ∙ c.from_vec-trailer.ensures ∙ c.new.ensures.items;
      lost = refl;
    }
