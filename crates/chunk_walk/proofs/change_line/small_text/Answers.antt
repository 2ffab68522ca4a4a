use Rattle.std.proofs.Common.{ℕ, ◌+◌, ◌-◌, ◌∙◌, ap₂, arith, drop, take}
use Rattle.chunk_walk.specs.declared.change_line.TheConstants.{SMALL}
use Rattle.chunk_walk.proofs.RunLemmas.{place_rises, place_within, run_within}
use Rattle.chunk_walk.proofs.change_line.small_text.Goals as goal

pub part-requires : goal.part-requires
part-requires c =
    let high = place_within (c.args.first + c.args.count) c.requires in
    let rises = place_rises c.args.first c.args.count in
    record {
      apart = omega (arith, c.small_place.ensures, c.small_place-2.ensures);
      within = omega (arith, c.small_place-2.ensures);
    }

pub returns : goal.returns
returns c =
    c.part.ensures
    ∙ ap₂ (λ (from to : ℕ). take (to - from) (drop from SMALL)) c.small_place.ensures c.small_place-2.ensures
    ∙ run_within c.args.first c.args.count c.requires
