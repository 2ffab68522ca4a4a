use Rattle.std.proofs.Common.{◌∙◌, rules}
use Rattle.std.proofs.lemmas.List.{nil_from_length}
use Rattle.tape_seek.proofs.HexLemmas.{hex_none, hex_more, hex_all}
use Rattle.tape_seek.proofs.hex_text.give_hex.Goals as goal

pub loop-piece-init : goal.loop-piece-init
loop-piece-init g c = (
  search rules,
  tt,
  search rules,
  hex_none _ _ _ _ (search rules) (c.gives_join.ensures.nothing _),
)

pub loop-piece-preserved : goal.loop-piece-preserved
loop-piece-preserved g c =
    let steps = c.in-Some.ensures.steps in (
      search rules,
      tt,
      steps.0 ∙ c.loop-piece.invariant.2,
      hex_more c.in-Some.piece.now _ steps.1.0 c.loop-piece.invariant.3
          (c.gives_join.ensures.both _ _ _ _ _ c.put_piece.ensures c.loop-piece.invariant.3.gave),
    )

pub returns : goal.returns
returns g c = hex_all (nil_from_length _ c.in-None.ensures.steps.1.0) c.loop-piece.invariant.3
