use Rattle.parser_state.proofs.put_begun.Goals as goal

pub returns : goal.returns
returns g c =
    c.gives_join.ensures.both _ _ _ _ _ c.put_where-2.ensures
    (c.gives_join.ensures.both _ _ _ _ _ c.put_params.ensures (c.gives_join.ensures.both _ _ _ _ _ c.put_where.ensures c.give.ensures))
