use Rattle.std.proofs.Common.{◌∙◌, ◌++◌, ◌∷◌, [], ap, drop}
use Rattle.standings.proofs.MovedLemmas.{put_last}
use Rattle.standings.proofs.row.move_rows_up.Goals as goal

pub returns-clause-moved : goal.returns-clause-moved
returns-clause-moved c =
    let rows = c.args.rows.now in
    put_last rows c.rotate_left.new.self c.blank.new.self c.requires.some c.rotate_left.ensures.after ∙ ap (λ row. drop 1 rows ++ row ∷ []) c.in_ok-blank.ensures.spaces
