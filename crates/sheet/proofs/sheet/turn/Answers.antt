use Rattle.sheet.proofs.Turns.{names_turned}
use Rattle.sheet.proofs.sheet.turn.Goals as goal

pub returns : goal.returns
returns c =
    names_turned c.args.order.now c.rotate_left.new.self c.args.n c.args.top c.args.bottom c.requires.low c.requires.apart c.requires.high c.requires.room
    c.rotate_left.ensures.len c.rotate_left.ensures.by_index
