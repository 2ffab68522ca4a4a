use Rattle.std.proofs.Common.{arith}
use Rattle.characters.proofs.Bytes.{lead, second, two_scalar}
use Rattle.characters.proofs.utf8.of_two.Goals as goal

pub overflow_sub-code-2 : goal.overflow_sub-code-2
overflow_sub-code-2 c = let b = second c.args.a c.args.b (lead c.args.a c.requires.front) c.requires.follows in omega arith

pub unwrap-requires : goal.unwrap-requires
unwrap-requires c =
    let l = lead c.args.a c.requires.front in
    let b = second c.args.a c.args.b l c.requires.follows in
    c.from_u32.ensures.succeeds (two_scalar c.args.a c.args.b (l.two_low c.requires.whole) (l.two_high c.requires.whole) b.0 b.1)
