use Rattle.std.proofs.Common.{arith}
use Rattle.characters.proofs.Bytes.{lead, within, second, three_scalar}
use Rattle.characters.proofs.utf8.of_three.Goals as goal

pub overflow_sub-code : goal.overflow_sub-code
overflow_sub-code c = let l = (lead c.args.a c.requires.front.0).three_low c.requires.whole in omega arith

pub overflow_sub-code-2 : goal.overflow_sub-code-2
overflow_sub-code-2 c = let b = second c.args.a c.args.b (lead c.args.a c.requires.front.0) c.requires.front.1 in omega arith

pub overflow_sub-code-3 : goal.overflow_sub-code-3
overflow_sub-code-3 c = let third = within 0x80 0xBF c.args.c c.requires.follows in omega arith

pub unwrap-requires : goal.unwrap-requires
unwrap-requires c =
    let l = lead c.args.a c.requires.front.0 in
    let b = second c.args.a c.args.b l c.requires.front.1 in
    let within_row = within _ _ c.args.b c.requires.front.1 in
    let third = within 0x80 0xBF c.args.c c.requires.follows in
    c.from_u32.ensures.succeeds (three_scalar c.args.a c.args.b c.args.c (l.three_low c.requires.whole) (l.three_high c.requires.whole) b.0 b.1
    (λ same. let high = l.no_surrogate c.requires.whole same in omega arith) third.0 third.1)
