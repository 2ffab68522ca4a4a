use Rattle.std.proofs.Common.{arith}
use Rattle.characters.proofs.Bytes.{lead, within, second, four_scalar}
use Rattle.characters.proofs.utf8.of_four.Goals as goal

pub overflow_sub-code : goal.overflow_sub-code
overflow_sub-code c = let l = (lead c.args.a c.requires.front.0).four_low c.requires.whole in omega arith

pub overflow_sub-code-2 : goal.overflow_sub-code-2
overflow_sub-code-2 c = let b = second c.args.a c.args.b (lead c.args.a c.requires.front.0) c.requires.front.1 in omega arith

pub overflow_sub-code-3 : goal.overflow_sub-code-3
overflow_sub-code-3 c = let third = within 0x80 0xBF c.args.c c.requires.front.2 in omega arith

pub overflow_sub-code-4 : goal.overflow_sub-code-4
overflow_sub-code-4 c = let fourth = within 0x80 0xBF c.args.d c.requires.follows in omega arith

pub unwrap-requires : goal.unwrap-requires
unwrap-requires c =
    let l = lead c.args.a c.requires.front.0 in
    let b = second c.args.a c.args.b l c.requires.front.1 in
    let within_row = within _ _ c.args.b c.requires.front.1 in
    let third = within 0x80 0xBF c.args.c c.requires.front.2 in
    let fourth = within 0x80 0xBF c.args.d c.requires.follows in
    c.from_u32.ensures.succeeds (four_scalar c.args.a c.args.b c.args.c c.args.d (l.four_low c.requires.whole) (l.four_high c.requires.whole) b.0 b.1
    (λ same. let high = l.top c.requires.whole same in omega arith) (λ same. let low = l.bottom c.requires.whole same in omega arith)
    third.0 third.1 fourth.0 fourth.1)
