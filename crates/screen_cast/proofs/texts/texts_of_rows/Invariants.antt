use Rattle.std.proofs.Common.{◌≡◌, ◌≤◌, All, None, vec_capacity, vec_len}
use Rattle.screen_cast.proofs.texts.texts_of_rows.Given as goal

-- none of the texts so far was laid out, and there is room for all
abbrev pub invariant-loop-slot : goal.invariant-loop-slot
invariant-loop-slot l = record {
  len : vec_len l.texts ≡ l._slot;
  room : 24 ≤ vec_capacity l.texts;
  none : All (λ text. text ≡ None) l.texts.items;
}
