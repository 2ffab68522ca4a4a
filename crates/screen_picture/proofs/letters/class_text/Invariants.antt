use Rattle.std.proofs.Common.{◌≡◌, ◌≤◌, ◌++◌, ◌+◌, ◌*◌, [], ◌∷◌, length, take}
use Rattle.std.specs.List.{flat_map}
use Rattle.screen_picture.proofs.letters.class_text.Given as goal

-- the letters so far stand behind the first one
abbrev pub invariant-loop-letter : goal.invariant-loop-letter
invariant-loop-letter l = record {
  told : l.text.items ≡ l.initial.text.items ++ flat_map (λ letter. 32 ∷ letter ∷ []) (take l.letter-index l.rest);
  short : length l.text.items ≤ length l.initial.text.items + 2 * l.letter-index;
}
