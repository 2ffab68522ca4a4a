use Rattle.std.proofs.Common.{◌≡◌, ◌≤◌, ◌+◌, ◌-◌, ◌*◌, ◌++◌, ◌∷◌, decimal, length}
use Rattle.std.specs.List.{flat_map, range_with_len}
use Rattle.screen_picture.proofs.letters.places_text.Given as goal

-- the places so far stand behind the first one
abbrev pub invariant-loop-before : goal.invariant-loop-before
invariant-loop-before l = record {
  told : l.text.items ≡ decimal (10 * l.fn.run.before) ++ flat_map (λ before. 32 ∷ decimal (10 * before)) (range_with_len (l.fn.run.before + 1) (l.before - (l.fn.run.before + 1)));
  short : length l.text.items ≤ 5 + 6 * (l.before - (l.fn.run.before + 1));
}
