-- Where the first group begins, and loops over groups.
use Rattle.std.proofs.Common.{◌≡◌, ℕ, Bool, true, List, [], ◌++◌, ap, sym, subst, ◌∙◌, refl, arith, filter, ◌==◌, ◌||◌, ◌&&◌, not, ◌-◌, ◌<◌, ◌≤◌}
use Rattle.std.specs.List.{flat_map, range_with_len}
use Rattle.std.proofs.lemmas.Bool.Decides.{nat_tests}
use Rattle.sheet.specs.Cells.{Cell, is_covered}
use Rattle.xterm_rows.specs.Groups.{group_end}
use Rattle.xterm_rows.specs.Runs.{cell_behind, owner}
use Rattle.xterm_rows.proofs.GroupLemmas.{end_high, groups_more, groups_to, next_begins}
use Rattle.xterm_picture.specs.Grounds.{begins_ground}
use Rattle.xterm_picture.specs.Letters.{begins_span, is_alone}

-- a ground at the first cell
pub first_ground : (cells : List Cell) → begins_ground cells 0 ≡ true
unfolding begins_ground
first_ground cells = refl

-- a piece of a run where the run begins
same : (n : ℕ) → (n == n) ≡ true
same n = grind (arith, nat_tests)

pub first_span : (cells : List Cell) (from : ℕ) → begins_span cells from from ≡ true
unfolding begins_span
first_span cells from = ap (λ b. b || (not (is_covered (cell_behind cells from))
    && (is_alone (owner cells (from - 1)) || is_alone (cell_behind cells from)))) (same from)

-- before a place none begins from it on
pub none_yet : (text : ℕ → List ℕ) (begins : ℕ → Bool) (from : ℕ) → [] ≡ groups_to text begins from from
none_yet text begins from =
    let none : from - from ≡ 0 = omega arith in
    sym (ap (λ n. flat_map text (filter begins (range_with_len from n))) none)

-- ---- a loop over groups

-- the texts of the groups that begin before a place have gone out, and another one begins there unless it is the end
pub record GroupsGone (gone : List ℕ → Type 0) (text : ℕ → List ℕ) (begins : ℕ → Bool) (from at end : ℕ) : Type 0 where
  pub gave : gone (groups_to text begins from at)
  pub here : at < end → begins at ≡ true
  pub low : from ≤ at
  pub high : at ≤ end

module _ (before after : List ℕ → Type 0) (text : ℕ → List ℕ) (begins : ℕ → Bool) (from at end : ℕ) (gone : GroupsGone before text begins from at end) where
  -- .. and that one, too
  pub group_gone : (next : ℕ) → at < end → at < next → next ≡ group_end begins at end → after (groups_to text begins from at ++ text at)
      → GroupsGone after text begins from next end
  group_gone next within some is gave = record {
    gave = subst after (sym (groups_more text begins from at end gone.low within (gone.here within)) ∙ ap (groups_to text begins from) (sym is)) gave;
    here = λ more. subst (λ n. begins n ≡ true) (sym is) (next_begins begins at end within (subst (λ n. n < end) is more));
    low = omega (arith, gone.low, some);
    high = subst (λ n. n ≤ end) (sym is) (end_high begins at end within);
  }

-- at the end all have
pub all_gone : (gone : List ℕ → Type 0) (text : ℕ → List ℕ) (begins : ℕ → Bool) (from at end : ℕ) → GroupsGone gone text begins from at end → end ≤ at
    → gone (groups_to text begins from end)
all_gone gone text begins from at end so_far past =
    let all : at ≡ end = omega (arith, so_far.high, past) in
    subst (λ n. gone (groups_to text begins from n)) all so_far.gave
