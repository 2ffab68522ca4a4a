-- Where each place of a text stays, with the same to the left, nothing is written.
use Rattle.std.proofs.Common.{◌≡◌, ℕ, zero, suc, ◌+◌, ◌-◌, ◌<◌, ◌≤◌, Bool, ◌&&◌, List, [], ◌++◌, append-nil, drop, length, take, ap, ap₂, subst, sym, ◌∙◌, arith}
use Rattle.std.specs.List.{flat_map}
use Rattle.std.proofs.lemmas.List.Elements.{All-nil}
use Rattle.chunk_walk.proofs.TextLemmas.{texts_from}
use Rattle.vt_term.specs.Law.{PlaysInParts}
use Rattle.vt_term.specs.Seen.{Seen, Shows}
use Rattle.vt_term.specs.Term.{Term, play}
use Rattle.screen_print.specs.declared.standing.Place.{Place}
use Rattle.screen_print.specs.ByLine.{AreLost, IsApart, lines_by, place_line, places_above, places_to, row_on}
use Rattle.screen_print.specs.EachByte.{byte_lines, is_lone, passed_lines, still_within}
use Rattle.screen_print.specs.FindLines.{found_line, standing}
use Rattle.screen_print.specs.Fresh.{Keeps}
use Rattle.screen_print.specs.Stills.{Still, still_of}
use Rattle.screen_print.proofs.ByLineLemmas.{all_above, apart_is_no_less, lines_more, lines_none, lost_no_more, lost_none, passed_are, quiet_behind}
use Rattle.screen_print.proofs.FindLemmas.{first_more}
use Rattle.screen_print.proofs.SkimLemmas.{play_on}

module _ (text : List ℕ) (one other : Still) (keeps : Keeps text one other) where
  -- no place of the lines above one may have gone
  none_lost : (n : ℕ) → n ≤ 24 → AreLost text one (n + 1) other (n + 1) []
  none_lost zero few = lost_none text one other
  none_lost (suc n) few =
      let next : n + 1 ≡ suc n = omega arith in
      subst (λ k. AreLost text one (k + 1) other (k + 1) []) next
      (lost_no_more text one other (n + 1) (n + 1) (n + 1) (length (row_on one (n + 1)) + 1) [] (omega arith) (omega arith) (omega arith) (omega (arith, few)) (omega arith)
      (keeps.kept (n + 1) (omega arith) (omega (arith, few))) (none_lost n (omega (arith, few))))

  none_written : (write : Place → List ℕ) (keep : List ℕ → Bool) (n : ℕ) → n ≤ 24 → lines_by text one other write keep (places_above text one (n + 1)) ≡ []
  none_written write keep zero few = lines_none text one other write keep
  none_written write keep (suc n) few =
      let line = n + 1 in
      let next : n + 1 ≡ suc n = omega arith in
      let columns = length (row_on one line) in
      let f = place_line text one other write keep (places_above text one line) in
      let quiet : flat_map f (places_to text one line columns) ≡ [] =
      quiet_behind text one line 0 columns f (omega arith)
      (λ column low high begins.
      apart_is_no_less text one other write keep line (line + 1) column [] keeps.whole_too (omega arith) (omega arith) (omega (arith, few)) (omega (arith, low)) high begins
      (none_lost line (omega (arith, few))) (All-nil (IsApart one (take (column - 1) (row_on one line))))) in
      subst (λ k. lines_by text one other write keep (places_above text one (k + 1)) ≡ []) next
      (lines_more text one other write keep line (omega arith) ∙ ap₂ (λ a b. a ++ b) (none_written write keep n (omega (arith, few))) quiet)

  pub kept_passes : (index due len : ℕ) (first last : Still)
      → passed_lines index due len first (standing text first) last (standing text last) one (standing text one) other (standing text other) ≡ []
  kept_passes index due len first last =
      let write = found_line 126 index due len one in
      let keep : List ℕ → Bool = λ left. is_lone first (standing text first) left && is_lone last (standing text last) left in
      sym (passed_are text index due len first last one other)
      ∙ ap (lines_by text one other write keep) (sym (all_above text one keeps.whole))
      ∙ none_written write keep 24 (omega arith)

texts_none : (f : ℕ → List ℕ) (start n : ℕ) → ((k : ℕ) → start ≤ k → k < start + n → f k ≡ []) → texts_from f 0 (start + n) ≡ texts_from f 0 start
texts_none f start zero none = let all : start + 0 ≡ start = omega arith in ap (texts_from f 0) all
texts_none f start (suc n) none =
    let next : start + suc n ≡ start + n + 1 = omega arith in
    ap (texts_from f 0) next ∙ first_more f (start + n) ∙ ap (λ l. texts_from f 0 (start + n) ++ l) (none (start + n) (omega arith) (omega arith))
    ∙ append-nil (texts_from f 0 (start + n)) ∙ texts_none f start n (λ k low high. none k low (omega (arith, high)))

-- bytes at each of which all places stay have no lines
pub bytes_kept : PlaysInParts → (text : List ℕ) (index due : ℕ) (first last : Still) (x : Term) (bytes : List ℕ) (at n : ℕ)
    → ((count : ℕ) → count < n → Keeps text (still_within (play x (take at bytes)) (drop at bytes) count) (still_within (play x (take at bytes)) (drop at bytes) (count + 1)))
    → texts_from (byte_lines text index due first (standing text first) last (standing text last) x bytes) 0 (at + n)
    ≡ texts_from (byte_lines text index due first (standing text first) last (standing text last) x bytes) 0 at
bytes_kept plays text index due first last x bytes at n keeps =
    let passing : Still → Still → List ℕ = λ one other. passed_lines index due (length text) first (standing text first) last (standing text last) one (standing text one) other (standing text other) in
    let y = play x (take at bytes) in
    let rest = drop at bytes in
    let there : (m : ℕ) → still_within y rest m ≡ still_within x bytes (at + m) = λ m. ap (λ (t : Term). still_of t.console) (sym (play_on plays x bytes at m)) in
    texts_none (byte_lines text index due first (standing text first) last (standing text last) x bytes) at n
    (λ k low high.
    let j = k - at in
    let here : at + j ≡ k = omega (arith, low) in
    let next : at + (j + 1) ≡ k + 1 = omega (arith, low) in
    ap₂ passing (ap (still_within x bytes) (sym here) ∙ sym (there j)) (ap (still_within x bytes) (sym next) ∙ sym (there (j + 1)))
    ∙ kept_passes text (still_within y rest j) (still_within y rest (j + 1)) (keeps j (omega (arith, low, high))) index due (length text) first last)

-- a terminal that takes some of the bytes behind others
pub shows_on : PlaysInParts → (one other : Seen) (x : Term) (bytes : List ℕ) (at n : ℕ) → Shows one (play x (take at bytes))
    → (Shows one (play x (take at bytes)) → Shows other (play (play x (take at bytes)) (take n (drop at bytes)))) → Shows other (play x (take (at + n) bytes))
shows_on plays one other x bytes at n shows goes = subst (Shows other) (sym (play_on plays x bytes at n)) (goes shows)
