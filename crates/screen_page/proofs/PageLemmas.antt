-- A page is its parts, and the lines that an entry names.
use Rattle.std.proofs.Common.{◌≡◌, ℕ, zero, suc, ◌+◌, ◌<◌, ◌≤◌, Bool, true, false, List, [], ◌∷◌, ◌++◌, All, filter, map, Some, None, refl, ap, sym, ◌∙◌, arith, append_assoc, inl, inr}
use Rattle.std.specs.List.{flat_map, range_with_len}
use Rattle.std.proofs.lemmas.Bool.{cases_eq}
use Rattle.std.proofs.lemmas.List.Elements.{All-filter}
use Rattle.std.proofs.lemmas.List.Folds.{flat_map-map}
use Rattle.std.proofs.lemmas.List.FromFn.{get_or-range_with_len, length-range_with_len}
use Rattle.tape_core.specs.Due.{indices}
use Rattle.tape_core.specs.Tape.{Tape}
use Rattle.vt_screen.specs.declared.cell.Row.{Row}
use Rattle.vt_term.specs.declared.profile.Profile.{Profile}
use Rattle.screen_rows.specs.SameRows.{changed_lines, is_changed}
use Rattle.screen_print.specs.Stills.{Still}
use Rattle.screen_print.specs.Walk.{whole_text}
use Rattle.screen_rows.specs.Runs.{runs_of}
use Rattle.screen_page.specs.Entries.{change_of, entry_at, entry_of, first_entry, first_of, shown, shown_run}
use Rattle.screen_page.specs.EntryText.{entry_front, entry_text, named_text, next_text, run_text}
use Rattle.screen_page.specs.Page.{front, page_text, tail}
use Rattle.screen_page.specs.Parts.{IsLine, chunk_text, closing, first_text, front_text, line_text, opening}

-- ---- the parts

-- an opening, entries and a closing around their beginning, middle and end
joined_parts : (h e m t : List ℕ) → (h ++ (91 ∷ ((e ++ m) ++ 93 ∷ []))) ++ t ≡ ((h ++ (91 ∷ e)) ++ m) ++ (93 ∷ t)
joined_parts h e m t =
    append_assoc h (91 ∷ ((e ++ m) ++ 93 ∷ [])) t
    ∙ ap (λ l. h ++ (91 ∷ l)) (append_assoc (e ++ m) (93 ∷ []) t ∙ append_assoc e m (93 ∷ t))
    ∙ sym (append_assoc h (91 ∷ e) (m ++ 93 ∷ t))
    ∙ sym (append_assoc (h ++ (91 ∷ e)) m (93 ∷ t))

-- the entries of the chunks are the texts of a walk over all of them
chunks_told : (profile : Profile) (tape : Tape)
    → flat_map next_text (map (entry_at profile tape) (indices tape.chunks)) ≡ whole_text chunk_text profile tape
unfolding whole_text
chunks_told profile tape = flat_map-map next_text (entry_at profile tape) (indices tape.chunks)

pub page_is : (title : List ℕ) (profile : Profile) (tape : Tape)
    → page_text title profile tape ≡ opening title ++ whole_text chunk_text profile tape ++ closing
unfolding page_text first_text
page_is title profile tape =
    joined_parts (front title) (entry_text first_entry)
    (flat_map next_text (map (entry_at profile tape) (indices tape.chunks))) tail
    ∙ ap (λ m. opening title ++ m ++ closing) (chunks_told profile tape)

-- ---- the first line that passes

pub first_found : (p : ℕ → Bool) (a n k : ℕ) → ((i : ℕ) → a ≤ i → i < k → p i ≡ false) → a ≤ k → k < a + n → p k ≡ true
    → first_of (filter p (range_with_len a n)) ≡ Some k
first_found p a zero k before low high is = absurd (omega arith)
first_found p a (suc n) k before low high is = elim (cases_eq a k) [
  | inl e ↦ rw (ap p e ∙ is) (ap Some e)
  | inr ne ↦
      rw (before a (omega arith) (omega arith))
      (first_found p (a + 1) n k (λ i above below. before i (omega arith) below) (omega arith) (omega arith) is)
]

pub none_found : (p : ℕ → Bool) (a n : ℕ) → ((i : ℕ) → a ≤ i → i < a + n → p i ≡ false)
    → first_of (filter p (range_with_len a n)) ≡ None
none_found p a zero fails = refl
none_found p a (suc n) fails =
    rw (fails a (omega arith) (omega arith)) (none_found p (a + 1) n (λ i low high. fails i (omega arith) (omega arith)))

-- ---- an entry and its rows

pub entry_is : (due : ℕ) (before after : Still) (lines : List ℕ) → lines ≡ changed_lines before.rows after.rows
    → next_text (entry_of due before after)
    ≡ (((44 ∷ 10 ∷ 91 ∷ []) ++ front_text due after) ++ flat_map (line_text before.rows after.rows) lines) ++ 93 ∷ []
unfolding front_text
entry_is due before after lines is =
    let front = 44 ∷ 10 ∷ 91 ∷ entry_front (entry_of due before after) in
    ap (λ l. front ++ l ++ 93 ∷ [])
    (flat_map-map named_text (change_of before.rows after.rows) (changed_lines before.rows after.rows) ∙ ap (flat_map (line_text before.rows after.rows)) (sym is))

pub runs_told : (row : Row) → flat_map run_text (shown row).runs ≡ flat_map (λ run. run_text (shown_run row run)) (runs_of row)
unfolding shown
runs_told row = flat_map-map run_text (shown_run row) (runs_of row)

-- the lines that a chunk changes are lines
pub changed_are_lines : (before after : List Row) → All IsLine (changed_lines before after)
unfolding changed_lines
changed_are_lines before after =
    All-filter (is_changed before after) IsLine (range_with_len 1 24)
    (λ k d below.
    let is = get_or-range_with_len 1 24 k d (omega (arith, below, length-range_with_len 1 24)) in
    record { low = omega (arith, is); high = omega (arith, is, below, length-range_with_len 1 24) })
