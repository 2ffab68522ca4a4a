-- A page is its parts, and an entry the lines that it names.
use Rattle.std.proofs.Common.{◌≡◌, ◌+◌, ◌-◌, ℕ, Bool, Some, not, List, [], ◌∷◌, ◌++◌, filter, map, refl, ap, ap₂, sym, ◌∙◌, append_assoc, if◌then◌else◌, inl, inr}
use Rattle.std.specs.Prelude.{◌&&◌}
use Rattle.std.specs.List.{flat_map, range_with_len}
use Rattle.std.proofs.lemmas.Bool.{cases_Bool}
use Rattle.std.proofs.lemmas.List.Folds.{flat_map-map}
use Rattle.chunk_walk.specs.Walk.{all_texts}
use Rattle.tape_core.specs.Due.{indices}
use Rattle.tape_core.specs.Tape.{Tape}
use Rattle.sheet.specs.Cells.{Cell}
use Rattle.sheet.specs.Grid.{AreMarked as MarksTell, is_touched, row_at}
use Rattle.screen_page.specs.Page.{front, tail}
use Rattle.xterm_term.specs.declared.measure.Size.{Size}
use Rattle.xterm_term.specs.Console.{Console}
use Rattle.xterm_page.specs.Entries.{change_of, changed_lines, changes, entry_at, entry_of, first_entry, is_changed}
use Rattle.xterm_page.specs.EntryText.{change_text, data_text, entry_front, entry_text, named_text, next_text, size_text}
use Rattle.xterm_page.specs.Page.{page_text}
use Rattle.xterm_page.specs.Parts.{changed_text, chunk_text, closing, come_text, come_told, first_text, front_text, is_renewed, line_text, lines_text, opening, renewed, renewed_text, told}
use Rattle.xterm_page.specs.declared.kept.Renewal.{Renewal}
use Rattle.xterm_page.specs.Same.{same_row}
use Rattle.xterm_page.proofs.RenewedLemmas.{line_told, texts_joined}
use Rattle.xterm_page.proofs.SameLemmas.{row_itself}

-- ---- the lines that an entry names

passing : (f : ℕ → List ℕ) (passes : ℕ → Bool) (xs : List ℕ)
    → flat_map f (filter passes xs) ≡ flat_map (λ k. if passes k then f k else []) xs
passing f passes [] = refl
passing f passes (x ∷ xs) = elim (cases_Bool (passes x)) [
  | inl t ↦ rw t (ap (λ l. f x ++ l) (passing f passes xs))
  | inr n ↦ rw n (passing f passes xs)
]

-- where lines that weren't touched have the rows of before, lines that differ are those that are told as changed
renewed_is : (origins : List ℕ) (before after : List (List Cell)) (line : ℕ) → MarksTell before origins after
    → is_renewed origins (row_at before line) (row_at after line) line ≡ is_changed before after line
renewed_is origins before after line told = elim (cases_Bool (is_touched origins line)) [
  | inl t ↦ ap (λ b. b && is_changed before after line) t
  | inr f ↦ ap (λ b. b && is_changed before after line) f ∙ sym (ap not (ap (same_row (row_at before line)) (told.stay line f) ∙ row_itself (row_at before line)))
]

all_alike : (f g : ℕ → List ℕ) → ((x : ℕ) → f x ≡ g x) → (xs : List ℕ) → flat_map f xs ≡ flat_map g xs
all_alike f g same [] = refl
all_alike f g same (x ∷ xs) = ap₂ (λ a b. a ++ b) (same x) (all_alike f g same xs)

pub lines_told : (origins : List ℕ) (lines : ℕ) (before after : List (List Cell)) → MarksTell before origins after
    → flat_map named_text (changes lines before after) ≡ lines_text origins lines before after
unfolding changes changed_lines lines_text line_text changed_text
lines_told origins lines before after told =
    let text : ℕ → List ℕ = λ line. named_text (change_of lines before (row_at after line) line) in
    flat_map-map named_text (λ line. change_of lines before (row_at after line) line) (filter (is_changed before after) (range_with_len 1 lines))
    ∙ passing text (is_changed before after) (range_with_len 1 lines)
    ∙ all_alike (λ line. if is_changed before after line then text line else [])
    (λ line. if is_renewed origins (row_at before line) (row_at after line) line then text line else [])
    (λ line. ap (λ b. if b then text line else []) (sym (renewed_is origins before after line told)))
    (range_with_len 1 lines)

-- the lines that are told as changed are these
lines_renewed : (origins : List ℕ) (lines : ℕ) (before after : List (List Cell))
    → flat_map (renewed_text after) (renewed origins lines before after) ≡ lines_text origins lines before after
unfolding lines_text line_text changed_text
lines_renewed origins lines before after =
    let p : ℕ → Bool = λ line. is_renewed origins (row_at before line) (row_at after line) line in
    flat_map-map (renewed_text after) (line_told lines before after) (filter p (range_with_len 1 lines))
    ∙ passing (λ line. renewed_text after (line_told lines before after line)) p (range_with_len 1 lines)

-- so are those of which renewals tell
pub renewals_written : (origins : List ℕ) (lines : ℕ) (before after : List (List Cell)) (changed : List Renewal) → flat_map told changed ≡ renewed origins lines before after
    → flat_map (λ one. flat_map (renewed_text after) (told one)) changed ≡ lines_text origins lines before after
renewals_written origins lines before after changed is =
    sym (texts_joined (renewed_text after) told changed) ∙ ap (flat_map (renewed_text after)) is ∙ lines_renewed origins lines before after

-- what is written of lines that came up
pub come_written : (rows : List (List Cell)) (from end shift : ℕ) → flat_map (renewed_text rows) (come_told from end shift) ≡ come_text from end shift
unfolding named_text change_text
come_written rows from end shift =
    flat_map-map (renewed_text rows) (λ line. (line, Some (line + shift))) (range_with_len from (end - from))

-- an entry: what opens it, its front, its lines, and what closes it
pub entry_is : (origins : List ℕ) (due : ℕ) (before : List (List Cell)) (after : Console) → MarksTell before origins after.picture.rows
    → next_text (entry_of due before after)
    ≡ (((44 ∷ 10 ∷ 91 ∷ []) ++ front_text due after) ++ lines_text origins after.picture.lines before after.picture.rows) ++ 93 ∷ []
unfolding next_text entry_text front_text entry_front
entry_is origins due before after told =
    ap (λ l. ((44 ∷ 10 ∷ 91 ∷ []) ++ front_text due after) ++ l ++ 93 ∷ []) (lines_told origins after.picture.lines before after.picture.rows told)

-- ---- the parts

joined_parts : (h s e m t : List ℕ)
    → (h ++ (((91 ∷ s) ++ (e ++ m)) ++ 93 ∷ [])) ++ t ≡ (((h ++ (91 ∷ s)) ++ e) ++ m) ++ (93 ∷ t)
joined_parts h s e m t =
    let a : List ℕ = 91 ∷ s in
    let d : List ℕ = 93 ∷ t in
    append_assoc h ((a ++ (e ++ m)) ++ 93 ∷ []) t
    ∙ ap (λ l. h ++ l) (append_assoc (a ++ (e ++ m)) (93 ∷ []) t)
    ∙ sym (append_assoc h (a ++ (e ++ m)) d)
    ∙ ap (λ l. l ++ d) (sym (append_assoc h a (e ++ m)) ∙ sym (append_assoc (h ++ a) e m))

pub page_is : (title : List ℕ) (size : Size) (tape : Tape)
    → page_text title size.columns size.lines tape ≡ opening title size.columns size.lines ++ all_texts chunk_text size tape ++ closing
unfolding page_text data_text opening closing first_text all_texts
page_is title size tape =
    joined_parts (front title) (size_text size.columns size.lines) (next_text first_entry)
    (flat_map next_text (map (entry_at size.columns size.lines tape) (indices tape.chunks))) tail
    ∙ ap (λ m. opening title size.columns size.lines ++ m ++ closing) (flat_map-map next_text (entry_at size.columns size.lines tape) (indices tape.chunks))
