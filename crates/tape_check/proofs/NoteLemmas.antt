-- Texts of notes, written piece by piece.
use Rattle.std.proofs.Common.{◌≡◌, ℕ, ◌||◌, List, [], ◌∷◌, ◌++◌, refl, sym, ap, ◌∙◌}
use Rattle.std.specs.Prelude.{Option, Some, None, is_some, false}
use Rattle.std.specs.List.{flat_map}
use Rattle.std.proofs.lemmas.List.{append-nil, append_assoc}
use Rattle.std.proofs.lemmas.List.Concat.{flat_map_single, flat_map-append}
use Rattle.tape_core.specs.declared.devices.Watched.{Watched}
use Rattle.tape_core.specs.Devices.{Gave}
use Rattle.tape_check.specs.Header.{visible}
use Rattle.tape_check.specs.Lines.{shown, part_if, parts_text, unplayed_line}
use Rattle.tape_check.specs.declared.notes.Note.{Note}
use Rattle.tape_check.specs.declared.check.Parts.{Parts}
use Rattle.tape_check.specs.Noting.{seen_if, separator, further, parts_seen, parts_in_turn}

-- a shown text, byte by byte
pub shown_pieces : (text : List ℕ) → shown text ≡ flat_map (λ byte. visible byte ∷ []) text
shown_pieces text = sym (flat_map_single visible text)

-- parts are joined by what stands before each
parts_joined : (one two three : Option Note)
    → parts_text (part_if (seen_if one) ++ part_if (seen_if two) ++ part_if (seen_if three))
    ≡ further false (seen_if one) ++ further (is_some one) (seen_if two) ++ further (is_some one || is_some two) (seen_if three)
unfolding separator
parts_joined None None None = refl
parts_joined None None (Some c) = simp (append-nil, append_assoc)
parts_joined None (Some b) None = simp (append-nil, append_assoc)
parts_joined None (Some b) (Some c) = simp (append-nil, append_assoc)
parts_joined (Some a) None None = simp (append-nil, append_assoc)
parts_joined (Some a) None (Some c) = simp (append-nil, append_assoc)
parts_joined (Some a) (Some b) None = simp (append-nil, append_assoc)
parts_joined (Some a) (Some b) (Some c) = simp (append-nil, append_assoc)

four_joined : (one two three four : Option Note)
    → parts_text (part_if (seen_if one) ++ part_if (seen_if two) ++ part_if (seen_if three) ++ part_if (seen_if four))
    ≡ further false (seen_if one) ++ further (is_some one) (seen_if two) ++ further (is_some one || is_some two) (seen_if three)
    ++ further (is_some one || is_some two || is_some three) (seen_if four)
unfolding separator
four_joined None two three four = parts_joined two three four
four_joined (Some a) None None None = simp (append-nil, append_assoc)
four_joined (Some a) None None (Some d) = simp (append-nil, append_assoc)
four_joined (Some a) None (Some c) None = simp (append-nil, append_assoc)
four_joined (Some a) None (Some c) (Some d) = simp (append-nil, append_assoc)
four_joined (Some a) (Some b) None None = simp (append-nil, append_assoc)
four_joined (Some a) (Some b) None (Some d) = simp (append-nil, append_assoc)
four_joined (Some a) (Some b) (Some c) None = simp (append-nil, append_assoc)
four_joined (Some a) (Some b) (Some c) (Some d) = simp (append-nil, append_assoc)

pub parts_are_joined : (parts : Parts) → parts_text (parts_seen parts) ≡ parts_in_turn parts
unfolding parts_in_turn
parts_are_joined parts = four_joined parts.size parts.term parts.resizes parts.sessions

-- the lines of some entries were written, and the rest of them is left
pub record Written {T : Type 0} (contents : T → Option (List ℕ)) (old new : Watched T) (entries left : List (List ℕ × ℕ)) : Type 0 where
  pub done : List (List ℕ × ℕ)
  pub cut : entries ≡ done ++ left
  pub took : Gave contents old new (flat_map unplayed_line done)

pub line_more : (done : List (List ℕ × ℕ)) (entry : List ℕ × ℕ)
    → flat_map unplayed_line (done ++ entry ∷ []) ≡ flat_map unplayed_line done ++ unplayed_line entry
line_more done entry =
    flat_map-append unplayed_line done (entry ∷ [])
    ∙ ap (λ (l : List ℕ). flat_map unplayed_line done ++ l) (append-nil (unplayed_line entry))
