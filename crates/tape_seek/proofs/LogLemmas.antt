-- The fields of an edit's line, written one after another.
use Rattle.std.proofs.Common.{◌≡◌, ℕ, ◌<◌, List, [], ◌∷◌, ◌++◌, length, map, refl, sym, ap, append-nil, arith}
use Rattle.hex.specs.Hex.{encode_lower}
use Rattle.std.specs.List.{flat_map, join_with_byte}
use Rattle.tape_seek.specs.declared.written_log.Field.{Field}
use Rattle.tape_seek.specs.Fields.{field_text, spaced}
use Rattle.tape_seek.specs.WrittenLog.{hex_form}

-- joined by one space: each behind the first has a space before it
pub joined : (word : List ℕ) (fields : List Field) → join_with_byte 32 (word ∷ map field_text fields) ≡ word ++ flat_map spaced fields
joined word [] = sym (append-nil word)
joined word (field ∷ more) = ap (λ l. word ++ 32 ∷ l) (joined (field_text field) more)

-- bytes, where there is one
pub digits_of_some : (bytes : List ℕ) → 0 < length bytes → hex_form bytes ≡ encode_lower bytes
digits_of_some [] some = absurd (omega arith)
digits_of_some (b ∷ bs) some = refl
