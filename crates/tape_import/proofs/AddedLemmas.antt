-- Outputs that are taken one after another, up to the first with a fault: what they add to the body.
use Rattle.std.proofs.Common.{◌≡◌, ℕ, zero, suc, List, [], ◌∷◌, ◌++◌, length, take, drop, Option, Some, None, refl, ap, sym, ◌∙◌, append-nil, append_assoc}
use Rattle.tape_core.specs.Tape.{body}
use Rattle.tape_core.specs.declared.chunk.Chunk.{Chunk}
use Rattle.tape_import.specs.Law.{EndAtFault, bytes_of}
use Rattle.tape_import.specs.Outputs.{Outputs, output_fault}
use Rattle.tape_import.specs.declared.fault.EventFault.{EventFault}

-- so many of these outputs were added to chunks, and what isn't taken begins with the fault
pub record Added (count : ℕ) (before : List Chunk) (outputs : List (List ℕ)) (fault : Option EventFault) (so_far : Outputs) : Type 0 where
  pub bytes : body so_far.chunks ≡ body before ++ bytes_of (take count outputs)
  pub rest : EndAtFault so_far fault (drop count outputs)

-- none were
pub none_added : (so_far : Outputs) (fault : Option EventFault) → Added 0 so_far.chunks [] fault so_far
none_added so_far None = record { bytes = sym (append-nil (body so_far.chunks)); rest = refl }
none_added so_far (Some f) = record { bytes = sym (append-nil (body so_far.chunks)); rest = tt }

-- the first has the fault
pub fault_first : (so_far : Outputs) (bytes : List ℕ) (more : List (List ℕ)) (fault : EventFault) → output_fault so_far (length bytes) ≡ Some fault
    → Added 0 so_far.chunks (bytes ∷ more) (Some fault) so_far
fault_first so_far bytes more fault is = record { bytes = sym (append-nil (body so_far.chunks)); rest = is }

-- one more was, before them
pub one_added : (count : ℕ) (before next : List Chunk) (bytes : List ℕ) (more : List (List ℕ)) (fault : Option EventFault) (so_far : Outputs) → body next ≡ body before ++ bytes
    → Added count next more fault so_far → Added (suc count) before (bytes ∷ more) fault so_far
one_added count before next bytes more fault so_far is added = record {
  bytes = added.bytes ∙ ap (λ front. front ++ bytes_of (take count more)) is ∙ append_assoc (body before) bytes (bytes_of (take count more));
  rest = added.rest;
}

-- where all of them were, those that were are all
pub all_taken : (count : ℕ) (outputs : List (List ℕ)) → drop count outputs ≡ [] → take count outputs ≡ outputs
all_taken zero outputs none = sym none
all_taken (suc count) [] none = refl
all_taken (suc count) (bytes ∷ more) none = ap (λ rest. bytes ∷ rest) (all_taken count more none)
