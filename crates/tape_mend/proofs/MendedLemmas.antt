-- A recording and its losses, made of what was read and taken.
use Rattle.std.proofs.Common.{◌≡◌, ℕ, Bool, List, [], drop, take, refl, ap, sym, ◌∙◌}
use Rattle.tape_core.specs.Reading.{header_len}
use Rattle.tape_mend.specs.declared.counting.Piece.{Piece}
use Rattle.tape_mend.specs.declared.opening.Header.{Header as How}
use Rattle.tape_mend.specs.declared.taken.Taken.{Taken as Held}
use Rattle.tape_mend.specs.Front.{Front, front_of}
use Rattle.tape_mend.specs.Lines.{has_cr_lf}
use Rattle.tape_mend.specs.Mended.{Remains, losses_of, mended, remains, seen}
use Rattle.tape_mend.specs.Steps.{IsOpening, IsTaken}
use Rattle.tape_mend.specs.Taken.{Taken, taken}

-- what the code holds is what is left
abbrev pub held : List ℕ → List ℕ → Held → Bool → Front → Remains
held first trailer h cr_lf front = record {
  tape = record { header = first; chunks = h.chunks.items; trailer = trailer };
  losses = losses_of cr_lf front (record { chunks = h.chunks.items; cut = h.cut; left = h.left; rest = trailer });
}

told : (typescript script first trailer : List ℕ) (start : ℕ) (cr_lf : Bool) (front : Front) (h : Held) (t : Taken)
    → IsOpening typescript script first start → IsTaken script h t → trailer ≡ drop h.rest script
    → remains typescript cr_lf front t ≡ held first trailer h cr_lf front
told typescript script first trailer start cr_lf front h t o is behind =
    let header : take (header_len typescript) typescript ≡ first = sym o.header in
    let chunks : t.chunks ≡ h.chunks.items = is.chunks in
    let cut : t.cut ≡ h.cut = is.cut in
    let left : t.left ≡ h.left = is.left in
    let rest : t.rest ≡ trailer = is.rest ∙ sym behind in
    rw (header, chunks, cut, left, rest) refl

pub mended_is : (how : How) (script timing first trailer : List ℕ) (start : ℕ) (front : Front) (pieces : List Piece) (h : Held)
    → IsOpening (seen how script) script first start → front_of timing ≡ front → pieces ≡ front.pieces
    → IsTaken script h (taken [] (drop start script) pieces) → trailer ≡ drop h.rest script
    → mended how script timing ≡ held first trailer h (has_cr_lf timing) front
mended_is how script timing first trailer start front pieces h o read same is behind =
    let typescript = seen how script in
    let cr_lf = has_cr_lf timing in
    ap (λ f. remains typescript cr_lf f (taken [] (drop (header_len typescript) typescript) f.pieces)) read
    ∙ ap (λ b. remains typescript cr_lf front (taken [] b front.pieces)) (sym o.rest)
    ∙ ap (λ ps. remains typescript cr_lf front (taken [] (drop start script) ps)) (sym same)
    ∙ told typescript script first trailer start cr_lf front h (taken [] (drop start script) pieces) o is behind
