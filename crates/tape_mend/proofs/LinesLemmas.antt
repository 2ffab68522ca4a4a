-- No line that times a chunk ends in a CR, nor does a blank one.
use Rattle.std.proofs.Common.{◌≡◌, ℕ, ◌+◌, ◌-◌, ◌<◌, ◌==◌, Bool, true, false, ◌||◌, List, [], ◌∷◌, ◌++◌, length, get_or, filter, map, nat_eq, nat_lt, refl, ap, sym, ◌∙◌, arith, append-nil, length-append, true≢false}
use Rattle.std.specs.Char.{is_ascii_digit}
use Rattle.std.specs.List.{AllPass, list_any}
use Rattle.std.proofs.lemmas.Bool.{eqb-true, lt-ltb}
use Rattle.std.proofs.lemmas.List.{get_or-append-add}
use Rattle.tape_core.specs.declared.chunk.Chunk.{Chunk}
use Rattle.tape_core.specs.Reading.{AreTimed}
use Rattle.tape_core.specs.Text.{fields, is_blank, lines_of}
use Rattle.tape_core.specs.Timing.{TimingLine}
use Rattle.tape_core.proofs.LineLemmas.{no_fields}
use Rattle.tape_mend.specs.Lines.{ends_in_cr, has_cr_lf, timing_lines, without_cr}

abbrev pub has_fields : List ℕ → Bool
has_fields text = nat_lt 0 (length (fields text))

pub some_fields : (text first : List ℕ) (others : List (List ℕ)) → fields text ≡ first ∷ others → has_fields text ≡ true
some_fields text first others is = ap (λ fs. nat_lt 0 (length fs)) is ∙ lt-ltb 0 (length (first ∷ others)) (omega arith)

ends_at_last : (text : List ℕ) → 0 < length text → ends_in_cr text ≡ (get_or text (length text - 1) 0 == 13)
ends_at_last text some = let long : nat_lt 0 (length text) ≡ true = lt-ltb _ _ some in rw long refl

-- a text ends as what stands at its end
ends_behind : (front back : List ℕ) → 0 < length back → ends_in_cr (front ++ back) ≡ ends_in_cr back
ends_behind front back some =
    let place : length (front ++ back) - 1 ≡ length front + (length back - 1) = omega (arith, length-append front back) in
    let one : get_or (front ++ back) (length (front ++ back) - 1) 0 ≡ get_or back (length back - 1) 0 =
    ap (λ n. get_or (front ++ back) n 0) place ∙ get_or-append-add front back (length back - 1) 0 in
    ends_at_last (front ++ back) (omega (arith, length-append front back)) ∙ ap (λ b. b == 13) one ∙ sym (ends_at_last back some)

not_cr : (p : ℕ → Bool) → p 13 ≡ false → (b : ℕ) → p b ≡ true → nat_eq b 13 ≡ false
not_cr p fails b passes = by (nat_eq b 13) refl
  where
    by : (t : Bool) → nat_eq b 13 ≡ t → nat_eq b 13 ≡ false
    by true e = absurd (true≢false (sym passes ∙ ap p (eqb-true b 13 e) ∙ fails))
    by false e = e

-- one without a CR doesn't end in one
ends_plain : (p : ℕ → Bool) → p 13 ≡ false → (text : List ℕ) → AllPass p text → ends_in_cr text ≡ false
ends_plain p fails [] all = refl
ends_plain p fails (b ∷ bs) all =
    ends_at_last (b ∷ bs) (omega arith) ∙ not_cr p fails _ (all (length (b ∷ bs) - 1) 0 (omega arith))

ends_counted : (front second after : List ℕ) → 0 < length second → AllPass is_ascii_digit second → AllPass is_blank after
    → ends_in_cr (front ++ second ++ after) ≡ false
ends_counted front second [] some digits blanks =
    ap ends_in_cr (append-nil (front ++ second)) ∙ ends_behind front second some ∙ ends_plain is_ascii_digit refl second digits
ends_counted front second (b ∷ bs) some digits blanks =
    ends_behind (front ++ second) (b ∷ bs) (omega arith) ∙ ends_plain is_blank refl (b ∷ bs) blanks

ends_timed : (text : List ℕ) (delay count : ℕ) → TimingLine text delay count → ends_in_cr text ≡ false
ends_timed text delay count l =
    ap ends_in_cr l.spelled
    ∙ ends_counted (l.before ++ l.first ++ l.between) l.second l.after l.counted.some l.counted.digits l.blank_after

none_end : (lines : List (List ℕ)) (chunks : List Chunk) → AreTimed (filter has_fields lines) chunks → list_any ends_in_cr lines ≡ false
none_end [] chunks timed = refl
none_end (text ∷ rest) chunks timed = by (fields text) chunks refl timed (λ chunks timed. none_end rest chunks timed)
  where
    by : (fs : List (List ℕ)) (chunks : List Chunk) → fields text ≡ fs → AreTimed (filter has_fields (text ∷ rest)) chunks
        → ((chunks : List Chunk) → AreTimed (filter has_fields rest) chunks → list_any ends_in_cr rest ≡ false)
        → list_any ends_in_cr (text ∷ rest) ≡ false
    by [] chunks is timed more = rw (ends_plain is_blank refl text (no_fields text is)) (more chunks (rw is at timed))
    by (first ∷ others) [] is timed more = absurd (rw (some_fields text first others is) at timed)
    by (first ∷ others) (c ∷ cs) is timed more =
        let line = rw (some_fields text first others is) at timed in
        rw (ends_timed text c.delay (length c.bytes) line.0) (more cs line.1)

unchanged : (lines : List (List ℕ)) → list_any ends_in_cr lines ≡ false → map without_cr lines ≡ lines
unchanged [] none = refl
unchanged (text ∷ rest) none = by (ends_in_cr text) refl none (λ none. unchanged rest none)
  where
    by : (t : Bool) → ends_in_cr text ≡ t → (t || list_any ends_in_cr rest) ≡ false
        → (list_any ends_in_cr rest ≡ false → map without_cr rest ≡ rest) → map without_cr (text ∷ rest) ≡ text ∷ rest
    by true e none more = absurd (true≢false none)
    by false e none more = rw (e, more none) refl

-- a file that times chunks has no CR LF
pub no_cr_lf : (timing : List ℕ) (chunks : List Chunk) → AreTimed (filter has_fields (lines_of timing)) chunks → has_cr_lf timing ≡ false
no_cr_lf timing chunks timed = none_end (lines_of timing) chunks timed

-- and is read line by line as it is
pub lines_stay : (timing : List ℕ) (chunks : List Chunk) → AreTimed (filter has_fields (lines_of timing)) chunks
    → timing_lines timing ≡ lines_of timing
lines_stay timing chunks timed = unchanged (lines_of timing) (none_end (lines_of timing) chunks timed)
