-- Lines read one after another.
use Rattle.std.proofs.Common.{◌≡◌, ℕ, ◌+◌, ◌<◌, ◌≤◌, List, [], ◌∷◌, ◌++◌, length, Option, Some, None, Ok, refl, ap, sym, ◌∙◌, arith, append-nil, append_assoc, length-append}
use Rattle.std.specs.List.{cons_option}
use Rattle.std.specs.Option.{option_or, option_to_list}
use Rattle.std.proofs.lemmas.List.Sums.{sum_by_push}
use Rattle.std.proofs.lemmas.List.Elements.{All-push, filter_map-append}
use Rattle.std.proofs.lemmas.Bool.{lt-leb, le-ltb}
use Rattle.tape_core.specs.declared.timing.Entry.{Entry}
use Rattle.tape_core.specs.declared.fault.Fault.{Fault}
use Rattle.tape_core.specs.Tape.{most_chunks, longest_body}
use Rattle.tape_core.specs.Timing.{IsWithin, counted_bytes, entries_of, entry_in, entry_of, fault_after, fault_of_line, first_fault, timing_fault}
use Rattle.tape_core.specs.Steps.{AreWithin, FitsAfter}
use Rattle.tape_core.specs.Text.{lines_of}

-- Some lines are read, and the rest of the text has the others.
pub record ReadSoFar (timing rest : List ℕ) (entries : List Entry) (bytes line : ℕ) : Type 0 where
  pub before : List (List ℕ)
  pub number : line ≡ length before
  pub read : entries ≡ entries_of before
  pub counted : bytes ≡ counted_bytes entries
  pub within : AreWithin entries
  pub cut : lines_of timing ≡ before ++ lines_of rest
  pub fault : timing_fault timing ≡ first_fault before (lines_of rest)
  pub behind : line + length rest ≤ length timing

one_entry : (o : Option Entry) → cons_option o [] ≡ option_to_list o
one_entry None = refl
one_entry (Some e) = refl

-- the next line's fault, by the running numbers
module _ (timing rest after text : List ℕ) (entries : List Entry) (bytes line : ℕ) (r : ReadSoFar timing rest entries bytes line) (cut : lines_of rest ≡ text ∷ lines_of after) where
  fault_here : fault_after r.before text ≡ fault_of_line (line + 1) (length entries) bytes (entry_of text)
  fault_here = rw (r.counted, r.read, r.number) refl

  fault_next : timing_fault timing ≡ option_or (fault_of_line (line + 1) (length entries) bytes (entry_of text)) (first_fault (r.before ++ text ∷ []) (lines_of after))
  fault_next = r.fault ∙ ap (first_fault r.before) cut ∙ ap (λ o. option_or o (first_fault (r.before ++ text ∷ []) (lines_of after))) fault_here

  cut_next : lines_of timing ≡ (r.before ++ text ∷ []) ++ lines_of after
  cut_next = r.cut ∙ ap (λ ls. r.before ++ ls) cut ∙ sym (append_assoc r.before (text ∷ []) (lines_of after))

  entries_next : entries_of (r.before ++ text ∷ []) ≡ entries ++ option_to_list (entry_in (entry_of text))
  entries_next = filter_map-append (λ t. entry_in (entry_of t)) r.before (text ∷ []) ∙ ap (λ es. es ++ entries_of (text ∷ [])) (sym r.read)
      ∙ ap (λ es. entries ++ es) (one_entry (entry_in (entry_of text)))

  -- the fault on the next line is the timing's
  pub line_faulty : (f : Fault) → fault_of_line (line + 1) (length entries) bytes (entry_of text) ≡ Some f → timing_fault timing ≡ Some f
  line_faulty f faulty = fault_next ∙ rw faulty refl

  pub line_blank : length after < length rest → entry_of text ≡ Ok None → ReadSoFar timing after entries bytes (line + 1)
  line_blank shorter blank = record {
    before = r.before ++ text ∷ [];
    number = omega (arith, r.number, length-append r.before (text ∷ []));
    read = sym (entries_next ∙ rw blank (append-nil entries));
    counted = r.counted;
    within = r.within;
    cut = cut_next;
    fault = fault_next ∙ rw blank refl;
    behind = omega (arith, r.behind);
  }

  pub line_timed : (e : Entry) → length after < length rest → entry_of text ≡ Ok (Some e) → FitsAfter (length entries) bytes e
      → ReadSoFar timing after (entries ++ e ∷ []) (bytes + e.count) (line + 1)
  line_timed e shorter timed fits =
      let sum : counted_bytes (entries ++ e ∷ []) ≡ bytes + e.count = sum_by_push (λ x. x.count) entries e ∙ ap (λ n. n + e.count) (sym r.counted) in
      record {
        before = r.before ++ text ∷ [];
        number = omega (arith, r.number, length-append r.before (text ∷ []));
        read = sym (entries_next ∙ rw timed refl);
        counted = sym sum;
        within = record {
          few = omega (arith, length-append entries (e ∷ []), fits.few);
          each = All-push IsWithin entries e r.within.each fits.within;
          bytes = omega (arith, sum, fits.small);
        };
        cut = cut_next;
        fault = fault_next ∙ rw (timed, lt-leb most_chunks (length entries) fits.few, le-ltb longest_body (bytes + e.count) fits.small) refl;
        behind = omega (arith, r.behind);
      }
