-- Counts in a map of short names, against plain lists; bytes that are scanned a few at a time.
use Rattle.std.proofs.Common.{◌≡◌, ℕ, zero, suc, ◌+◌, ◌<◌, cond, List, [], ◌∷◌, ◌++◌, take, drop, length, get_or, refl, sym, ap, ◌∙◌, subst, arith}
use Rattle.std.specs.Prelude.{Option, Some, fold}
use Rattle.std.specs.List.{flat_map}
use Rattle.std.specs.declared.cmp.Ordering.{Ordering}
use Rattle.std.specs.declared.cmp.Ordering.TheVariants.{Less, Equal, Greater}
use Rattle.std.specs.Ordering.{nat_cmp, is_eq, match_ordering}
use Rattle.std.specs.Cmp.Lexicographic.{slice_cmp}
use Rattle.std.specs.BTreeMap.{insert_entry}
use Rattle.std.specs.Map.{lookup}
use Rattle.std.proofs.Math.Seq.{take-add}
use Rattle.std.proofs.lemmas.List.{take_more, append-nil}
use Rattle.std.proofs.lemmas.List.Concat.{flat_map-append}
use Rattle.std.proofs.lemmas.List.Sums.{fold-append}
use Rattle.arrayvec.specs.ArrayVec.{ArrayVec}
use Rattle.vt_parser.specs.declared.commands.Mode.{Mode}
use Rattle.vt_parser.specs.declared.states.ParserState.{ParserState}
use Rattle.vt_parser.specs.declared.commands.Token.{Token}
use Rattle.vt_parser.specs.View.{parser_view}
use Rattle.vt_parser.specs.Fold.{mode_after_bytes, pending_after_bytes}
use Rattle.vt_parser.specs.Formless.{formless_of, NoneEndsBehind}
use Rattle.vt_parser.specs.Token.{TellsOf, Leads}
use Rattle.vt_term.specs.declared.profile.Profile.{Profile}
use Rattle.tape_check.specs.declared.unplayed.Counts.{Counts}
use Rattle.tape_check.specs.declared.played.PlayedAs.TheVariants.{Vt}
use Rattle.tape_check.specs.Unplayed.{command_names, formless_names}
use Rattle.tape_check.specs.declared.scan.Scanner.{Scanner}
use Rattle.tape_check.specs.Scan.{Scan, mode_left_by, scan_step, names_in, counted}
use Rattle.tape_check.specs.Counting.{plain_entries, entries_of, Follows, Scanned}
use Rattle.tape_check.proofs.ScanLemmas.{names_append, mode_same_bytes, told, comes_told, view_told}

-- ---- counts

pub lookup_plain : (name : List ℕ) (entries : List (ArrayVec ℕ × ℕ))
    → lookup (λ (k : ArrayVec ℕ). is_eq (slice_cmp nat_cmp name k.items)) entries
    ≡ lookup (λ (k : List ℕ). is_eq (slice_cmp nat_cmp name k)) (plain_entries entries)
lookup_plain name [] = refl
lookup_plain name (entry ∷ entries) =
    ap (λ (o : Option ℕ). cond (is_eq (slice_cmp nat_cmp name entry.0.items)) (Some entry.1) o) (lookup_plain name entries)

placed : (order : Ordering) (one two three : List (ArrayVec ℕ × ℕ))
    → plain_entries (match_ordering order one two three)
    ≡ match_ordering order (plain_entries one) (plain_entries two) (plain_entries three)
placed Less one two three = refl
placed Equal one two three = refl
placed Greater one two three = refl

pub insert_plain : (name : ArrayVec ℕ) (n : ℕ) (entries : List (ArrayVec ℕ × ℕ))
    → plain_entries (insert_entry (λ (v w : ArrayVec ℕ). slice_cmp nat_cmp v.items w.items) entries name n)
    ≡ insert_entry (slice_cmp nat_cmp) (plain_entries entries) name.items n
insert_plain name n [] = refl
insert_plain name n (entry ∷ entries) =
    let order = slice_cmp nat_cmp name.items entry.0.items in
    let rest = insert_entry (λ (v w : ArrayVec ℕ). slice_cmp nat_cmp v.items w.items) entries name n in
    placed order ((name, n) ∷ entry ∷ entries) ((entry.0, n) ∷ entries) (entry ∷ rest)
    ∙ ap (λ (l : List (List ℕ × ℕ)). match_ordering order ((name.items, n) ∷ plain_entries (entry ∷ entries))
    ((entry.0.items, n) ∷ plain_entries entries) ((entry.0.items, entry.1) ∷ l)) (insert_plain name n entries)

-- ---- parts

pub scanned_none : (old : Scanner) (s : Scan) → Follows old s → Scanned old old s []
unfolding names_in
scanned_none old s follows = record { follows = follows; profile = refl; counts = refl }

scanned_append : (old mid new : Scanner) (s : Scan) (first second : List ℕ) → Scanned old mid s first
    → Scanned mid new (fold scan_step s first) second → Scanned old new s (first ++ second)
scanned_append old mid new s first second one two = record {
  follows = subst (Follows new) (sym (fold-append scan_step s first second)) two.follows;
  profile = two.profile ∙ one.profile;
  counts = two.counts
      ∙ ap (λ (l : List (List ℕ × ℕ)). fold counted l (names_in mid.profile (fold scan_step s first) second)) one.counts
      ∙ ap (λ (p : Profile). fold counted (fold counted (entries_of old.counts) (names_in old.profile s first))
      (names_in p (fold scan_step s first) second)) one.profile
      ∙ sym (fold-append counted (entries_of old.counts) (names_in old.profile s first)
      (names_in old.profile (fold scan_step s first) second))
      ∙ ap (fold counted (entries_of old.counts)) (sym (names_append old.profile s first second));
}

-- what was scanned of bytes so far, and the rest of them
pub record Fed (old new : Scanner) (bytes rest : List ℕ) : Type 0 where
  pub at : ℕ
  pub left : rest ≡ drop at bytes
  pub scanned : (s : Scan) → Follows old s → Scanned old new s (take at bytes)

pub scanned_on : (old mid new : Scanner) (s : Scan) (bytes rest : List ℕ) (at n : ℕ) → rest ≡ drop at bytes
    → Scanned old mid s (take at bytes) → Scanned mid new (fold scan_step s (take at bytes)) (take n rest)
    → Scanned old new s (take (at + n) bytes)
scanned_on old mid new s bytes rest at n left one two =
    subst (Scanned old new s) (sym (take-add at n bytes))
    (scanned_append old mid new s (take at bytes) (take n (drop at bytes)) one
    (subst (λ (l : List ℕ). Scanned mid new (fold scan_step s (take at bytes)) (take n l)) left two))

-- one more piece of a list
pub scanned_piece : {X : Type 0} (old mid new : Scanner) (s : Scan) (f : X → List ℕ) (pieces : List X) (i : ℕ) (d : X) → i < length pieces
    → Scanned old mid s (flat_map f (take i pieces)) → Scanned mid new (fold scan_step s (flat_map f (take i pieces))) (f (get_or pieces i d))
    → Scanned old new s (flat_map f (take (i + 1) pieces))
scanned_piece old mid new s f pieces i d within one two =
    subst (Scanned old new s)
    (sym (ap (flat_map f) (take_more pieces i d within)
    ∙ flat_map-append f (take i pieces) (get_or pieces i d ∷ [])
    ∙ ap (λ (l : List ℕ). flat_map f (take i pieces) ++ l) (append-nil (f (get_or pieces i d)))))
    (scanned_append old mid new s (flat_map f (take i pieces)) (f (get_or pieces i d)) one two)

-- ---- what the parser takes

pub first_taken : (n : ℕ) (bytes : List ℕ) → 0 < n → get_or (take n bytes) 0 0 ≡ get_or bytes 0 0
first_taken zero bytes some = absurd (omega arith)
first_taken (suc n) [] some = refl
first_taken (suc n) (byte ∷ rest) some = refl

abbrev pub scanner : Profile → Mode → ParserState → Counts → Scanner
scanner profile mode state counts = record { profile = profile; mode = mode; parser = state; counts = counts }

pub scanned_told : (old : Scanner) (mid new : Counts) (state : ParserState) (mode : Mode) (s : Scan) (taken : List ℕ)
    (given token : Option Token) → 0 < length taken → given ≡ token → Follows old s
    → TellsOf old.mode s.mode s.pending taken given → NoneEndsBehind old.mode s.mode s.pending taken → Leads old.parser old.mode taken state
    → mode ≡ mode_left_by (told token) old.mode
    → entries_of mid ≡ fold counted (entries_of old.counts) (formless_names (formless_of s.mode s.pending (get_or taken 0 0)))
    → entries_of new ≡ fold counted (entries_of mid) (command_names (Vt old.profile) (told token))
    → Scanned old (scanner old.profile mode state new) s taken
scanned_told old mid new state mode s [] given token some same follows tells none leads mode_is first more = absurd (omega arith)
scanned_told old mid new state mode s (byte ∷ rest) given token some same follows tells none leads mode_is first more =
    let m = s.mode in
    let bytes = byte ∷ rest in
    let here = sym follows.mode in
    let tells_here : TellsOf m m s.pending bytes token
    = subst (λ (t : Option Token). TellsOf m m s.pending bytes t) same (subst (λ (g : Mode). TellsOf g m s.pending bytes given) here tells) in
    let none_here : NoneEndsBehind m m s.pending bytes = subst (λ (g : Mode). NoneEndsBehind g m s.pending bytes) here none in
    let leads_here : parser_view (mode_after_bytes m m bytes) (pending_after_bytes m m s.pending bytes) ≡ Some state
    = subst (λ (g : Mode). parser_view (mode_after_bytes g m bytes) (pending_after_bytes g m s.pending bytes) ≡ Some state) here
    (leads m s.pending follows.state) in
    let pending = pending_after_bytes m m s.pending bytes in
    let view : parser_view m pending ≡ Some state
    = ap (λ (n : Mode). parser_view n pending) (sym (mode_same_bytes m bytes)) ∙ leads_here in
    let comes = comes_told old.profile m s.pending byte rest token tells_here none_here in
    let form = formless_names (formless_of m s.pending byte) in
    let names = command_names (Vt old.profile) (told token) in
    record {
      follows = subst (Follows (scanner old.profile mode state new)) (sym comes.scan_is) (record {
        mode = ap (mode_left_by (told token)) follows.mode ∙ sym mode_is;
        state = view_told m s.pending byte rest token state tells_here view;
      });
      profile = refl;
      counts = more ∙ ap (λ (l : List (List ℕ × ℕ)). fold counted l names) first
          ∙ sym (fold-append counted (entries_of old.counts) form names)
          ∙ ap (fold counted (entries_of old.counts)) (sym comes.names);
    }
