-- What leaves a parser as it is seen.
use Rattle.std.proofs.Common.{◌≡◌, ◌≢◌, ℕ, ◌<◌, ◌≤◌, Bool, true, false, List, [], ◌∷◌, ◌++◌, length, take, append-nil, append_assoc, refl, sym, ap, ap₂, subst, inl, inr, ◌∙◌, arith}
use Rattle.std.specs.Prelude.{codes, nat_lt, Some, None, ◌==◌, ◌||◌, if◌then◌else◌}
use Rattle.std.specs.List.{list_all}
use Rattle.std.proofs.lemmas.Bool.{and_parts, cases_Bool, ltb-true}
use Rattle.std.proofs.lemmas.Bool.Decides.{nat_tests}
use Rattle.std.proofs.lemmas.Fmt.{decimal_nonempty}
use Rattle.std.proofs.lemmas.List.{take-append-le, take_all, length-take, length-append}
use Rattle.std.proofs.lemmas.List.Folds.{list_all-append}
use Rattle.std.proofs.lemmas.List.Elements.{recursion_from_All}
use Rattle.vt_parser.specs.declared.commands.Mode.{Mode}
use Rattle.vt_parser.specs.declared.commands.Mode.TheVariants.{Ansi, Vt52}
use Rattle.vt_parser.specs.declared.syntax.Context.TheVariants.{Sequence}
use Rattle.vt_parser.specs.declared.states.ParserState.{ParserState}
use Rattle.vt_parser.specs.declared.states.ParserState.TheVariants.{Ground, Escape, EscapeOne, EscapeMany, CsiStart, Csi, Text, Vt52Line, Vt52Escape}
use Rattle.vt_parser.specs.Decimals.{params_text}
use Rattle.vt_parser.specs.Forms.{is_intermediate, is_control_sequence_text, is_plain, is_private, after_mark, is_well_formed, numbers, params, has_more, held}
use Rattle.vt_parser.specs.Fold.{Gives, Waits, mode_after_bytes, pending_after_bytes}
use Rattle.vt_parser.specs.Machine.{Holds, Transition, context_in, moves_to, joined, stepped, Runs}
use Rattle.vt_parser.specs.Step.{mode_after, pending_after}
use Rattle.vt_parser.specs.Syntax.{escape, is_graphic}
use Rattle.vt_parser.specs.View.{control_sequence_view, parser_view}
use Rattle.vt_parser.proofs.Agrees.{same_command, same_view}
use Rattle.vt_parser.proofs.LawLemmas.{params_proper}
use Rattle.vt_parser.proofs.ManyBytes.{runs_more, runs_agree}
use Rattle.vt_parser.proofs.Numbers.{numbers_push}
use Rattle.vt_parser.proofs.Shapes.{Form, nothing, escaped, controlled, stringed, lone, addressed, lined, form, shows_none}
use Rattle.vt_parser.proofs.Whole.{joins, text_grows}
use Rattle.vt_parser.proofs.Written.{Small, numbers-text, text_plain, text_joins, unmarked}
use Rattle.parser_state.specs.PendingText.{begun_text, pending_text, text_where}

-- ---- the text of a control sequence, without its introducer

-- numbers and what may follow them are read as these parameters
record IsWritten (numbers : List ℕ) (over : Bool) (text : List ℕ) : Type 0 where
  plain : list_all is_plain text ≡ true
  some : 0 < length text
  params : params text ≡ numbers
  more : has_more text ≡ over

text_some : (first : ℕ) (rest : List ℕ) → first ≤ 9999 → 0 < length (params_text (first ∷ rest))
text_some first [] small = decimal_nonempty first (omega arith)
text_some first (second ∷ rest) small = simp length-append (omega arith)

is_written : (first : ℕ) (rest : List ℕ) (over : Bool) → Small (first ∷ rest) → length (first ∷ rest) ≤ 16
    → (over ≡ true → length (first ∷ rest) ≡ 16) → IsWritten (first ∷ rest) over (params_text (first ∷ rest) ++ text_where over (codes ";"))
is_written first rest true small few full =
    let ns = first ∷ rest in
    let text = params_text ns in
    let plain = text_plain ns small in
    let pushed : numbers (text ++ 59 ∷ []) ≡ ns ++ 0 ∷ [] = numbers_push text 59 ∙ ap (λ (l : List ℕ). l ++ 0 ∷ []) (numbers-text first rest small) in
    let sixteen : 16 ≤ length ns = omega (arith, full refl) in
    let long : 16 < length (ns ++ 0 ∷ []) = omega (arith, length-append ns (0 ∷ [])) in
    record {
      plain = list_all-append is_plain text (59 ∷ []) ∙ simp plain;
      some = omega (arith, length-append text (59 ∷ []));
      params = ap (take 16) pushed ∙ take-append-le 16 ns (0 ∷ []) sixteen ∙ take_all 16 ns few;
      more = ap (λ (l : List ℕ). nat_lt 16 (length l)) pushed ∙ grind (arith, nat_tests);
    }
is_written first rest false small few full =
    let ns = first ∷ rest in
    let read = numbers-text first rest small in
    subst (IsWritten ns false) (sym (append-nil (params_text ns))) (record {
      plain = text_plain ns small;
      some = text_some first rest small.0;
      params = ap (take 16) read ∙ take_all 16 ns few;
      more = ap (λ (l : List ℕ). nat_lt 16 (length l)) read ∙ grind (arith, nat_tests);
    })

-- a text that isn't empty, of numbers alone
view_of : (text : List ℕ) → 0 < length text → list_all is_plain text ≡ true
    → control_sequence_view text ≡ Csi false (held (params text)) (has_more text)
view_of [] some plain = absurd (omega arith)
view_of (byte ∷ rest) some plain =
    let bare = unmarked (byte ∷ rest) plain in
    let well : is_well_formed (byte ∷ rest) ≡ true = ap (list_all is_plain) bare.1 ∙ plain in
    simp well (ap₂ (λ (p : Bool) (l : List ℕ). Csi p (held (params l)) (has_more l)) bare.0 bare.1)

-- what a text with a mark, or without one, shows, and that it joins
record ShowsText (text : List ℕ) (state : ParserState) : Type 0 where
  view : control_sequence_view text ≡ state
  joins : list_all is_control_sequence_text text ≡ true

shows_text : (private over : Bool) (numbers text : List ℕ) → IsWritten numbers over text
    → ShowsText (text_where private (codes "?") ++ text) (Csi private (held numbers) over)
shows_text true over numbers text is =
    let plain = is.plain in
    let params = is.params in
    let more = is.more in
    let joins = text_joins text plain in
    record { view = simp (plain, params, more); joins = simp joins }
shows_text false over numbers text is = record {
  view = view_of text is.some is.plain ∙ ap₂ (λ (l : List ℕ) (o : Bool). Csi false (held l) o) is.params is.more;
  joins = text_joins text is.plain;
}

-- a text that is begun
runs_begun : (done text : List ℕ) → list_all is_control_sequence_text text ≡ true
    → Runs (control_sequence_view done) Ansi text (moves_to (control_sequence_view (done ++ text)))
runs_begun done [] all = ap (λ (l : List ℕ). moves_to (control_sequence_view l)) (sym (append-nil done))
runs_begun done (byte ∷ text) all =
    let parts = and_parts (is_control_sequence_text byte) (list_all is_control_sequence_text text) all in
    runs_more (control_sequence_view done) (control_sequence_view (done ++ byte ∷ [])) Ansi byte text _ (text_grows done byte parts.0)
    (subst (λ (l : List ℕ). Runs (control_sequence_view (done ++ byte ∷ [])) Ansi text (moves_to (control_sequence_view l)))
    (append_assoc done (byte ∷ []) text) (runs_begun (done ++ byte ∷ []) text parts.1))

-- .. behind its introducer
runs_introduced : (text : List ℕ) (state : ParserState) → ShowsText text state → Runs Ground Ansi (27 ∷ 91 ∷ text) (moves_to state)
unfolding stepped joined
runs_introduced text state shows =
    subst (λ (t : ParserState). Runs Ground Ansi (27 ∷ 91 ∷ text) (moves_to t)) shows.view
    (runs_more Ground Escape Ansi 27 (91 ∷ text) _ refl
    (runs_more Escape CsiStart Ansi 91 text _ refl (runs_begun [] text shows.joins)))

-- parameters that a text has
abbrev Numbered : Bool → List ℕ → Bool → Type 0
Numbered private numbers over = Runs Ground Ansi (begun_text private numbers over) (moves_to (Csi private (held numbers) over))

numbered : (private : Bool) (numbers : List ℕ) (over : Bool) → 1 ≤ length numbers → length numbers ≤ 16 → Small numbers
    → (over ≡ true → length numbers ≡ 16) → Numbered private numbers over
numbered private [] over some few small full = absurd (omega arith)
numbered private (first ∷ rest) over some few small full =
    let text = params_text (first ∷ rest) ++ text_where over (codes ";") in
    let shows = shows_text private over (first ∷ rest) text (is_written first rest over small few full) in
    subst (λ (bytes : List ℕ). Runs Ground Ansi bytes (moves_to (Csi private (held (first ∷ rest)) over)))
    (ap (λ (l : List ℕ). 27 ∷ 91 ∷ l) (sym (append_assoc (text_where private (codes "?")) (params_text (first ∷ rest)) (text_where over (codes ";")))))
    (runs_introduced (text_where private (codes "?") ++ text) (Csi private (held (first ∷ rest)) over) shows)

-- the text of what a text shows
text_runs : (text : List ℕ) → Runs Ground Ansi (pending_text (control_sequence_view text)) (moves_to (control_sequence_view text))
unfolding stepped joined
text_runs [] = (refl, refl)
text_runs (byte ∷ rest) =
    let text = byte ∷ rest in
    let bare = after_mark text in
    let proper = params_proper bare in
    let full : has_more bare ≡ true → length (params bare) ≡ 16 = λ is. omega (arith, length-take 16 (numbers bare), ltb-true 16 (length (numbers bare)) is) in
    elim (cases_Bool (is_well_formed text)) [
      | inl well ↦ simp well (numbered (is_private text) (params bare) (has_more bare) proper.0.0 proper.0.1 (recursion_from_All _ (params bare) proper.1) full)
      | inr ill ↦ simp ill (refl, (refl, refl))
    ]

-- ---- any state

-- bytes of a sequence that isn't finished
one_joins : (state : ParserState) (mode : Mode) (byte : ℕ) → context_in state ≡ Sequence → is_graphic byte ≡ true → (after : ParserState)
    → joined state byte ≡ moves_to after → Runs state mode (byte ∷ []) (moves_to after)
one_joins state mode byte inside graphic after is = joins state mode byte inside graphic ∙ is

runs_to : (mode : Mode) (pending : List ℕ) (state : ParserState) → Form mode pending state → Runs Ground mode (pending_text state) (moves_to state)
unfolding stepped joined
runs_to _ _ _ (nothing mode) = refl
runs_to _ _ _ (escaped [] all) = refl
runs_to _ _ _ (escaped (inter ∷ []) all) =
    let is : is_intermediate inter ≡ true = grind (arith, nat_tests) in
    runs_more Ground Escape Ansi 27 (inter ∷ []) _ refl
    (joins Escape Ansi inter refl (grind (arith, nat_tests)) ∙ simp is)
runs_to _ _ _ (escaped (inter ∷ next ∷ rest) all) = (refl, (refl, refl))
runs_to _ _ _ (controlled text all) = text_runs text
runs_to _ _ _ (stringed opening is) = (refl, refl)
runs_to _ _ _ lone = refl
runs_to _ _ _ addressed = (refl, refl)
runs_to _ _ _ (lined line is) =
    runs_more Ground Vt52Escape Vt52 27 (89 ∷ line ∷ []) _ refl
    (runs_more Vt52Escape Vt52Line Vt52 89 (line ∷ []) _ refl (joins Vt52Line Vt52 line refl is))

-- its raw bytes give no command, and leave the state
pub record LeavesState (mode : Mode) (state : ParserState) : Type 0 where
  pub gives : Gives mode mode [] (pending_text state) None
  pub view : parser_view mode (pending_after_bytes mode mode [] (pending_text state)) ≡ Some state

either_mode : (b : Bool) (mode : Mode) → (if b then mode else mode) ≡ mode
either_mode true mode = refl
either_mode false mode = refl

mode_stays : (mode : Mode) (bytes : List ℕ) → mode_after_bytes mode mode bytes ≡ mode
mode_stays mode [] = refl
mode_stays mode (byte ∷ rest) = ap (λ (m : Mode). mode_after_bytes mode m rest) (either_mode (byte == escape) mode) ∙ mode_stays mode rest

pub leaves_state : (mode : Mode) (state : ParserState) (before : List ℕ) → parser_view mode before ≡ Some state → LeavesState mode state
leaves_state mode state before is =
    let bytes = pending_text state in
    let agree = runs_agree mode mode [] Ground bytes (moves_to state) (shows_none mode) (runs_to mode before state (form mode before state is)) in
    let pending = pending_after_bytes mode mode [] bytes in
    record {
      gives = agree.0;
      view = ap (λ (m : Mode). parser_view m pending) (sym (mode_stays mode bytes)) ∙ agree.1;
    }

-- ---- in ANSI mode the parser isn't on ground behind any of these bytes

holds_more : (state after : ParserState) (byte : ℕ) (rest : List ℕ) → stepped state Ansi byte ≡ moves_to after → after ≢ Ground → Holds after rest → Holds state (byte ∷ rest)
holds_more state after byte rest moves off holds =
    subst (λ (t : Transition). (t.command ≡ None) × (t.state ≢ Ground) × Holds t.state rest) (sym moves) (refl, off, holds)

either_off : (b : Bool) (x y : ParserState) → x ≢ Ground → y ≢ Ground → (if b then x else y) ≢ Ground
either_off true x y one two = one
either_off false x y one two = two

off_ground : (text : List ℕ) → control_sequence_view text ≢ Ground
off_ground [] = λ same. cc
off_ground (byte ∷ rest) = either_off (is_well_formed (byte ∷ rest)) _ _ (λ same. cc) (λ same. cc)

holds_begun : (done text : List ℕ) → list_all is_control_sequence_text text ≡ true → Holds (control_sequence_view done) text
holds_begun done [] all = tt
holds_begun done (byte ∷ text) all =
    let parts = and_parts (is_control_sequence_text byte) (list_all is_control_sequence_text text) all in
    holds_more (control_sequence_view done) (control_sequence_view (done ++ byte ∷ [])) byte text (text_grows done byte parts.0) (off_ground (done ++ byte ∷ []))
    (holds_begun (done ++ byte ∷ []) text parts.1)

holds_introduced : (text : List ℕ) → list_all is_control_sequence_text text ≡ true → Holds Ground (27 ∷ 91 ∷ text)
unfolding stepped joined
holds_introduced text all =
    holds_more Ground Escape 27 (91 ∷ text) refl (λ e. cc) (holds_more Escape CsiStart 91 text refl (λ e. cc) (holds_begun [] text all))

-- of numbers
holds_numbered : (private : Bool) (numbers : List ℕ) (over : Bool) → 1 ≤ length numbers → length numbers ≤ 16 → Small numbers → (over ≡ true → length numbers ≡ 16)
    → Holds Ground (begun_text private numbers over)
holds_numbered private [] over some few small full = absurd (omega arith)
holds_numbered private (first ∷ rest) over some few small full =
    let text = params_text (first ∷ rest) ++ text_where over (codes ";") in
    let shows = shows_text private over (first ∷ rest) text (is_written first rest over small few full) in
    subst (Holds Ground)
    (ap (λ (l : List ℕ). 27 ∷ 91 ∷ l) (sym (append_assoc (text_where private (codes "?")) (params_text (first ∷ rest)) (text_where over (codes ";")))))
    (holds_introduced (text_where private (codes "?") ++ text) shows.joins)

holds_text : (text : List ℕ) → Holds Ground (pending_text (control_sequence_view text))
holds_text [] = holds_introduced [] refl
holds_text (byte ∷ rest) =
    let text = byte ∷ rest in
    let bare = after_mark text in
    let proper = params_proper bare in
    let full : has_more bare ≡ true → length (params bare) ≡ 16 = λ is. omega (arith, length-take 16 (numbers bare), ltb-true 16 (length (numbers bare)) is) in
    elim (cases_Bool (is_well_formed text)) [
      | inl well ↦ simp well (holds_numbered (is_private text) (params bare) (has_more bare) proper.0.0 proper.0.1 (recursion_from_All _ (params bare) proper.1) full)
      | inr ill ↦ simp ill (holds_introduced (60 ∷ []) refl)
    ]

holds_to : (mode : Mode) (pending : List ℕ) (state : ParserState) → Form mode pending state → mode ≡ Ansi → Holds Ground (pending_text state)
unfolding stepped joined
holds_to _ _ _ (nothing mode) ansi = tt
holds_to _ _ _ (escaped [] all) ansi = holds_more Ground Escape 27 [] refl (λ e. cc) tt
holds_to _ _ _ (escaped (inter ∷ []) all) ansi =
    let is : is_intermediate inter ≡ true = grind (arith, nat_tests) in
    holds_more Ground Escape 27 (inter ∷ []) refl (λ e. cc)
    (holds_more Escape (EscapeOne inter) inter [] (joins Escape Ansi inter refl (grind (arith, nat_tests)) ∙ simp is) (λ e. cc) tt)
holds_to _ _ _ (escaped (inter ∷ next ∷ rest) all) ansi =
    holds_more Ground Escape 27 (32 ∷ 32 ∷ []) refl (λ e. cc) (holds_more Escape (EscapeOne 32) 32 (32 ∷ []) refl (λ e. cc) (holds_more (EscapeOne 32) EscapeMany 32 [] refl (λ e. cc) tt))
holds_to _ _ _ (controlled text all) ansi = holds_text text
holds_to _ _ _ (stringed opening is) ansi = holds_more Ground Escape 27 (80 ∷ []) refl (λ e. cc) (holds_more Escape Text 80 [] refl (λ e. cc) tt)
holds_to _ _ _ lone ansi = absurd cc
holds_to _ _ _ addressed ansi = absurd cc
holds_to _ _ _ (lined line is) ansi = absurd cc

waits_by : (bytes : List ℕ) (state : ParserState) (pending : List ℕ) → parser_view Ansi pending ≡ Some state → Holds state bytes → Waits pending bytes
waits_by [] state pending view holds = tt
waits_by (byte ∷ rest) state pending view holds =
    let after = stepped state Ansi byte in
    let mode : mode_after Ansi Ansi byte ≡ Ansi = either_mode (byte == escape) Ansi in
    let next : parser_view Ansi (pending_after Ansi pending byte) ≡ Some after.state =
    ap (λ (m : Mode). parser_view m (pending_after Ansi pending byte)) (sym mode) ∙ same_view Ansi Ansi pending byte state view in (
      same_command Ansi Ansi pending byte state view ∙ holds.0,
      λ none. holds.1 (let ground = ap (parser_view Ansi) none in let is = shows_none Ansi in cc),
      waits_by rest after.state (pending_after Ansi pending byte) next holds.2,
    )

pub pending_waits : (state : ParserState) (before : List ℕ) → parser_view Ansi before ≡ Some state → Waits [] (pending_text state)
pending_waits state before is = waits_by (pending_text state) Ground [] (shows_none Ansi) (holds_to Ansi before state (form Ansi before state is) refl)

-- ---- none of them is a control character

-- ESC, or a graphic character
abbrev pub is_mild : ℕ → Bool
is_mild byte = byte == 27 || is_graphic byte

mild_text : (text : List ℕ) → list_all is_control_sequence_text text ≡ true → list_all is_mild text ≡ true
mild_text [] all = refl
mild_text (byte ∷ rest) all =
    let parts = and_parts (is_control_sequence_text byte) (list_all is_control_sequence_text rest) all in
    let one : is_mild byte ≡ true = (let is = parts.0 in grind (arith, nat_tests)) in
    let more = mild_text rest parts.1 in
    simp (one, more)

mild_numbered : (private : Bool) (numbers : List ℕ) (over : Bool) → 1 ≤ length numbers → length numbers ≤ 16 → Small numbers → (over ≡ true → length numbers ≡ 16)
    → list_all is_mild (begun_text private numbers over) ≡ true
mild_numbered private [] over some few small full = absurd (omega arith)
mild_numbered private (first ∷ rest) over some few small full =
    let text = params_text (first ∷ rest) ++ text_where over (codes ";") in
    let shows = shows_text private over (first ∷ rest) text (is_written first rest over small few full) in
    ap (λ (l : List ℕ). list_all is_mild (27 ∷ 91 ∷ l)) (append_assoc (text_where private (codes "?")) (params_text (first ∷ rest)) (text_where over (codes ";")))
    ∙ mild_text (text_where private (codes "?") ++ text) shows.joins

mild_begun : (text : List ℕ) → list_all is_mild (pending_text (control_sequence_view text)) ≡ true
mild_begun [] = refl
mild_begun (byte ∷ rest) =
    let text = byte ∷ rest in
    let bare = after_mark text in
    let proper = params_proper bare in
    let full : has_more bare ≡ true → length (params bare) ≡ 16 = λ is. omega (arith, length-take 16 (numbers bare), ltb-true 16 (length (numbers bare)) is) in
    elim (cases_Bool (is_well_formed text)) [
      | inl well ↦ simp well (mild_numbered (is_private text) (params bare) (has_more bare) proper.0.0 proper.0.1 (recursion_from_All _ (params bare) proper.1) full)
      | inr ill ↦ simp ill refl
    ]

mild_to : (mode : Mode) (pending : List ℕ) (state : ParserState) → Form mode pending state → mode ≡ Ansi → list_all is_mild (pending_text state) ≡ true
mild_to _ _ _ (nothing mode) ansi = refl
mild_to _ _ _ (escaped [] all) ansi = refl
mild_to _ _ _ (escaped (inter ∷ []) all) ansi = let one : is_mild inter ≡ true = grind (arith, nat_tests) in simp one
mild_to _ _ _ (escaped (inter ∷ next ∷ rest) all) ansi = refl
mild_to _ _ _ (controlled text all) ansi = mild_begun text
mild_to _ _ _ (stringed opening is) ansi = refl
mild_to _ _ _ lone ansi = absurd cc
mild_to _ _ _ addressed ansi = absurd cc
mild_to _ _ _ (lined line is) ansi = absurd cc

pub pending_mild : (state : ParserState) (before : List ℕ) → parser_view Ansi before ≡ Some state → list_all is_mild (pending_text state) ≡ true
pending_mild state before is = mild_to Ansi before state (form Ansi before state is) refl
