-- Chunks inside which nothing of a text passes, and screens that trail.
use Rattle.std.proofs.Common.{◌≡◌, ℕ, zero, suc, ◌+◌, ◌-◌, ◌<◌, ◌≤◌, List, [], ◌++◌, append-nil, drop, length, length-drop, take, refl, ap, ap₂, subst, sym, ◌∙◌, arith, inl, inr}
use Rattle.std.specs.List.{flat_map, range_with_len}
use Rattle.std.proofs.lemmas.Bool.{cases_lt}
use Rattle.std.proofs.lemmas.List.Concat.{flat_map-append}
use Rattle.chunk_walk.proofs.TextLemmas.{range_split, texts_from}
use Rattle.tape_core.specs.declared.chunk.Chunk.{Chunk}
use Rattle.tape_core.specs.Due.{bytes_at, first}
use Rattle.standings.specs.Kept.{Keeps}
use Rattle.standings.specs.Lag.{Lags}
use Rattle.standings.specs.Moved.{moved_up}
use Rattle.standings.specs.Rows.{Row}
use Rattle.standings.specs.Spans.{Stays}
use Rattle.standings.specs.Standing.{standing}
use Rattle.standings.specs.declared.lag.Lag.{Lag}
use Rattle.standings.specs.declared.left.Standing.{Standing}
use Rattle.standings.specs.declared.place.Place.{Place}
use Rattle.standings.specs.declared.span.Span.{Span}
use Rattle.text_find.specs.declared.behind.Steps.{Steps}
use Rattle.text_find.specs.declared.sides.Sides.{Sides}
use Rattle.text_find.specs.Calm.{HasStood, IsAhead, IsCalm, IsInside, NonePass}
use Rattle.text_find.specs.FindLines.{Screens, rows_within}
use Rattle.text_find.specs.Foretold.{IsForetold}
use Rattle.text_find.specs.declared.foretold.Foretold.TheVariants.{MovesUp}
use Rattle.text_find.specs.Lines.{AreBetween, AreFound, AreStill, IsHeld, IsLagging, IsLate, IsReached, IsStill, IsTrailing, byte_lines, chunk_lines, end_lines, less_lines, passed_lines}
use Rattle.text_find.specs.Pieces.{AreQuiet}
use Rattle.text_find.proofs.LineLemmas.{chunk_in_three, held_by, none_passed, nothing_passed, passed_by, still_held}
use Rattle.text_find.proofs.NowhereLemmas.{within_start}
use Rattle.text_find.proofs.PieceLemmas.{pieces}
use Rattle.text_find.proofs.QuietLemmas.{texts_none}

-- ---- nothing passes

-- the screens behind so many of the bytes behind others
there : (screen : List ℕ → List Row) (before bytes : List ℕ) (at n : ℕ) → rows_within screen (before ++ take at bytes) (drop at bytes) n ≡ rows_within screen before bytes (at + n)
there screen before bytes at n = ap screen (pieces before bytes at n)

module _ (text : List ℕ) (index due : ℕ) (first : List Row) (firsts : List Place) (last : List Row) (lasts : List Place) where
  abbrev passing : List Row → List Row → List ℕ
  passing one other = passed_lines index due (length text) first firsts last lasts one (standing text one) other (standing text other)

  -- where the text stood nowhere
  pub none_stood : (one other : List Row) → standing text one ≡ [] → passing one other ≡ []
  none_stood one other none = ap (λ ps. passed_lines index due (length text) first firsts last lasts one ps other (standing text other)) none

  none_kept : (one other : List Row) → Keeps text one other → passing one other ≡ []
  none_kept one other kept = none_passed index due (length text) first firsts last lasts one (standing text one) other (standing text other) kept

  -- at quiet bytes, where nothing does between the screens around all of them
  quiet_none : (screen : List ℕ → List Row) (before bytes : List ℕ) (taken count : ℕ) → AreQuiet text screen before bytes taken → count < taken
      → passing (screen before) (screen (before ++ take taken bytes)) ≡ [] → byte_lines text index due first firsts last lasts screen before bytes count ≡ []
  quiet_none screen before bytes taken count quiet lt none =
      let rows = rows_within screen before bytes in
      elim (cases_lt (count + 1) taken) [
        | inl inside ↦ none_kept (rows count) (rows (count + 1)) (quiet.inside count inside)
        | inr high ↦
            let here : count ≡ taken - 1 = omega (arith, lt, high) in
            let next : count + 1 ≡ taken = omega (arith, lt, high) in
            ap (λ n. passing (rows count) (rows n)) next ∙ ap (λ n. passing (rows n) (rows taken)) here ∙ elim quiet.last [
              | inl same ↦ ap (λ r. passing r (rows taken)) (same ∙ within_start screen before bytes) ∙ none
              | inr kept ↦ none_kept (rows (taken - 1)) (rows taken) kept
            ]
      ]

-- so at a piece at which nothing shows
pub stays_calm : (text : List ℕ) (first : List Row) (screen : List ℕ → List Row) (before bytes : List ℕ) (taken : ℕ) → AreQuiet text screen before bytes taken
    → screen before ≡ screen (before ++ take taken bytes) → NonePass text first screen before bytes taken
stays_calm text first screen before bytes taken quiet same = λ index due last lasts count lt.
    quiet_none text index due first (standing text first) last lasts screen before bytes taken count quiet lt
    (nothing_passed text index due (length text) first (standing text first) last lasts (screen before) (standing text (screen before)) (screen (before ++ take taken bytes)) same refl)

-- and at one of which this is told by what is kept of the screens
pub quiet_calm : (text : List ℕ) (first : List Row) (screen : List ℕ → List Row) (before bytes : List ℕ) (taken : ℕ) (start one other : Standing) → AreQuiet text screen before bytes taken
    → IsHeld text first start → IsStill text (screen before) one → IsStill text (screen (before ++ take taken bytes)) other
    → ((index due len : ℕ) (last : List Row) (lasts : List Place)
    → passed_lines index due len start.rows.items start.places.items last lasts one.rows.items one.places.items other.rows.items other.places.items ≡ [])
    → NonePass text first screen before bytes taken
quiet_calm text first screen before bytes taken start one other quiet starts is is' none = λ index due last lasts count lt.
    quiet_none text index due first (standing text first) last lasts screen before bytes taken count quiet lt
    (sym (passed_by text index due (length text) first (standing text first) last lasts (screen before) (screen (before ++ take taken bytes)) one other (still_held text (screen before) one is) is')
    ∙ sym (held_by (λ r ps. passed_lines index due (length text) r ps last lasts one.rows.items one.places.items other.rows.items other.places.items) text first start (λ r r'. refl) starts)
    ∙ none index due (length text) last lasts)

-- and where the text stood nowhere all along
pub nowhere_calm : (text : List ℕ) (first : List Row) (screen : List ℕ → List Row) (before bytes : List ℕ) (taken : ℕ)
    → ((count : ℕ) → count < taken → standing text (rows_within screen before bytes count) ≡ []) → NonePass text first screen before bytes taken
nowhere_calm text first screen before bytes taken none = λ index due last lasts count lt.
    none_stood text index due first (standing text first) last lasts (rows_within screen before bytes count) (rows_within screen before bytes (count + 1)) (none count lt)

-- nor where each place stays at each byte
pub kept_calm : (text : List ℕ) (first : List Row) (screen : List ℕ → List Row) (before bytes : List ℕ) (taken : ℕ)
    → ((count : ℕ) → count < taken → Keeps text (rows_within screen before bytes count) (rows_within screen before bytes (count + 1))) → NonePass text first screen before bytes taken
kept_calm text first screen before bytes taken kept = λ index due last lasts count lt.
    none_kept text index due first (standing text first) last lasts (rows_within screen before bytes count) (rows_within screen before bytes (count + 1)) (kept count lt)

-- as where all rows move up, and each place stays
pub moved_calm : (text : List ℕ) (first : List Row) (screen : List ℕ → List Row) (before bytes : List ℕ) (columns : ℕ) (letters : List ℕ) (still : Standing) → still.rows.items ≡ screen before
    → IsForetold text screen before bytes (MovesUp columns) letters → Keeps text still.rows.items (moved_up columns still.rows.items) → NonePass text first screen before bytes 1
moved_calm text first screen before bytes columns letters still rows told keeps =
    kept_calm text first screen before bytes 1 (λ count lt.
    let one : 0 ≡ count = omega (arith, lt) in
    let here : still.rows.items ≡ rows_within screen before bytes 0 = rows ∙ sym (within_start screen before bytes) in
    let there : moved_up columns still.rows.items ≡ rows_within screen before bytes 1 = ap (moved_up columns) rows ∙ sym told.rows in
    subst (λ n. Keeps text (rows_within screen before bytes n) (rows_within screen before bytes (n + 1))) one
    (subst (λ r. Keeps text r (rows_within screen before bytes 1)) here (subst (Keeps text still.rows.items) there keeps)))

-- nor at a piece more
pub calm_more : (text : List ℕ) (screen : List ℕ → List Row) (before bytes : List ℕ) (at taken : ℕ) → IsCalm text screen before bytes at
    → NonePass text (screen before) screen (before ++ take at bytes) (drop at bytes) taken → IsCalm text screen before bytes (at + taken)
calm_more text screen before bytes at taken calm none = λ index due last lasts.
    let lines = byte_lines text index due (screen before) (standing text (screen before)) last lasts in
    texts_none (lines screen before bytes) at taken (λ k low high.
    let n = k - at in
    let here : at + n ≡ k = omega (arith, low) in
    let next : at + (n + 1) ≡ k + 1 = omega (arith, low) in
    ap₂ (passing text index due (screen before) (standing text (screen before)) last lasts)
    (ap (rows_within screen before bytes) (sym here) ∙ sym (there screen before bytes at n)) (ap (rows_within screen before bytes) (sym next) ∙ sym (there screen before bytes at (n + 1)))
    ∙ none index due last lasts n (omega (arith, low, high)))
    ∙ calm index due last lasts

-- nor at no byte
pub stood_none : (text : List ℕ) (screen : List ℕ → List Row) (before bytes : List ℕ) (still : Standing) → HasStood text screen before bytes 0 still
stood_none text screen before bytes still = record {
  calm = λ index due last lasts. refl;
  still = λ lt. absurd (omega (arith, lt));
}

-- a piece more was played
pub ahead_more : {P T : Type 0} (shows : P → T → List ℕ → Type 0) (screens : Screens P) (profile : P) (text before bytes : List ℕ) (taken piece : ℕ) (ahead : T) (ends : Sides)
    → shows profile ahead ((before ++ take taken bytes) ++ take piece (drop taken bytes))
    → AreBetween text (screens profile before) (screens profile ((before ++ take taken bytes) ++ take piece (drop taken bytes))) ends
    → IsAhead shows screens profile text before bytes (taken + piece) ahead ends
ahead_more shows screens profile text before bytes taken piece ahead ends played are =
    let more = pieces before bytes taken piece in
    record {
      played = subst (shows profile ahead) more played;
      between = subst (λ b. AreBetween text (screens profile before) (screens profile b) ends) more are;
    }

-- so the lines of its ends are all of a chunk's
pub calm_lines : (text : List ℕ) (index due len : ℕ) (screen : List ℕ → List Row) (before bytes : List ℕ) (one other : Standing)
    → len ≡ length text → IsHeld text (screen before) one → IsStill text (screen (before ++ bytes)) other → IsCalm text screen before bytes (length bytes)
    → end_lines index due len one.rows.items one.places.items other.rows.items other.places.items ≡ chunk_lines text index due screen before bytes
calm_lines text index due len screen before bytes one other l is is' calm =
    let went = less_lines 45 index due len one.rows.items one.places.items other.rows.items other.places.items in
    let came = less_lines 43 index due len other.rows.items other.places.items one.rows.items one.places.items in
    let inside = λ (first : List Row) (firsts : List Place).
    flat_map (byte_lines text index due first firsts other.rows.items other.places.items screen before bytes) (range_with_len 0 (length bytes)) in
    let none : inside one.rows.items one.places.items ≡ [] =
    held_by inside text (screen before) one (λ r r'. refl) is ∙ calm index due other.rows.items other.places.items in
    sym (ap (λ l. (went ++ l) ++ came) none ∙ ap (λ l. l ++ came) (append-nil went))
    ∙ chunk_in_three text index due len screen before bytes one other l is is'

-- the lines of later bytes, by their places among all
texts_later : (f g : ℕ → List ℕ) (at start n : ℕ) → ((k : ℕ) → g k ≡ f (at + k)) → texts_from g start n ≡ texts_from f (at + start) n
texts_later f g at start zero same = refl
texts_later f g at start (suc n) same =
    let next : at + (start + 1) ≡ at + start + 1 = omega arith in
    ap₂ (λ a b. a ++ b) (same start) (texts_later f g at (start + 1) n same ∙ ap (λ b. texts_from f b n) next)

-- those of the bytes behind the first ones, at which nothing passes, are those of all
rest_lines : (text : List ℕ) (index due : ℕ) (screen : List ℕ → List Row) (before bytes : List ℕ) (start : ℕ) (last : List Row) (lasts : List Place) → start ≤ length bytes
    → IsCalm text screen before bytes start
    → texts_from (byte_lines text index due (screen before) (standing text (screen before)) last lasts screen (before ++ take start bytes) (drop start bytes)) 0 (length (drop start bytes))
    ≡ texts_from (byte_lines text index due (screen before) (standing text (screen before)) last lasts screen before bytes) 0 (length bytes)
rest_lines text index due screen before bytes start last lasts within calm =
    let f = byte_lines text index due (screen before) (standing text (screen before)) last lasts screen before bytes in
    let g = byte_lines text index due (screen before) (standing text (screen before)) last lasts screen (before ++ take start bytes) (drop start bytes) in
    let n = length (drop start bytes) in
    let same : (k : ℕ) → g k ≡ f (start + k) = λ k.
    let next : start + (k + 1) ≡ start + k + 1 = omega arith in
    ap₂ (passing text index due (screen before) (standing text (screen before)) last lasts) (there screen before bytes start k)
    (there screen before bytes start (k + 1) ∙ ap (rows_within screen before bytes) next) in
    let here : start + 0 ≡ 0 + start = omega arith in
    let all : start + n ≡ length bytes = omega (arith, within, length-drop start bytes) in
    texts_later f g start 0 n same ∙ ap (λ a. texts_from f a n) here ∙ ap (λ l. l ++ texts_from f (0 + start) n) (sym (calm index due last lasts))
    ∙ sym (flat_map-append f (range_with_len 0 start) (range_with_len (0 + start) n)) ∙ ap (flat_map f) (sym (range_split 0 start n)) ∙ ap (texts_from f 0) all

-- so the three parts of a chunk's lines are those of its ends, and those of the bytes behind the first ones
pub rest_in_three : (text : List ℕ) (index due len : ℕ) (screen : List ℕ → List Row) (before bytes : List ℕ) (start : ℕ) (one other : Standing)
    → len ≡ length text → start ≤ length bytes → IsHeld text (screen before) one → IsStill text (screen (before ++ bytes)) other → IsCalm text screen before bytes start
    → (less_lines 45 index due len one.rows.items one.places.items other.rows.items other.places.items
    ++ flat_map (byte_lines text index due one.rows.items one.places.items other.rows.items other.places.items screen (before ++ take start bytes) (drop start bytes)) (range_with_len 0 (length (drop start bytes))))
    ++ less_lines 43 index due len other.rows.items other.places.items one.rows.items one.places.items
    ≡ chunk_lines text index due screen before bytes
rest_in_three text index due len screen before bytes start one other l within is is' calm =
    let went = less_lines 45 index due len one.rows.items one.places.items other.rows.items other.places.items in
    let came = less_lines 43 index due len other.rows.items other.places.items one.rows.items one.places.items in
    let lines = λ (first : List Row) (firsts : List Place) (played rest : List ℕ).
    flat_map (byte_lines text index due first firsts other.rows.items other.places.items screen played rest) (range_with_len 0 (length rest)) in
    let rest : lines one.rows.items one.places.items (before ++ take start bytes) (drop start bytes) ≡ lines one.rows.items one.places.items before bytes =
    held_by (λ r ps. lines r ps (before ++ take start bytes) (drop start bytes)) text (screen before) one (λ r r'. refl) is
    ∙ rest_lines text index due screen before bytes start other.rows.items other.places.items within calm
    ∙ sym (held_by (λ r ps. lines r ps before bytes) text (screen before) one (λ r r'. refl) is) in
    ap (λ l. (went ++ l) ++ came) rest ∙ chunk_in_three text index due len screen before bytes one other l is is'

-- ---- screens that trail

-- what doesn't lag is the same
pub lags_same : (lag : Lag) (screen one other : List Row) → ((rows : List Row) → Lags lag rows rows) → one ≡ screen → other ≡ screen → Lags lag one other
lags_same lag screen one other none is is' = subst (Lags lag one) (is ∙ sym is') (none one)

-- what is brought there doesn't lag
pub lags_there : (ends : Sides) (steps : Steps) (before : Standing) (none apart : Lag) → before.rows.items ≡ ends.after.rows.items
    → ((rows : List Row) → Lags none rows rows) → Lags apart ends.after.rows.items steps.sides.after.rows.items
    → IsLagging ends (record { sides = record { before = before; after = steps.sides.after; lag = apart }; count = steps.count; lag = none })
lags_there ends steps before none apart rows there more = record {
  before = lags_same none ends.after.rows.items before.rows.items ends.after.rows.items there rows refl;
  after = subst (λ r. Lags apart r steps.sides.after.rows.items) (sym rows) more;
}

-- nor what stands as it does, behind what stood at a chunk's start
pub lags_since : (text : List ℕ) (screen screen' : List Row) (ends others : Sides) (one : Standing) → others.before ≡ ends.before → AreBetween text screen screen' ends
    → IsStill text screen' one → Lags ends.lag others.before.rows.items one.rows.items
lags_since text screen screen' ends others one same are is =
    subst (λ (still : Standing). Lags ends.lag still.rows.items one.rows.items) (sym same)
    (subst (Lags ends.lag ends.before.rows.items) (are.after.rows ∙ sym is.rows) are.lag)

-- what is played ahead stays
pub lags_on : (ends others : Sides) (steps : Steps) → others.after.rows.items ≡ ends.after.rows.items → IsLagging ends steps → IsLagging others steps
lags_on ends others steps rows lags = record {
  before = subst (Lags steps.lag steps.sides.before.rows.items) (sym rows) lags.before;
  after = lags.after;
}

pub trails_on : (text : List ℕ) (ends others : Sides) (steps : Steps) → others.after.rows.items ≡ ends.after.rows.items
    → IsTrailing text ends steps → IsTrailing text others steps
trails_on text ends others steps rows trails = record { lags = lags_on ends others steps rows trails.lags; stood = trails.stood }

-- where what is played ahead changes, and what lags behind it lags so much more
pub trails_change : (text : List ℕ) (ends : Sides) (steps more : Steps) → more.sides ≡ steps.sides → IsLagging ends more
    → steps.sides.before.places.items ≡ standing text steps.sides.before.rows.items → IsTrailing text ends more
trails_change text ends steps more same lags stood = record {
  lags = lags;
  stood = subst (λ (sides : Sides). sides.before.places.items ≡ standing text sides.before.rows.items) (sym same) stood;
}

-- where both are the same
pub trails_same : (text : List ℕ) (screen : List Row) (ends : Sides) (steps : Steps) → AreStill text screen ends → AreStill text screen steps.sides
    → steps.lag ≡ steps.sides.lag → IsTrailing text ends steps
trails_same text screen ends steps still also same = record {
  lags = record {
    before = subst (λ lag. Lags lag steps.sides.before.rows.items ends.after.rows.items) (sym same)
        (subst (Lags steps.sides.lag steps.sides.before.rows.items) (also.after.rows ∙ sym still.after.rows) also.lag);
    after = also.lag;
  };
  stood = also.before.stood;
}

module _ {P T : Type 0} (shows : P → T → List ℕ → Type 0) (screens : Screens P) (profile : P) (chunks : List Chunk) (text : List ℕ) where
  -- neither terminal lags
  pub found_both : (index : ℕ) (ahead : T) (ends : Sides) (behind : T) (steps : Steps) → shows profile ahead (first chunks index) → AreStill text (screens profile (first chunks index)) ends
      → shows profile behind (first chunks index) → AreStill text (screens profile (first chunks index)) steps.sides
      → steps.lag ≡ steps.sides.lag → steps.count ≡ index
      → AreFound shows screens profile chunks index text ahead ends behind steps
  found_both index ahead ends behind steps played still also also_still lag count = record {
    played = played;
    still = still;
    count = omega arith;
    lagging = subst (λ n. shows profile behind (first chunks n)) (sym count) also;
    trails = trails_same text (screens profile (first chunks index)) ends steps still also_still lag;
  }

  -- one lags, and what stands on the other one was kept up
  pub found_settled : (index : ℕ) (ahead : T) (one : List Row) (ends others : Sides) (behind : T) (steps : Steps) → shows profile ahead (first chunks index)
      → AreBetween text one (screens profile (first chunks index)) ends → AreStill text (screens profile (first chunks index)) others
      → IsTrailing text ends steps → IsLate shows profile chunks index behind steps
      → AreFound shows screens profile chunks index text ahead others behind steps
  found_settled index ahead one ends others behind steps played are still trails late = record {
    played = played;
    still = still;
    count = late.count;
    lagging = late.played;
    trails = trails_on text ends others steps (still.after.rows ∙ sym are.after.rows) trails;
  }

  -- it has had as many chunks as its count says
  pub found_late : (index next : ℕ) (ahead : T) (ends : Sides) (behind : T) (steps more : Steps) → AreFound shows screens profile chunks index text ahead ends behind steps
      → index ≤ next → more.count ≡ steps.count → IsLate shows profile chunks next behind more
  found_late index next ahead ends behind steps more found le same = record {
    count = omega (arith, found.count, le, same);
    played = subst (λ n. shows profile behind (first chunks n)) (sym same) found.lagging;
  }

  -- as where only that counts
  pub late_on : (index : ℕ) (behind : T) (steps more : Steps) → more.count ≡ steps.count → IsLate shows profile chunks index behind steps → IsLate shows profile chunks index behind more
  late_on index behind steps more same late = record {
    count = omega (arith, late.count, same);
    played = subst (λ n. shows profile behind (first chunks n)) (sym same) late.played;
  }

  -- and has had none of the next one's bytes
  pub reached_inside : (index : ℕ) (behind : T) (steps : Steps) → IsReached shows screens profile chunks index text behind steps
      → IsInside shows screens profile chunks index 0 text behind steps
  reached_inside index behind steps reached =
      let here = sym (append-nil (first chunks index)) in
      record {
        played = subst (shows profile behind) here reached.played;
        still = subst (λ b. AreStill text (screens profile b) steps.sides) here reached.still;
        calm = λ place due last lasts. refl;
        count = reached.count;
      }

  -- and some of them, at which nothing passes
  pub stood_inside : (index start : ℕ) (chunk : List ℕ) (behind : T) (steps : Steps) → chunk ≡ bytes_at chunks index → IsCalm text (screens profile) (first chunks index) chunk start
      → shows profile behind (first chunks index ++ take start chunk) → AreStill text (screens profile (first chunks index ++ take start chunk)) steps.sides
      → steps.count ≡ index → IsInside shows screens profile chunks index start text behind steps
  stood_inside index start chunk behind steps bytes calm played still count = record {
    played = subst (λ b. shows profile behind (first chunks index ++ take start b)) bytes played;
    still = subst (λ b. AreStill text (screens profile (first chunks index ++ take start b)) steps.sides) bytes still;
    calm = subst (λ b. IsCalm text (screens profile) (first chunks index) b start) bytes calm;
    count = count;
  }

  -- and the other one has had no more
  pub found_reached : (index : ℕ) (ahead : T) (ends : Sides) (behind : T) (steps : Steps) → shows profile ahead (first chunks index)
      → AreStill text (screens profile (first chunks index)) ends → IsReached shows screens profile chunks index text behind steps
      → AreFound shows screens profile chunks index text ahead ends behind steps
  found_reached index ahead ends behind steps played still reached =
      found_both index ahead ends behind steps played still reached.played reached.still reached.lag reached.count

  -- of all that is the same
  pub found_as : (index : ℕ) (ahead ahead' : T) (ends ends' : Sides) (behind behind' : T) (steps steps' : Steps)
      → ahead' ≡ ahead → ends' ≡ ends → behind' ≡ behind → steps' ≡ steps
      → AreFound shows screens profile chunks index text ahead ends behind steps → AreFound shows screens profile chunks index text ahead' ends' behind' steps'
  found_as index ahead ahead' ends ends' behind behind' steps steps' one two three four found =
      subst (λ a. AreFound shows screens profile chunks index text a ends' behind' steps') (sym one)
      (subst (λ e. AreFound shows screens profile chunks index text ahead e behind' steps') (sym two)
      (subst (λ b. AreFound shows screens profile chunks index text ahead ends b steps') (sym three)
      (subst (AreFound shows screens profile chunks index text ahead ends behind) (sym four) found)))

-- rows that differ from the same others in no more than some
pub stays_apart : (span : Span) (from one other : List Row) → Stays span from one → Stays span from other → Stays span one other
stays_apart span from one other stays also = record {
  count = also.count ∙ sym stays.count;
  above = λ k lt. also.above k lt ∙ sym (stays.above k lt);
  below = λ k ge. also.below k ge ∙ sym (stays.below k ge);
}
