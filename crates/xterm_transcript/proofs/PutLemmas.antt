-- Bytes that put characters.
use Rattle.std.proofs.Common.{◌≡◌, ℕ, suc, ◌<◌, Bool, true, false, not, cond, List, [], ◌∷◌, ◌++◌, length, take, refl, sym, ap, ap₂, ◌∙◌, subst, append-nil, append_assoc, inl, inr, ◌==◌, ◌&&◌, ◌||◌, nat_le, arith}
use Rattle.std.specs.Prelude.{Option, Some, slice_index, if◌then◌else◌}
use Rattle.std.specs.List.{list_all}
use Rattle.std.proofs.lemmas.Bool.{and_parts, cases_Bool}
use Rattle.std.proofs.lemmas.Bool.Decides.{nat_tests}
use Rattle.std.proofs.lemmas.List.{length-append}
use Rattle.characters.specs.declared.utf8.Reading.{Reading}
use Rattle.characters.specs.declared.utf8.Reading.TheVariants.{Broken, Character, More}
use Rattle.characters.proofs.Widths.{ascii_is_narrow}
use Rattle.characters.specs.Utf8.{begins, reading, replacement, Spells, SpellsOn}
use Rattle.characters.specs.Width.{width}
use Rattle.vt_parser.specs.declared.commands.Mode.TheVariants.{Ansi}
use Rattle.vt_parser.specs.declared.commands.Command.{Command}
use Rattle.vt_parser.specs.declared.commands.Command.TheVariants.{Show}
use Rattle.vt_parser.specs.Step.{command_of, pending_after}
use Rattle.vt_parser.specs.Syntax.{escape, is_graphic}
use Rattle.vt_parser.proofs.LawLemmas.{graphic_is_shown}
use Rattle.xterm_term.specs.declared.sets.CharacterSet.{CharacterSet}
use Rattle.xterm_term.specs.declared.sets.CharacterSet.TheVariants.{Ascii}
use Rattle.xterm_term.specs.declared.sets.Sets.{Sets}
use Rattle.xterm_term.specs.Console.{Console}
use Rattle.xterm_term.specs.Puts.{character_for, is_c1, put}
use Rattle.xterm_term.specs.Sets.{character_of, set_in_use}
use Rattle.xterm_term.specs.Term.{Outcome, ends_title, outcome, outcome_of, play, read, syntax_read, title_set}
use Rattle.xterm_term.proofs.ByteKinds.{first, next, titled}
use Rattle.xterm_term.proofs.Idle.{begun, halfway}
use Rattle.xterm_term.proofs.Runs.{byte_read, on_ground, put_others, stepped}
use Rattle.xterm_transcript.specs.Home.{went_home}
use Rattle.xterm_transcript.specs.Leaving.{feed_leaves, first_if, leaving, leaving_first, put_leaves, put_rows, rows_of, wraps_by_width}
use Rattle.xterm_transcript.specs.Playing.{breaks, broken_rows, cut_off, is_broken, mended}
use Rattle.xterm_transcript.specs.Transcribed.{Coming, Transcribed, acts_at, coming_at, coming_of, gone_on, behind_rows, left, nothing, play_on, put_coming, read_coming, rows_by, step_on, syntax_coming}
use Rattle.xterm_transcript.proofs.CommandLemmas.{at_made, command_home, made, syntax_comes}

abbrev coming : List (List ℕ) → Bool → Coming
coming rows home = record { rows = rows; home = home }

-- row 1, or none
pub first_is : (b : Bool) (s : Console) → rows_of (leaving_first b) s ≡ first_if b s.picture
first_is true s = refl
first_is false s = refl

no_c1 : (character : ℕ) → is_graphic character ≡ true → is_c1 character ≡ false
no_c1 character is = grind (arith, nat_tests)

-- a character of ASCII takes one column, and wraps where the wrap is pending alone
pub stays_put : (byte : ℕ) (s : Console) → is_graphic byte ≡ true → s.picture.wrap ≡ false → put_leaves byte s ≡ false
unfolding put_leaves
stays_put byte s graphic wrap =
    let none = no_c1 byte graphic in
    ap (λ (b : Bool). not b && wraps_by_width (width byte) s && feed_leaves s.picture) none
    ∙ ap (λ (n : ℕ). wraps_by_width n s && feed_leaves s.picture) (ascii_is_narrow byte graphic)
    ∙ ap (λ (b : Bool). (b || (s.modes.autowrap && false)) && feed_leaves s.picture) wrap ∙ ap (λ (b : Bool). b && feed_leaves s.picture) (never s.modes.autowrap)
  where
    never : (b : Bool) → (b && false) ≡ false
    never true = refl
    never false = refl

as_it_is : (byte : ℕ) → character_of Ascii byte ≡ byte
unfolding character_of
as_it_is byte = refl

-- ---- one graphic character on ground

low : (byte : ℕ) → is_graphic byte ≡ true → nat_le 128 byte ≡ false
low byte is = grind (arith, nat_tests)

graphic_home : (h : Bool) (s : Console) (byte : ℕ) → command_of Ansi [] byte ≡ Some (Show byte) → (syntax_coming h s [] byte).home ≡ false
graphic_home h s byte given =
    let picture = (syntax_read s [] byte).console.picture in
    ap (λ (c : Option Command). cond (acts_at [] byte) (went_home c picture) h) given ∙ command_home [] byte (Show byte) h picture given

pub graphic_comes : (h : Bool) (s : Console) (byte : ℕ) → is_graphic byte ≡ true → s.title ≡ false
    → coming_of h s [] [] byte ≡ record { rows = put_rows (character_for s byte) s; home = false }
unfolding leaving
graphic_comes h s byte graphic title =
    let given = (graphic_is_shown Ansi byte graphic).0 in
    syntax_comes h s [] byte title (low byte graphic)
    ∙ ap₂ (λ (rows : List (List ℕ)) (home : Bool). coming rows home)
    (ap (λ (c : Option Command). rows_by c h s) given ∙ first_is (put_leaves (character_for s byte) s) s) (graphic_home h s byte given)

pub graphic_step : (s : Console) (r : List ℕ) (h : Bool) (byte : ℕ) → is_graphic byte ≡ true → s.title ≡ false
    → step_on (made s [] r h) byte ≡ made (put (character_for s byte) s) [] (r ++ []) false
graphic_step s r h byte graphic title =
    ap₂ (λ (o : Outcome) (c : Coming). record { term = stepped r o; home = c.home }) (byte_read graphic_is_shown s byte graphic title)
    (graphic_comes h s byte graphic title)

-- ---- a run of them

-- elsewhere than at its first character no wrap is pending before any
none_left : (bytes : List ℕ) (s : Console) (r : List ℕ) (h : Bool) → s.title ≡ false → list_all is_graphic bytes ≡ true
    → set_in_use s.sets ≡ Ascii
    → ((k : ℕ) → k < length bytes → (play (on_ground s r) (take k bytes)).console.picture.wrap ≡ false) → left (made s [] r h) bytes ≡ []
unfolding left play
none_left [] s r h title graphic ascii free = refl
none_left (byte ∷ rest) s r h title graphic ascii free =
    let parts = and_parts (is_graphic byte) (list_all is_graphic rest) graphic in
    let c = character_for s byte in
    let others = put_others c s in
    let is : c ≡ byte = ap (λ (set : CharacterSet). character_of set byte) ascii ∙ as_it_is byte in
    let none : put_leaves c s ≡ false = ap (λ (n : ℕ). put_leaves n s) is ∙ stays_put byte s parts.0 (free 0 (omega arith)) in
    ap (λ (c : Coming). c.rows ++ left (step_on (made s [] r h) byte) rest) (graphic_comes h s byte parts.0 title)
    ∙ ap (λ (b : Bool). first_if b s.picture ++ left (step_on (made s [] r h) byte) rest) none
    ∙ ap (λ (y : Transcribed). left y rest) (graphic_step s r h byte parts.0 title)
    ∙ none_left rest (put c s) (r ++ []) false (others.title ∙ title) parts.1
    (ap (λ (sets : Sets). set_in_use sets) others.sets ∙ ascii)
    (λ k lt.
    sym (ap (λ (o : Outcome). (play (stepped r o) (take k rest)).console.picture.wrap) (byte_read graphic_is_shown s byte parts.0 title))
    ∙ free (suc k) (omega (arith, lt)))

run_rows : (byte : ℕ) (rest : List ℕ) (s : Console) (r : List ℕ) (h : Bool) → s.title ≡ false → list_all is_graphic (byte ∷ rest) ≡ true
    → (0 < length rest → set_in_use s.sets ≡ Ascii)
    → ((k : ℕ) → 0 < k → k < length (byte ∷ rest) → (play (on_ground s r) (take k (byte ∷ rest))).console.picture.wrap ≡ false)
    → left (made s [] r h) (byte ∷ rest) ≡ put_rows (character_for s byte) s
unfolding left play
run_rows byte [] s r h title graphic ascii free =
    append-nil _ ∙ ap (λ (c : Coming). c.rows) (graphic_comes h s byte (and_parts (is_graphic byte) true graphic).0 title)
run_rows byte (next_ ∷ rest) s r h title graphic ascii free =
    let parts = and_parts (is_graphic byte) (list_all is_graphic (next_ ∷ rest)) graphic in
    let c = character_for s byte in
    let others = put_others c s in
    ap (λ (c : Coming). c.rows ++ left (step_on (made s [] r h) byte) (next_ ∷ rest)) (graphic_comes h s byte parts.0 title)
    ∙ ap (λ (y : Transcribed). put_rows c s ++ left y (next_ ∷ rest)) (graphic_step s r h byte parts.0 title)
    ∙ ap (λ l. put_rows c s ++ l)
    (none_left (next_ ∷ rest) (put c s) (r ++ []) false (others.title ∙ title) parts.1
    (ap (λ (sets : Sets). set_in_use sets) others.sets ∙ ascii (omega arith))
    (λ k lt.
    sym (ap (λ (o : Outcome). (play (stepped r o) (take k (next_ ∷ rest))).console.picture.wrap) (byte_read graphic_is_shown s byte parts.0 title))
    ∙ free (suc k) (omega arith) (omega (arith, lt))))
    ∙ append-nil (put_rows c s)

run_ends : (byte : ℕ) (rest : List ℕ) (s : Console) (r : List ℕ) (h : Bool) → s.title ≡ false → list_all is_graphic (byte ∷ rest) ≡ true
    → ((play_on (made s [] r h) (byte ∷ rest)).home ≡ false) × ((play_on (made s [] r h) (byte ∷ rest)).term.sequence ≡ [])
unfolding play_on
run_ends byte [] s r h title graphic =
    let moved = graphic_step s r h byte (and_parts (is_graphic byte) true graphic).0 title in
    (ap (λ (y : Transcribed). y.home) moved, ap (λ (y : Transcribed). y.term.sequence) moved)
run_ends byte (next_ ∷ rest) s r h title graphic =
    let parts = and_parts (is_graphic byte) (list_all is_graphic (next_ ∷ rest)) graphic in
    let others = put_others (character_for s byte) s in
    let moved = graphic_step s r h byte parts.0 title in
    let more = run_ends next_ rest (put (character_for s byte) s) (r ++ []) false (others.title ∙ title) parts.1 in (
      ap (λ (y : Transcribed). (play_on y (next_ ∷ rest)).home) moved ∙ more.0,
      ap (λ (y : Transcribed). (play_on y (next_ ∷ rest)).term.sequence) moved ∙ more.1,
    )

-- bytes that put one character, or a run of which the first one may wrap
pub run_puts : (bytes : List ℕ) (x : Transcribed) → x.term.console.title ≡ false → x.term.sequence ≡ [] → x.term.character ≡ []
    → 0 < length bytes → list_all is_graphic bytes ≡ true → (1 < length bytes → set_in_use x.term.console.sets ≡ Ascii)
    → ((k : ℕ) → 0 < k → k < length bytes → (play x.term (take k bytes)).console.picture.wrap ≡ false)
    → (left x bytes ≡ put_rows (character_for x.term.console (slice_index bytes 0)) x.term.console) × ((play_on x bytes).home ≡ false)
    × ((play_on x bytes).term.sequence ≡ [])
run_puts [] x title ground none some graphic ascii free = absurd (omega arith)
run_puts (byte ∷ rest) x title ground none some graphic ascii free =
    let s = x.term.console in
    let at : x ≡ made s [] x.term.reports x.home = at_made x none ∙ ap (λ (p : List ℕ). made s p x.term.reports x.home) ground in
    let there = λ (k : ℕ) (low : 0 < k) (lt : k < length (byte ∷ rest)).
    sym (ap (λ (y : Transcribed). (play y.term (take k (byte ∷ rest))).console.picture.wrap) at) ∙ free k low lt in
    let ends = run_ends byte rest s x.term.reports x.home title graphic in (
      ap (λ (y : Transcribed). left y (byte ∷ rest)) at
          ∙ run_rows byte rest s x.term.reports x.home title graphic (λ more. ascii (omega (arith, more))) there,
      ap (λ (y : Transcribed). (play_on y (byte ∷ rest)).home) at ∙ ends.0,
      ap (λ (y : Transcribed). (play_on y (byte ∷ rest)).term.sequence) at ∙ ends.1,
    )

-- ---- a character of several bytes

-- a character of which these bytes came
abbrev half : Console → List ℕ → List ℕ → Bool → Transcribed
half s character reports home = record { term = halfway s character reports; home = home }

pub next_comes : (h : Bool) (s : Console) (p character : List ℕ) (byte : ℕ) (read : Reading) → 0 < length character → read ≡ reading character byte
    → coming_of h s p character byte ≡ gone_on read h s p byte
unfolding coming_of
next_comes h s p [] byte read some is = absurd (omega arith)
next_comes h s p (c ∷ rest) byte read some is = ap (λ (q : Reading). gone_on q h s p byte) (sym is)

-- what they put
pub record Puts (x : Transcribed) (bytes : List ℕ) (c : ℕ) : Type 0 where
  pub rows : left x bytes ≡ put_rows c x.term.console
  pub home : (play_on x bytes).home ≡ is_c1 c && x.home
  pub sequence : (play_on x bytes).term.sequence ≡ x.term.sequence

-- the last byte of a character
pub last_puts : (x : Transcribed) (byte c : ℕ) → 0 < length x.term.character → Character c ≡ reading x.term.character byte → Puts x (byte ∷ []) c
unfolding left play_on
last_puts x byte c some is =
    let s = x.term.console in
    let comes = next_comes x.home s x.term.sequence x.term.character byte (Character c) some is in
    record {
      rows = append-nil _ ∙ ap (λ (k : Coming). k.rows) comes;
      home = ap (λ (k : Coming). k.home) comes;
      sequence = ap (λ (o : Outcome). o.sequence) (sym (next s x.term.sequence x.term.character byte (Character c) some is));
    }

spelled_on : (bytes : List ℕ) (s : Console) (character r : List ℕ) (h : Bool) (c : ℕ) → 0 < length character → SpellsOn character bytes c
    → Puts (half s character r h) bytes c
unfolding left play_on
spelled_on [] s character r h c some spells = absurd spells
spelled_on (byte ∷ []) s character r h c some spells = last_puts (half s character r h) byte c some (sym spells)
spelled_on (byte ∷ more ∷ rest) s character r h c some spells =
    let comes = next_comes h s [] character byte More some (sym spells.0) in
    let outcome_is = next s [] character byte More some (sym spells.0) in
    let moved : step_on (half s character r h) byte ≡ half s (character ++ byte ∷ []) (r ++ []) h =
    ap₂ (λ (o : Outcome) (k : Coming). record { term = stepped r o; home = k.home }) (sym outcome_is) comes in
    let longer = length-append character (byte ∷ []) in
    let later = spelled_on (more ∷ rest) s (character ++ byte ∷ []) (r ++ []) h c (omega arith) spells.1 in
    record {
      rows = ap₂ (λ (k : Coming) (y : Transcribed). k.rows ++ left y (more ∷ rest)) comes moved ∙ later.rows;
      home = ap (λ (y : Transcribed). (play_on y (more ∷ rest)).home) moved ∙ later.home;
      sequence = ap (λ (y : Transcribed). (play_on y (more ∷ rest)).term.sequence) moved ∙ later.sequence;
    }

upper_byte : (byte : ℕ) → begins byte ≡ true → nat_le 128 byte ≡ true
upper_byte byte is = grind (arith, nat_tests)

begun_comes : (h : Bool) (s : Console) (byte : ℕ) → s.title ≡ false → begins byte ≡ true → coming_of h s [] [] byte ≡ nothing h
unfolding coming_of read_coming
begun_comes h s byte title is = let upper_ = upper_byte byte is in simp (title, upper_, is)

begun_step : (s : Console) (r : List ℕ) (h : Bool) (byte : ℕ) → s.title ≡ false → begins byte ≡ true
    → step_on (made s [] r h) byte ≡ half s (byte ∷ []) (r ++ []) h
begun_step s r h byte title is =
    ap₂ (λ (o : Outcome) (k : Coming). record { term = stepped r o; home = k.home }) (begun s byte title is) (begun_comes h s byte title is)

spelled : (bytes : List ℕ) (s : Console) (r : List ℕ) (h : Bool) (c : ℕ) → s.title ≡ false → Spells bytes c → Puts (made s [] r h) bytes c
unfolding left play_on
spelled [] s r h c title spells = absurd spells
spelled (byte ∷ rest) s r h c title spells =
    let moved = begun_step s r h byte title spells.0 in
    let later = spelled_on rest s (byte ∷ []) (r ++ []) h c (omega arith) spells.1 in
    record {
      rows = ap₂ (λ (k : Coming) (y : Transcribed). k.rows ++ left y rest) (begun_comes h s byte title spells.0) moved ∙ later.rows;
      home = ap (λ (y : Transcribed). (play_on y rest).home) moved ∙ later.home;
      sequence = ap (λ (y : Transcribed). (play_on y rest).term.sequence) moved ∙ later.sequence;
    }

on_made : (x : Transcribed) → x.term.sequence ≡ [] → x.term.character ≡ [] → made x.term.console [] x.term.reports x.home ≡ x
on_made x ground none = sym (at_made x none ∙ ap (λ (p : List ℕ). made x.term.console p x.term.reports x.home) ground)

pub character_puts : (x : Transcribed) (bytes : List ℕ) (c : ℕ) → x.term.console.title ≡ false → x.term.sequence ≡ [] → x.term.character ≡ []
    → Spells bytes c → Puts x bytes c
character_puts x bytes c title ground none spells =
    subst (λ (y : Transcribed). Puts y bytes c) (on_made x ground none) (spelled bytes x.term.console x.term.reports x.home c title spells)

-- ---- a byte from 128 on that is no part of one

alien_comes : (h : Bool) (s : Console) (byte : ℕ) → s.title ≡ false → nat_le 128 byte ≡ true → begins byte ≡ false
    → coming_of h s [] [] byte ≡ put_coming h s replacement
unfolding coming_of read_coming
alien_comes h s byte title upper_ is = simp (title, upper_, is)

alien_read : (s : Console) (byte : ℕ) → s.title ≡ false → nat_le 128 byte ≡ true → begins byte ≡ false → (outcome_of s [] [] byte).sequence ≡ []
unfolding outcome_of read
alien_read s byte title upper_ is = simp (title, upper_, is)

alien : (s : Console) (r : List ℕ) (h : Bool) (byte : ℕ) → s.title ≡ false → nat_le 128 byte ≡ true → begins byte ≡ false
    → Puts (made s [] r h) (byte ∷ []) replacement
unfolding left play_on
alien s r h byte title upper_ is =
    let comes = alien_comes h s byte title upper_ is in
    record {
      rows = append-nil _ ∙ ap (λ (k : Coming). k.rows) comes;
      home = ap (λ (k : Coming). k.home) comes;
      sequence = alien_read s byte title upper_ is;
    }

pub alien_puts : (x : Transcribed) (byte : ℕ) → x.term.console.title ≡ false → x.term.sequence ≡ [] → x.term.character ≡ [] → nat_le 128 byte ≡ true
    → begins byte ≡ false → Puts x (byte ∷ []) replacement
alien_puts x byte title ground none upper_ is =
    subst (λ (y : Transcribed). Puts y (byte ∷ []) replacement) (on_made x ground none) (alien x.term.console x.term.reports x.home byte title upper_ is)

-- ---- bytes at which nothing happens yet

pub record Waits (x : Transcribed) (byte : ℕ) (after : List ℕ) : Type 0 where
  pub rows : left x (byte ∷ []) ≡ []
  pub home : (play_on x (byte ∷ [])).home ≡ x.home
  pub sequence : (play_on x (byte ∷ [])).term.sequence ≡ after

begun_here : (s : Console) (r : List ℕ) (h : Bool) (byte : ℕ) → s.title ≡ false → begins byte ≡ true → Waits (made s [] r h) byte []
unfolding left play_on
begun_here s r h byte title is =
    let comes = begun_comes h s byte title is in
    record {
      rows = append-nil _ ∙ ap (λ (k : Coming). k.rows) comes;
      home = ap (λ (k : Coming). k.home) comes;
      sequence = ap (λ (y : Transcribed). y.term.sequence) (begun_step s r h byte title is);
    }

pub begun_waits : (x : Transcribed) (byte : ℕ) → x.term.console.title ≡ false → x.term.sequence ≡ [] → x.term.character ≡ [] → begins byte ≡ true
    → Waits x byte []
begun_waits x byte title ground none is =
    subst (λ (y : Transcribed). Waits y byte []) (on_made x ground none) (begun_here x.term.console x.term.reports x.home byte title is)

pub more_waits : (x : Transcribed) (byte : ℕ) → 0 < length x.term.character → More ≡ reading x.term.character byte → Waits x byte x.term.sequence
unfolding left play_on
more_waits x byte some is =
    let s = x.term.console in
    let comes = next_comes x.home s x.term.sequence x.term.character byte More some is in
    record {
      rows = append-nil _ ∙ ap (λ (k : Coming). k.rows) comes;
      home = ap (λ (k : Coming). k.home) comes;
      sequence = ap (λ (o : Outcome). o.sequence) (sym (next s x.term.sequence x.term.character byte More some is));
    }

title_comes : (h : Bool) (s : Console) (p : List ℕ) (byte : ℕ) → s.title ≡ true → coming_of h s p [] byte ≡ nothing h
unfolding coming_of read_coming
title_comes h s p byte title = simp title

title_sequence : (s : Console) (p : List ℕ) (byte : ℕ) → s.title ≡ true
    → (outcome_of s p [] byte).sequence ≡ cond (byte == escape) (pending_after Ansi p byte) p
title_sequence s p byte title =
    ap (λ (o : Outcome). o.sequence) (sym (titled s p byte title ∙ first s p [] byte refl)) ∙ either (byte == escape) (ends_title byte) s p (pending_after Ansi p byte)
  where
    either : (b e : Bool) (s : Console) (p after : List ℕ)
        → (if b then outcome (title_set false s) after [] [] else (if e then outcome (title_set false s) p [] [] else outcome s p [] [])).sequence
        ≡ cond b after p
    either true e s p after = refl
    either false true s p after = refl
    either false false s p after = refl

title_here : (s : Console) (p r : List ℕ) (h : Bool) (byte : ℕ) → s.title ≡ true
    → Waits (made s p r h) byte (cond (byte == escape) (pending_after Ansi p byte) p)
unfolding left play_on
title_here s p r h byte title =
    let comes = title_comes h s p byte title in
    record {
      rows = append-nil _ ∙ ap (λ (k : Coming). k.rows) comes;
      home = ap (λ (k : Coming). k.home) comes;
      sequence = title_sequence s p byte title;
    }

pub title_waits : (x : Transcribed) (byte : ℕ) → x.term.console.title ≡ true → x.term.character ≡ []
    → Waits x byte (cond (byte == escape) (pending_after Ansi x.term.sequence byte) x.term.sequence)
title_waits x byte title none =
    subst (λ (y : Transcribed). Waits y byte (cond (byte == escape) (pending_after Ansi x.term.sequence byte) x.term.sequence)) (sym (at_made x none))
    (title_here x.term.console x.term.sequence x.term.reports x.home byte title)

-- ---- a character that is broken off

broken_comes : (h : Bool) (s : Console) (p character : List ℕ) (byte : ℕ) → 0 < length character → Broken ≡ reading character byte
    → coming_of h s p character byte ≡ behind_rows (put_rows replacement s) (coming_of false (put replacement s) p [] byte)
unfolding coming_of
broken_comes h s p [] byte some is = absurd (omega arith)
broken_comes h s p (c ∷ rest) byte some is = ap (λ (q : Reading). gone_on q h s p byte) (sym is)

broken_read : (s : Console) (p character : List ℕ) (byte : ℕ) → 0 < length character → Broken ≡ reading character byte
    → outcome_of s p character byte ≡ outcome_of (put replacement s) p [] byte
broken_read s p character byte some is =
    sym (next s p character byte Broken some is) ∙ first (put replacement s) p [] byte refl

-- the same bytes play to the same then, behind the row that may have left
broken_plays : (x : Transcribed) (byte : ℕ) (rest : List ℕ) → 0 < length x.term.character → Broken ≡ reading x.term.character byte
    → (left x (byte ∷ rest) ≡ put_rows replacement x.term.console ++ left (cut_off x) (byte ∷ rest))
    × (play_on x (byte ∷ rest) ≡ play_on (cut_off x) (byte ∷ rest))
unfolding left play_on
broken_plays x byte rest some is =
    let s = x.term.console in
    let y : Transcribed = cut_off x in
    let comes = broken_comes x.home s x.term.sequence x.term.character byte some is in
    let reads = broken_read s x.term.sequence x.term.character byte some is in
    let moved : step_on x byte ≡ step_on y byte =
    ap₂ (λ (o : Outcome) (k : Coming). record { term = stepped x.term.reports o; home = k.home }) reads comes in (
      ap₂ (λ (k : Coming) (z : Transcribed). k.rows ++ left z rest) comes moved
          ∙ append_assoc (put_rows replacement s) (coming_at y byte).rows (left (step_on y byte) rest),
      ap (λ (z : Transcribed). play_on z rest) moved,
    )

breaks_is : (read : Reading) → breaks read ≡ true → Broken ≡ read
breaks_is Broken is = refl
breaks_is _ is = absurd cc

broken_is : (character : List ℕ) (byte : ℕ) → is_broken character byte ≡ true → (0 < length character) × (Broken ≡ reading character byte)
broken_is [] byte is = absurd cc
broken_is (c ∷ rest) byte is = (omega arith, breaks_is (reading (c ∷ rest) byte) is)

pub mended_plays : (x : Transcribed) (bytes : List ℕ) → 0 < length bytes
    → (left x bytes ≡ broken_rows x (slice_index bytes 0) ++ left (mended x (slice_index bytes 0)) bytes)
    × (play_on x bytes ≡ play_on (mended x (slice_index bytes 0)) bytes)
mended_plays x [] some = absurd (omega arith)
mended_plays x (byte ∷ rest) some = elim (cases_Bool (is_broken x.term.character byte)) [
  | inl broken ↦
      let is = broken_is x.term.character byte broken in
      let plays = broken_plays x byte rest is.0 is.1 in
      let off : Transcribed = cut_off x in (
        plays.0 ∙ ap (λ (b : Bool). cond b (put_rows replacement x.term.console) [] ++ left (cond b off x) (byte ∷ rest)) (sym broken),
        plays.1 ∙ ap (λ (b : Bool). play_on (cond b off x) (byte ∷ rest)) (sym broken),
      )
  | inr whole ↦
      let off : Transcribed = cut_off x in (
        ap (λ (b : Bool). cond b (put_rows replacement x.term.console) [] ++ left (cond b off x) (byte ∷ rest)) (sym whole),
        ap (λ (b : Bool). play_on (cond b off x) (byte ∷ rest)) (sym whole),
      )
]

-- and nothing is broken off any more
pub mended_whole : (x : Transcribed) (byte : ℕ) → is_broken (mended x byte).term.character byte ≡ false
mended_whole x byte = either (is_broken x.term.character byte) refl
  where
    either : (b : Bool) → b ≡ is_broken x.term.character byte
        → is_broken (cond b (cut_off x) x).term.character byte ≡ false
    either true is = refl
    either false is = sym is
