-- A character that is repeated is put while rows are told, and is repeated no more.
use Rattle.std.proofs.Common.{◌≡◌, ◌⊎◌, ℕ, zero, suc, ◌+◌, ◌-◌, ◌<◌, ◌≤◌, Bool, true, false, List, [], ◌++◌, refl, sym, ap, ap₂, ◌∙◌, subst, add-one, append-nil, append_assoc, inl, inr, arith}
use Rattle.std.specs.Prelude.{Option, Some, None, if◌then◌else◌}
use Rattle.tape_core.specs.declared.devices.Watched.{Watched}
use Rattle.transcripts.specs.Told.{Back, Tells, TellsFront}
use Rattle.transcripts.proofs.ToldLemmas.{front_first, front_second}
use Rattle.vt_parser.specs.declared.commands.Command.{Command}
use Rattle.vt_parser.specs.declared.commands.Command.TheVariants.{Show, Control, Esc, Csi}
use Rattle.vt_parser.specs.declared.commands.Mode.TheVariants.{Ansi}
use Rattle.vt_parser.specs.Law.{fewest_bytes, is_sequence}
use Rattle.vt_parser.specs.View.{parser_view}
use Rattle.xterm_screen.specs.Picture.{Picture}
use Rattle.xterm_term.specs.Between.{last_forgotten}
use Rattle.xterm_term.specs.Console.{Console, forgotten}
use Rattle.xterm_term.specs.Controls.{Control as Named, Lf, controls}
use Rattle.xterm_term.specs.Effect.{effect}
use Rattle.xterm_term.specs.Escapes.{Escape, Ind, Nel, Ris, escape_named}
use Rattle.xterm_term.specs.Puts.{last_repeated, put, put_times, repeated}
use Rattle.xterm_term.specs.Rows.{effect_of, named}
use Rattle.xterm_term.specs.Seen.{Seen, Shows}
use Rattle.xterm_term.specs.Sequences.{Sequence, Ed, Rep, Su, param_or, sequence_effect, sequences}
use Rattle.xterm_term.specs.Term.{Term, forgotten_if, play}
use Rattle.xterm_term.proofs.Runs.{put_others}
use Rattle.xterm_transcript.specs.declared.leaving.Leaving.{Leaving}
use Rattle.xterm_transcript.specs.declared.leaving.Leaving.TheVariants.{NoRow, FirstRows, InkedRows, Repeated}
use Rattle.xterm_transcript.specs.Leaving.{at_control, at_escape, at_sequence, feed_leaves, first_if, leaving, leaving_first, put_leaves, put_rows, repeated_rows}
use Rattle.xterm_transcript.specs.Playing.{PlaysAlike, character_put_times, repeated_off, told_by}
use Rattle.xterm_transcript.specs.Transcribed.{Transcribed}
use Rattle.xterm_transcript.proofs.CommandLemmas.{Came}
use Rattle.xterm_transcript.proofs.PartLemmas.{plays_term}

-- ---- REP alone is told so

pub told_either : (l : Leaving) → ((t : Term) → told_by l t ≡ t) ⊎ ((n : ℕ) × (l ≡ Repeated n))
told_either NoRow = inl (λ t. refl)
told_either (FirstRows count) = inl (λ t. refl)
told_either InkedRows = inl (λ t. refl)
told_either (Repeated n) = inr (n, refl)

pub first_stays : (b : Bool) (t : Term) → told_by (leaving_first b) t ≡ t
first_stays true t = refl
first_stays false t = refl

first_never : (b : Bool) (count n : ℕ) → (if b then FirstRows count else NoRow) ≡ Repeated n → ⊥
first_never true count n is = cc
first_never false count n is = cc

inked_never : (b : Bool) (n : ℕ) → (if b then InkedRows else NoRow) ≡ Repeated n → ⊥
inked_never true n is = cc
inked_never false n is = cc

control_never : (c : Option Named) (p : Picture) (n : ℕ) → at_control c p ≡ Repeated n → ⊥
control_never (Some Lf) p n is = first_never (feed_leaves p) 1 n is
control_never _ p n is = cc

escape_never : (e : Option Escape) (p : Picture) (n : ℕ) → at_escape e p ≡ Repeated n → ⊥
escape_never (Some Ind) p n is = first_never (feed_leaves p) 1 n is
escape_never (Some Nel) p n is = first_never (feed_leaves p) 1 n is
escape_never (Some Ris) p n is = cc
escape_never _ p n is = cc

repeats_by : (q : Option Sequence) (h : Bool) (params : List ℕ) (p : Picture) (n : ℕ) → at_sequence h q params p ≡ Repeated n
    → (s : Console) → effect_of (λ row. sequence_effect row params) q s ≡ last_repeated n s
repeats_by (Some Ed) h params p n is s = absurd (inked_never _ n is)
repeats_by (Some Su) h params p n is s = absurd (first_never _ _ n is)
repeats_by (Some Rep) h params p n is s = let same : param_or params 0 1 ≡ n = cc in ap (λ k. last_repeated k s) same
repeats_by _ h params p n is s = absurd cc

pub record Repeats (command : Command) (n : ℕ) : Type 0 where
  pub effect_is : (s : Console) → effect command s ≡ last_repeated n s
  pub whole : is_sequence command ≡ true
  pub long : 2 ≤ fewest_bytes command

pub repeats : (command : Command) (h : Bool) (s : Console) (n : ℕ) → leaving command h s ≡ Repeated n → Repeats command n
unfolding leaving effect
repeats (Show byte) h s n is = absurd (first_never _ 1 n is)
repeats (Control byte) h s n is = absurd (control_never (named controls byte) s.picture n is)
repeats (Esc inter last) h s n is = absurd (escape_never (escape_named inter last) s.picture n is)
repeats (Csi false params last) h s n is = record {
  effect_is = repeats_by (named sequences last) h params.items s.picture n is;
  whole = refl;
  long = omega arith;
}
repeats _ h s n is = absurd cc

-- ---- what is played then

times_title : (n character : ℕ) (s : Console) → (put_times n character s).title ≡ s.title
times_title zero character s = refl
times_title (suc n) character s = (put_others character (put_times n character s)).title ∙ times_title n character s

last_title : (last : Option ℕ) (n : ℕ) (s : Console) → s.last ≡ last → (last_repeated n s).title ≡ s.title
last_title None n s is = ap (λ (l : Option ℕ). (repeated n l s).title) is
last_title (Some character) n s is = ap (λ (l : Option ℕ). (repeated n l s).title) is ∙ times_title n character s

pub off_title : (n : ℕ) (t : Term) → (repeated_off n t).console.title ≡ t.console.title
off_title n t = last_title t.console.last n t.console refl

-- the bytes of a REP come to the same before it was told and behind that
pub plays_alike : (x : Transcribed) (n : ℕ) (bytes after : List ℕ) (command : Command) (ends : Bool) → Repeats command n → ends ≡ true
    → Came x bytes (Some command) after ends → Came (record { term = repeated_off n x.term; home = x.home }) bytes (Some command) after ends
    → PlaysAlike (repeated_off n x.term) x.term bytes
plays_alike x n bytes after command ends repeats_ over came came_off seen shows =
    let s = x.term.console in
    let y : Transcribed = record { term = repeated_off n x.term; home = x.home } in
    let here : (play x.term bytes).console ≡ forgotten (last_repeated n s) =
    ap (λ (t : Term). t.console) (sym (plays_term x bytes)) ∙ came.console ∙ ap (λ (b : Bool). forgotten_if b (effect command s)) over
    ∙ ap forgotten (repeats_.effect_is s) in
    let there : (play y.term bytes).console ≡ forgotten (last_repeated n s) =
    ap (λ (t : Term). t.console) (sym (plays_term y bytes)) ∙ came_off.console
    ∙ ap (λ (b : Bool). forgotten_if b (effect command y.term.console)) over ∙ ap forgotten (repeats_.effect_is y.term.console) in
    let sequence : (play x.term bytes).sequence ≡ (play y.term bytes).sequence =
    ap (λ (t : Term). t.sequence) (sym (plays_term x bytes)) ∙ came.sequence ∙ sym came_off.sequence ∙ ap (λ (t : Term). t.sequence) (plays_term y bytes) in
    let character : (play x.term bytes).character ≡ (play y.term bytes).character =
    ap (λ (t : Term). t.character) (sym (plays_term x bytes)) ∙ came.character ∙ sym came_off.character
    ∙ ap (λ (t : Term). t.character) (plays_term y bytes) in
    record {
      console = here ∙ sym there ∙ shows.console;
      state = ap (parser_view Ansi) sequence ∙ shows.state;
      character = character ∙ shows.character;
    }

-- ---- what is told then

pub rows_again : (n character : ℕ) (s : Console) → repeated_rows (n + 1) character s ≡ repeated_rows n character s ++ put_rows character (put_times n character s)
rows_again n character s = ap (λ k. repeated_rows k character s) (add-one n)

pub times_again : (n character : ℕ) (s : Console) → put_times (n + 1) character s ≡ put character (put_times n character s)
times_again n character s = ap (λ k. put_times k character s) (add-one n)

-- a row that leaves at a put, as the code tells it
pub put_told : (seen : Seen) (x : Term) (p : Picture) (leaves : Bool) (character : ℕ) → Shows seen x → p ≡ seen.console.picture
    → leaves ≡ put_leaves character seen.console → first_if leaves p ≡ put_rows character x.console
put_told seen x p leaves character shows picture is =
    ap₂ first_if is picture ∙ ap (λ (s : Console). put_rows character s) (sym shows.console)

-- fewer of them are a beginning
pub repeated_more : (k n character : ℕ) (s : Console) → (rest : List (List ℕ)) × (repeated_rows (k + n) character s ≡ repeated_rows n character s ++ rest)
repeated_more zero n character s =
    let none : 0 + n ≡ n = omega arith in
    ([], ap (λ m. repeated_rows m character s) none ∙ sym (append-nil (repeated_rows n character s)))
repeated_more (suc k) n character s =
    let fewer = repeated_more k n character s in
    let last = put_rows character (put_times (k + n) character s) in
    let more : suc k + n ≡ suc (k + n) = omega arith in (
      fewer.0 ++ last,
      ap (λ m. repeated_rows m character s) more ∙ ap (λ l. l ++ last) fewer.1 ∙ append_assoc (repeated_rows n character s) fewer.0 last,
    )

pub front_repeated : {W : Type 0} {contents : W → Option (List ℕ)} {a b c : Watched W} {x y z : Back} (n times character : ℕ) (s : Console) → n < times
    → TellsFront contents b y c z (put_rows character (put_times n character s)) → Tells contents a x b y (repeated_rows n character s)
    → TellsFront contents a x c z (repeated_rows times character s)
front_repeated {contents = contents} {a = a} {c = c} {x = x} {z = z} n times character s lt front before =
    let more = repeated_more (times - (n + 1)) (n + 1) character s in
    let all : times - (n + 1) + (n + 1) ≡ times = omega (arith, lt) in
    subst (TellsFront contents a x c z) (sym more.1 ∙ ap (λ m. repeated_rows m character s) all)
    (front_first more.0 (subst (TellsFront contents a x c z) (sym (rows_again n character s)) (front_second front before)))

-- without a last character nothing is
pub none_off : (seen : Seen) (x : Term) (n : ℕ) → Shows seen x → seen.console.last ≡ None → Shows seen (repeated_off n x)
none_off seen x n shows none =
    let s = x.console in
    let last : s.last ≡ None = ap (λ (t : Console). t.last) shows.console ∙ none in
    let same : forgotten (last_repeated n s) ≡ s =
    ap (λ (l : Option ℕ). forgotten (repeated n l s)) last ∙ ap (λ (l : Option ℕ). record s { last = l }) (sym last) in
    record { console = same ∙ shows.console; state = shows.state; character = shows.character }

pub some_off : (x : Term) (n character : ℕ) → x.console.last ≡ Some character → last_forgotten (character_put_times n character x) ≡ repeated_off n x
some_off x n character is = ap (λ (l : Option ℕ). record x { console = forgotten (repeated n l x.console) }) (sym is)
