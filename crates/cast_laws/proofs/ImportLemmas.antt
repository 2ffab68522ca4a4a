-- The cast of a recording is known as one, read, and imported whole.
use Rattle.std.proofs.Common.{◌≡◌, ℕ, false, List, [], ◌∷◌, ◌++◌, codes, encode_utf8_all, length, map, nat_le, nat_lt, Option, Some, None, Ok, Err, if◌then◌else◌, refl, ap, subst, sym, ◌∙◌, arith}
use Rattle.std.specs.Fmt.{decimal}
use Rattle.std.specs.List.{flat_map}
use Rattle.std.specs.Option.{option_map}
use Rattle.std.proofs.lemmas.Bool.{and_right}
use Rattle.json_bytes.specs.Marks.{begins, past_space}
use Rattle.json_bytes.specs.Values.{Json, json_of, object}
use Rattle.output_cast.specs.Cast.{cast_text, event_line, header_line}
use Rattle.output_cast.specs.Events.{characters_of, events}
use Rattle.tape_core.specs.Due.{due_time}
use Rattle.tape_core.specs.Tape.{Tape, body}
use Rattle.tape_core.specs.Text.{lines_of}
use Rattle.tape_core.specs.declared.chunk.Chunk.{Chunk}
use Rattle.tape_import.specs.Asciicast as read
use Rattle.tape_import.specs.Asciicast.{asciicast_of, at_header, header_number, header_of, past_header, told_date, told_size, told_term, version_of}
use Rattle.tape_import.specs.Form.{form_by, form_of, form_of_line, is_compressed, is_message, is_ttyrec, unmarked}
use Rattle.tape_import.specs.Imported.{Import, Imports}
use Rattle.tape_import.specs.ImportedCast.{import_of_cast}
use Rattle.tape_import.specs.ImportedFile.{IsImported, import_as, import_of}
use Rattle.tape_import.specs.Outputs.{none_yet}
use Rattle.tape_import.specs.Told.{is_damaged, losses_text}
use Rattle.tape_import.specs.Ttyrec.{head_len, number_at}
use Rattle.tape_import.specs.declared.asciicast.CastFront.{CastFront}
use Rattle.tape_import.specs.declared.facts.Size.{Size}
use Rattle.tape_import.specs.declared.fault.ImportFault.TheVariants as fault
use Rattle.tape_import.specs.declared.form.Form.TheVariants as form
use Rattle.tape_import.specs.declared.losses.Left.{Left}
use Rattle.tape_import.specs.declared.losses.Losses.{Losses}
use Rattle.tape_import.specs.declared.losses.Others.{Others}
use Rattle.tape_import.specs.declared.losses.Place.TheVariants as place
use Rattle.tape_import.specs.declared.version.Version.TheVariants as version
use Rattle.cast_laws.specs.Whole.{IsReadSize, IsWhole, KeepLimits, chunks_of, read_of}
use Rattle.cast_laws.proofs.ChunkLemmas.{are_early, as_many, body_is, due_first, events_ordered}
use Rattle.cast_laws.proofs.EventLemmas.{AreEarly, event_lines, line_of}
use Rattle.cast_laws.proofs.HeaderLemmas.{first_line, header_first, header_json, header_past, header_text, is_version_two, no_date, no_term, size_members, size_told}
use Rattle.cast_laws.proofs.ReadLemmas.{HasRoom, ReadWhole, all_read}

-- ---- its form

-- a text that begins with `{"versio`
abbrev opened : List ℕ → List ℕ
opened more = 123 ∷ 34 ∷ 118 ∷ 101 ∷ 114 ∷ 115 ∷ 105 ∷ 111 ∷ more

not_compressed : (more : List ℕ) → is_compressed (opened more) ≡ false
not_compressed more = refl

without_mark : (more : List ℕ) → unmarked (opened more) ≡ opened more
without_mark more = refl

not_ttyrec : (more : List ℕ) → is_ttyrec (opened more) ≡ false
not_ttyrec more = and_right (nat_le head_len (length (opened more))) (nat_lt (number_at 4 (opened more)) 1000000) refl

opened_form : (more : List ℕ) → version_of (header_of (opened more)) ≡ Some version.Two → form_of (opened more) ≡ form.Asciicast version.Two
opened_form more is =
    let text = opened more in
    ap (λ b. if b then form.Ttyrec else if begins 123 (past_space text) then form_of_line (header_of text) else form.Unknown) (not_ttyrec more)
    ∙ ap (λ v. form_by v (is_message (header_of text))) is

opened_read : (more : List ℕ) → version_of (header_of (opened more)) ≡ Some version.Two → import_of (opened more) ≡ Ok (import_of_cast version.Two (opened more))
opened_read more is =
    let text = opened more in
    ap (λ b. if b then Err fault.Compressed else import_as (form_of (unmarked text)) (unmarked text)) (not_compressed more)
    ∙ ap (λ t. import_as (form_of t) t) (without_mark more) ∙ ap (λ f. import_as f text) (opened_form more is)

pub known : (text more : List ℕ) → text ≡ opened more → version_of (header_of text) ≡ Some version.Two → import_of text ≡ Ok (import_of_cast version.Two text)
known text more is two = subst (λ t. import_of t ≡ Ok (import_of_cast version.Two t)) (sym is) (opened_read more (ap (λ t. version_of (header_of t)) (sym is) ∙ two))

cast_opened : (columns lines : ℕ) (tape : Tape) → (more : List ℕ) × (cast_text columns lines tape ≡ opened more)
unfolding cast_text header_line
cast_opened columns lines tape = (
  codes "n\": 2, \"width\": " ++ decimal columns ++ codes ", \"height\": " ++ decimal lines ++ codes "}\n" ++ flat_map event_line (events tape),
  refl,
)

-- ---- its lines

pub cast_lines : (columns lines : ℕ) (tape : Tape) → IsReadSize columns lines → AreEarly (events tape)
    → lines_of (cast_text columns lines tape) ≡ header_text columns lines ∷ map line_of (events tape)
unfolding cast_text
cast_lines columns lines tape size early =
    first_line columns lines (flat_map event_line (events tape)) size ∙ ap (λ more. header_text columns lines ∷ more) (event_lines (events tape) early)

abbrev told_header : ℕ → ℕ → Option Json
told_header columns lines = Some (object (size_members (decimal columns) (decimal lines)))

cast_header : (columns lines : ℕ) (tape : Tape) → IsReadSize columns lines → AreEarly (events tape) → header_of (cast_text columns lines tape) ≡ told_header columns lines
cast_header columns lines tape size early =
    ap (λ all. json_of (read.header_line all)) (cast_lines columns lines tape size early)
    ∙ ap json_of (header_first columns lines (map line_of (events tape))) ∙ header_json columns lines size

-- ---- what is read of it

-- by the header that is told, and the lines behind it
abbrev read_behind : ℕ → Option Json → List (List ℕ) → CastFront
read_behind number header behind = read.events version.Two number (at_header (told_size version.Two header)) behind

abbrev sized : ℕ → ℕ → Option Size
sized columns lines = Some (record { columns = columns; lines = lines })

cast_front : (columns lines : ℕ) (tape : Tape) → IsReadSize columns lines → AreEarly (events tape)
    → asciicast_of version.Two (cast_text columns lines tape)
    ≡ read.events version.Two (header_number (lines_of (cast_text columns lines tape))) (at_header (sized columns lines)) (map line_of (events tape))
cast_front columns lines tape size early =
    let all = lines_of (cast_text columns lines tape) in
    let behind = map line_of (events tape) in
    ap (λ header. read_behind (header_number all) header (past_header all)) (cast_header columns lines tape size early)
    ∙ ap (read_behind (header_number all) (told_header columns lines))
    (ap past_header (cast_lines columns lines tape size early) ∙ header_past columns lines behind)
    ∙ ap (λ told. read.events version.Two (header_number all) (at_header told) behind) (size_told columns lines size)

early_events : (tape : Tape) → KeepLimits (chunks_of tape) → AreEarly (events tape)
early_events tape limits =
    let count = as_many 0 (events tape) in
    are_early 0 (events tape) (events_ordered 0 [] tape.chunks) limits.delays (omega (arith, count, limits.few))

cast_read : (columns lines : ℕ) (tape : Tape) → IsReadSize columns lines → KeepLimits (chunks_of tape)
    → ReadWhole (at_header (sized columns lines)) (chunks_of tape) (asciicast_of version.Two (cast_text columns lines tape))
cast_read columns lines tape size limits =
    let early = early_events tape limits in
    let room : HasRoom none_yet (chunks_of tape) =
    record { few = omega (arith, limits.few); delays = limits.delays; lengths = limits.lengths; bytes = omega (arith, limits.bytes) } in
    subst (λ (f : CastFront). ReadWhole (at_header (sized columns lines)) (chunks_of tape) f) (sym (cast_front columns lines tape size early))
    (all_read (header_number (lines_of (cast_text columns lines tape))) (at_header (sized columns lines)) 0 (events tape) refl refl
    (events_ordered 0 [] tape.chunks) early room)

-- ---- what it is imported as

abbrev built : Option ℕ → Option (List ℕ) → Option Size → List Chunk → Option Left → ℕ → Option ℕ → Others → Import
built date term size chunks left slow first others = record {
  facts = record { date = date; term = term; size = size };
  chunks = chunks;
  losses = record {
    first = None;
    left = left;
    cut = None;
    slow = slow;
    first_slow = option_map (λ number. record { place = place.Line; number = number }) first;
    others = others;
  };
}

cast_imported : (columns lines : ℕ) (tape : Tape) → IsReadSize columns lines → KeepLimits (chunks_of tape)
    → import_of_cast version.Two (cast_text columns lines tape) ≡ read_of columns lines tape
cast_imported columns lines tape size limits =
    let text = cast_text columns lines tape in
    let header = cast_header columns lines tape size (early_events tape limits) in
    let front = asciicast_of version.Two text in
    let is = cast_read columns lines tape size limits in
    let date : told_date (header_of text) ≡ None = ap told_date header ∙ no_date (decimal columns) (decimal lines) in
    let term : told_term version.Two (header_of text) ≡ None = ap (told_term version.Two) header ∙ no_term (decimal columns) (decimal lines) in
    let o = front.cast.outputs in
    ap (λ d. built d (told_term version.Two (header_of text)) front.cast.told o.chunks front.left o.slow o.first_slow front.cast.others) date
    ∙ ap (λ t. built None t front.cast.told o.chunks front.left o.slow o.first_slow front.cast.others) term
    ∙ ap (λ s. built None None s o.chunks front.left o.slow o.first_slow front.cast.others) is.told
    ∙ ap (λ cs. built None None (sized columns lines) cs front.left o.slow o.first_slow front.cast.others) is.chunks
    ∙ ap (λ l. built None None (sized columns lines) (chunks_of tape) l o.slow o.first_slow front.cast.others) is.left
    ∙ ap (λ n. built None None (sized columns lines) (chunks_of tape) None n o.first_slow front.cast.others) is.slow
    ∙ ap (λ f. built None None (sized columns lines) (chunks_of tape) None 0 f front.cast.others) is.first_slow
    ∙ ap (built None None (sized columns lines) (chunks_of tape) None 0 None) is.others

pub read_whole : (columns lines : ℕ) (tape : Tape) → IsReadSize columns lines → KeepLimits (chunks_of tape)
    → import_of (cast_text columns lines tape) ≡ Ok (read_of columns lines tape)
read_whole columns lines tape size limits =
    let text = cast_text columns lines tape in
    let is = cast_opened columns lines tape in
    let header = cast_header columns lines tape size (early_events tape limits) in
    known text is.0 is.1 (ap version_of header ∙ is_version_two (decimal columns) (decimal lines)) ∙ ap (λ what. Ok what) (cast_imported columns lines tape size limits)

-- the recording that it is imported as
whole_by : (columns lines : ℕ) (tape new : Tape) (losses : Losses) → flat_map (λ event. event.text) (events tape) ≡ characters_of (body tape.chunks)
    → Imports (read_of columns lines tape) new losses → IsWhole columns lines tape new losses
unfolding losses_text
whole_by columns lines tape new losses texts is = record {
  header = is.header;
  chunks = is.chunks;
  due = λ k event below.
      ap (λ chunks. due_time chunks k) is.chunks ∙ due_first (events tape) k event (events_ordered 0 [] tape.chunks) below;
  body = ap body is.chunks ∙ body_is 0 (events tape) ∙ ap encode_utf8_all texts;
  trailer = is.trailer;
  lost = is.lost;
  silent = ap losses_text is.lost;
  undamaged = ap is_damaged is.lost;
}

pub imported_whole : (columns lines : ℕ) (tape new : Tape) (losses : Losses) → flat_map (λ event. event.text) (events tape) ≡ characters_of (body tape.chunks)
    → IsReadSize columns lines → KeepLimits (chunks_of tape) → IsImported (import_of (cast_text columns lines tape)) new losses → IsWhole columns lines tape new losses
imported_whole columns lines tape new losses texts size limits is =
    whole_by columns lines tape new losses texts (subst (λ r. IsImported r new losses) (read_whole columns lines tape size limits) is)
