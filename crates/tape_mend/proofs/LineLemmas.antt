-- A line of the multi-stream format is read as what it says.
use Rattle.std.proofs.Common.{◌≡◌, ℕ, Bool, true, false, cond, List, [], ◌∷◌, Option, Some, None, MatchOption, Ok, nat_eq, refl, ap, sym, ◌∙◌, subst}
use Rattle.std.proofs.lemmas.Bool.{eqb-true}
use Rattle.tape_core.specs.Text.{NumberText, fields, number_of}
use Rattle.tape_core.specs.Timing.{delay_of}
use Rattle.tape_core.proofs.LineLemmas.{delay_text}
use Rattle.tape_core.proofs.ReadBackLemmas.{delay_read}
use Rattle.tape_core.proofs.WordLemmas.{number_spelled}
use Rattle.tape_mend.specs.declared.line.Line.{Line}
use Rattle.tape_mend.specs.declared.line.Stream.{Stream}
use Rattle.tape_mend.specs.declared.line.Stream.TheVariants.{Header, Input, Output, Pipe, Resize, Signal}
use Rattle.tape_mend.specs.Streams.{CountText, StreamLine, count_of, counted, delayed, letter_of, named, stream_line, stream_of, stream_of_letter}

-- a letter names its stream, and no other does
of_letter : (s : Stream) (letter : ℕ) → letter_of s ≡ Some letter → stream_of (letter ∷ []) ≡ Some s
of_letter Header letter is = let same : 72 ≡ letter = cc in subst (λ l. stream_of_letter l ≡ Some Header) same refl
of_letter Input letter is = let same : 73 ≡ letter = cc in subst (λ l. stream_of_letter l ≡ Some Input) same refl
of_letter Output letter is = let same : 79 ≡ letter = cc in subst (λ l. stream_of_letter l ≡ Some Output) same refl
of_letter Signal letter is = let same : 83 ≡ letter = cc in subst (λ l. stream_of_letter l ≡ Some Signal) same refl
of_letter Pipe letter is = absurd (cc)
of_letter Resize letter is = absurd (cc)

letter_is : (b : ℕ) (s : Stream) → stream_of_letter b ≡ Some s → letter_of s ≡ Some b
letter_is b s is = letters (nat_eq b 72) (nat_eq b 73) (nat_eq b 79) (nat_eq b 83) refl refl refl refl is
  where
    letters : (h i o g : Bool) → nat_eq b 72 ≡ h → nat_eq b 73 ≡ i → nat_eq b 79 ≡ o → nat_eq b 83 ≡ g
        → cond h (Some Header) (cond i (Some Input) (cond o (Some Output) (cond g (Some Signal) None))) ≡ Some s → letter_of s ≡ Some b
    letters true i o g eh ei eo eg e = let same : Header ≡ s = cc in ap letter_of (sym same) ∙ ap Some (sym (eqb-true b 72 eh))
    letters false true o g eh ei eo eg e = let same : Input ≡ s = cc in ap letter_of (sym same) ∙ ap Some (sym (eqb-true b 73 ei))
    letters false false true g eh ei eo eg e = let same : Output ≡ s = cc in ap letter_of (sym same) ∙ ap Some (sym (eqb-true b 79 eo))
    letters false false false true eh ei eo eg e = let same : Signal ≡ s = cc in ap letter_of (sym same) ∙ ap Some (sym (eqb-true b 83 eg))
    letters false false false false eh ei eo eg e = absurd (cc)

field_is : (first : List ℕ) (s : Stream) → stream_of first ≡ Some s
    → (letter : ℕ) × (first ≡ letter ∷ []) × (letter_of s ≡ Some letter)
field_is [] s is = absurd (cc)
field_is (b ∷ []) s is = (b, refl, letter_is b s is)
field_is (b ∷ c ∷ rest) s is = absurd (cc)

-- a number that is spelled is read
number_read : (text : List ℕ) (n : ℕ) → NumberText text n → number_of text ≡ Some n
number_read text n is = by (number_of text) refl (number_spelled text)
  where
    by : (o : Option ℕ) → number_of text ≡ o → MatchOption o ((n : ℕ) → NumberText text n → ⊥) (λ n. NumberText text n) → number_of text ≡ Some n
    by None e none = absurd (none n is)
    by (Some m) e some = e ∙ ap Some (some.value ∙ sym is.value)

number_text : (text : List ℕ) (n : ℕ) → number_of text ≡ Some n → NumberText text n
number_text text n is = rw is at (number_spelled text)

one_count : (rest : List (List ℕ)) (count : ℕ) → count_of Output rest ≡ Some count
    → (text : List ℕ) × (rest ≡ text ∷ []) × NumberText text count
one_count [] count is = absurd (cc)
one_count (text ∷ []) count is = (text, refl, number_text text count is)
one_count (text ∷ next ∷ more) count is = absurd (cc)

count_text : (s : Stream) (rest : List (List ℕ)) (count : ℕ) → count_of s rest ≡ Some count → CountText s rest count
count_text Output rest count is = one_count rest count is
count_text Input rest count is = one_count rest count is
count_text Header rest count is = let none : 0 ≡ count = cc in sym none
count_text Signal rest count is = let none : 0 ≡ count = cc in sym none
count_text Pipe rest count is = one_count rest count is
count_text Resize rest count is = let none : 0 ≡ count = cc in sym none

count_read : (s : Stream) (rest : List (List ℕ)) (count : ℕ) → CountText s rest count → count_of s rest ≡ Some count
count_read Output rest count (text, e, is) = rw e (number_read text count is)
count_read Input rest count (text, e, is) = rw e (number_read text count is)
count_read Header rest count is = ap Some (sym is)
count_read Signal rest count is = ap Some (sym is)
count_read Pipe rest count (text, e, is) = rw e (number_read text count is)
count_read Resize rest count is = ap Some (sym is)

-- what a line says is read
pub said_read : (text : List ℕ) (said : Line) → StreamLine text said → stream_line (fields text) ≡ Ok (Some said)
said_read text said l =
    ap stream_line l.cut ∙ ap (λ o. named o (l.second ∷ l.rest)) (of_letter said.stream l.letter l.named)
    ∙ ap (λ o. delayed said.stream o l.rest) (delay_read l.second said.delay l.delayed).read
    ∙ ap (counted said.stream said.delay) (count_read said.stream l.rest said.count l.counted)

-- and what is read is what the line says
pub read_said : (text : List ℕ) (said : Line) → stream_line (fields text) ≡ Ok (Some said) → StreamLine text said
read_said text said is = by_fields (fields text) refl is
  where
    by_count : (s : Stream) (first second : List ℕ) (rest : List (List ℕ)) (d : ℕ) (o : Option ℕ) → fields text ≡ first ∷ second ∷ rest
        → stream_of first ≡ Some s → delay_of second ≡ Some d → count_of s rest ≡ o → counted s d o ≡ Ok (Some said) → StreamLine text said
    by_count s first second rest d None cut name delay count e = absurd (cc)
    by_count s first second rest d (Some n) cut name delay count e =
        let same : ◌≡◌ {A = Line} (record { stream = s; delay = d; count = n }) said = cc in
        let field = field_is first s name in
        subst (StreamLine text) same (record {
          letter = field.0;
          second = second;
          rest = rest;
          named = field.2;
          cut = cut ∙ ap (λ x. x ∷ second ∷ rest) field.1;
          delayed = delay_text second d delay;
          counted = count_text s rest n count;
        })

    by_delay : (s : Stream) (first second : List ℕ) (rest : List (List ℕ)) (o : Option ℕ) → fields text ≡ first ∷ second ∷ rest
        → stream_of first ≡ Some s → delay_of second ≡ o → delayed s o rest ≡ Ok (Some said) → StreamLine text said
    by_delay s first second rest None cut name delay e = absurd (cc)
    by_delay s first second rest (Some d) cut name delay e = by_count s first second rest d (count_of s rest) cut name delay refl e

    by_name : (first : List ℕ) (rest : List (List ℕ)) (o : Option Stream) → fields text ≡ first ∷ rest
        → stream_of first ≡ o → named o rest ≡ Ok (Some said) → StreamLine text said
    by_name first rest None cut name e = absurd (cc)
    by_name first [] (Some s) cut name e = absurd (cc)
    by_name first (second ∷ rest) (Some s) cut name e = by_delay s first second rest (delay_of second) cut name refl e

    by_fields : (fs : List (List ℕ)) → fields text ≡ fs → stream_line fs ≡ Ok (Some said) → StreamLine text said
    by_fields [] cut e = absurd (cc)
    by_fields (first ∷ rest) cut e = by_name first rest (stream_of first) cut refl e
