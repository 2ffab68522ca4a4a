use Rattle.std.proofs.Common.{◌≡◌, ◌∷◌, [], ◌++◌, ap, ap₂, sym, ◌∙◌, subst, true, false}
use Rattle.tape_core.specs.Devices.{Gave}
use Rattle.output_cast.specs.Cast.{event_opening}
use Rattle.output_cast.specs.Json.{json_character}
use Rattle.output_cast.specs.Line.{is_some}
use Rattle.output_cast.proofs.LineLemmas.{begun_first, begun_next, none_begun, some_more}
use Rattle.output_cast.proofs.events.put_next.Goals as goal

pub returns-then-line : goal.returns-then-line
returns-then-line g c = λ a moment text goes.
    let some : is_some text ≡ true = sym goes.begun ∙ c.if-line.true in
    record {
      moment = goes.moment;
      begun = c.if-line.true ∙ sym (some_more text c.args.character);
      gave = subst (Gave g.W.Write.contents a c.put_character.new.writer) (sym (begun_next moment text c.args.character some))
          (c.gives_join.ensures.both _ _ _ _ _ c.put_character.ensures goes.gave);
    }

pub returns-else-line : goal.returns-else-line
returns-else-line g c = λ a moment text goes.
    let none : is_some text ≡ false = sym goes.begun ∙ c.if-line.false in
    let opened = subst (Gave g.W.Write.contents a c.put_opening.new.writer)
    (ap₂ (λ t m. t ++ event_opening m) (none_begun moment text none) goes.moment)
    (c.gives_join.ensures.both _ _ _ _ _ c.put_opening.ensures goes.gave) in
    record {
      moment = goes.moment;
      begun = sym (some_more text c.args.character);
      gave = subst (Gave g.W.Write.contents a c.put_character-else-line.new.writer) (sym (begun_first moment text c.args.character none))
          (c.gives_join.ensures.both _ _ _ _ _ c.put_character-else-line.ensures opened);
    }
