use Rattle.std.proofs.Common.{◌≡◌, ◌-◌, false}
use Rattle.tape_core.specs.Devices.{Gave, has_failed}
use Rattle.tape_core.specs.Due.{first}
use Rattle.chunk_walk.specs.Stops.{OnlySeeks}
use Rattle.chunk_walk.specs.Walk.{text_of}
use Rattle.chunk_walk.proofs.TextLemmas.{texts_from}
use Rattle.chunk_walk.proofs.walk.visit_between.Given as goal

-- the texts of the chunks so far have gone out, and what is kept is of the terminal after them
abbrev pub invariant-loop-index : goal.invariant-loop-index
invariant-loop-index g l = record {
  kept : g.V.Visitor.keeps l.fn.session.profile l.kept (first l.fn.session.recording.chunks l.index);
  going : OnlySeeks l.fn.session l.session;
  sound : has_failed l.writer ≡ false;
  gave : Gave g.W.Write.contents l.fn.writer l.writer (texts_from (text_of (g.V.Visitor.text l.visitor) l.fn.session.profile l.fn.session.recording) l.start (l.index - l.start));
}
