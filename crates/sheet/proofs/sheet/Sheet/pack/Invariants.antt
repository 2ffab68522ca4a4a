use Rattle.sheet.proofs.Packed.{AreKept}
use Rattle.sheet.proofs.sheet.Sheet.pack.Given as goal

-- the lines before this one are kept
abbrev pub invariant-loop-line : goal.invariant-loop-line
invariant-loop-line l = AreKept l.self.columns l.self.rows l.rows.items l.line
