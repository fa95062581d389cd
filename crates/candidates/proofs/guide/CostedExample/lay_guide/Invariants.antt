-- The columns from j on have been laid down.
use Rattle.std.proofs.Common.{◌≡◌, length}
use Rattle.candidates.proofs.ColumnsLaid.{LaidSoFar}
use Rattle.candidates.proofs.guide.CostedExample.lay_guide.Given as goal

abbrev pub invariant-loop-j : goal.invariant-loop-j
invariant-loop-j l = (length l.out ≡ 585) × LaidSoFar l.self.costs.now l.self.given.now l.self.wanted.now l.initial.out l.j l.out
