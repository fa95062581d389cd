-- What has been lowered, and what is still to be, give the whole.
use Rattle.candidates.proofs.StepsLaid.{AlongSoFar}
use Rattle.candidates.proofs.guide.along.Given as goal

abbrev pub invariant-loop-d : goal.invariant-loop-d
invariant-loop-d l = AlongSoFar l.from l.costs l.given l.wanted l.initial.room l.d l.room
