use Rattle.candidates.proofs.KindsCollected.{Collected}
use Rattle.candidates.proofs.kinds.kinds_in.Given as goal

abbrev pub invariant-loop-number : goal.invariant-loop-number
invariant-loop-number l = Collected l.text l.number l.kinds.items
