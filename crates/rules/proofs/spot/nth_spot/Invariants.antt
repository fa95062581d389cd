use Rattle.rules.specs.Values.{kind_number}
use Rattle.rules.proofs.NthSpot.{Counted}
use Rattle.rules.proofs.spot.nth_spot.Given as goal

abbrev pub invariant-loop-step : goal.invariant-loop-step
invariant-loop-step l = Counted l.text (kind_number l.sides.left) (kind_number l.sides.right) l.n l.back l.count l.step
