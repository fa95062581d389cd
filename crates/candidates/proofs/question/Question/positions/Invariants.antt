use Rattle.rules.specs.Values.{the_place}
use Rattle.candidates.proofs.PositionsInTurn.{Noted}
use Rattle.candidates.proofs.question.Question.positions.Given as goal

abbrev pub invariant-loop-e : goal.invariant-loop-e
invariant-loop-e l = Noted (the_place l.place) l.self.examples.now l.e l.at
