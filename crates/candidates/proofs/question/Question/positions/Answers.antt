use Rattle.candidates.proofs.PositionsInTurn.{noted_more}
use Rattle.candidates.proofs.question.Question.positions.Goals as goal

pub loop-e-preserved : goal.loop-e-preserved
loop-e-preserved c = noted_more _ _ _ _ _ c.loop-e.invariant c.loop-e-test.true _ c.args.self.few c.in_ok-at.ensures
