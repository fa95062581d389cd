use Rattle.candidates.specs.Tables.{first_of}
use Rattle.candidates.proofs.PlacesTried.{right_on, left_on}
use Rattle.candidates.proofs.TriedInTurn.{tried_none}
use Rattle.candidates.proofs.table.Table.try_kinds.Goals as goal

pub loop-left-init : goal.loop-left-init
loop-left-init c = tried_none _ _

pub loop-right-preserved : goal.loop-right-preserved
loop-right-preserved c =
    right_on (first_of c.args.question) c.args.kinds.now c.args.question _ c.loop-left.left-index c.loop-right.right-index _ _ _ _ c.loop-right.invariant c.loop-right-test.true
    c.try_between.ensures

pub loop-left-preserved : goal.loop-left-preserved
loop-left-preserved c =
    left_on (first_of c.args.question) c.args.kinds.now c.args.question _ c.loop-left.left-index c.loop-right.right-index _ _ c.loop-right.invariant c.loop-left-test.true c.loop-right-test.false
