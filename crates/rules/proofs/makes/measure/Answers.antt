use Rattle.std.proofs.Common.{arith}
use Rattle.rules.specs.Rules.{makes}
use Rattle.rules.proofs.MakesInto.{measured_nothing, measured_part, measured_all}
use Rattle.rules.proofs.makes.measure.Goals as goal

pub loop-part-init : goal.loop-part-init
unfolding makes
loop-part-init c = omega arith

pub returns-in_err-makes : goal.returns-in_err-makes
returns-in_err-makes c = rw c.from_residual.ensures (measured_nothing _ _ _ _ c.loop-part-test.true c.part-item.is c.in_err-makes.ensures)

pub loop-part-preserved : goal.loop-part-preserved
loop-part-preserved c =
    measured_part _ _ _ _ c.loop-part-test.true c.part-item.is _ _ _ c.loop-part.invariant c.in_ok-makes.ensures c.saturating_add-total.ensures

pub returns : goal.returns
returns c = measured_all _ _ _ _ c.loop-part.invariant c.loop-part-test.false
