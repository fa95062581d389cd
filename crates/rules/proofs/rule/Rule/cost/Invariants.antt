use Rattle.rules.proofs.SumOverParts.{Adds, cost_of}
use Rattle.rules.proofs.rule.Rule.cost.Given as goal

abbrev pub invariant-loop-part : goal.invariant-loop-part
invariant-loop-part l = Adds cost_of 527 l.parts l.part-index l.total
